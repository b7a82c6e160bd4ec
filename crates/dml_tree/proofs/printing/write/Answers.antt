use Rattle.std.proofs.Common.{◌≡◌, ◌++◌, length, drop, ap, sym, ◌∙◌, subst}
use Rattle.std.proofs.Math.Seq.{drop-append_seam}
use Rattle.dml_tree.specs.Printing.{printing}
use Rattle.dml_tree.specs.Reading.{ReadsBack}
use Rattle.dml_tree.proofs.ReadBack as proof
use Rattle.dml_tree.proofs.printing.write.Goals as goal

pub returns-clause-reads_back : goal.returns-clause-reads_back
returns-clause-reads_back c =
    let tree = c.args.tree.now in
    let before = c.args.out.now.items in
    let lines = c.write_list.new.out.items in
    let appended : drop (length before) c.append.new.self.items ≡ printing 0 tree =
    ap (drop (length before)) c.in_ok-append.ensures.items ∙ drop-append_seam before lines
    ∙ c.in_ok-write_list.ensures ∙ ap (λ l. l ++ printing 0 tree) c.new-lines.ensures.items in
    subst (λ text. ReadsBack text tree) (sym appended) (proof.reads_back tree)
