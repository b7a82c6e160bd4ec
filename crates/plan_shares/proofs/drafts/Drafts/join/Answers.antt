use Rattle.std.proofs.Common.{◌≡◌, ◌++◌, ◌∷◌, [], ℕ, length, map, refl, sym, ap, ◌∙◌, arith, rules}
use Rattle.std.specs.List.{range_with_len}
use Rattle.std.proofs.lemmas.List.FromFn.{map-range_with_len_more}
use Rattle.plan_shares.specs.Drafts.{part_at}
use Rattle.plan_shares.proofs.ForEach.{left_all, left_more}
use Rattle.plan_shares.proofs.Drafting.{part_left}
use Rattle.plan_shares.proofs.drafts.Drafts.join.Goals as goal

pub take-part-requires : goal.take-part-requires
take-part-requires g c =
    let left = c.loop-line.invariant in (
      search rules,
      (
        search rules,
        record {
          entities = omega (arith, left.entities.size, c.requires.entities, c.loop-line-test.true);
          events = omega (arith, left.events.size, c.requires.events, c.loop-line-test.true);
          inside = omega (arith, left.inside.size, c.requires.inside, c.loop-line-test.true);
          ins = omega (arith, left.ins.size, c.requires.ins, c.loop-line-test.true);
          outs = omega (arith, left.outs.size, c.requires.outs, c.loop-line-test.true);
          counts = omega (arith, left.counts.size, c.requires.counts, c.loop-line-test.true);
        },
      ),
    )

pub push_reserved-requires : goal.push_reserved-requires
push_reserved-requires g c =
    let left = c.loop-line.invariant in
    let same = ap (λ v. v.len) c.take-part.ensures.rest.parts in
    let room = ap (λ v. v.cap) c.take-part.ensures.rest.parts in
    omega (arith, same, room, left.made, left.room, c.loop-line-test.true)

pub loop-line-init : goal.loop-line-init
loop-line-init g c =
    let size = c.args.self.now.parts.ok.0 in
    let none = ap (λ xs. length xs) c.requires.parts in
    record {
      parts = c.requires.parts;
      made = omega (arith, size, none);
      room = c.requires.room;
      entities = left_all c.args.self.now.entities;
      events = left_all c.args.self.now.events;
      inside = left_all c.args.self.now.inside;
      ins = left_all c.args.self.now.ins;
      outs = left_all c.args.self.now.outs;
      counts = left_all c.args.self.now.counts;
      ends = refl;
      starts = refl;
    }

pub loop-line-preserved : goal.loop-line-preserved
loop-line-preserved g c =
    let left = c.loop-line.invariant in
    let rest = c.take-part.ensures.rest in
    let line : ℕ = c.loop-line.line in
    let same = ap (λ v. v.len) rest.parts in
    let room = ap (λ v. v.cap) rest.parts in
    let part : c.take-part.result ≡ part_at c.args.self.now line = c.take-part.ensures.part ∙ part_left line c.args.self.now c.loop-line.self left.entities left.events left.inside left.ins left.outs left.counts in
    record {
      parts = c.push_reserved.ensures.items ∙ (ap (λ xs. xs ++ c.take-part.result ∷ []) (ap (λ v. v.items) rest.parts ∙ left.parts) ∙ (ap (λ x. map (part_at c.args.self.now) (range_with_len 0 line) ++ x ∷ []) part
          ∙ sym (map-range_with_len_more (part_at c.args.self.now) 0 line line (omega arith))));
      made = omega (arith, same, left.made, c.push_reserved.ensures.len);
      room = omega (arith, room, left.room, c.push_reserved.ensures.capacity);
      entities = left_more line c.args.self.now.entities c.loop-line.self.entities c.take-part.new.self.entities left.entities rest.entities;
      events = left_more line c.args.self.now.events c.loop-line.self.events c.take-part.new.self.events left.events rest.events;
      inside = left_more line c.args.self.now.inside c.loop-line.self.inside c.take-part.new.self.inside left.inside rest.inside;
      ins = left_more line c.args.self.now.ins c.loop-line.self.ins c.take-part.new.self.ins left.ins rest.ins;
      outs = left_more line c.args.self.now.outs c.loop-line.self.outs c.take-part.new.self.outs left.outs rest.outs;
      counts = left_more line c.args.self.now.counts c.loop-line.self.counts c.take-part.new.self.counts left.counts rest.counts;
      ends = rest.ends ∙ left.ends;
      starts = rest.starts ∙ left.starts;
    }
