use Rattle.std.proofs.Common.{◌≡◌, ◌+◌, ◌++◌, drop, filter, ap, sym, ◌∙◌}
use Rattle.std.specs.Prelude.{not}
use Rattle.dml_resolve.specs.Resolving.{has_plain}
use Rattle.dml_resolve.specs.Members.{is_missing}
use Rattle.dml_resolve.proofs.Entries.{keep_step, skip_step}
use Rattle.dml_resolve.proofs.members.push_missing.Goals.{then-not-contains+in_ok-push, else-not-contains}
use Rattle.dml_resolve.proofs.members.push_missing.Goals as goal

pub loop-member-preserved : goal.loop-member-preserved
loop-member-preserved c =
    let written = c.args.written.now in
    let members = c.args.included.now in
    let i = c.loop-member.member-index in
    let m = c.member-item.result in
    let before = c.loop-member.members.items in
    let there : c.contains.result ≡ has_plain written m.attribute.now.key = c.contains.ensures ∙ (c.requires c.as_bytes.result.now ∙ ap (has_plain written) c.as_bytes.ensures) in
    let missing : is_missing written m ≡ not c.contains.result = ap not (sym there) in
    elim c.if-not-contains.branch [
      | then-not-contains+in_ok-push w ↦
          ap (λ v. v.items ++ filter (is_missing written) (drop (i + 1) members)) w.members-is
          ∙ (keep_step (is_missing written) members i m before w.push.new.self.items c.loop-member-test.true c.member-item.is (missing ∙ ap not w.if-not-contains.true) w.in_ok-push.ensures.items
          ∙ c.loop-member.invariant)
      | else-not-contains w ↦
          ap (λ v. v.items ++ filter (is_missing written) (drop (i + 1) members)) w.members-is
          ∙ (skip_step (is_missing written) members i m before c.loop-member-test.true c.member-item.is (missing ∙ ap not w.if-not-contains.false)
          ∙ c.loop-member.invariant)
    ]
