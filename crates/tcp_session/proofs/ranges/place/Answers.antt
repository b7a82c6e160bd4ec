use Rattle.std.proofs.Common.{◌≡◌, ℕ, List, length, nat_lt, unwrap_or, sym, ◌∙◌, ap}
use Rattle.std.specs.List.{position, insert}
use Rattle.tcp_rules.specs.declared.records.Range.{Range}
use Rattle.tcp_session.proofs.Scanning.{placed_inserts, placed_rises}
use Rattle.tcp_session.proofs.ranges.place.Goals as goal

pub returns-clause-ok : goal.returns-clause-ok
returns-clause-ok c =
    let held = c.args.items.now in
    let len = ap (λ (ks : List Range). length ks) c.as_slice-kept.ensures.value in
    let found = ap (λ (ks : List Range). position (λ k. nat_lt c.args.range.from k.from) ks) c.as_slice-kept.ensures.value in
    let place = placed_inserts c.args.range held.items in
    let index : c.unwrap_or-index.result ≡ unwrap_or (position (λ k. nat_lt c.args.range.from k.from) held.items) (length held.items) = cc in
    c.in_ok-insert.ensures.items ∙ (ap (λ (n : ℕ). insert held.items n c.args.range) index ∙ sym place)

pub returns-clause-rising : goal.returns-clause-rising
returns-clause-rising c = rw (returns-clause-ok c) (placed_rises c.args.range c.args.items.now.items c.requires)
