use Rattle.std.proofs.Common.{◌≡◌, List, ℕ, ◌++◌, OnOk, sym, subst}
use Rattle.model_gen.proofs.Texts.{ring_is}
use Rattle.model_gen.proofs.ring.push_ring.Goals as goal

pub returns : goal.returns
returns c =
    subst (λ (l : List ℕ). OnOk c.push_links.result (c.push_links.new.out.items ≡ c.args.out.now.items ++ l)) (sym (ring_is c.args.seed c.args.size c.if-size-lt2.false)) c.push_links.ensures
