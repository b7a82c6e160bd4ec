-- Rows worked out by hand, checked against the definitions: a machine of counters.
--
-- An event with tokens left writes one more event on its channel: with delay 0 where its channel is 0, and else with delay 3.
use Rattle.std.proofs.Common.{◌≡◌, ℕ, ◌+◌, ◌-◌, Bool, cond, nat_eq, List, [], ◌∷◌, map, refl}
use Rattle.event_order.specs.declared.key.Key.{Key}
use Rattle.event_order.specs.Order.{comes_before, child_of}
use Rattle.event_order.specs.Machine.{Machine, World, first_events, within, all_kept}
use Rattle.event_order.specs.Run.{share}

record Token : Type 0 where
  key : Key
  left : ℕ

keyed : ℕ → ℕ → ℕ → ℕ → ℕ → Key
keyed time round priority channel number = record { time = time; round = round; priority = priority; channel = channel; number = number }

written : ℕ → Token → List Token
written made e = cond (nat_eq e.left 0) [] (record { key = child_of e.key (cond (nat_eq e.key.channel 0) 0 3) e.key.priority e.key.channel made; left = e.left - 1 } ∷ [])

counter : Machine ℕ Token
counter = record { key = λ e. e.key; acts = λ made e. made + 1; writes = written }

opened : World ℕ Token
unfolding keyed
opened = record { state = 10; pending = record { key = keyed 1 0 0 0 0; left = 2 } ∷ record { key = keyed 1 0 0 1 0; left = 9 } ∷ record { key = keyed 4 0 1 0 1; left = 0 } ∷ [] }

keys : (Key → Bool) → ℕ → ℕ → List Key
unfolding counter opened
keys kept until n = map (λ (e : Token). e.key) (first_events counter until kept opened n)

-- up to time 7 there are seven events
row : keys all_kept 7 9 ≡ keyed 1 0 0 0 0 ∷ keyed 1 0 0 1 0 ∷ keyed 1 1 0 0 10 ∷ keyed 1 2 0 0 12 ∷ keyed 4 0 0 1 11 ∷ keyed 4 0 1 0 1 ∷ keyed 7 0 0 1 14 ∷ []
unfolding keys counter opened keyed written comes_before
row = refl

-- with a cut at round 1 the event of round 2 is missing
row_cut : keys (within 1) 7 9 ≡ keyed 1 0 0 0 0 ∷ keyed 1 0 0 1 0 ∷ keyed 1 1 0 0 10 ∷ keyed 4 0 0 1 11 ∷ keyed 4 0 1 0 1 ∷ keyed 7 0 0 1 13 ∷ []
unfolding keys counter opened keyed written comes_before
row_cut = refl

-- none is executed before the first, and what is past the end is not executed
row_early : keys all_kept 0 9 ≡ []
unfolding keys counter opened keyed written comes_before
row_early = refl

row_some : keys all_kept 7 2 ≡ keyed 1 0 0 0 0 ∷ keyed 1 0 0 1 0 ∷ []
unfolding keys counter opened keyed written comes_before
row_some = refl

-- the share of channel 1
row_share : map (λ (e : Token). e.key) (share counter 7 all_kept opened (λ e. nat_eq e.key.channel 1) 9) ≡ keyed 1 0 0 1 0 ∷ keyed 4 0 0 1 11 ∷ keyed 7 0 0 1 14 ∷ []
unfolding counter opened keyed written comes_before
row_share = refl
