-- The ends of channels, by halving.
use Rattle.std.proofs.Common.{ℕ, zero, suc, ◌≡◌, ◌<◌, true, false, nat_eq, inl, inr, refl, sym, ap, ◌∙◌, arith, List, [], ◌∷◌, map, length, get_or, Option, Some, None, eqb-true, eq-eqb}
use Rattle.std.proofs.lemmas.Bool.{ne_eqb}
use Rattle.event_order.specs.Pending.{Among}
use Rattle.event_order.proofs.Pending.{test_cases}
use Rattle.timeline_parts.specs.Tables.{AreRising}
use Rattle.plan_shares.specs.declared.crosses.CrossEnd.{CrossEnd}
use Rattle.core_rules.specs.Cores.{channel_in}
use Rattle.core_rules.specs.Stepping.{end_at}
use Rattle.sync_core.specs.Steps.{receiver_from}

-- an end that is read beyond the list
abbrev pub no_end : CrossEnd
no_end = record { channel = 0; sender = 0; receiver = 0 }

pub end_any : (es : List CrossEnd) (k : ℕ) (d e : CrossEnd) → k < length es → get_or es k d ≡ get_or es k e
end_any [] k d e h = absurd (omega arith)
end_any (x ∷ xs) zero d e h = refl
end_any (x ∷ xs) (suc k) d e h = end_any xs k d e (omega arith)

channel_among : (es : List CrossEnd) (e : CrossEnd) → Among e es → Among (channel_in e) (map channel_in es)
channel_among [] e a = absurd a
channel_among (x ∷ xs) e (inl s) = inl (ap channel_in s)
channel_among (x ∷ xs) e (inr a) = inr (channel_among xs e a)

pub channels_length : (es : List CrossEnd) → length (map channel_in es) ≡ length es
channels_length [] = refl
channels_length (e ∷ es) = ap suc (channels_length es)

pub channel_here : (es : List CrossEnd) (k : ℕ) (d : CrossEnd) → k < length es → get_or (map channel_in es) k 0 ≡ (get_or es k d).channel
channel_here [] k d h = absurd (omega arith)
channel_here (e ∷ es) zero d h = refl
channel_here (e ∷ es) (suc k) d h = channel_here es k d (omega arith)

read_among : (es : List CrossEnd) (k : ℕ) (e : CrossEnd) → k < length es → e ≡ get_or es k e → Among e es
read_among [] k e h r = absurd (omega arith)
read_among (x ∷ xs) zero e h r = inl r
read_among (x ∷ xs) (suc k) e h r = inr (read_among xs k e (omega arith) r)

-- the end at a place is that of its channel
pub end_here : (es : List CrossEnd) (c k : ℕ) (e : CrossEnd) → AreRising (map channel_in es) → k < length es → e ≡ get_or es k e → e.channel ≡ c → end_at c es ≡ Some e
end_here [] c k e r h g s = absurd (omega arith)
end_here (x ∷ xs) c zero e r h g s = let t : nat_eq x.channel c ≡ true = eq-eqb x.channel c (ap channel_in (sym g) ∙ s) in rw t (ap Some (sym g))
end_here (x ∷ xs) c (suc k) e r h g s =
    let less = r.0 (channel_in e) (channel_among xs e (read_among xs k e (omega arith) g)) in
    let other : nat_eq x.channel c ≡ false = ne_eqb x.channel c (λ same. omega (arith, less, same, s)) in
    rw other (end_here xs c k e r.1 (omega arith) g s)

pub end_none : (es : List CrossEnd) (c : ℕ) → (Among c (map channel_in es) → ⊥) → end_at c es ≡ None
end_none [] c none = refl
end_none (x ∷ xs) c none = rw (ne_eqb x.channel c (λ same. none (inl (sym same)))) (end_none xs c (λ a. none (inr a)))

-- and what stands for a channel is an end of it
pub end_found : (es : List CrossEnd) (c : ℕ) (e : CrossEnd) → end_at c es ≡ Some e → Among e es × (e.channel ≡ c)
end_found [] c e h = absurd (cc)
end_found (x ∷ xs) c e h = elim (test_cases (nat_eq x.channel c)) [
  | inl t ↦ let is : Some x ≡ Some e = rw t at h in let same : x ≡ e = cc in (inl (sym same), ap channel_in (sym same) ∙ eqb-true x.channel c t)
  | inr f ↦ let later = end_found xs c e (rw f at h) in (inr later.0, later.1)
]

-- the end whose receiver it is
pub receiver_is : (found : Option CrossEnd) (sender receiver : ℕ) → receiver_from sender found ≡ Some receiver → (e : CrossEnd) × (found ≡ Some e) × (e.sender ≡ sender) × (e.receiver ≡ receiver)
receiver_is None sender receiver h = absurd (cc)
receiver_is (Some e) sender receiver h = elim (test_cases (nat_eq e.sender sender)) [
  | inl t ↦ let is : Some e.receiver ≡ Some receiver = rw t at h in (e, refl, eqb-true e.sender sender t, cc)
  | inr f ↦ let is : None ≡ Some receiver = rw f at h in absurd (cc)
]
