-- Cases of tests, and lists of acts and segments.
use Rattle.std.proofs.Common.{◌≡◌, ◌⊎◌, ℕ, ◌<◌, ◌≤◌, Bool, true, false, ◌&&◌, List, [], ◌∷◌, ◌++◌, refl, ap, subst, sym, arith, if◌then◌else◌}
use Rattle.sim_base.specs.SegmentFields.{SegmentFields}
use Rattle.tcp_rules.specs.declared.records.Act.{Act}
use Rattle.tcp_rules.specs.declared.records.Act.TheVariants.{Entered, Delivered, Send}
use Rattle.tcp_rules.specs.Segments.{sent_of, Each}

-- what holds of both values of a choice holds of it
pub if_case : {A : Type 0} (P : A → Type 0) (b : Bool) {x y : A} → (b ≡ true → P x) → (b ≡ false → P y) → P (if b then x else y)
if_case P true h k = h refl
if_case P false h k = k refl

pub both_left : (a b : Bool) → (a && b) ≡ true → a ≡ true
both_left true b e = refl
both_left false b e = e

pub both_right : (a b : Bool) → (a && b) ≡ true → b ≡ true
both_right true b e = e
both_right false b e = absurd (cc)

pub each_append : {A : Type 0} (P : A → Type 0) (xs ys : List A) → Each P xs → Each P ys → Each P (xs ++ ys)
each_append P [] ys h k = k
each_append P (x ∷ xs) ys h k = (h.0, each_append P xs ys h.1 k)

pub sent_of-append : (xs ys : List Act) → sent_of (xs ++ ys) ≡ sent_of xs ++ sent_of ys
sent_of-append [] ys = refl
sent_of-append (Entered state ∷ xs) ys = sent_of-append xs ys
sent_of-append (Delivered bytes ∷ xs) ys = sent_of-append xs ys
sent_of-append (Send segment ∷ xs) ys = ap (λ (ss : List SegmentFields). segment ∷ ss) (sent_of-append xs ys)

-- what holds of what two lists of acts send holds of what both send
pub each_sent : (P : SegmentFields → Type 0) (xs ys : List Act) → Each P (sent_of xs) → Each P (sent_of ys) → Each P (sent_of (xs ++ ys))
each_sent P xs ys h k = subst (λ (ss : List SegmentFields). Each P ss) (sym (sent_of-append xs ys)) (each_append P (sent_of xs) (sent_of ys) h k)

pub before_or_from : (m n : ℕ) → (m < n) ⊎ (n ≤ m)
before_or_from m n = grind arith
