-- The laws of the order of keys.
use Rattle.std.proofs.Common.{◌≡◌, ℕ, ◌<◌, ◌≤◌, ◌⊎◌, true, refl, sym, ap, inl, inr, arith, zero, suc}
use Rattle.std.proofs.lemmas.Grind.{common_steps}
use Rattle.std.specs.declared.cmp.Ordering.{Ordering}
use Rattle.std.specs.declared.cmp.Ordering.TheVariants.{Less, Equal, Greater}
use Rattle.std.specs.Ordering.{nat_cmp, is_lt, ordering_then, ordering_reverse, MatchOrdering}
use Rattle.std.specs.Cmp.{IsTotalOrder}
use Rattle.std.proofs.lemmas.Cmp.{on_total, then_total, nat_cmp_total, ranked}
use Rattle.event_order.specs.declared.key.Key.{Key}
use Rattle.event_order.specs.Order.{key_cmp, comes_before, IsBefore, child_round, child_of}

pub key_cmp_total : IsTotalOrder key_cmp
key_cmp_total = then_total (on_total (λ (k : Key). k.time) nat_cmp_total) (then_total (on_total (λ (k : Key). k.round) nat_cmp_total)
    (then_total (on_total (λ (k : Key). k.priority) nat_cmp_total) (then_total (on_total (λ (k : Key). k.channel) nat_cmp_total) (on_total (λ (k : Key). k.number) nat_cmp_total))))

-- ---- the order as a relation

less_of : (r : Ordering) → is_lt r ≡ true → r ≡ Less
less_of Less e = refl
less_of Equal e = cc
less_of Greater e = cc

-- the test and the answer of `key_cmp`
before_is : (a b : Key) → IsBefore a b → key_cmp a b ≡ Less
unfolding comes_before
before_is a b e = less_of (key_cmp a b) e

is_before : (a b : Key) → key_cmp a b ≡ Less → IsBefore a b
unfolding comes_before
is_before a b e = ap is_lt e

pub before_trans : (a b c : Key) → IsBefore a b → IsBefore b c → IsBefore a c
before_trans a b c p q = is_before a c (key_cmp_total.trans a b c (before_is a b p) (before_is b c q))

-- what a key's parts say of it
equal_of : (r s : Ordering) → ordering_then r s ≡ Equal → (r ≡ Equal) × (s ≡ Equal)
equal_of Less s e = absurd (cc)
equal_of Equal s e = (refl, e)
equal_of Greater s e = absurd (cc)

same_number : (x y : ℕ) → nat_cmp x y ≡ Equal → x ≡ y
same_number x y e = ranked x y Equal (sym e)

joined : (t r p c n t' r' p' c' n' : ℕ) → t ≡ t' → r ≡ r' → p ≡ p' → c ≡ c' → n ≡ n' →
    let a : Key = record { time = t; round = r; priority = p; channel = c; number = n } in
    let b : Key = record { time = t'; round = r'; priority = p'; channel = c'; number = n' } in a ≡ b
joined t r p c n t' r' p' c' n' e1 e2 e3 e4 e5 = cc

-- keys that are not told apart are the same
pub same_key : (a b : Key) → key_cmp a b ≡ Equal → a ≡ b
same_key a b e =
    let times = equal_of (nat_cmp a.time b.time) _ e in
    let rounds = equal_of (nat_cmp a.round b.round) _ times.1 in
    let priorities = equal_of (nat_cmp a.priority b.priority) _ rounds.1 in
    let channels = equal_of (nat_cmp a.channel b.channel) _ priorities.1 in
    joined a.time a.round a.priority a.channel a.number b.time b.round b.priority b.channel b.number
    (same_number _ _ times.0) (same_number _ _ rounds.0) (same_number _ _ priorities.0) (same_number _ _ channels.0) (same_number _ _ channels.1)

itself : (r : Ordering) → r ≡ ordering_reverse r → is_lt r ≡ true → ⊥
itself Less e h = absurd (cc)
itself Equal e h = absurd (cc)
itself Greater e h = absurd (cc)

pub before_irrefl : (a : Key) → IsBefore a a → ⊥
unfolding comes_before
before_irrefl a h = itself (key_cmp a a) (key_cmp_total.antisymm a a) h

cases_of : (a b : Key) (r s : Ordering) → key_cmp a b ≡ r → key_cmp b a ≡ s → r ≡ ordering_reverse s → IsBefore a b ⊎ ((a ≡ b) ⊎ IsBefore b a)
cases_of a b Less s e f h = inl (is_before a b e)
cases_of a b Equal s e f h = inr (inl (same_key a b e))
cases_of a b Greater Less e f h = inr (inr (is_before b a f))
cases_of a b Greater Equal e f h = absurd (cc)
cases_of a b Greater Greater e f h = absurd (cc)

-- of two keys one is before the other, or they are the same
pub before_cases : (a b : Key) → IsBefore a b ⊎ ((a ≡ b) ⊎ IsBefore b a)
before_cases a b = cases_of a b (key_cmp a b) (key_cmp b a) refl refl (key_cmp_total.antisymm a b)

pub before_asym : (a b : Key) → IsBefore a b → IsBefore b a → ⊥
before_asym a b p q = before_irrefl a (before_trans a b a p q)

-- ---- the order and the parts of keys

first_less : (x y : ℕ) (r : Ordering) → ordering_then (nat_cmp x y) r ≡ Less → (x < y) ⊎ ((x ≡ y) × (r ≡ Less))
first_less x y r e = less_by (nat_cmp x y) (ranked x y (nat_cmp x y) refl) e
  where
    less_by : (s : Ordering) → MatchOrdering s (x < y) (x ≡ y) (y < x) → ordering_then s r ≡ Less → (x < y) ⊎ ((x ≡ y) × (r ≡ Less))
    less_by Less h f = inl h
    less_by Equal h f = inr (h, f)
    less_by Greater h f = absurd (cc)

pub before_time : (a b : Key) → IsBefore a b → a.time ≤ b.time
before_time a b h = elim (first_less a.time b.time _ (before_is a b h)) [ inl l ↦ omega arith | inr s ↦ omega (arith, s.0) ]

pub before_round : (a b : Key) → IsBefore a b → a.time ≡ b.time → a.round ≤ b.round
before_round a b h same = elim (first_less a.time b.time _ (before_is a b h)) [
  | inl l ↦ absurd (omega arith)
  | inr s ↦ elim (first_less a.round b.round _ s.1) [ inl l ↦ omega arith | inr t ↦ omega (arith, t.0) ]
]

less_first : (x y : ℕ) (r : Ordering) → x < y → ordering_then (nat_cmp x y) r ≡ Less
less_first x y r h = grind (arith, common_steps)

same_first : (x y : ℕ) (r : Ordering) → x ≡ y → r ≡ Less → ordering_then (nat_cmp x y) r ≡ Less
same_first x y r e h = grind (arith, common_steps)

-- an earlier time
pub earlier : (a b : Key) → a.time < b.time → IsBefore a b
earlier a b h = is_before a b (less_first a.time b.time _ h)

-- an earlier round of one time
pub earlier_round : (a b : Key) → a.time ≡ b.time → a.round < b.round → IsBefore a b
earlier_round a b e h = is_before a b (same_first a.time b.time _ e (less_first a.round b.round _ h))

-- ---- children

delay_cases : (d : ℕ) → (d ≡ 0) ⊎ (0 < d)
delay_cases zero = inl refl
delay_cases (suc d) = inr (omega arith)

round_next : (d r : ℕ) → d ≡ 0 → child_round d r ≡ suc r
round_next d r h = grind (arith, common_steps)

round_first : (d r : ℕ) → 0 < d → child_round d r ≡ 0
round_first d r h = grind (arith, common_steps)

-- a child is in the next round of its parent's time, or in round 0 of a later one
pub child_cases : (p : Key) (d q c n : ℕ) →
    (((child_of p d q c n).round ≡ 0) × (p.time < (child_of p d q c n).time)) ⊎ (((child_of p d q c n).round ≡ suc p.round) × ((child_of p d q c n).time ≡ p.time))
child_cases p d q c n = elim (delay_cases d) [
  | inl none ↦ inr (round_next d p.round none, omega arith)
  | inr some ↦ inl (round_first d p.round some, omega arith)
]

pub child_after : (p : Key) (d q c n : ℕ) → IsBefore p (child_of p d q c n)
child_after p d q c n = elim (child_cases p d q c n) [
  | inl later ↦ earlier p (child_of p d q c n) later.1
  | inr next ↦ earlier_round p (child_of p d q c n) (sym next.1) (omega (arith, next.0))
]
