-- Bounds and lower bounds of timelines, and what a sound timeline has executed below them.
use Rattle.std.proofs.Common.{◌≡◌, ℕ, zero, suc, ◌+◌, ◌<◌, ◌≤◌, ◌⊎◌, Bool, true, false, min, nat_eq, ◌&&◌, List, ◌∷◌, Some, refl, sym, ap, ◌∙◌, subst, inl, inr, arith, eqb-true, eq-eqb}
use Rattle.event_order.specs.Pending.{Among}
use Rattle.event_order.proofs.Pending.{test_cases}
use Rattle.event_order.proofs.Steps.{lt_or_ge, lt_or_same}
use Rattle.ssf_model.specs.Scene.{Scene, Net, event_at, time_of, channel_of}
use Rattle.ssf_model.specs.Truth.{is_on_line, IsNext, IsPromised, IsStanding}
use Rattle.ssf_model.proofs.Lists.{different}
use Rattle.sync_rules.specs.Parts.{Line, put_at}
use Rattle.sync_rules.specs.Bounds.{IsInto, IsOutOf, comes_appointed, goes_out, least_held, bound_of, low_of, least_low, safe_bound}
use Rattle.sync_rules.specs.Shared.{IsShared}
use Rattle.sync_rules.specs.Sound.{HasCome, IsSoundLine, HasDone}
use Rattle.sync_rules.proofs.Writes.{placed, kept_by}
use Rattle.sync_rules.proofs.Standing.{HasHead, head_cases, head_top, head_least, head_above, head_is_next, none_early}

-- ---- tests

both_are : (a b : Bool) → (a && b) ≡ true → (a ≡ true) × (b ≡ true)
both_are true b h = (refl, h)
both_are false b h = absurd (cc)

both_hold : (a b : Bool) → a ≡ true → b ≡ true → (a && b) ≡ true
both_hold a b h g = rw (h, g) refl

pub true_or_not : (b : Bool) → (b ≡ true → ⊥) → b ≡ false
true_or_not true none = absurd (none refl)
true_or_not false none = refl

pub into_of : (net : Net) (i c : ℕ) → comes_appointed net i c ≡ true → IsInto net i c
into_of net i c h = let two = both_are _ _ h in record { cross = (both_are _ _ two.0).0; receiver = eqb-true (net.receiver c) i two.1 }

pub appointed_of : (net : Net) (i c : ℕ) → comes_appointed net i c ≡ true → net.appointed c ≡ true
appointed_of net i c h = (both_are _ _ (both_are _ _ h).0).1

pub comes : (net : Net) (i c : ℕ) → IsInto net i c → net.appointed c ≡ true → comes_appointed net i c ≡ true
comes net i c a h = both_hold _ _ (both_hold _ _ a.cross h) (eq-eqb (net.receiver c) i a.receiver)

pub out_of : (net : Net) (i c : ℕ) → goes_out net i c ≡ true → IsOutOf net i c
out_of net i c h = let two = both_are _ _ h in record { cross = two.0; sender = eqb-true (net.sender c) i two.1 }

pub goes : (net : Net) (i c : ℕ) → IsOutOf net i c → goes_out net i c ≡ true
goes net i c a = both_hold _ _ a.cross (eq-eqb (net.sender c) i a.sender)

-- a function that is changed at one number
pub put_here : {T : Type 0} (n : ℕ) (v : T) (g : ℕ → T) → put_at n v g n ≡ v
put_here n v g = rw (eq-eqb n n refl) refl

pub put_else : {T : Type 0} (n k : ℕ) (v : T) (g : ℕ → T) → (k ≡ n → ⊥) → put_at n v g k ≡ g k
put_else n k v g apart = rw (true_or_not (nat_eq k n) (λ t. apart (eqb-true k n t))) refl

pub put_each : {T : Type 0} (P : ℕ → T → Type 0) (n : ℕ) (v : T) (g : ℕ → T) (k : ℕ) → (k ≡ n → P k v) → ((k ≡ n → ⊥) → P k (g k)) → P k (put_at n v g k)
put_each P n v g k here else = elim (test_cases (nat_eq k n)) [
  | inl t ↦ rw t (here (eqb-true k n t))
  | inr f ↦ rw f (else (different k n f))
]

-- ---- the bound

pub held_top : (net : Net) (i top : ℕ) (held : ℕ → ℕ) (n : ℕ) → least_held net i held top n ≤ top
held_top net i top held zero = omega arith
held_top net i top held (suc c) = let rest = held_top net i top held c in elim (test_cases (comes_appointed net i c)) [
  | inl t ↦ rw t (omega arith)
  | inr f ↦ rw f rest
]

pub held_below : (net : Net) (i top : ℕ) (held : ℕ → ℕ) (n c : ℕ) → c < n → comes_appointed net i c ≡ true → least_held net i held top n ≤ held c
held_below net i top held zero c l is = absurd (omega arith)
held_below net i top held (suc n) c l is = elim (lt_or_same c n (omega arith)) [
  | inl less ↦ (let rest = held_below net i top held n c less is in elim (test_cases (comes_appointed net i n)) [
    | inl t ↦ rw t (omega arith)
    | inr f ↦ rw f rest
  ])
  | inr same ↦ (let here : comes_appointed net i n ≡ true = subst (λ k. comes_appointed net i k ≡ true) same is in
      let one : held c ≡ held n = ap held same in rw here (omega (arith, one)))
]

pub held_above : (net : Net) (i top : ℕ) (held : ℕ → ℕ) (n least : ℕ) → least ≤ top → ((c : ℕ) → c < n → comes_appointed net i c ≡ true → least ≤ held c) → least ≤ least_held net i held top n
held_above net i top held zero least l all = l
held_above net i top held (suc n) least l all =
    let rest = held_above net i top held n least l (λ c less is. all c (omega arith) is) in
    elim (test_cases (comes_appointed net i n)) [
      | inl t ↦ rw t (let here = all n (omega arith) t in omega arith)
      | inr f ↦ rw f rest
    ]

-- a channel whose appointment is the bound
pub record IsHolder (net : Net) (i bound : ℕ) (held : ℕ → ℕ) : Type 0 where
  pub channel : ℕ
  pub into : IsInto net i channel
  pub appointed : net.appointed channel ≡ true
  pub is : bound ≡ held channel

pub held_cases : (net : Net) (i top : ℕ) (held : ℕ → ℕ) (n : ℕ) → (least_held net i held top n ≡ top) ⊎ IsHolder net i (least_held net i held top n) held
held_cases net i top held zero = inl refl
held_cases net i top held (suc n) = elim (test_cases (comes_appointed net i n)) [
  | inr f ↦ rw f (held_cases net i top held n)
  | inl t ↦ rw t (elim (lt_or_ge (held n) (least_held net i held top n)) [
    | inl less ↦ inr (record { channel = n; into = into_of net i n t; appointed = appointed_of net i n t; is = omega arith })
    | inr more ↦ (let same : min (held n) (least_held net i held top n) ≡ least_held net i held top n = omega arith in rw same (held_cases net i top held n))
  ])
]

module _ {E : Type 0} (net : Net) (i : ℕ) where
  pub bound_entered : (l : Line E) → bound_of net i l ≤ l.entered
  bound_entered l = held_top net i l.entered l.held net.channels

  pub bound_cases : (l : Line E) → (bound_of net i l ≡ l.entered) ⊎ IsHolder net i (bound_of net i l) l.held
  bound_cases l = held_cases net i l.entered l.held net.channels

  -- where the window and the appointments are not lower, the bound is not
  pub bound_rises : (l m : Line E) → l.entered ≤ m.entered → ((c : ℕ) → l.held c ≤ m.held c) → bound_of net i l ≤ bound_of net i m
  bound_rises l m enter hold = held_above net i m.entered m.held net.channels (bound_of net i l) (omega (arith, bound_entered l, enter))
      (λ c less is. omega (arith, held_below net i l.entered l.held net.channels c less is, hold c))

module _ {X E : Type 0} (s : Scene X E) (sh : IsShared s) where
  pub line_is : (i : ℕ) (e : E) → is_on_line s i e ≡ true → s.line e ≡ i
  line_is i e own = eqb-true (s.line e) i own

  pub is_line : (i : ℕ) (e : E) → s.line e ≡ i → is_on_line s i e ≡ true
  is_line i e same = eq-eqb (s.line e) i same

  pub bound_held : (i c : ℕ) (l : Line E) → IsInto s.net i c → s.net.appointed c ≡ true → bound_of s.net i l ≤ l.held c
  bound_held i c l a h = held_below s.net i l.entered l.held s.net.channels c (sh.joining.known c a.cross) (comes s.net i c a h)

  module _ (i : ℕ) (l : Line E) (sound : IsSoundLine s i l) where
    -- what is written for the timeline on another one, with a time below the bound, came already
    pub promised : IsPromised s i (bound_of s.net i l) (HasCome s l.taken)
    promised d k own w other early =
        let c = channel_of s d in
        let write = kept_by s k d w in
        let routed = sh.routed k w.by d write in
        let place = placed s k w.by d write in
        elim (test_cases (s.net.cross c)) [
          | inr f ↦ absurd (let wrong : true ≡ false = sym (is_line i w.by (routed.inside f ∙ line_is i d own)) ∙ other in cc)
          | inl t ↦
              let into : IsInto s.net i c = record { cross = t; receiver = sym (routed.reached t) ∙ line_is i d own } in
              elim (test_cases (s.net.appointed c)) [
                | inl appointed ↦ record { place = place.0; is = place.1; below = sound.held c into appointed place.0 d place.1 (let low = bound_held i c l into appointed in omega arith) }
                | inr windowed ↦ record { place = place.0; is = place.1; below = sound.ahead c into windowed place.0 d place.1 (let low = bound_entered s.net i l in omega arith) }
              ]
        ]

    -- no event that the timeline still executes is before its lower bound
    pub not_early : (k : ℕ) (e : E) → l.moment ≤ k → event_at s k ≡ Some e → is_on_line s i e ≡ true → low_of s i l ≤ time_of s e
    not_early k e from is own = none_early s sh i l.moment (HasCome s l.taken) (bound_of s.net i l) promised l.pending sound.standing k e from is own

    -- so it has executed all its events before a time up to this bound
    pub low_done : (x : ℕ) → x ≤ low_of s i l → HasDone s i x l
    low_done x below j e is own early = elim (lt_or_ge j l.moment) [
      | inl less ↦ less
      | inr more ↦ let low = not_early j e more is own in absurd (omega arith)
    ]

    -- the first pending event, where it is in time and below the bound, is the next one of the timeline
    pub head_next : (h : E) (rest : List E) → l.pending ≡ h ∷ rest → time_of s h ≤ s.until → time_of s h < bound_of s.net i l → IsNext s i l.moment h
    head_next h rest is in_time below =
        head_is_next s sh i l.moment (HasCome s l.taken) (bound_of s.net i l) promised h rest
        (subst (λ ps. IsStanding s i l.moment (HasCome s l.taken) ps) is sound.standing) in_time below

    pub low_bound : low_of s i l ≤ bound_of s.net i l
    low_bound = head_top (time_of s) (bound_of s.net i l) l.pending

    pub low_pending : (d : E) → Among d l.pending → low_of s i l ≤ time_of s d
    low_pending d a = head_least s (bound_of s.net i l) l.pending d sound.standing.rising a

  -- the lower bound is the bound, or the time of the first pending event
  pub low_cases : (i : ℕ) (l : Line E) → (low_of s i l ≡ bound_of s.net i l) ⊎ HasHead (time_of s) (bound_of s.net i l) l.pending
  low_cases i l = head_cases (time_of s) (bound_of s.net i l) l.pending

  -- what is at most the bound and all pending times is at most the lower bound
  pub low_above : (i n : ℕ) (l : Line E) → n ≤ bound_of s.net i l → ((d : E) → Among d l.pending → n ≤ time_of s d) → n ≤ low_of s i l
  low_above i n l below all = head_above s n (bound_of s.net i l) l.pending below all

-- ---- the safe bound

module _ {X E : Type 0} (s : Scene X E) (lines : ℕ → Line E) where
  least_below : (n i : ℕ) → i < n → least_low s lines n ≤ low_of s i (lines i)
  least_below zero i l = absurd (omega arith)
  least_below (suc n) i l = elim (lt_or_same i n (omega arith)) [
    | inl less ↦ omega (arith, least_below n i less)
    | inr same ↦ let one : low_of s i (lines i) ≡ low_of s n (lines n) = ap (λ k. low_of s k (lines k)) same in omega (arith, one)
  ]

  pub safe_below : (i : ℕ) → i < s.net.timelines → safe_bound s lines ≤ low_of s i (lines i)
  safe_below i l = least_below s.net.timelines i l

  least_at : (n : ℕ) → (least_low s lines n ≡ s.until + 1) ⊎ ((i : ℕ) × (i < n) × (least_low s lines n ≡ low_of s i (lines i)))
  least_at zero = inl refl
  least_at (suc n) = elim (lt_or_ge (low_of s n (lines n)) (least_low s lines n)) [
    | inl less ↦ inr (n, omega arith, omega arith)
    | inr more ↦ elim (least_at n) [ inl top ↦ inl (omega arith) | inr found ↦ inr (found.0, omega (arith, found.1), omega (arith, found.2)) ]
  ]

  -- the safe bound is a time after the end, or the lower bound of some timeline
  pub safe_cases : (safe_bound s lines ≡ s.until + 1) ⊎ ((i : ℕ) × (i < s.net.timelines) × (safe_bound s lines ≡ low_of s i (lines i)))
  safe_cases = least_at s.net.timelines

  most_at : (n : ℕ) → least_low s lines n ≤ s.until + 1
  most_at zero = omega arith
  most_at (suc n) = omega (arith, most_at n)

  pub safe_most : safe_bound s lines ≤ s.until + 1
  safe_most = most_at s.net.timelines

  least_over : (n m : ℕ) → m ≤ s.until + 1 → ((i : ℕ) → i < n → m ≤ low_of s i (lines i)) → m ≤ least_low s lines n
  least_over zero m l all = l
  least_over (suc n) m l all = omega (arith, all n (omega arith), least_over n m l (λ i less. all i (omega arith)))

  pub safe_above : (m : ℕ) → m ≤ s.until + 1 → ((i : ℕ) → i < s.net.timelines → m ≤ low_of s i (lines i)) → m ≤ safe_bound s lines
  safe_above m l all = least_over s.net.timelines m l all
