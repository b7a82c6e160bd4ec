-- A map from keys to events holds them as a list in key order does.
use Rattle.std.proofs.Common.{◌≡◌, true, false, List, [], ◌∷◌, refl, sym, ap, ◌∙◌, subst, inl, inr, Some, is_some, nat_le, slice_get, ℕ, zero, suc, ◌+◌, ◌<◌, ◌++◌, length, take, get_or, arith}
use Rattle.std.specs.declared.cmp.Ordering.{Ordering}
use Rattle.std.specs.declared.cmp.Ordering.TheVariants.{Less, Equal, Greater}
use Rattle.std.specs.Ordering.{is_lt}
use Rattle.std.specs.Map.{values_of}
use Rattle.std.specs.BTreeMap.{insert_entry}
use Rattle.event_order.specs.declared.key.Key.{Key}
use Rattle.event_order.specs.Order.{key_cmp, comes_before, IsBefore}
use Rattle.event_order.specs.Pending.{put, Among, IsRising}
use Rattle.event_order.proofs.Order.{same_key, before_asym, before_irrefl}
use Rattle.std.proofs.lemmas.List.{take_more}
use Rattle.event_order.proofs.Pending.{test_cases}
use Rattle.event_order.specs.Machine.{due}
use Rattle.ssf_model.specs.declared.event.Event.{Event}
use Rattle.global_list.specs.Pending.{key_of, IsKeyed}

pub record Inserted {P : Type 0} (e : Event P) (es : List (Key × Event P)) : Type 0 where
  pub keyed : IsKeyed (insert_entry key_cmp es (key_of e) e)
  pub is_put : values_of (insert_entry key_cmp es (key_of e) e) ≡ put key_of e (values_of es)

before_test : (a b : Key) → comes_before a b ≡ is_lt (key_cmp a b)
unfolding comes_before
before_test a b = refl

module _ {P : Type 0} (e : Event P) (d : Key × Event P) (es : List (Key × Event P)) (own : d.0 ≡ key_of d.1) (k : IsKeyed es)
    (other : key_of d.1 ≡ key_of e → ⊥) (rest : Inserted e es) where
  test : (r : Ordering) → key_cmp (key_of e) d.0 ≡ r → comes_before (key_of e) (key_of d.1) ≡ is_lt r
  test r h = before_test (key_of e) (key_of d.1) ∙ ap is_lt (ap (key_cmp (key_of e)) (sym own) ∙ h)

  at_order : (r : Ordering) → key_cmp (key_of e) d.0 ≡ r → Inserted e (d ∷ es)
  at_order Less h = let t : comes_before (key_of e) (key_of d.1) ≡ true = test Less h in
      record { keyed = rw h (refl, (own, k)); is_put = rw (h, t) refl }
  at_order Equal h = absurd (other (sym (same_key (key_of e) d.0 h ∙ own)))
  at_order Greater h = let t : comes_before (key_of e) (key_of d.1) ≡ false = test Greater h in
      record { keyed = rw h (own, rest.keyed); is_put = rw (h, t) (ap (λ xs. d.1 ∷ xs) rest.is_put) }

pub insert_put : {P : Type 0} (e : Event P) (es : List (Key × Event P)) → IsKeyed es →
    ((d : Event P) → Among d (values_of es) → key_of d ≡ key_of e → ⊥) → Inserted e es
insert_put e [] k new = record { keyed = (refl, tt); is_put = refl }
insert_put e (d ∷ es) k new =
    at_order e d es k.0 k.1 (new d.1 (inl refl)) (insert_put e es k.1 (λ x a. new x (inr a))) (key_cmp (key_of e) d.0) refl

due_test : {P : Type 0} (until : ℕ) (e : Event P) (es : List (Event P)) → nat_le (key_of e).time until ≡ is_some (due key_of until (e ∷ es))
due_test until e es = elim (test_cases (nat_le (key_of e).time until)) [ inl t ↦ rw t refl | inr f ↦ rw f refl ]

-- the first entry tells whether an event is due
pub head_due : {P : Type 0} (until : ℕ) (k : Key) (e : Event P) (es : List (Key × Event P)) → slice_get es 0 ≡ Some (k, e) → IsKeyed es →
    nat_le k.time until ≡ is_some (due key_of until (values_of es))
head_due until k e [] h keyed = absurd (cc)
head_due {P} until k e (d ∷ es) h keyed =
    let same : Some d ≡ Some (k, e) = h in
    let first : d ≡ (k, e) = cc in
    let key : k ≡ key_of d.1 = sym (ap (λ (x : Key × Event P). x.0) first) ∙ keyed.0 in
    ap (λ (x : Key). nat_le x.time until) key ∙ due_test until d.1 (values_of es)

-- ---- events that stand in key order

among_get : {T : Type 0} (xs : List T) (i : ℕ) (x : T) → i < length xs → x ≡ get_or xs i x → Among x xs
among_get [] i x h e = absurd (omega arith)
among_get (y ∷ ys) zero x h e = inl e
among_get (y ∷ ys) (suc i) x h e = inr (among_get ys i x (omega arith) e)

-- the ones before it
before_it : {P : Type 0} (xs : List (Event P)) (i : ℕ) (x : Event P) → IsRising key_of xs → i < length xs → x ≡ get_or xs i x →
    (d : Event P) → Among d (take i xs) → IsBefore (key_of d) (key_of x)
before_it [] i x r h e d a = absurd (omega arith)
before_it (y ∷ ys) zero x r h e d a = absurd a
before_it {P} (y ∷ ys) (suc i) x r h e d (inl s) = subst (λ (z : Event P). IsBefore (key_of z) (key_of x)) (sym s) (r.0 x (among_get ys i x (omega arith) e))
before_it (y ∷ ys) (suc i) x r h e d (inr a) = before_it ys i x r.1 (omega arith) e d a

pub new_key : {P : Type 0} (xs ps : List (Event P)) (i : ℕ) (x : Event P) → IsRising key_of xs → i < length xs → x ≡ get_or xs i x → ps ≡ take i xs →
    (d : Event P) → Among d ps → key_of d ≡ key_of x → ⊥
new_key xs ps i x r h e is d a s =
    before_irrefl (key_of x) (subst (λ k. IsBefore k (key_of x)) s (before_it xs i x r h e d (subst (λ qs. Among d qs) is a)))

put_last : {P : Type 0} (zs : List (Event P)) (x : Event P) → ((d : Event P) → Among d zs → IsBefore (key_of d) (key_of x)) → put key_of x zs ≡ zs ++ x ∷ []
put_last [] x f = refl
put_last (z ∷ zs) x f = elim (test_cases (comes_before (key_of x) (key_of z))) [
  | inl t ↦ absurd (before_asym (key_of x) (key_of z) t (f z (inl refl)))
  | inr n ↦ rw n (ap (λ ys. z ∷ ys) (put_last zs x (λ d a. f d (inr a))))
]

pub put_next : {P : Type 0} (xs ps : List (Event P)) (i : ℕ) (x : Event P) → IsRising key_of xs → i < length xs → x ≡ get_or xs i x → ps ≡ take i xs →
    put key_of x ps ≡ take (i + 1) xs
put_next xs ps i x r h e is =
    ap (put key_of x) is ∙ (put_last (take i xs) x (before_it xs i x r h e) ∙ (ap (λ y. take i xs ++ y ∷ []) e ∙ sym (take_more xs i x h)))
