-- One arm more in the labels of single arms.
use Rattle.std.proofs.Common.{◌≡◌, ◌≢◌, ℕ, ◌+◌, ◌<◌, false, List, [], ◌∷◌, length, get_or, set, take, Option, Some, None, inl, inr, refl, sym, ap, subst, ◌∙◌, arith, length-set, get_or-set_same, get_or-set_other}
use Rattle.std.specs.Prelude.{IsSomeAnd}
use Rattle.std.proofs.lemmas.Bool.{cases_eq}
use Rattle.std.proofs.lemmas.List.{take_more}
use Rattle.std.proofs.lemmas.List.Elements.{Contains-append_left, Contains-push, Contains-push_cases}
use Rattle.spf_routes.specs.declared.graph.Arm.{Arm}
use Rattle.spf_routes.specs.declared.search.Label.{Label}
use Rattle.spf_routes.specs.Walks.{IsAtMost}
use Rattle.spf_routes.specs.Paths.{best_at}
use Rattle.spf_routes.specs.Arms.{IsLesser, alone, AreDirect}
use Rattle.spf_routes.proofs.Queues.{at_most_trans}

abbrev pub no_arm : Arm
no_arm = record { host = 0; interface = 0; link = 0; address = 0; cost = 0; relays = false }

-- what is there holds
pub at_some : (o : Option Label) (P : Label → Type 0) → IsSomeAnd o P → (r : Label) × (o ≡ Some r) × P r
at_some (Some r) P h = (r, refl, h)
at_some None P h = absurd h

module _ (arms : List Arm) (from links i : ℕ) (direct : List (Option Label)) (lt : i < length arms) (h : AreDirect (take i arms) from links direct) where
  pub direct_skip : (get_or arms i no_arm).host ≢ from → AreDirect (take (i + 1) arms) from links direct
  direct_skip other = rw (take_more arms i no_arm lt) (record {
    as_many = h.as_many;
    walked = λ link l e. let w = h.walked link l e in (w.0, Contains-append_left (take i arms) (get_or arms i no_arm ∷ []) w.0 w.1, w.2, w.3, w.4);
    least = λ a c e. elim (Contains-push_cases (take i arms) (get_or arms i no_arm) a c) [
      | inl before ↦ h.least a before e
      | inr one ↦ absurd (other (ap (λ (x : Arm). x.host) one ∙ e))
    ];
  })

  pub direct_more : (r : Option Label) → (get_or arms i no_arm).host ≡ from → (get_or arms i no_arm).link < links → IsLesser (best_at direct (get_or arms i no_arm).link) (Some (alone (get_or arms i no_arm))) r → AreDirect (take (i + 1) arms) from links (set direct (get_or arms i no_arm).link r)
  direct_more r begins low lesser =
      let arm : Arm = get_or arms i no_arm in
      let there : arm.link < length direct = omega (arith, h.as_many) in
      let at_link : best_at (set direct arm.link r) arm.link ≡ r = get_or-set_same direct arm.link r None there in
      let some = at_some r (λ x. IsAtMost x (alone arm)) lesser.second in
      rw (take_more arms i no_arm lt) (record {
        as_many = length-set direct arm.link r ∙ h.as_many;
        walked = λ link l e. elim (cases_eq link arm.link) [
          | inl same ↦
              let is : r ≡ Some l = sym at_link ∙ ap (best_at (set direct arm.link r)) (sym same) ∙ e in
              elim lesser.one [
                | inl old ↦
                    let w = h.walked arm.link l (sym old ∙ is) in
                    (w.0, Contains-append_left (take i arms) (arm ∷ []) w.0 w.1, w.2, w.3 ∙ sym same, w.4)
                | inr new ↦ (arm, Contains-push (take i arms) arm, begins, sym same, let both : Some l ≡ Some (alone arm) = sym is ∙ new in cc)
              ]
          | inr other ↦
              let w = h.walked link l (sym (get_or-set_other direct arm.link link r None other) ∙ e) in
              (w.0, Contains-append_left (take i arms) (arm ∷ []) w.0 w.1, w.2, w.3, w.4)
        ];
        least = λ a c e. elim (cases_eq a.link arm.link) [
          | inl same ↦ elim (Contains-push_cases (take i arms) arm a c) [
            | inl before ↦
                let old = h.least a before e in
                let was : best_at direct arm.link ≡ Some old.0 = ap (best_at direct) (sym same) ∙ old.1 in
                let now = at_some r (λ x. IsAtMost x old.0) (rw was at lesser.first) in
                (now.0, ap (best_at (set direct arm.link r)) same ∙ at_link ∙ now.1, at_most_trans now.0 old.0 (alone a) now.2 old.2)
            | inr one ↦ (some.0, ap (best_at (set direct arm.link r)) same ∙ at_link ∙ some.1, subst (λ (x : Arm). IsAtMost some.0 (alone x)) one some.2)
          ]
          | inr other ↦ elim (Contains-push_cases (take i arms) arm a c) [
            | inl before ↦
                let old = h.least a before e in
                (old.0, get_or-set_other direct arm.link a.link r None other ∙ old.1, old.2)
            | inr one ↦ absurd (other (ap (λ (x : Arm). x.link) (sym one)))
          ]
        ];
      })
