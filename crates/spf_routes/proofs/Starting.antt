-- One arm more in the starts.
use Rattle.std.proofs.Common.{◌≡◌, ◌≢◌, ℕ, ◌+◌, ◌<◌, ◌≤◌, true, List, [], ◌∷◌, ◌++◌, length, get_or, take, Option, Some, inl, inr, sym, ap, subst, ◌∙◌, arith}
use Rattle.std.specs.Prelude.{Contains}
use Rattle.std.proofs.lemmas.List.{take_more, take_all}
use Rattle.std.proofs.lemmas.List.Elements.{Contains-append_left, Contains-push, Contains-push_cases, Contains-get_or}
use Rattle.spf_routes.specs.declared.graph.Arm.{Arm}
use Rattle.spf_routes.specs.declared.search.Label.{Label}
use Rattle.spf_routes.specs.declared.search.Start.{Start}
use Rattle.spf_routes.specs.Walks.{IsAtMost}
use Rattle.spf_routes.specs.Paths.{best_at, IsStart}
use Rattle.spf_routes.specs.Arms.{alone, AreDirect, Enters, entered, AreEntries, SomeRelays, NoneRelays}
use Rattle.spf_routes.proofs.Direct.{no_arm}

-- the starts by the arms that were seen
pub record AreSoFar (arms seen : List Arm) (from links : ℕ) (starts : List Start) : Type 0 where
  pub walked : (l : Label) (n : ℕ) → IsStart starts l n → (a e : Arm) × Enters arms from a e × (n ≡ links + e.host) × (l ≡ entered a e)
  pub least : (a e : Arm) → Enters arms from a e → Contains seen e → (l : Label) × IsStart starts l (links + e.host) × IsAtMost l (entered a e)

entered_at_most : (a b e : Arm) → IsAtMost (alone a) (alone b) → IsAtMost (entered a e) (entered b e)
entered_at_most a b e h = grind arith

abbrev with_next : Label → ℕ → Label
with_next label next = record { cost = label.cost; interface = label.interface; next = next }

pub no_entries : (arms : List Arm) (from links : ℕ) → NoneRelays arms from → AreEntries arms from links []
no_entries arms from links none = record {
  walked = λ l n h. absurd (omega (arith, h.1));
  least = λ a e h. absurd (none a h.first h.begins h.relays);
}

pub first_entries : (arms : List Arm) (from links : ℕ) → AreSoFar arms [] from links []
first_entries arms from links = record { walked = λ l n h. absurd (omega (arith, h.1)); least = λ a e h c. absurd (omega (arith, c.1)) }

pub all_entries : (arms : List Arm) (from links i : ℕ) (starts : List Start) → length arms ≤ i → AreSoFar arms (take i arms) from links starts → AreEntries arms from links starts
all_entries arms from links i starts end h = record { walked = h.walked; least = λ a e enters. h.least a e enters (subst (λ xs. Contains xs e) (sym (take_all i arms end)) enters.second) }

module _ (arms : List Arm) (from i : ℕ) (direct : List (Option Label)) (starts : List Start) (lt : i < length arms) (alones : AreDirect arms from (length direct) direct) (h : AreSoFar arms (take i arms) from (length direct) starts) where
  pub entries_skip : ((a : Arm) → Enters arms from a (get_or arms i no_arm) → ⊥) → AreSoFar arms (take (i + 1) arms) from (length direct) starts
  entries_skip other = rw (take_more arms i no_arm lt) (record {
    walked = h.walked;
    least = λ a e enters c. elim (Contains-push_cases (take i arms) (get_or arms i no_arm) e c) [
      | inl before ↦ h.least a e enters before
      | inr one ↦ absurd (other a (subst (Enters arms from a) (sym one) enters))
    ];
  })

  pub entries_more : (label : Label) → (get_or arms i no_arm).host ≢ from → (get_or arms i no_arm).relays ≡ true → best_at direct (get_or arms i no_arm).link ≡ Some label → SomeRelays arms from → ((a b : Arm) → Contains arms a → Contains arms b → a.host ≡ b.host → a.relays ≡ b.relays) → AreSoFar arms (take (i + 1) arms) from (length direct) (starts ++ record { label = with_next label (get_or arms i no_arm).address; node = length direct + (get_or arms i no_arm).host } ∷ [])
  entries_more label another relays_too there some same_host =
      let arm : Arm = get_or arms i no_arm in
      let new : Start = record { label = with_next label arm.address; node = length direct + arm.host } in
      let w = alones.walked arm.link label there in
      let is : with_next label arm.address ≡ entered w.0 arm = ap (λ (x : Label). with_next x arm.address) w.4 in
      let known : Contains arms arm = Contains-get_or arms i no_arm lt in
      let in_from : Enters arms from w.0 arm = record { first = w.1; second = known; begins = w.2; shared = sym w.3; another = another; relays = same_host w.0 some.0 w.1 some.1 (w.2 ∙ sym some.2) ∙ some.3; relays_too = relays_too } in
      rw (take_more arms i no_arm lt) (record {
        walked = λ l n s. elim (Contains-push_cases starts new (record { label = l; node = n }) s) [
          | inl before ↦ h.walked l n before
          | inr one ↦ (w.0, arm, in_from, sym (ap (λ (x : Start). x.node) one), sym (ap (λ (x : Start). x.label) one) ∙ is)
        ];
        least = λ a e enters c. elim (Contains-push_cases (take i arms) arm e c) [
          | inl before ↦ let old = h.least a e enters before in (old.0, Contains-append_left starts (new ∷ []) (record { label = old.0; node = length direct + e.host }) old.1, old.2)
          | inr one ↦
              let at_link : a.link ≡ arm.link = sym (enters.shared) ∙ ap (λ (x : Arm). x.link) (sym one) in
              let least = alones.least a enters.first enters.begins in
              let both : Some least.0 ≡ Some label = sym least.1 ∙ ap (best_at direct) at_link ∙ there in
              let one_label : least.0 ≡ label = cc in
              let below : IsAtMost (alone w.0) (alone a) = subst (λ (x : Label). IsAtMost x (alone a)) (one_label ∙ w.4) least.2 in (
                with_next label arm.address,
                subst (λ (x : Arm). Contains (starts ++ new ∷ []) (record { label = with_next label arm.address; node = length direct + x.host })) one (Contains-push starts new),
                subst (λ (x : Label). IsAtMost x (entered a e)) (sym is) (subst (λ (x : Arm). IsAtMost (entered w.0 x) (entered a e)) (sym one) (entered_at_most w.0 a e below)),
              )
        ];
      })
