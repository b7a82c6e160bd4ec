-- Alignments and classes worked out by hand.
use Rattle.std.proofs.Common.{◌≡◌, ℕ, zero, suc, ◌<◌, List, [], ◌∷◌, map, Some, None, refl, ap, inl, inr, arith}
use Rattle.event_order.specs.Pending.{Among}
use Rattle.ssf_model.specs.declared.entity.Entity.{Entity}
use Rattle.ssf_model.specs.declared.plan.Mapping.{Mapping}
use Rattle.ssf_model.specs.declared.plan.Plan.{Plan}
use Rattle.alignment.specs.declared.labels.Mode.TheVariants.{One, Host, Net, Count}
use Rattle.alignment.specs.declared.mappings.Class.TheVariants.{Inside, Appointed, Windowed}
use Rattle.alignment.specs.Alignment.{IsAlignment, AreJoined, Ties, label_of, line_of, ties_of, timeline_count}
use Rattle.alignment.specs.Classes.{classified}
use Rattle.alignment.proofs.Joining.{joined_self, joined_turned, joined_mapping, joined_alike}

-- ---- labels of three entities in the Nets 5, 0 and 5

one_label : map (label_of One (5 ∷ 0 ∷ 5 ∷ []) 3) (0 ∷ 1 ∷ 2 ∷ []) ≡ 0 ∷ 0 ∷ 0 ∷ []
one_label = refl

host_labels : map (label_of Host (5 ∷ 0 ∷ 5 ∷ []) 3) (0 ∷ 1 ∷ 2 ∷ []) ≡ 0 ∷ 1 ∷ 2 ∷ []
host_labels = refl

net_labels : map (label_of Net (5 ∷ 0 ∷ 5 ∷ []) 3) (0 ∷ 1 ∷ 2 ∷ []) ≡ 5 ∷ 0 ∷ 5 ∷ []
net_labels = refl

two_parts : map (label_of (Count 2) (5 ∷ 0 ∷ 5 ∷ []) 3) (0 ∷ 1 ∷ 2 ∷ []) ≡ 0 ∷ 0 ∷ 1 ∷ []
two_parts = refl

seven_parts : map (label_of (Count 7) (5 ∷ 0 ∷ 5 ∷ []) 3) (0 ∷ 1 ∷ 2 ∷ []) ≡ 0 ∷ 2 ∷ 4 ∷ []
seven_parts = refl

-- ---- a ring of two nodes, whose mappings lead from 0 to 1 and back

abbrev hop : ℕ → ℕ → ℕ → ℕ → Mapping
hop channel from to delay = record { channel = channel; out_channel = from; in_channel = to; from = from; to = to; delay = delay; priority = 0 }

abbrev node : Entity (Unit {0}) (Unit {0}) (Unit {0})
node = record { state = tt; processes = []; in_channels = []; out_channels = [] }

abbrev hops : ℕ → ℕ → List Mapping
hops there back = hop 2 0 1 there ∷ hop 3 1 0 back ∷ []

abbrev ring : ℕ → ℕ → Plan (Unit {0}) (Unit {0}) (Unit {0})
ring there back = record { behaviour = tt; entities = node ∷ node ∷ []; events = []; mappings = hops there back; counts = []; before = 0 }

abbrev nets : List ℕ
nets = 0 ∷ 0 ∷ []

of_two : (P : ℕ → Type 0) → P 0 → P 1 → (e : ℕ) → e < 2 → P e
of_two P first other zero h = first
of_two P first other (suc zero) h = other
of_two P first other (suc (suc e)) h = absurd (omega arith)

-- with delays 5 and 3 each node has a timeline of its own
apart : IsAlignment (ring 5 3) nets Host (0 ∷ 1 ∷ [])
apart =
    let t : Ties = ties_of (ring 5 3) nets Host in
    let lines : List ℕ = 0 ∷ 1 ∷ [] in
    record {
      entities = refl;
      shared = λ a b h k. (
        of_two (λ x. line_of lines x ≡ line_of lines b → AreJoined t x b)
            (of_two (λ y. line_of lines 0 ≡ line_of lines y → AreJoined t 0 y) (λ same. joined_self t 0) (λ same. absurd (omega (arith, same))) b k)
            (of_two (λ y. line_of lines 1 ≡ line_of lines y → AreJoined t 1 y) (λ same. absurd (omega (arith, same))) (λ same. joined_self t 1) b k)
            a h,
        joined_alike t (λ e. line_of lines e) (λ x y i j same. ap (λ e. line_of lines e) same) no_hop a b,
      );
      numbered = λ e i h. of_two (λ x. i < line_of lines x → (d : ℕ) × (d < x) × (line_of lines d ≡ i)) (λ less. absurd (omega arith)) (λ less. (0, omega arith, omega arith)) e h;
    }
  where
    no_hop : (m : Mapping) → Among m (hops 5 3) → m.delay ≡ 0 → line_of (0 ∷ 1 ∷ []) m.from ≡ line_of (0 ∷ 1 ∷ []) m.to
    no_hop m (inl e) d = let is : m.delay ≡ 5 = ap (λ x. x.delay) e in absurd (omega arith)
    no_hop m (inr (inl e)) d = let is : m.delay ≡ 3 = ap (λ x. x.delay) e in absurd (omega arith)
    no_hop m (inr (inr none)) d = absurd none

-- with a delay of 0 they share one
together : IsAlignment (ring 0 7) nets Host (0 ∷ 0 ∷ [])
together =
    let t : Ties = ties_of (ring 0 7) nets Host in
    let lines : List ℕ = 0 ∷ 0 ∷ [] in
    let joined : AreJoined t 0 1 = joined_mapping t (hop 2 0 1 0) (inl refl) (omega arith) (omega arith) refl in
    record {
      entities = refl;
      shared = λ a b h k. (
        λ same. of_two (λ x. AreJoined t x b) (of_two (λ y. AreJoined t 0 y) (joined_self t 0) joined b k) (of_two (λ y. AreJoined t 1 y) (joined_turned t 0 1 joined) (joined_self t 1) b k) a h,
        λ chain. of_two (λ x. line_of lines x ≡ line_of lines b) (of_two (λ y. 0 ≡ line_of lines y) refl refl b k) (of_two (λ y. 0 ≡ line_of lines y) refl refl b k) a h,
      );
      numbered = λ e i h. of_two (λ x. i < line_of lines x → (d : ℕ) × (d < x) × (line_of lines d ≡ i)) (λ less. absurd (omega arith)) (λ less. absurd (omega arith)) e h;
    }

-- ---- classes of the mappings with delays 5 and 3, by the thresholds 4, 0 and 6, and on one timeline

middle : classified (0 ∷ 1 ∷ []) 4 (hops 5 3) ≡ record { classes = Windowed ∷ Appointed ∷ []; least_windowed = Some 5 }
middle = refl

low : classified (0 ∷ 1 ∷ []) 0 (hops 5 3) ≡ record { classes = Windowed ∷ Windowed ∷ []; least_windowed = Some 3 }
low = refl

at_one_delay : classified (0 ∷ 1 ∷ []) 5 (hops 5 3) ≡ record { classes = Windowed ∷ Appointed ∷ []; least_windowed = Some 5 }
at_one_delay = refl

high : classified (0 ∷ 1 ∷ []) 6 (hops 5 3) ≡ record { classes = Appointed ∷ Appointed ∷ []; least_windowed = None }
high = refl

inside : classified (0 ∷ 0 ∷ []) 0 (hops 0 7) ≡ record { classes = Inside ∷ Inside ∷ []; least_windowed = None }
inside = refl

no_timelines : timeline_count [] ≡ 0
no_timelines = refl

two_timelines : timeline_count (0 ∷ 1 ∷ 0 ∷ []) ≡ 2
two_timelines = refl
