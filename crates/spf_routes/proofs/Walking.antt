-- A walk of several arms is an arrival and a last arm, and the other way round.
use Rattle.std.proofs.Common.{◌≡◌, ◌≢◌, ℕ, ◌⊎◌, true, List, [], ◌∷◌, ◌++◌, inl, inr, refl, sym, ap, subst, ◌∙◌, arith}
use Rattle.std.specs.Prelude.{Contains}
use Rattle.std.proofs.lemmas.List.Sums.{sum_by-cons, sum_by_push}
use Rattle.spf_routes.specs.declared.graph.Arm.{Arm}
use Rattle.spf_routes.specs.declared.search.Label.{Label}
use Rattle.spf_routes.specs.Walks.{IsAttached, GoesOn, IsWalk, last_arm, cost_of, IsNext, Reaches}
use Rattle.spf_routes.specs.Paths.{behind}
use Rattle.spf_routes.specs.Arms.{alone, Enters, entered}
use Rattle.spf_routes.proofs.Reaching.{Arrives, enter, on, ByArm, go_on}

pub label_is : (a b : Label) → a.cost ≡ b.cost → a.interface ≡ b.interface → a.next ≡ b.next → a ≡ b
label_is a b e f g =
    let first : ◌≡◌ {A = Label} a (record { cost = b.cost; interface = a.interface; next = a.next }) = ap {B = Label} (λ (x : ℕ). record { cost = x; interface = a.interface; next = a.next }) e in
    let second : ◌≡◌ {A = Label} (record { cost = b.cost; interface = a.interface; next = a.next }) (record { cost = b.cost; interface = b.interface; next = a.next }) = ap {B = Label} (λ (x : ℕ). record { cost = b.cost; interface = x; next = a.next }) f in
    first ∙ second ∙ ap {B = Label} (λ (x : ℕ). record { cost = b.cost; interface = b.interface; next = x }) g

-- a walk of one arm
pub record Alone (arms : List Arm) (from link : ℕ) (label : Label) : Type 0 where
  pub arm : Arm
  pub known : Contains arms arm
  pub begins : arm.host ≡ from
  pub on_link : arm.link ≡ link
  pub is : label ≡ alone arm

walk_snoc : (arms : List Arm) (a : Arm) (rest : List Arm) (b : Arm) → IsWalk arms a rest → GoesOn arms (last_arm a rest) b → IsWalk arms a (rest ++ b ∷ [])
walk_snoc arms a [] b w g = (g, tt)
walk_snoc arms a (c ∷ rest) b w g = (w.0, walk_snoc arms c rest b w.1 g)

last_snoc : (a : Arm) (rest : List Arm) (b : Arm) → last_arm a (rest ++ b ∷ []) ≡ b
last_snoc a [] b = refl
last_snoc a (c ∷ rest) b = last_snoc c rest b

next_snoc : (arms : List Arm) (a : Arm) (rest : List Arm) (b c : Arm) (n : ℕ) → IsNext arms a (rest ++ b ∷ []) n → IsNext arms a ((rest ++ b ∷ []) ++ c ∷ []) n
next_snoc arms a [] b c n h = h
next_snoc arms a (x ∷ rest) b c n h = h

-- the walk by which a host is entered
pub record Led (arms : List Arm) (from host : ℕ) (l : Label) : Type 0 where
  pub first : Arm
  pub rest : List Arm
  pub known : Contains arms first
  pub begins : first.host ≡ from
  pub walk : IsWalk arms first rest
  pub relays : (last_arm first rest).relays ≡ true
  pub attached : (address : ℕ) × IsAttached arms host (last_arm first rest).link address
  pub another : host ≢ (last_arm first rest).host
  pub cost : l.cost ≡ cost_of first rest
  pub interface : l.interface ≡ first.interface
  pub next : (b : Arm) → b.host ≡ host → IsNext arms first (rest ++ b ∷ []) l.next

goes : (arms : List Arm) (from : ℕ) (l : Label) (b : Arm) (led : Led arms from b.host l) → Contains arms b → b.relays ≡ true → GoesOn arms (last_arm led.first led.rest) b
goes arms from l b led known relays = record { known = known; another = led.another; attached = led.attached; first_relays = led.relays; other_relays = relays }

pub led_by : (arms : List Arm) (from : ℕ) {host : ℕ} {l : Label} → Arrives arms from host l → Led arms from host l
led_by arms from (enter a e h) = record {
  first = a;
  rest = [];
  known = h.first;
  begins = h.begins;
  walk = tt;
  relays = h.relays;
  attached = (e.address, (e, h.second, refl, h.shared, refl));
  another = λ same. h.another (same ∙ h.begins);
  cost = omega arith;
  interface = refl;
  next = λ b same. (e, h.second, sym same, h.shared, refl);
}
led_by arms from (on {l = l} b e before known relays there relays_too shared other) =
    let led = led_by arms from before in
    let last : last_arm led.first (led.rest ++ b ∷ []) ≡ b = last_snoc led.first led.rest b in
    record {
      first = led.first;
      rest = led.rest ++ b ∷ [];
      known = led.known;
      begins = led.begins;
      walk = walk_snoc arms led.first led.rest b led.walk (goes arms from l b led known relays);
      relays = ap (λ (x : Arm). x.relays) last ∙ relays;
      attached = (e.address, (e, there, refl, shared ∙ ap (λ (x : Arm). x.link) (sym last), refl));
      another = λ same. other (same ∙ ap (λ (x : Arm). x.host) last);
      cost = omega (arith, led.cost, sum_by_push (λ (x : Arm). x.cost) led.rest b);
      interface = led.interface;
      next = λ c same. next_snoc arms led.first led.rest b c l.next (led.next b refl);
    }

-- an arrival and an arm make a walk
pub reaches_by : (arms : List Arm) (from link : ℕ) (r : Label) → ByArm arms from link r → Reaches arms from link r
reaches_by arms from link r h =
    let b : Arm = h.arm in
    let led = led_by arms from h.there in
    subst (Reaches arms from link) (sym h.is) (record {
      first = led.first;
      rest = led.rest ++ b ∷ [];
      known = led.known;
      begins = led.begins;
      walk = walk_snoc arms led.first led.rest b led.walk (goes arms from h.label b led h.known h.relays);
      ends = ap (λ (x : Arm). x.link) (last_snoc led.first led.rest b) ∙ h.on_link;
      cost = omega (arith, led.cost, sum_by_push (λ (x : Arm). x.cost) led.rest b);
      interface = led.interface;
      next = led.next b refl;
    })

pub reaches_alone : (arms : List Arm) (from link : ℕ) (r : Label) → Alone arms from link r → Reaches arms from link r
reaches_alone arms from link r h = subst (Reaches arms from link) (sym h.is) (record { first = h.arm; rest = []; known = h.known; begins = h.begins; walk = tt; ends = h.on_link; cost = omega arith; interface = refl; next = refl })

-- a walk is one arm, or an arrival and an arm
module _ (arms : List Arm) (from : ℕ) (same_host : (a b : Arm) → Contains arms a → Contains arms b → a.host ≡ b.host → a.relays ≡ b.relays) where
  several : (link : ℕ) (label : Label) (first b : Arm) (rest : List Arm) → Contains arms first → first.host ≡ from → IsWalk arms first (b ∷ rest) → (last_arm first (b ∷ rest)).link ≡ link → label.cost ≡ cost_of first (b ∷ rest) → label.interface ≡ first.interface → IsNext arms first (b ∷ rest) label.next → ByArm arms from link label
  several link label first b rest known begins walk ends cost interface next =
      let step = walk.0 in
      let e : Arm = next.0 in
      let e_relays : e.relays ≡ true = same_host e b next.1 step.known next.2 ∙ step.other_relays in
      let ent : Enters arms from first e = record { first = known; second = next.1; begins = begins; shared = next.3; another = λ same. step.another (sym next.2 ∙ same ∙ sym begins); relays = step.first_relays; relays_too = e_relays } in
      let at_b : Arrives arms from b.host (entered first e) = subst (λ h. Arrives arms from h (entered first e)) next.2 (enter first e ent) in
      let r = go_on arms from same_host (entered first e) b rest at_b step.known step.other_relays walk.1 in
      record {
        arm = last_arm b rest;
        label = r.label;
        known = r.known;
        relays = r.relays;
        on_link = ends;
        there = r.there;
        is = label_is label (behind r.label (last_arm b rest).cost)
            (omega (arith, cost, r.cost, sum_by-cons (λ (x : Arm). x.cost) b rest))
            (interface ∙ sym r.interface)
            (sym next.4 ∙ sym r.next);
      }

  pub cases_reached : (link : ℕ) (label : Label) → Reaches arms from link label → Alone arms from link label ⊎ ByArm arms from link label
  cases_reached link label h = of_rest h.rest h.walk h.ends h.cost h.next
    where
      of_rest : (rest : List Arm) → IsWalk arms h.first rest → (last_arm h.first rest).link ≡ link → label.cost ≡ cost_of h.first rest → IsNext arms h.first rest label.next → Alone arms from link label ⊎ ByArm arms from link label
      of_rest [] walk ends cost next = inl (record { arm = h.first; known = h.known; begins = h.begins; on_link = ends; is = label_is label (alone h.first) (omega arith) h.interface next })
      of_rest (b ∷ rest) walk ends cost next = inr (several link label h.first b rest h.known h.begins walk ends cost h.interface next)
