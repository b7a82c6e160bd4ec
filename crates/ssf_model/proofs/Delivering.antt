-- How the loop over an entity's processes goes: what was done so far, and what the processes still to come will do,
-- are together what the event makes of the whole entity.
use Rattle.std.proofs.Common.{◌≡◌, ℕ, ◌+◌, ◌<◌, ◌≤◌, Bool, true, false, cond, ◌&&◌, nat_eq, List, [], ◌∷◌, ◌++◌, map, length, get_or, take, drop, set, refl, sym, ap, subst, ◌∙◌, append_assoc, append-nil, arith, add-one, Option, Some, None, slice_get, option_map, drop-cons, drop-set-lt, length-set, eqb-true, get_or-drop, drop-drop}
use Rattle.std.proofs.lemmas.Option.{slice_get-map, slice_get_read, get_or_from_slice_get}
use Rattle.std.proofs.lemmas.List.{map-set, set-get_or, take_more_set, get_or_default}
use Rattle.std.proofs.Math.Seq.{map-set_same, drop-length, take-length}
use Rattle.ssf_model.specs.declared.wait.Wake.{Wake}
use Rattle.ssf_model.specs.declared.wait.Wake.TheVariants.{Begin as BeginWake, Timer as TimerWake, Message as MessageWake}
use Rattle.ssf_model.specs.declared.wait.Kind.{Kind}
use Rattle.ssf_model.specs.declared.wait.Kind.TheVariants.{Begin, Timer, Message}
use Rattle.ssf_model.specs.declared.out.Written.{Written}
use Rattle.ssf_model.specs.declared.event.Line.{Line}
use Rattle.ssf_model.specs.declared.process.Process.{Process}
use Rattle.ssf_model.specs.declared.wait.Wait.TheVariants.{Forever}
use Rattle.ssf_model.specs.Wake.{waits_on}
use Rattle.ssf_model.specs.Reaction.{Reaction, Validity, IsReady, Keeps, KeepsValid, LatestTime, is_timed, wait_of, Admits, Carries}
use Rattle.ssf_model.specs.Deliver.{wake_of, reacted, delivered, Delivered, IsTimely, IsCarried}

drop_along : (i : ℕ) (ps qs : List Process) → drop i ps ≡ drop i qs → drop (i + 1) ps ≡ drop (i + 1) qs
drop_along i ps qs e = rw (← drop-drop 1 i ps, ← drop-drop 1 i qs, e) refl

-- after the processes before number i acted: with those from i on it comes to the whole
pub record Halfway {S P : Type 0} (whole : Delivered S P) (rest : Delivered S P) (ps0 : List Process) (w0 : List (Written P)) (l0 : List Line)
    (i : ℕ) (ps : List Process) (w : List (Written P)) (l : List Line) : Type 0 where
  pub state : rest.state ≡ whole.state
  pub processes : take i ps ++ rest.processes ≡ whole.processes
  pub writes : w ++ rest.writes ≡ w0 ++ whole.writes
  pub lines : l ++ rest.lines ≡ l0 ++ whole.lines
  pub ahead : drop i ps ≡ drop i ps0
  pub size : length ps ≡ length ps0

module _ {S P : Type 0} (r : Reaction S P) (now : ℕ) (kind : Kind P) where
  -- what the processes from number i on make of it
  abbrev pub rest_of : ℕ → S → List Process → Delivered S P
  rest_of i s ps = delivered r now kind i s (drop i ps)

  delivered_ahead : (i : ℕ) (s : S) (ps : List Process) (p : Process) → i < length ps → get_or ps i p ≡ p →
      rest_of i s ps ≡ delivered r now kind i s (p ∷ drop (i + 1) ps)
  delivered_ahead i s ps p h e = let d = drop-cons ps i p h in rw (d, e, add-one)

  pub halfway_next : (whole : Delivered S P) (ps0 : List Process) (w0 : List (Written P)) (l0 : List Line) (i : ℕ)
      (s s' : S) (ps ps' : List Process) (w w' : List (Written P)) (l l' : List Line) (p : Process) →
      i < length ps → get_or ps i p ≡ p →
      s' ≡ (reacted r now i s p (wake_of kind i p)).state →
      ps' ≡ set ps i (reacted r now i s p (wake_of kind i p)).process →
      w' ≡ w ++ (reacted r now i s p (wake_of kind i p)).writes →
      l' ≡ l ++ (reacted r now i s p (wake_of kind i p)).lines →
      Halfway whole (rest_of i s ps) ps0 w0 l0 i ps w l →
      Halfway whole (rest_of (i + 1) s' ps') ps0 w0 l0 (i + 1) ps' w' l'
  halfway_next whole ps0 w0 l0 i s s' ps ps' w w' l l' p h e se pe we le half =
      let first = reacted r now i s p (wake_of kind i p) in
      let d = delivered_ahead i s ps p h e in
      let later = delivered r now kind (i + 1) first.state (drop (i + 1) ps) in
      let dp : drop (i + 1) ps' ≡ drop (i + 1) ps = rw pe (drop-set-lt (i + 1) ps i first.process (omega arith)) in
      let same : rest_of (i + 1) s' ps' ≡ later = rw (dp, se) refl in
      record {
        state = ap (λ (x : Delivered S P). x.state) same ∙ (sym (ap (λ (x : Delivered S P). x.state) d) ∙ half.state);
        processes =
            rw (ap (λ (x : Delivered S P). x.processes) same, pe, take_more_set ps i first.process h, append_assoc)
            (ap (λ (x : Delivered S P). take i ps ++ x.processes) (sym d) ∙ half.processes);
        writes = rw (ap (λ (x : Delivered S P). x.writes) same, we, append_assoc) (ap (λ (x : Delivered S P). w ++ x.writes) (sym d) ∙ half.writes);
        lines = rw (ap (λ (x : Delivered S P). x.lines) same, le, append_assoc) (ap (λ (x : Delivered S P). l ++ x.lines) (sym d) ∙ half.lines);
        ahead = dp ∙ drop_along i ps ps0 half.ahead;
        size = rw pe (length-set ps i first.process) ∙ half.size;
      }

  pub halfway_done : (whole : Delivered S P) (ps0 : List Process) (w0 : List (Written P)) (l0 : List Line) (i : ℕ)
      (s : S) (ps : List Process) (w : List (Written P)) (l : List Line) → i ≡ length ps → Halfway whole (rest_of i s ps) ps0 w0 l0 i ps w l →
      (s ≡ whole.state) × (ps ≡ whole.processes) × (w ≡ w0 ++ whole.writes) × (l ≡ l0 ++ whole.lines)
  halfway_done whole ps0 w0 l0 i s ps w l e half =
      let d : drop i ps ≡ [] = rw e (drop-length ps) in
      let t : take i ps ≡ ps = rw e (take-length ps) in
      let end : rest_of i s ps ≡ record { state = s; processes = []; writes = []; lines = [] } = rw d refl in (
        sym (ap (λ (x : Delivered S P). x.state) end) ∙ half.state,
        sym (ap (λ (x : Delivered S P). take i ps ++ x.processes) end ∙ (append-nil (take i ps) ∙ t)) ∙ half.processes,
        sym (ap (λ (x : Delivered S P). w ++ x.writes) end ∙ append-nil w) ∙ half.writes,
        sym (ap (λ (x : Delivered S P). l ++ x.lines) end ∙ append-nil l) ∙ half.lines,
      )

-- a choice that comes to something was made, and that is what it comes to
pub chosen : {A : Type 0} (b : Bool) (x y : A) → cond b (Some x) None ≡ Some y → (b ≡ true) × (x ≡ y)
chosen b x y = elim b as (λ v. cond v (Some x) None ≡ Some y → (v ≡ true) × (x ≡ y)) [ true ↦ (λ e. (refl, cc)) | false ↦ (λ e. cc) ]

pub both_hold : (a b : Bool) → (a && b) ≡ true → (a ≡ true) × (b ≡ true)
both_hold a b = elim a as (λ v. (v && b) ≡ true → (v ≡ true) × (b ≡ true)) [ true ↦ (λ e. (refl, e)) | false ↦ (λ e. cc) ]

pub admitted : {P : Type 0} (kind : Kind P) (i : ℕ) (p : Process) (ps : List Process) (wake : Wake P) →
    slice_get ps i ≡ Some p → IsTimely kind ps → wake_of kind i p ≡ Some wake → Admits p.wait wake
admitted Begin i p ps wake place t e = let q : BeginWake ≡ wake = cc in subst (λ v. Admits p.wait v) q tt
admitted (Timer process ticket) i p ps wake place t e =
    let c = chosen (nat_eq process i && nat_eq ticket p.ticket) TimerWake wake e in
    let b = both_hold (nat_eq process i) (nat_eq ticket p.ticket) c.0 in
    let here : process ≡ i = eqb-true process i b.0 in
    let present : ticket ≡ p.ticket = eqb-true ticket p.ticket b.1 in
    let found : slice_get ps process ≡ Some p = rw here place in
    subst (λ v. Admits p.wait v) c.1 ((rw found at t) present)
admitted (Message channel payload) i p ps wake place t e =
    let c = chosen (waits_on p.wait channel) (MessageWake channel payload) wake e in
    subst (λ v. Admits p.wait v) c.1 c.0

carried_by : {P : Type 0} (carried : P → Type 0) (kind : Kind P) (i : ℕ) (p : Process) (wake : Wake P) →
    IsCarried carried kind → wake_of kind i p ≡ Some wake → Carries carried wake
carried_by carried Begin i p wake k e = let q : BeginWake ≡ wake = cc in subst (λ v. Carries carried v) q tt
carried_by carried (Timer process ticket) i p wake k e =
    let c = chosen (nat_eq process i && nat_eq ticket p.ticket) TimerWake wake e in subst (λ v. Carries carried v) c.1 tt
carried_by carried (Message channel payload) i p wake k e =
    let c = chosen (waits_on p.wait channel) (MessageWake channel payload) wake e in subst (λ v. Carries carried v) c.1 k

found_at : (ps : List Process) (i : ℕ) (p : Process) → i < length ps → get_or ps i p ≡ p → slice_get ps i ≡ Some p
found_at ps i p h e = slice_get_read ps (length ps) i p refl h (sym e)

found_ahead : (ps ps0 : List Process) (i : ℕ) (p : Process) → i < length ps → length ps ≡ length ps0 → drop i ps ≡ drop i ps0 → get_or ps i p ≡ p → slice_get ps0 i ≡ Some p
found_ahead ps ps0 i p h n d e =
    let a = get_or-drop i ps 0 p in
    let b = get_or-drop i ps0 0 p in
    let z : i + 0 ≡ i = omega arith in
    let e0 : get_or ps0 i p ≡ p = rw z at (sym b) ∙ (ap (λ xs. get_or xs 0 p) (sym d) ∙ (rw z at a ∙ e)) in
    found_at ps0 i p (omega arith) e0

-- what a process that an event wakes needs
pub ready_at : {S P : Type 0} (valid : Validity S) (carried : P → Type 0) (now : ℕ) (kind : Kind P) (s : S) (ins outs : List ℕ) (ps ps0 : List Process) (i : ℕ) →
    valid s ins outs (map is_timed ps) (map wait_of ps) → now ≤ LatestTime → IsTimely kind ps0 → IsCarried carried kind →
    drop i ps ≡ drop i ps0 → length ps ≡ length ps0 → i < length ps →
    (p : Process) → get_or ps i p ≡ p → (wake : Wake P) → wake_of kind i p ≡ Some wake → IsReady valid carried s i now wake
ready_at valid carried now kind s ins outs ps ps0 i v t timely k d n h p e wake w = record {
  ins = ins;
  outs = outs;
  timed = map is_timed ps;
  waits = map wait_of ps;
  wait = p.wait;
  is_valid = v;
  waiting = slice_get-map wait_of ps i ∙ ap (λ o. option_map wait_of o) (found_at ps i p h e);
  admits = admitted kind i p ps0 wake (found_ahead ps ps0 i p h n d e) timely w;
  carries = carried_by carried kind i p wake k w;
  time = t;
}

reacted_valid : {S P : Type 0} (valid : Validity S) (carried : P → Type 0) (r : Reaction S P) (now : ℕ) (s : S) (ins outs : List ℕ) (ps : List Process) (i : ℕ) (p : Process)
    (w : Option (Wake P)) → valid s ins outs (map is_timed ps) (map wait_of ps) → get_or ps i p ≡ p →
    ((wake : Wake P) → w ≡ Some wake → Keeps valid carried ins outs (map is_timed ps) (map wait_of ps) i (r s i now wake)) →
    valid (reacted r now i s p w).state ins outs (map is_timed (set ps i (reacted r now i s p w).process)) (map wait_of (set ps i (reacted r now i s p w).process))
reacted_valid valid carried r now s ins outs ps i p None v e k =
    let same : set ps i p ≡ ps = (ap (λ q. set ps i q) (sym e)) ∙ set-get_or ps i p in rw same v
reacted_valid valid carried r now s ins outs ps i p (Some wake) v e k =
    let q = (reacted r now i s p (Some wake)).process in
    let timed = map-set_same is_timed ps i q p (ap is_timed (sym e)) in
    rw (timed, map-set wait_of ps i q) ((k wake refl).stays)

module _ {S P : Type 0} (valid : Validity S) (carried : P → Type 0) (r : Reaction S P) (law : KeepsValid valid carried r) (now : ℕ) (kind : Kind P)
    (timely_now : now ≤ LatestTime) (carries : IsCarried carried kind) where
  pub valid_after : (s s' : S) (ins outs : List ℕ) (ps ps0 ps' : List Process) (i : ℕ) →
      valid s ins outs (map is_timed ps) (map wait_of ps) → IsTimely kind ps0 → drop i ps ≡ drop i ps0 → length ps ≡ length ps0 → i < length ps →
      (p : Process) → get_or ps i p ≡ p →
      s' ≡ (reacted r now i s p (wake_of kind i p)).state → ps' ≡ set ps i (reacted r now i s p (wake_of kind i p)).process →
      valid s' ins outs (map is_timed ps') (map wait_of ps')
  valid_after s s' ins outs ps ps0 ps' i v timely d n h p e se pe =
      rw (se, pe) (reacted_valid valid carried r now s ins outs ps i p (wake_of kind i p) v e
      (λ wake w. law s i now wake (record {
        ins = ins;
        outs = outs;
        timed = map is_timed ps;
        waits = map wait_of ps;
        wait = p.wait;
        is_valid = v;
        waiting = slice_get-map wait_of ps i ∙ ap (λ o. option_map wait_of o) (found_at ps i p h e);
        admits = admitted kind i p ps0 wake (found_ahead ps ps0 i p h n d e) timely w;
        carries = carried_by carried kind i p wake carries w;
        time = timely_now;
      })))

  pub delivering_next : (whole : Delivered S P) (ps0 : List Process) (w0 : List (Written P)) (l0 : List Line) (ins outs : List ℕ) (i : ℕ)
      (s s' : S) (ps ps' : List Process) (w w' : List (Written P)) (l l' : List Line) → IsTimely kind ps0 → i < length ps →
      ((p : Process) → get_or ps i p ≡ p → s' ≡ (reacted r now i s p (wake_of kind i p)).state) →
      ((p : Process) → get_or ps i p ≡ p → ps' ≡ set ps i (reacted r now i s p (wake_of kind i p)).process) →
      ((p : Process) → get_or ps i p ≡ p → w' ≡ w ++ (reacted r now i s p (wake_of kind i p)).writes) →
      ((p : Process) → get_or ps i p ≡ p → l' ≡ l ++ (reacted r now i s p (wake_of kind i p)).lines) →
      Halfway whole (rest_of r now kind i s ps) ps0 w0 l0 i ps w l → valid s ins outs (map is_timed ps) (map wait_of ps) →
      (Halfway whole (rest_of r now kind (i + 1) s' ps') ps0 w0 l0 (i + 1) ps' w' l') × valid s' ins outs (map is_timed ps') (map wait_of ps')
  delivering_next whole ps0 w0 l0 ins outs i s s' ps ps' w w' l l' timely h se pe we le half v =
      let d0 : Process = record { wait = Forever; ticket = 0; timer = None } in
      let p = get_or ps i d0 in
      let e : get_or ps i p ≡ p = get_or_default ps i p d0 h in (
        halfway_next r now kind whole ps0 w0 l0 i s s' ps ps' w w' l l' p h e (se p e) (pe p e) (we p e) (le p e) half,
        valid_after s s' ins outs ps ps0 ps' i v timely half.ahead half.size h p e (se p e) (pe p e),
      )

-- the tickets of the processes still to come are as they were
pub ticket_ahead : (ps ps0 : List Process) (i most : ℕ) (p : Process) → i < length ps → length ps ≡ length ps0 → drop i ps ≡ drop i ps0 → get_or ps i p ≡ p →
    ((k : ℕ) (q : Process) → k < length ps0 → (get_or ps0 k q).ticket < most) → p.ticket < most
ticket_ahead ps ps0 i most p h n d e all =
    let f : get_or ps0 i p ≡ p = get_or_from_slice_get ps0 i p p (found_ahead ps ps0 i p h n d e) in
    rw f at (all i p (omega arith))
