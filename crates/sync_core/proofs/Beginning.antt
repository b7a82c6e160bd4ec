-- The parts that a plan's shares make are those before any step.
use Rattle.std.proofs.Common.{ℕ, zero, suc, ◌≡◌, ◌≤◌, Bool, true, false, not, nat_lt, ◌&&◌, refl, sym, ap, ◌∙◌, subst, arith, List, [], ◌∷◌, map, length, Option, Some, None, slice_get, inl, inr, eq-eqb}
use Rattle.std.specs.List.{range_with_len}
use Rattle.std.proofs.lemmas.List.FromFn.{length-map-range_with_len, get_or-map-range_with_len}
use Rattle.std.proofs.lemmas.Option.{slice_get_within, get_or_from_slice_get}
use Rattle.event_order.specs.Pending.{Among}
use Rattle.ssf_model.specs.declared.plan.Mapping.{Mapping}
use Rattle.ssf_model.specs.declared.plan.Plan.{Plan}
use Rattle.ssf_model.specs.Reaction.{Each, LatestTime, Validity}
use Rattle.ssf_model.specs.Run.{IsWired, IsMappingOf, Fits}
use Rattle.run_health.specs.Joined.{IsAligned}
use Rattle.alignment.specs.declared.labels.Mode.{Mode}
use Rattle.alignment.specs.Alignment.{IsAlignment, line_of, timeline_count}
use Rattle.alignment.specs.Classes.{is_cross, least_windowed, Classified, classified}
use Rattle.alignment.proofs.Lawful.{least_some, together_each}
use Rattle.timeline_parts.specs.declared.part.Cross.{Cross}
use Rattle.timeline_parts.specs.declared.part.Part.{Part}
use Rattle.timeline_parts.specs.Parts.{IsPart, channel_of}
use Rattle.timeline_parts.specs.Tables.{AreRising}
use Rattle.timeline.specs.View.{TimelineOf}
use Rattle.timeline.specs.Opening.{IsFirst}
use Rattle.plan_shares.specs.declared.crosses.CrossEnd.{CrossEnd}
use Rattle.plan_shares.specs.declared.shares.Shares.{Shares}
use Rattle.plan_shares.specs.Shares.{share_of, shares_of, crosses_of, end_of}
use Rattle.plan_shares.proofs.InOrder.{share_in_order, crosses_rise}
use Rattle.appointments.specs.Mails.{Mails, first_mails}
use Rattle.barrier_window.specs.BarrierFields.{IsLookahead}
use Rattle.barrier_window.specs.Crossings.{first_barrier}
use Rattle.core_rules.specs.Cores.{CoreView, channel_in}
use Rattle.core_rules.specs.Beginning.{IsFirstCore}
use Rattle.sync_core.specs.Cores.{AreFirst, IsOneOf, IsOrdered, first_mail_of}
use Rattle.sync_core.proofs.Opening.{first_has_crosses, first_length, first_each}

-- ---- channels

pub end_channels : (lines : List ℕ) (xs : List Cross) → map channel_in (map (end_of lines) xs) ≡ map channel_of xs
end_channels lines [] = refl
end_channels lines (x ∷ xs) = ap (λ cs. channel_of x ∷ cs) (end_channels lines xs)

each_among : {T : Type 0} (P : T → Type 0) (xs : List T) (x : T) → Each P xs → Among x xs → P x
each_among P [] x all a = absurd a
each_among P (y ∷ ys) x all (inl e) = subst P (sym e) all.0
each_among P (y ∷ ys) x all (inr a) = each_among P ys x all.1 a

both : (a b : Bool) → (a && b) ≡ true → a ≡ true
both true b h = refl
both false b h = h

module _ {B S P : Type 0} (plan : Plan B S P) (wired : IsWired plan) (lines : List ℕ) (threshold : ℕ) where
  -- the least delay of windowed mappings is one of at least a tick
  pub lookahead_is : IsAligned plan (line_of lines) → (found : Option ℕ) → found ≡ least_windowed lines threshold plan.mappings → IsLookahead found
  lookahead_is aligned None is = tt
  lookahead_is aligned (Some d) is =
      let least = least_some lines threshold plan.mappings d (sym is) in
      let m = least.0 in
      let delay : m.delay ≡ d = least.3 in
      let cross : is_cross lines m ≡ true = both (is_cross lines m) (not (nat_lt m.delay threshold)) least.2 in
      let most = (each_among (IsMappingOf plan.entities) plan.mappings m wired.mappings least.1).delay in
      let some : d ≡ 0 → ⊥ = λ none. let same = each_among (λ (k : Mapping). k.delay ≡ 0 → line_of lines k.from ≡ line_of lines k.to) plan.mappings m aligned least.1 (delay ∙ none) in
      let t = eq-eqb (line_of lines m.from) (line_of lines m.to) same in
      let no : is_cross lines m ≡ false = rw t refl in absurd (cc) in
      (positive d some, omega (arith, most, delay))
    where
      positive : (n : ℕ) → (n ≡ 0 → ⊥) → 1 ≤ n
      positive zero h = absurd (h refl)
      positive (suc n) h = omega arith

  pub ends_rise : (ends : List CrossEnd) → ends ≡ (shares_of plan lines threshold).ends → AreRising (map channel_in ends)
  ends_rise ends is = subst (λ (es : List CrossEnd). AreRising (map channel_in es)) (sym is)
      (subst AreRising (sym (end_channels lines (crosses_of lines threshold plan.mappings))) (crosses_rise plan wired lines threshold))

  share_at : (n i : ℕ) (p : Part B S P) → slice_get (map (share_of plan lines threshold) (range_with_len 0 n)) i ≡ Some p → p ≡ share_of plan lines threshold i
  share_at n i p at =
      let size = length-map-range_with_len (share_of plan lines threshold) 0 n in
      let within = slice_get_within (map (share_of plan lines threshold) (range_with_len 0 n)) i p at in
      sym (get_or_from_slice_get (map (share_of plan lines threshold) (range_with_len 0 n)) i p p at)
      ∙ get_or-map-range_with_len (share_of plan lines threshold) 0 n i i p (omega (arith, size, within)) (omega arith)

  share_among : {valid : Validity S} {carried : P → Type 0} → Fits valid carried plan → (xs : List ℕ) (p : Part B S P) → Among p (map (share_of plan lines threshold) xs) → IsPart p
  share_among fits [] p a = absurd a
  share_among fits (i ∷ is) p (inl e) = subst IsPart (sym e) (share_in_order plan wired lines fits threshold i)
  share_among fits (i ∷ is) p (inr a) = share_among fits is p a

  pub parts_are : {valid : Validity S} {carried : P → Type 0} → Fits valid carried plan → (parts : List (Part B S P)) → parts ≡ (shares_of plan lines threshold).parts → (p : Part B S P) → Among p parts → IsPart p
  parts_are fits parts is p a = share_among fits (range_with_len 0 (timeline_count lines)) p (subst (λ (ps : List (Part B S P)). Among p ps) is a)

  -- ---- timelines and mails

  mail_at_first : (ts : List (TimelineOf B S P)) (i : ℕ) (mail : Mails P) → slice_get (map first_mail_of ts) i ≡ Some mail → (t : TimelineOf B S P) × (slice_get ts i ≡ Some t) × (mail ≡ first_mail_of t)
  mail_at_first [] i mail h = absurd (cc)
  mail_at_first (t ∷ ts) zero mail h = (t, refl, cc)
  mail_at_first (t ∷ ts) (suc i) mail h = mail_at_first ts i mail h

  mails_length : (ts : List (TimelineOf B S P)) → length (map first_mail_of ts) ≡ length ts
  mails_length [] = refl
  mails_length (t ∷ ts) = ap suc (mails_length ts)

  module _ (until budget : ℕ) (ts : List (TimelineOf B S P)) (all : AreFirst until budget (shares_of plan lines threshold).parts ts) where
    first_at : (i : ℕ) (t : TimelineOf B S P) → slice_get ts i ≡ Some t → IsFirst (share_of plan lines threshold i) until budget t
    first_at i t at =
        let found = first_each until budget (shares_of plan lines threshold).parts ts i t all at in
        subst (λ (p : Part B S P). IsFirst p until budget t) (share_at (timeline_count lines) i found.0 found.1) found.2

    count_is : length ts ≡ timeline_count lines
    count_is = first_length until budget (shares_of plan lines threshold).parts ts all ∙ length-map-range_with_len (share_of plan lines threshold) 0 (timeline_count lines)

    pub ins_rise : {valid : Validity S} {carried : P → Type 0} → Fits valid carried plan → (i : ℕ) (t : TimelineOf B S P) → slice_get ts i ≡ Some t → AreRising (map channel_of t.ins)
    ins_rise fits i t at =
        let q = first_at i t at in
        subst (λ (xs : List Cross). AreRising (map channel_of xs)) (sym q.ins) (share_in_order plan wired lines fits threshold i).ins

    pub first_core : (core : CoreView B S P) → core.behaviour ≡ plan.behaviour → core.before ≡ plan.before → core.starts ≡ (shares_of plan lines threshold).starts
        → core.until ≡ until → core.budget ≡ budget → core.timelines ≡ ts → core.mails ≡ map first_mail_of ts → core.ends ≡ (shares_of plan lines threshold).ends
        → core.barrier ≡ first_barrier (timeline_count lines) (map channel_in core.ends) (least_windowed lines threshold plan.mappings) until
        → IsFirstCore plan lines threshold until budget core
    first_core core behaviour before starts last most timelines mails ends barrier = record {
      kept = record { behaviour = behaviour; before = before; starts = starts };
      last = last;
      most = most;
      timelines = ap length timelines ∙ count_is;
      each = λ i t at. first_at i t (subst (λ (us : List (TimelineOf B S P)). slice_get us i ≡ Some t) timelines at);
      mails = ap length mails ∙ (mails_length ts ∙ count_is);
      each_mail = λ i mail at. one_mail i mail (subst (λ (ms : List (Mails P)). slice_get ms i ≡ Some mail) mails at);
      barrier = barrier ∙ ap (λ cs. first_barrier (timeline_count lines) cs (least_windowed lines threshold plan.mappings) until) (ap (map channel_in) ends ∙ end_channels lines (crosses_of lines threshold plan.mappings));
      ends = ends;
    }
      where
        one_mail : (i : ℕ) (mail : Mails P) → slice_get (map first_mail_of ts) i ≡ Some mail → mail ≡ first_mails (map channel_of (share_of plan lines threshold i).ins)
        one_mail i mail at =
            let found = mail_at_first ts i mail at in
            let q = first_at i found.0 found.1 in
            found.2 ∙ ap (λ (xs : List Cross). first_mails (map channel_of xs)) q.ins

    -- and what holds of all parts at any time holds of them
    pub first_ordered : (core : CoreView B S P) → core.until ≡ until → until ≤ LatestTime → core.timelines ≡ ts → core.ends ≡ (shares_of plan lines threshold).ends → IsOrdered core
    first_ordered core last most timelines ends = record {
      until = omega (arith, last, most);
      rising = ends_rise core.ends ends;
      each = λ i t at. subst (λ n. IsOneOf n t) (sym last) (first_has_crosses (share_of plan lines threshold i) until budget t (first_at i t (subst (λ (us : List (TimelineOf B S P)). slice_get us i ≡ Some t) timelines at)));
    }

-- ---- all of it, by what the code made

pub among_get : {T : Type 0} (xs : List T) (x : T) → Among x xs → (i : ℕ) × (slice_get xs i ≡ Some x)
among_get [] x a = absurd a
among_get (y ∷ ys) x (inl e) = (0, ap Some (sym e))
among_get (y ∷ ys) x (inr a) = let r = among_get ys x a in (suc r.0, r.1)

module _ {B S P : Type 0} (plan : Plan B S P) {valid : Validity S} {carried : P → Type 0} (fits : Fits valid carried plan) (lines : List ℕ) (threshold : ℕ) (shares : Shares B S P)
    (same : shares ≡ shares_of plan lines threshold) where
  pub rise_of : (ends : List CrossEnd) → ends ≡ shares.ends → AreRising (map channel_in ends)
  rise_of ends is = ends_rise plan fits.wired lines threshold ends (is ∙ ap (λ (x : Shares B S P). x.ends) same)

  pub parts_of : (parts : List (Part B S P)) → parts ≡ shares.parts → (p : Part B S P) → Among p parts → IsPart p
  parts_of parts is = parts_are plan fits.wired lines threshold fits parts (is ∙ ap (λ (x : Shares B S P). x.parts) same)

  pub lookahead_of : (nets : List ℕ) (mode : Mode) → IsAlignment plan nets mode lines → (classes : Classified) (found : Option ℕ) → classes ≡ classified lines threshold plan.mappings
      → found ≡ classes.least_windowed → IsLookahead found
  lookahead_of nets mode aligned classes found is at =
      lookahead_is plan fits.wired lines threshold (together_each plan nets mode lines fits.wired aligned) found (at ∙ ap (λ (x : Classified). x.least_windowed) is)

  module _ (until budget : ℕ) (parts : List (Part B S P)) (part_is : parts ≡ shares.parts) (ts : List (TimelineOf B S P)) (all : AreFirst until budget parts ts) where
    all_first : AreFirst until budget (shares_of plan lines threshold).parts ts
    all_first = subst (λ (ps : List (Part B S P)). AreFirst until budget ps ts) (part_is ∙ ap (λ (x : Shares B S P). x.parts) same) all

    pub mails_rise : (us : List (TimelineOf B S P)) → us ≡ ts → (t : TimelineOf B S P) → Among t us → AreRising (map channel_of t.ins)
    mails_rise us is t a =
        let found = among_get ts t (subst (λ (vs : List (TimelineOf B S P)). Among t vs) is a) in
        ins_rise plan fits.wired lines threshold until budget ts all_first fits found.0 t found.1

    module _ (ends : List CrossEnd) (end_is : ends ≡ shares.ends) (core : CoreView B S P) (last : core.until ≡ until) (timelines : core.timelines ≡ ts) (kept : core.ends ≡ ends) where
      pub ordered_first : until ≤ LatestTime → IsOrdered core
      ordered_first most = first_ordered plan fits.wired lines threshold until budget ts all_first core last most timelines (kept ∙ (end_is ∙ ap (λ (x : Shares B S P). x.ends) same))

      pub core_first : core.behaviour ≡ shares.behaviour → core.before ≡ shares.before → core.starts ≡ shares.starts → core.budget ≡ budget → core.mails ≡ map first_mail_of ts
          → (classes : Classified) (others : List CrossEnd) (count : ℕ) (found : Option ℕ) → classes ≡ classified lines threshold plan.mappings → others ≡ shares.ends → count ≡ timeline_count lines → found ≡ classes.least_windowed
          → core.barrier ≡ first_barrier count (map channel_in others) found until → IsFirstCore plan lines threshold until budget core
      core_first behaviour before starts most mails classes others count found is other_is count_is at barrier =
          first_core plan fits.wired lines threshold until budget ts all_first core
          (behaviour ∙ ap (λ (x : Shares B S P). x.behaviour) same) (before ∙ ap (λ (x : Shares B S P). x.before) same) (starts ∙ ap (λ (x : Shares B S P). x.starts) same)
          last most timelines mails (kept ∙ (end_is ∙ ap (λ (x : Shares B S P). x.ends) same))
          (barrier ∙ (ap (λ n. first_barrier n (map channel_in others) found until) count_is
          ∙ (ap (λ (es : List CrossEnd). first_barrier (timeline_count lines) (map channel_in es) found until) (other_is ∙ (sym end_is ∙ sym kept))
          ∙ ap (λ f. first_barrier (timeline_count lines) (map channel_in core.ends) f until) (at ∙ ap (λ (x : Classified). x.least_windowed) is))))
