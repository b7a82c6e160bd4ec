-- Parts that have a plan and have done nothing are sound.
use Rattle.std.proofs.Common.{◌≡◌, ℕ, zero, suc, ◌+◌, ◌<◌, ◌≤◌, Bool, true, false, cond, not, ◌&&◌, nat_eq, List, [], ◌∷◌, length, map, replicate, refl, sym, ap, ◌∙◌, subst, inl, inr, arith, eq-eqb, eqb-true, Option, Some, None, option_map, unwrap_or, slice_get}
use mathlib.Core.Path.{fun_ext}
use Rattle.std.specs.List.{filter, enumerate_from}
use Rattle.event_order.specs.declared.key.Key.{Key}
use Rattle.event_order.specs.Pending.{Among}
use Rattle.event_order.proofs.Pending.{test_cases, among_filter, filter_among}
use Rattle.ssf_model.specs.declared.event.Event.{Event}
use Rattle.ssf_model.specs.declared.plan.Mapping.{Mapping}
use Rattle.ssf_model.specs.declared.plan.Plan.{Plan}
use Rattle.ssf_model.specs.Reaction.{Reaction, Validity, LatestTime}
use Rattle.ssf_model.specs.Run.{States, Fits, counts_of}
use Rattle.ssf_model.specs.Scene.{Scene, Net, scene_of}
use Rattle.run_health.specs.Healthy.{MostEvents}
use Rattle.run_health.specs.Groups.{IsWriterOn}
use Rattle.sync_facts.specs.Nets.{net_of}
use Rattle.sync_rules.specs.Parts.{Line, MailOf, BarrierOf, CoreOf}
use Rattle.sync_rules.specs.Bounds.{IsInto, IsOutOf}
use Rattle.sync_rules.specs.Shared.{IsShared}
use Rattle.sync_rules.specs.Sound.{IsSoundLine, IsSoundMail, IsSoundBarrier, IsSoundCore, HasDone}
use Rattle.sync_rules.specs.Steps.{first_line, first_mail, first_core}
use Rattle.sync_rules.specs.Steps.{first_barrier as first_by_rule}
use Rattle.sync_rules.proofs.Wholes.{first_core_is_sound}
use Rattle.timeline_parts.specs.declared.ends.InEnd.{InEnd}
use Rattle.timeline_parts.specs.declared.part.Cross.{Cross}
use Rattle.timeline_parts.specs.declared.part.Part.{Part}
use Rattle.timeline_parts.specs.Parts.{IsPart, channel_of}
use Rattle.timeline_parts.specs.Sending.{count_of}
use Rattle.timeline_parts.specs.Tables.{numbers_of, AreRising, item_at}
use Rattle.timeline_parts.proofs.Tables.{known_item}
use Rattle.timeline.specs.View.{TimelineOf, mapping_of}
use Rattle.timeline.specs.Lines.{line_of as line_at}
use Rattle.timeline.specs.Opening.{first_in, IsFirst}
use Rattle.timeline.specs.Sound.{is_outgoing, IsShareOf, IsSoundTimeline, IsRunOnLines}
use Rattle.timeline.proofs.Kept.{numbers_first_in, numbers_first_out}
use Rattle.timeline.proofs.Opened.{first_as, first_sound}
use Rattle.alignment.specs.Alignment.{line_of, timeline_count}
use Rattle.alignment.specs.Classes.{is_cross, least_windowed}
use Rattle.plan_shares.specs.declared.crosses.CrossEnd.{CrossEnd}
use Rattle.plan_shares.specs.Shares.{is_on, cross_of, crosses_of, share_of, end_of, channels_on}
use Rattle.plan_shares.specs.Laws.{IsOn, IsPartIn}
use Rattle.plan_shares.proofs.Between.{share_in_net, lookahead_same}
use Rattle.plan_shares.proofs.Channels.{writer_counted, counted_as}
use Rattle.plan_shares.proofs.Crossing.{stands_at}
use Rattle.plan_shares.proofs.InOrder.{crosses_rise, entity_at, share_in_order}
use Rattle.appointments.specs.Mails.{ChannelMail, Mails, mail_at, row_at, no_mail, first_mails}
use Rattle.barrier_window.specs.BarrierFields.{BarrierFields}
use Rattle.barrier_window.specs.Crossings.{first_barrier}
use Rattle.sync_steps.specs.Between.{IsMailOf}
use Rattle.sync_steps.specs.Sounds.{mail_as, number_of, has_least, least_in, barrier_as, HaveTheirPlaces}
use Rattle.core_rules.specs.Cores.{CoreView, channel_in, line_or, mail_or, core_as, IsBarrierOf, AreEndsOf, IsPartOf, IsSoundFor, IsCoreOfRun}
use Rattle.core_rules.specs.Beginning.{IsFirstCore}
use Rattle.core_rules.proofs.Lists.{none_some, one_of, got_at, get_map}

-- ---- lists

module _ {T : Type 0} where
  get_among : (xs : List T) (i : ℕ) (x : T) → slice_get xs i ≡ Some x → Among x xs
  get_among [] i x h = absurd (none_some x h)
  get_among (y ∷ ys) zero x h = inl (sym (one_of y x h))
  get_among (y ∷ ys) (suc i) x h = inr (get_among ys i x h)

among_map : {T U : Type 0} (f : T → U) (x : T) (xs : List T) → Among x xs → Among (f x) (map f xs)
among_map f x [] a = absurd a
among_map f x (y ∷ ys) (inl e) = inl (ap f e)
among_map f x (y ∷ ys) (inr a) = inr (among_map f x ys a)

map_among : {T U : Type 0} (f : T → U) (u : U) (xs : List T) → Among u (map f xs) → (x : T) × Among x xs × (f x ≡ u)
map_among f u [] a = absurd a
map_among f u (y ∷ ys) (inl e) = (y, inl refl, sym e)
map_among f u (y ∷ ys) (inr a) = (let q = map_among f u ys a in (q.0, inr q.1, q.2))

-- in a list in the rising order of channels a channel has one item
one_cross : (xs : List Cross) (x y : Cross) → AreRising (map channel_of xs) → Among x xs → Among y xs → channel_of x ≡ channel_of y → x ≡ y
one_cross [] x y rising a b same = absurd a
one_cross (z ∷ zs) x y rising (inl e) (inl f) same = e ∙ sym f
one_cross (z ∷ zs) x y rising (inl e) (inr b) same = absurd (let less = rising.0 (channel_of y) (among_map channel_of y zs b) in let here : channel_of x ≡ channel_of z = ap channel_of e in omega arith)
one_cross (z ∷ zs) x y rising (inr a) (inl f) same = absurd (let less = rising.0 (channel_of x) (among_map channel_of x zs a) in let here : channel_of y ≡ channel_of z = ap channel_of f in omega arith)
one_cross (z ∷ zs) x y rising (inr a) (inr b) same = one_cross zs x y rising.1 a b same

map_map : {T U W : Type 0} (g : U → W) (f : T → U) (xs : List T) → map g (map f xs) ≡ map (λ x. g (f x)) xs
map_map g f [] = refl
map_map g f (x ∷ xs) = ap (λ ys. g (f x) ∷ ys) (map_map g f xs)

-- ---- the share of a timeline

-- the mappings that lead from timeline i to others
and_cases : (a c : Bool) → (not a && c) ≡ (c && not a)
and_cases true true = refl
and_cases true false = refl
and_cases false true = refl
and_cases false false = refl

module _ (lines : List ℕ) (i : ℕ) where
  outgoing_first : (m : Mapping) → nat_eq (line_of lines m.from) i ≡ true → is_cross lines m ≡ is_outgoing (line_of lines) i m
  outgoing_first m h =
      let same : line_of lines m.from ≡ i = eqb-true (line_of lines m.from) i h in
      rw h (ap not (ap (λ n. nat_eq n (line_of lines m.to)) same ∙ turned i (line_of lines m.to)))
    where
      turned : (a b : ℕ) → nat_eq a b ≡ nat_eq b a
      turned a b = elim (test_cases (nat_eq a b)) [
        | inl t ↦ t ∙ sym (eq-eqb b a (sym (eqb-true a b t)))
        | inr f ↦ elim (test_cases (nat_eq b a)) [
          | inl t ↦ absurd (let other : nat_eq a b ≡ true = eq-eqb a b (sym (eqb-true b a t)) in cc)
          | inr g ↦ f ∙ sym g
        ]
      ]

  crossing_from : (ms : List Mapping) → filter (λ m. is_on lines i m.from) (filter (is_cross lines) ms) ≡ filter (is_outgoing (line_of lines) i) ms
  crossing_from [] = refl
  crossing_from (m ∷ ms) = elim (test_cases (nat_eq (line_of lines m.from) i)) [
    | inr f ↦ elim (test_cases (is_cross lines m)) [
      | inl t ↦ rw (t, f) (crossing_from ms)
      | inr n ↦ rw (n, f) (crossing_from ms)
    ]
    | inl t ↦ (let same : is_cross lines m ≡ is_outgoing (line_of lines) i m = outgoing_first m t in elim (test_cases (is_cross lines m)) [
      | inl y ↦ (let out : is_outgoing (line_of lines) i m ≡ true = sym same ∙ y in rw (y, out) (rw t (ap (λ ks. m ∷ ks) (crossing_from ms))))
      | inr n ↦ (let out : is_outgoing (line_of lines) i m ≡ false = sym same ∙ n in rw (n, out) (crossing_from ms))
    ])
  ]

  mappings_from : (threshold n : ℕ) (ms : List Mapping) → map mapping_of (filter (λ x. is_on lines i x.mapping.from) (map (cross_of threshold) (enumerate_from n ms))) ≡ filter (λ m. is_on lines i m.from) ms
  mappings_from threshold n [] = refl
  mappings_from threshold n (m ∷ ms) = elim (test_cases (is_on lines i m.from)) [
    | inl t ↦ rw t (ap (λ ks. m ∷ ks) (mappings_from threshold (n + 1) ms))
    | inr f ↦ rw f (mappings_from threshold (n + 1) ms)
  ]

module _ {B S P : Type 0} {valid : Validity S} {carried : P → Type 0} (plan : Plan B S P) (fits : Fits valid carried plan) (lines : List ℕ) (threshold : ℕ) where
  abbrev net : Net
  net = net_of plan (line_of lines) (timeline_count lines) threshold

  abbrev crosses : List Cross
  crosses = crosses_of lines threshold plan.mappings

  module _ (i : ℕ) where
    abbrev share : Part B S P
    share = share_of plan lines threshold i

    placed : IsPartIn net i share
    placed = share_in_net plan fits.wired lines threshold (timeline_count lines) i

    pub in_order : IsPart share
    in_order = share_in_order plan fits.wired lines fits threshold i

    its_entity : (k : ℕ) → Among k (numbers_of share.entities) → line_of lines k ≡ i
    its_entity k a =
        let found = known_item k share.entities a in
        let at : cond (is_on lines i k) (slice_get plan.entities k) None ≡ Some found.0 = sym (entity_at lines i k plan.entities) ∙ found.1 in
        elim (test_cases (is_on lines i k)) [
          | inl t ↦ eqb-true (line_of lines k) i t
          | inr f ↦ absurd (none_some found.0 (let none : None ≡ Some found.0 = rw f at at in none))
        ]

    its_count : (k c : ℕ) → line_of lines k ≡ i → IsWriterOn plan k c → item_at c share.counts ≡ Some (counts_of plan.counts c)
    its_count k c on writes =
        let a : Among c (numbers_of share.counts) = writer_counted plan lines i c (k, on, writes) in
        let found = known_item c share.counts a in
        let is : count_of share.counts c ≡ counts_of plan.counts c = counted_as plan.counts (channels_on plan lines i) c a in
        let here : count_of share.counts c ≡ found.0 = ap (λ (o : Option ℕ). unwrap_or o 0) found.1 in
        found.1 ∙ ap (λ n. Some n) (sym here ∙ is)

    in_told : (x : Cross) → Among x share.ins → IsInto net i x.mapping.channel × (x.appointed ≡ net.appointed x.mapping.channel)
    in_told x a =
        let to : IsInto net i (channel_of x) = placed.into x a in
        let on : IsOn net (channel_of x) share.ins = placed.ins (channel_of x) to in
        let same : on.cross ≡ x = one_cross share.ins on.cross x in_order.ins on.among a on.channel in
        (to, subst (λ (y : Cross). y.appointed ≡ net.appointed (channel_of x)) same on.appointed)

    out_told : (x : Cross) → Among x share.outs → IsOutOf net i x.mapping.channel × (x.appointed ≡ net.appointed x.mapping.channel) × (x.mapping.delay ≡ net.delay x.mapping.channel)
    out_told x a =
        let from : IsOutOf net i (channel_of x) = placed.out x a in
        let on : IsOn net (channel_of x) share.outs = placed.outs (channel_of x) from in
        let same : on.cross ≡ x = one_cross share.outs on.cross x in_order.outs on.among a on.channel in
        (from, subst (λ (y : Cross). y.appointed ≡ net.appointed (channel_of x)) same on.appointed, subst (λ (y : Cross). y.mapping.delay ≡ net.delay (channel_of x)) same on.delay)

    -- the share of a timeline is one for its run
    pub is_share : IsShareOf plan (line_of lines) net i share
    is_share = record {
      entities = λ k h. entity_at lines i k plan.entities ∙ (let t : nat_eq (line_of lines k) i ≡ true = eq-eqb (line_of lines k) i h in rw t refl);
      own = its_entity;
      counts = its_count;
      events = λ e a. (let q = filter_among (λ (d : Event P). is_on lines i d.entity) e plan.events a in (q.among, eqb-true (line_of lines e.entity) i q.passes));
      all_events = λ e a h. among_filter (λ (d : Event P). is_on lines i d.entity) e plan.events a (eq-eqb (line_of lines e.entity) i h);
      inside = refl;
      outside = mappings_from lines i threshold 0 (filter (is_cross lines) plan.mappings) ∙ crossing_from lines i plan.mappings;
      ins = in_told;
      all_ins = λ c to. (let on = placed.ins c to in (on.cross, on.among, on.channel));
      outs = out_told;
      all_outs = λ c from. (let on = placed.outs c from in (on.cross, on.among, on.channel));
    }

    -- the ends of channels that come to it have their places
    pub in_places : (c : ℕ) (e : InEnd) (xs : List Cross) → ((x : Cross) → Among x xs → Among x crosses) → item_at c (map first_in xs) ≡ Some e → slice_get (map channel_of crosses) e.place ≡ Some c
    in_places c e [] all found = absurd (none_some e found)
    in_places c e (x ∷ xs) all found = elim (test_cases (nat_eq c (channel_of x))) [
      | inl t ↦ (let both : Some (first_in x).1 ≡ Some e = rw t at found in
          let same : (first_in x).1 ≡ e = one_of (first_in x).1 e both in
          let stands : slice_get crosses x.place ≡ Some x = stands_at lines threshold plan.mappings x (all x (inl refl)) in
          subst (λ (d : InEnd). slice_get (map channel_of crosses) d.place ≡ Some c) same
          (get_map channel_of crosses x.place ∙ (ap (option_map channel_of) stands ∙ ap (λ n. Some n) (sym (eqb-true c (channel_of x) t)))))
      | inr f ↦ (let rest : item_at c (map first_in xs) ≡ Some e = rw f at found in in_places c e xs (λ y a. all y (inr a)) rest)
    ]

    among_crosses : (x : Cross) → Among x share.ins → Among x crosses
    among_crosses x a = (filter_among (λ (y : Cross). is_on lines i y.mapping.to) x crosses a).among

  -- ---- the channels between timelines

  cross_told : (x : Cross) → Among x crosses
      → (net.cross (channel_of x) ≡ true) × (net.sender (channel_of x) ≡ line_of lines x.mapping.from) × (net.receiver (channel_of x) ≡ line_of lines x.mapping.to)
  cross_told x a =
      let from = (placed (line_of lines x.mapping.from)).out x (among_filter (λ (y : Cross). is_on lines (line_of lines x.mapping.from) y.mapping.from) x crosses a (eq-eqb (line_of lines x.mapping.from) (line_of lines x.mapping.from) refl)) in
      let to = (placed (line_of lines x.mapping.to)).into x (among_filter (λ (y : Cross). is_on lines (line_of lines x.mapping.to) y.mapping.to) x crosses a (eq-eqb (line_of lines x.mapping.to) (line_of lines x.mapping.to) refl)) in
      (from.cross, from.sender, to.receiver)

  cross_there : (c : ℕ) → net.cross c ≡ true → (x : Cross) × Among x crosses × (channel_of x ≡ c)
  cross_there c h =
      let on = (placed (net.sender c)).outs c (record { cross = h; sender = refl }) in
      (on.cross, (filter_among (λ (y : Cross). is_on lines (net.sender c) y.mapping.from) on.cross crosses on.among).among, on.channel)

  pub ends_told : AreEndsOf net (map (end_of lines) crosses)
  ends_told = record {
    rising = subst (λ cs. AreRising cs) (sym (map_map channel_in (end_of lines) crosses)) (crosses_rise plan fits.wired lines threshold);
    each = λ e a. (let q = map_among (end_of lines) e crosses a in
        subst (λ (d : CrossEnd). (net.cross d.channel ≡ true) × (net.sender d.channel ≡ d.sender) × (net.receiver d.channel ≡ d.receiver)) q.2 (cross_told q.0 q.1));
    all = λ c h. (let q = cross_there c h in (end_of lines q.0, among_map (end_of lines) q.0 crosses q.1, q.2));
  }

  zeros_long : (n z : ℕ) → length (replicate n z) ≡ n
  zeros_long zero z = refl
  zeros_long (suc n) z = (let rest = zeros_long n z in ap (λ k. suc k) rest)

  nones_long : (n : ℕ) (o : Option ℕ) → length (replicate n o) ≡ n
  nones_long zero o = refl
  nones_long (suc n) o = (let rest = nones_long n o in ap (λ k. suc k) rest)

  abbrev barrier_at : ℕ → BarrierFields
  barrier_at until = first_barrier (timeline_count lines) (map channel_of crosses) (least_windowed lines threshold plan.mappings) until

  pub barrier_told : (r : Reaction S P) (until : ℕ) (kept : Key → Bool) → IsBarrierOf (scene_of r plan until kept (line_of lines) net) (barrier_at until)
  barrier_told r until kept = record {
    until = refl;
    lookahead = lookahead_same lines threshold plan.mappings;
    timelines = nones_long (timeline_count lines) None;
    rising = crosses_rise plan fits.wired lines threshold;
    crosses = λ c h. (let q = cross_there c h in subst (λ n. Among n (map channel_of crosses)) q.2 (among_map channel_of q.0 crosses q.1));
    only = λ c a. (let q = map_among channel_of c crosses a in subst (λ n. net.cross n ≡ true) q.2 (cross_told q.0 q.1).0);
    counts = zeros_long (length (map channel_of crosses)) 0;
    sent = zeros_long (length (map channel_of crosses)) 0;
  }

-- ---- what the rules see

no_number : (cs : List ℕ) (n c : ℕ) → number_of cs (replicate n 0) c ≡ 0
no_number [] n c = refl
no_number (k ∷ ks) zero c = refl
no_number (k ∷ ks) (suc n) c = elim (test_cases (nat_eq k c)) [ inl t ↦ rw t refl | inr f ↦ rw f (no_number ks n c) ]

none_reported : (n i : ℕ) → has_least (slice_get (replicate n None) i) ≡ false
none_reported zero i = refl
none_reported (suc n) zero = refl
none_reported (suc n) (suc i) = none_reported n i

no_least : (n i : ℕ) → least_in (slice_get (replicate n None) i) ≡ 0
no_least zero i = refl
no_least (suc n) zero = refl
no_least (suc n) (suc i) = no_least n i

first_barrier_as : (timelines until : ℕ) (cs : List ℕ) (lookahead : Option ℕ) → barrier_as (first_barrier timelines cs lookahead until) ≡ first_by_rule
first_barrier_as timelines until cs lookahead =
    ap (λ (f : ℕ → ℕ). record { round = 0; window = 0; counts = f; reported = λ i. has_least (slice_get (replicate timelines None) i); least = λ i. least_in (slice_get (replicate timelines None) i); sent = f; ended = false }) (fun_ext (no_number cs (length cs)))
    ∙ ap (λ (f : ℕ → Bool). record { round = 0; window = 0; counts = λ c. 0; reported = f; least = λ i. least_in (slice_get (replicate timelines None) i); sent = λ c. 0; ended = false }) (fun_ext (none_reported timelines))
    ∙ ap (λ (f : ℕ → ℕ). record { round = 0; window = 0; counts = λ c. 0; reported = λ i. false; least = f; sent = λ c. 0; ended = false }) (fun_ext (no_least timelines))

module _ {X E : Type 0} (s : Scene X E) where
  -- parts that are the same where there are timelines and channels are as sound
  pub alike_sound : (v : ℕ) (t u : CoreOf E) → IsSoundCore s v t → ((i : ℕ) → i < s.net.timelines → t.lines i ≡ u.lines i) → ((c : ℕ) → s.net.cross c ≡ true → t.mails c ≡ u.mails c) → t.barrier ≡ u.barrier
      → ((c : ℕ) → s.net.cross c ≡ true → s.net.sender c < s.net.timelines) → ((c : ℕ) → s.net.cross c ≡ true → s.net.receiver c < s.net.timelines) → IsSoundCore s v u
  alike_sound v t u sound lines mails barrier senders receivers = record {
    lines = λ i h. subst (λ (l : Line E). IsSoundLine s i l) (lines i h) (sound.lines i h);
    mails = λ c h. subst (λ (m : MailOf E). IsSoundMail s c m) (mails c h) (sound.mails c h);
    barrier = subst (λ (b : BarrierOf). IsSoundBarrier s v b) barrier sound.barrier;
    posted = λ c h. ap (λ (m : MailOf E). m.posted) (sym (mails c h)) ∙ (sound.posted c h ∙ ap (λ (l : Line E). l.posted c) (lines (s.net.sender c) (senders c h)));
    taken = λ c h. ap (λ (m : MailOf E). m.taken) (sym (mails c h)) ∙ (sound.taken c h ∙ ap (λ (l : Line E). l.taken c) (lines (s.net.receiver c) (receivers c h)));
    entered = λ i h. subst (λ (l : Line E). l.entered ≤ u.barrier.window) (lines i h) (subst (λ (b : BarrierOf). (t.lines i).entered ≤ b.window) barrier (sound.entered i h));
    done = λ i h. subst (λ (l : Line E). HasDone s i v l) (lines i h) (sound.done i h);
    reported = λ i h told. subst (λ (l : Line E). HasDone s i u.barrier.window l) (lines i h)
        (subst (λ (b : BarrierOf). HasDone s i b.window (t.lines i)) barrier (sound.reported i h (subst (λ (b : BarrierOf). b.reported i ≡ true) (sym barrier) told)));
  }

module _ {P : Type 0} where
  no_row : (cs : List ℕ) (n c : ℕ) → row_at {P = P} cs (replicate n no_mail) c ≡ no_mail
  no_row [] n c = refl
  no_row (k ∷ ks) zero c = refl
  no_row (k ∷ ks) (suc n) c = elim (test_cases (nat_eq k c)) [ inl t ↦ rw t refl | inr f ↦ rw f (no_row ks n c) ]

  no_mail_as : mail_as {P = P} no_mail ≡ first_mail
  no_mail_as = refl

  first_row : (c : ℕ) (o : Option (Mails P)) → ((mail : Mails P) → o ≡ Some mail → (cs : List ℕ) × (mail ≡ first_mails cs)) → mail_or c o ≡ first_mail
  first_row c None all = refl
  first_row c (Some mail) all = (let q = all mail refl in ap (λ (m : Mails P). mail_as (mail_at m c)) q.1 ∙ ap mail_as (no_row q.0 (length q.0) c))

-- ---- all parts

module _ {B S P : Type 0} {valid : Validity S} {carried : P → Type 0} (r : Reaction S P) (plan : Plan B S P) (fits : Fits valid carried plan) (lines : List ℕ) (threshold until budget : ℕ) (in_time : until ≤ LatestTime) (most : budget ≤ MostEvents) (kept : Key → Bool)
    (sh : IsShared (scene_of r plan until kept (line_of lines) (net_of plan (line_of lines) (timeline_count lines) threshold))) (core : CoreView B S P) (first : IsFirstCore plan lines threshold until budget core) where
  abbrev s : Scene (States B S P) (Event P)
  s = scene_of r plan until kept (line_of lines) (net_of plan (line_of lines) (timeline_count lines) threshold)

  module _ (i : ℕ) (t : TimelineOf B S P) (got : slice_get core.timelines i ≡ Some t) where
    abbrev part : Part B S P
    part = share_of plan lines threshold i

    begun : IsFirst part until budget t
    begun = first.each i t got

    starts_as : line_at 0 t ≡ first_line s i
    starts_as = first_as r plan until kept (line_of lines) s.net valid carried fits in_time sh i budget most part (is_share plan fits lines threshold i) (in_order plan fits lines threshold i) t begun

    starts_sound : IsSoundTimeline plan (line_of lines) s i 0 t
    starts_sound = first_sound r plan until kept (line_of lines) s.net valid carried fits in_time sh i budget most part (is_share plan fits lines threshold i) (in_order plan fits lines threshold i) t begun

    ins_numbers : numbers_of t.in_ends ≡ map channel_of t.ins
    ins_numbers = ap numbers_of begun.in_ends ∙ (numbers_first_in part.ins ∙ ap (map channel_of) (sym begun.ins))

    outs_numbers : numbers_of t.out_ends ≡ map channel_of t.outs
    outs_numbers = ap numbers_of begun.out_ends ∙ (numbers_first_out P part.outs ∙ ap (map channel_of) (sym begun.outs))

    channels_are : core.barrier.channels ≡ map channel_of (crosses_of lines threshold plan.mappings)
    channels_are = ap (λ (b : BarrierFields). b.channels) first.barrier

    has_places : HaveTheirPlaces t.in_ends core.barrier.channels
    has_places c e found = subst (λ cs. slice_get cs e.place ≡ Some c) (sym channels_are)
        (in_places plan fits lines threshold i c e part.ins (among_crosses plan fits lines threshold i) (ap (item_at c) (sym begun.in_ends) ∙ found))

    its_mail : (mail : Mails P) → slice_get core.mails i ≡ Some mail → IsMailOf mail t
    its_mail mail its =
        let is : mail ≡ first_mails (map channel_of part.ins) = first.each_mail i mail its in
        record {
          channels = ap (λ (m : Mails P). m.channels) is ∙ ap (map channel_of) (sym begun.ins);
          ends = ins_numbers;
          taken = λ c a. ap (λ (m : Mails P). (mail_at m c).taken) is
              ∙ (ap (λ (row : ChannelMail P). row.taken) (no_row (map channel_of part.ins) (length (map channel_of part.ins)) c)
              ∙ sym (ap (λ (l : Line (Event P)). l.taken c) starts_as));
        }

    pub first_part : IsPartOf plan (line_of lines) s core i 0 t
    first_part = record {
      sound = starts_sound;
      budget = begun.most ∙ sym first.most;
      ends = record { ins = ins_numbers; outs = outs_numbers };
      places = has_places;
      mail = its_mail;
    }

  line_same : (i : ℕ) → i < s.net.timelines → first_line s i ≡ (core_as s.net (λ k. 0) core).lines i
  line_same i known =
      let found = got_at core.timelines i (subst (λ n. i < n) (sym first.timelines) known) in
      sym (ap (line_or 0) found.1 ∙ starts_as i found.0 found.1)

  mail_same : (c : ℕ) → first_mail ≡ (core_as s.net (λ k. 0) core).mails c
  mail_same c = sym (first_row c (slice_get core.mails (s.net.receiver c)) (λ mail its. (map channel_of (share_of plan lines threshold (s.net.receiver c)).ins, first.each_mail (s.net.receiver c) mail its)))

  pub first_is_sound : IsSoundFor plan (line_of lines) s core (λ k. 0) 0
  first_is_sound = record {
    kept = first.kept;
    until = first.last;
    timelines = first.timelines;
    mails = first.mails;
    each = first_part;
    barrier = subst (λ (b : BarrierFields). IsBarrierOf s b) (sym first.barrier) (barrier_told plan fits lines threshold r until kept);
    ends = subst (λ (es : List CrossEnd). AreEndsOf s.net es) (sym first.ends) (ends_told plan fits lines threshold);
    all = alike_sound s 0 (first_core s) (core_as s.net (λ k. 0) core) (first_core_is_sound s sh) line_same (λ c h. mail_same c)
        (sym (ap barrier_as first.barrier ∙ first_barrier_as (timeline_count lines) until (map channel_of (crosses_of lines threshold plan.mappings)) (least_windowed lines threshold plan.mappings)))
        sh.joining.sender sh.joining.receiver;
  }

  -- they are those of a run
  pub first_of_run : IsRunOnLines plan (line_of lines) budget s → IsCoreOfRun valid carried r core
  first_of_run on =
      let end : until ≡ core.until = sym first.last in
      record {
        plan = plan;
        line = line_of lines;
        net = s.net;
        kept = kept;
        fits = fits;
        in_time = subst (λ u. u ≤ LatestTime) end in_time;
        run = subst (λ n. IsRunOnLines plan (line_of lines) n (scene_of r plan core.until kept (line_of lines) s.net)) (sym first.most)
            (subst (λ u. IsRunOnLines plan (line_of lines) budget (scene_of r plan u kept (line_of lines) s.net)) end on);
        at = λ k. 0;
        before = 0;
        sound = subst (λ u. IsSoundFor plan (line_of lines) (scene_of r plan u kept (line_of lines) s.net) core (λ k. 0) 0) end first_is_sound;
      }
