-- What a server passes lies in the segments that came to it, and within the client's data.
use Rattle.std.proofs.Common.{◌≡◌, ℕ, zero, suc, ◌+◌, ◌-◌, ◌<◌, ◌≤◌, Bool, true, false, ◌&&◌, Option, Some, None, List, [], ◌∷◌, ◌++◌, length, slice_index_or, nat_lt, nat_le, refl, sym, ◌∙◌, ap, subst, inl, inr, arith, if◌then◌else◌}
use Rattle.std.specs.List.{Contains}
use Rattle.std.proofs.lemmas.Bool.{eqb-true}
use Rattle.std.proofs.lemmas.Bool.Decides.{nat_tests, eqb_tells}
use Rattle.sim_base.specs.declared.records.TcpState.{TcpState}
use Rattle.sim_base.specs.declared.records.TcpState.TheVariants.{SynReceived, Established, LastAck}
use Rattle.sim_base.specs.SegmentFields.{SegmentFields}
use Rattle.tcp_rules.specs.declared.records.Act.TheVariants.{Send}
use Rattle.tcp_rules.specs.Segments.{Turn, quiet, carries, data_of, is_ack_of, sent_of, Each}
use Rattle.tcp_rules.specs.Servers.{ServerFields, server_syn_ack, server_fin, holds, covers, hole, fits, kept_with, fin_with, keeping, moved, delivery_of, finishing, at_end, at_kept, at_data, established, at_start, server_closed, at_last, server_at, server_segment, server_last, waiting, server_timeout}
use Rattle.tcp_rules.specs.Transfers.{LiesIn, LiesAmong, HoldsOnly}
use Rattle.tcp_rules.proofs.Cases.{before_or_from, if_case, both_left, both_right, each_sent}
use Rattle.tcp_rules.proofs.Holes.{hole_low, hole_passes, covers_beyond, split_cover}
use Rattle.tcp_rules.proofs.Sending.{IsProper, AtMost}

lies_at : (p : ℕ) (s : SegmentFields) (xs : List SegmentFields) (k : ℕ) → k < length xs → slice_index_or xs k s ≡ s → LiesIn p s → LiesAmong p xs
lies_at p s [] k within is lies = absurd (omega arith)
lies_at p s (x ∷ xs) zero within is lies = inl (subst (λ (g : SegmentFields). LiesIn p g) (sym is) lies)
lies_at p s (x ∷ xs) (suc k) within is lies = inr (lies_at p s xs k (omega arith) is lies)

pub lies_among : (p : ℕ) (s : SegmentFields) (xs : List SegmentFields) → Contains xs s → LiesIn p s → LiesAmong p xs
lies_among p s xs among lies = lies_at p s xs among.0 among.1 among.2 lies

pub lies_more : (p : ℕ) (xs ys : List SegmentFields) → LiesAmong p xs → LiesAmong p (xs ++ ys)
lies_more p [] ys lies = absurd lies
lies_more p (x ∷ xs) ys (inl lies) = inl lies
lies_more p (x ∷ xs) ys (inr lies) = inr (lies_more p xs ys lies)

pub holds_only_more : (first : ℕ) (xs ys : List SegmentFields) (s : ServerFields) → HoldsOnly first xs s → HoldsOnly first (xs ++ ys) s
holds_only_more first xs ys s only = record {
  passed = λ p low high. lies_more p xs ys (only.passed p low high);
  keeps = λ p held. lies_more p xs ys (only.keeps p held);
  fin = λ p is. lies_more p xs ys (only.fin p is);
}

lies_in_data : (p : ℕ) (g : SegmentFields) → holds (data_of g) p ≡ true → LiesIn p g
lies_in_data p g held =
    let low = both_left (nat_le g.seq p) (nat_lt p (g.seq + g.length)) held in
    let high = both_right (nat_le g.seq p) (nat_lt p (g.seq + g.length)) held in
    let from : g.seq ≤ p = grind (arith, nat_tests) in
    let to : p < g.seq + g.length = grind (arith, nat_tests) in
    (from, omega arith)

one_if : (b : Bool) → b ≡ true → ◌≡◌ {A = ℕ} (if b then 1 else 0) 1
one_if true e = refl
one_if false e = absurd (cc)

lies_at_fin : (p : ℕ) (g : SegmentFields) → g.fin ≡ true → g.seq + g.length ≡ p → LiesIn p g
lies_at_fin p g fin is = let one = one_if g.fin fin in (omega arith, omega arith)

pub ack_is : (p : ℕ) (o : Option ℕ) → is_ack_of p o ≡ true → o ≡ Some p
ack_is p None e = absurd (cc)
ack_is p (Some a) e = ap (λ (n : ℕ). Some n) (eqb-true a p e)

-- What is passed and kept.
module _ (first : ℕ) (xs : List SegmentFields) where
  only_keeping : (s : ServerFields) (g : SegmentFields) → Contains xs g → HoldsOnly first xs s → HoldsOnly first xs (keeping s g)
  unfolding kept_with fin_with
  only_keeping s g among only = record {
    passed = only.passed;
    keeps = λ p. if_case (λ (ks : List _). covers ks p ≡ true → LiesAmong p xs) (fits s g)
        (λ e held. elim (split_cover (data_of g) s.kept p held) [
          | inl new ↦ lies_among p g xs among (lies_in_data p g new)
          | inr old ↦ only.keeps p old
        ])
        (λ e held. only.keeps p held);
    fin = λ p. if_case (λ (o : Option ℕ). o ≡ Some p → LiesAmong p xs) (fits s g && g.fin)
        (λ e is. lies_among p g xs among (lies_at_fin p g (both_right (fits s g) g.fin e) (cc)))
        (λ e is. only.fin p is);
  }

  only_moved : (s : ServerFields) → HoldsOnly first xs s → HoldsOnly first xs (moved s)
  only_moved s only = record {
    passed = λ p low high. elim (before_or_from p s.rcv) [
      | inl below ↦ only.passed p low below
      | inr from ↦ only.keeps p (hole_passes s.kept s.rcv p from high)
    ];
    keeps = λ p held. only.keeps p (covers_beyond (hole s.kept s.rcv) s.kept p held);
    fin = only.fin;
  }

  only_finishing : (s : ServerFields) (now : ℕ) → s.fin ≡ Some s.rcv → HoldsOnly first xs s → HoldsOnly first xs (finishing s now)
  only_finishing s now there only = record {
    passed = λ p low high. elim (eqb_tells p s.rcv) [
      | inl w ↦ only.fin p (there ∙ ap (λ (n : ℕ). Some n) (sym w.1))
      | inr w ↦ let ne = w.1 in only.passed p low (omega arith)
    ];
    keeps = only.keeps;
    fin = only.fin;
  }

  only_end : (s : ServerFields) (now : ℕ) → HoldsOnly first xs s → HoldsOnly first xs (at_end s now).after
  unfolding at_end
  only_end s now only = if_case (λ (t : Turn ServerFields). HoldsOnly first xs t.after) (is_ack_of s.rcv s.fin)
      (λ e. only_finishing s now (ack_is s.rcv s.fin e) only) (λ e. only)

  only_data : (s : ServerFields) (g : SegmentFields) (now : ℕ) → Contains xs g → HoldsOnly first xs s → HoldsOnly first xs (at_data s g now).after
  unfolding at_data at_kept
  only_data s g now among only = if_case (λ (t : Turn ServerFields). HoldsOnly first xs t.after) (carries g)
      (λ e. only_end (moved (keeping s g)) now (only_moved (keeping s g) (only_keeping s g among only))) (λ e. only)

  -- nothing of it changes
  only_same : (s t : ServerFields) → s.rcv ≡ t.rcv → s.kept ≡ t.kept → s.fin ≡ t.fin → HoldsOnly first xs s → HoldsOnly first xs t
  only_same s t rcv kept fin only = record {
    passed = λ p low high. only.passed p low (omega arith);
    keeps = λ p held. only.keeps p (ap (λ (ks : List _). covers ks p) kept ∙ held);
    fin = λ p is. only.fin p (fin ∙ is);
  }

  only_start : (s : ServerFields) (g : SegmentFields) (now : ℕ) → Contains xs g → HoldsOnly first xs s → HoldsOnly first xs (at_start s g now).after
  unfolding at_start
  only_start s g now among only = if_case (λ (t : Turn ServerFields). HoldsOnly first xs t.after) g.syn
      (λ e. only)
      (λ e. if_case (λ (t : Turn ServerFields). HoldsOnly first xs t.after) (is_ack_of (s.config.iss + 1) g.ack)
      (λ k. only_data (established s) g now among (only_same s (established s) refl refl refl only)) (λ k. only))

  only_last : (s : ServerFields) (g : SegmentFields) → HoldsOnly first xs s → HoldsOnly first xs (at_last s g).after
  unfolding at_last
  only_last s g only = if_case (λ (t : Turn ServerFields). HoldsOnly first xs t.after) g.syn
      (λ e. only)
      (λ e. if_case (λ (t : Turn ServerFields). HoldsOnly first xs t.after) (is_ack_of (s.config.iss + 2) g.ack)
      (λ k. only_same s (server_closed s).after refl refl refl only)
      (λ k. if_case (λ (t : Turn ServerFields). HoldsOnly first xs t.after) (carries g) (λ f. only) (λ f. only)))

  only_at : (state : TcpState) (s : ServerFields) (g : SegmentFields) (now : ℕ) → Contains xs g → HoldsOnly first xs s
      → HoldsOnly first xs (server_at state s g now).after
  only_at SynReceived s g now among only = only_start s g now among only
  only_at Established s g now among only = if_case (λ (t : Turn ServerFields). HoldsOnly first xs t.after) g.syn
      (λ e. only) (λ e. only_data s g now among only)
  only_at LastAck s g now among only = only_last s g only
  only_at _ s g now among only = only

  pub only_segment : (s : ServerFields) (g : SegmentFields) (now : ℕ) → Contains xs g → HoldsOnly first xs s
      → HoldsOnly first xs (server_segment s g now).after
  only_segment s g now among only = only_at s.state s g now among only

  pub only_timeout : (s : ServerFields) (now : ℕ) → HoldsOnly first xs s → HoldsOnly first xs (server_timeout s now).after
  unfolding server_timeout
  only_timeout s now only = if_case (λ (t : Turn ServerFields). HoldsOnly first xs t.after) (nat_lt s.config.tries (s.tries + 1))
      (λ e. only_same s (server_closed s).after refl refl refl only) (λ e. only_same s (waiting s now) refl refl refl only)

-- before its own FIN
abbrev pub is_open : TcpState → Bool
is_open SynReceived = true
is_open Established = true
is_open _ = false

-- a server for data that begins after iss and ends before end
pub record IsBounded (iss end : ℕ) (s : ServerFields) : Type 0 where
  pub begun : iss + 1 ≤ s.rcv
  pub counted : s.delivered + (iss + 1) ≤ s.rcv
  pub within : s.delivered + (iss + 1) ≤ end
  pub before_fin : is_open s.state ≡ true → s.rcv ≤ end
  pub keeps : (p : ℕ) → covers s.kept p ≡ true → p < end
  pub fin : (p : ℕ) → s.fin ≡ Some p → p ≡ end

-- a turn after which it is one, has passed no less, and acknowledged no more than it has passed
pub record IsTaken (iss end from : ℕ) (t : Turn ServerFields) : Type 0 where
  pub bounded : IsBounded iss end t.after
  pub risen : from ≤ t.after.rcv
  pub acks : Each (λ g. AtMost t.after.rcv g.ack) (sent_of t.acts)

module _ (iss end : ℕ) where
  data_below : (p : ℕ) (g : SegmentFields) → IsProper end g → holds (data_of g) p ≡ true → p < end
  data_below p g proper held =
      let lies = lies_bound p g held in
      let reaches = proper.within (omega arith) in omega arith
    where
      lies_bound : (p : ℕ) (g : SegmentFields) → holds (data_of g) p ≡ true → (g.seq ≤ p) × (p < g.seq + g.length)
      lies_bound p g held =
          let low = both_left (nat_le g.seq p) (nat_lt p (g.seq + g.length)) held in
          let high = both_right (nat_le g.seq p) (nat_lt p (g.seq + g.length)) held in
          (grind (arith, nat_tests), grind (arith, nat_tests))

  bounded_keeping : (s : ServerFields) (g : SegmentFields) → IsProper end g → IsBounded iss end s → IsBounded iss end (keeping s g)
  unfolding kept_with fin_with
  bounded_keeping s g proper is = record {
    begun = is.begun;
    counted = is.counted;
    within = is.within;
    before_fin = is.before_fin;
    keeps = λ p. if_case (λ (ks : List _). covers ks p ≡ true → p < end) (fits s g)
        (λ e held. elim (split_cover (data_of g) s.kept p held) [
          | inl new ↦ data_below p g proper new
          | inr old ↦ is.keeps p old
        ])
        (λ e held. is.keeps p held);
    fin = λ p. if_case (λ (o : Option ℕ). o ≡ Some p → p ≡ end) (fits s g && g.fin)
        (λ e at. let place : g.seq + g.length ≡ p = cc in let last = proper.fin (both_right (fits s g) g.fin e) in omega arith)
        (λ e at. is.fin p at);
  }

  -- the hole after kept positions below an end is at most that end
  hole_within : (from to : ℕ) → from ≤ to → from ≤ end → ((p : ℕ) → from ≤ p → p < to → p < end) → to ≤ end
  hole_within from to low start passed = elim (eqb_tells to from) [
    | inl w ↦ let is = w.1 in omega arith
    | inr w ↦ let ne = w.1 in let last = passed (to - 1) (omega arith) (omega arith) in omega arith
  ]

  moved_within : (s : ServerFields) → s.rcv ≤ end → IsBounded iss end s → hole s.kept s.rcv ≤ end
  moved_within s start is = hole_within s.rcv (hole s.kept s.rcv) (hole_low s.kept s.rcv) start
      (λ p from to. is.keeps p (hole_passes s.kept s.rcv p from to))

  bounded_moved : (s : ServerFields) → s.rcv ≤ end → IsBounded iss end s → IsBounded iss end (moved s)
  bounded_moved s start is =
      let low = hole_low s.kept s.rcv in
      let high = moved_within s start is in
      let begun = is.begun in
      let counted = is.counted in
      record {
        begun = omega arith;
        counted = omega arith;
        within = omega arith;
        before_fin = λ e. high;
        keeps = λ p held. is.keeps p (covers_beyond (hole s.kept s.rcv) s.kept p held);
        fin = is.fin;
      }

  delivery_acks : (most n : ℕ) → Each (λ g. AtMost most g.ack) (sent_of (delivery_of n))
  delivery_acks most zero = tt
  delivery_acks most (suc n) = tt

  taken_end : (from : ℕ) (s : ServerFields) (now : ℕ) → from ≤ s.rcv → IsBounded iss end s → IsTaken iss end from (at_end s now)
  unfolding at_end
  taken_end from s now low is =
      let begun = is.begun in
      let counted = is.counted in
      if_case (IsTaken iss end from) (is_ack_of s.rcv s.fin)
      (λ e. record {
        bounded = record { begun = omega arith; counted = omega arith; within = is.within; before_fin = λ k. absurd (cc); keeps = is.keeps; fin = is.fin };
        risen = omega arith;
        acks = (omega arith, tt);
      })
      (λ e. record { bounded = is; risen = low; acks = (omega arith, tt) })

  taken_kept : (s : ServerFields) (now : ℕ) → s.rcv ≤ end → IsBounded iss end s → IsTaken iss end s.rcv (at_kept s now)
  unfolding at_kept
  taken_kept s now start is =
      let t = taken_end s.rcv (moved s) now (hole_low s.kept s.rcv) (bounded_moved s start is) in
      let last = at_end (moved s) now in
      let words = delivery_of (hole s.kept s.rcv - s.rcv) in
      record {
        bounded = t.bounded;
        risen = t.risen;
        acks = each_sent (λ g. AtMost last.after.rcv g.ack) words last.acts (delivery_acks last.after.rcv (hole s.kept s.rcv - s.rcv)) t.acks;
      }

  taken_quiet : (s : ServerFields) → IsBounded iss end s → IsTaken iss end s.rcv (quiet s)
  taken_quiet s is = record { bounded = is; risen = omega arith; acks = tt }

  -- one segment, which acknowledges what was passed
  taken_answer : (s : ServerFields) (g : SegmentFields) → g.ack ≡ Some s.rcv → IsBounded iss end s
      → IsTaken iss end s.rcv (record { after = s; acts = Send g ∷ [] })
  taken_answer s g ack is = record { bounded = is; risen = omega arith; acks = (subst (AtMost s.rcv) (sym ack) (omega arith), tt) }

  taken_data : (s : ServerFields) (g : SegmentFields) (now : ℕ) → IsProper end g → s.rcv ≤ end → IsBounded iss end s
      → IsTaken iss end s.rcv (at_data s g now)
  unfolding at_data
  taken_data s g now proper start is = if_case (IsTaken iss end s.rcv) (carries g)
      (λ e. taken_kept (keeping s g) now start (bounded_keeping s g proper is)) (λ e. taken_quiet s is)

  bounded_established : (s : ServerFields) → s.rcv ≤ end → IsBounded iss end s → IsBounded iss end (established s)
  bounded_established s start is = record {
    begun = is.begun;
    counted = is.counted;
    within = is.within;
    before_fin = λ e. start;
    keeps = is.keeps;
    fin = is.fin;
  }

  taken_start : (s : ServerFields) (g : SegmentFields) (now : ℕ) → IsProper end g → s.rcv ≤ end → IsBounded iss end s
      → IsTaken iss end s.rcv (at_start s g now)
  unfolding at_start
  taken_start s g now proper start is = if_case (IsTaken iss end s.rcv) g.syn
      (λ e. taken_answer s (server_syn_ack s) refl is)
      (λ e. if_case (IsTaken iss end s.rcv) (is_ack_of (s.config.iss + 1) g.ack)
      (λ k. let t = taken_data (established s) g now proper start (bounded_established s start is) in
      record { bounded = t.bounded; risen = t.risen; acks = t.acks })
      (λ k. taken_quiet s is))

  taken_closed : (s : ServerFields) → IsBounded iss end s → IsTaken iss end s.rcv (server_closed s)
  taken_closed s is = record {
    bounded = record { begun = is.begun; counted = is.counted; within = is.within; before_fin = λ k. absurd (cc); keeps = is.keeps; fin = is.fin };
    risen = omega arith;
    acks = tt;
  }

  taken_last : (s : ServerFields) (g : SegmentFields) → IsBounded iss end s → IsTaken iss end s.rcv (at_last s g)
  unfolding at_last
  taken_last s g is = if_case (IsTaken iss end s.rcv) g.syn
      (λ e. taken_quiet s is)
      (λ e. if_case (IsTaken iss end s.rcv) (is_ack_of (s.config.iss + 2) g.ack)
      (λ k. taken_closed s is)
      (λ k. if_case (IsTaken iss end s.rcv) (carries g) (λ f. taken_answer s (server_fin s) refl is) (λ f. taken_quiet s is)))

  taken_at : (state : TcpState) (s : ServerFields) (g : SegmentFields) (now : ℕ) → s.state ≡ state → IsProper end g → IsBounded iss end s
      → IsTaken iss end s.rcv (server_at state s g now)
  taken_at SynReceived s g now state proper is = taken_start s g now proper (is.before_fin (ap is_open state)) is
  taken_at Established s g now state proper is = if_case (IsTaken iss end s.rcv) g.syn
      (λ e. taken_quiet s is) (λ e. taken_data s g now proper (is.before_fin (ap is_open state)) is)
  taken_at LastAck s g now state proper is = taken_last s g is
  taken_at _ s g now state proper is = taken_quiet s is

  pub taken_segment : (s : ServerFields) (g : SegmentFields) (now : ℕ) → IsProper end g → IsBounded iss end s
      → IsTaken iss end s.rcv (server_segment s g now)
  taken_segment s g now proper is = taken_at s.state s g now refl proper is

  last_ack : (state : TcpState) (s : ServerFields) → (server_last state s).ack ≡ Some s.rcv
  last_ack SynReceived s = refl
  last_ack _ s = refl

  pub taken_timeout : (s : ServerFields) (now : ℕ) → IsBounded iss end s → IsTaken iss end s.rcv (server_timeout s now)
  unfolding server_timeout
  taken_timeout s now is = if_case (IsTaken iss end s.rcv) (nat_lt s.config.tries (s.tries + 1))
      (λ e. taken_closed s is)
      (λ e. record {
        bounded = record { begun = is.begun; counted = is.counted; within = is.within; before_fin = is.before_fin; keeps = is.keeps; fin = is.fin };
        risen = omega arith;
        acks = (subst (AtMost s.rcv) (sym (last_ack s.state s)) (omega arith), tt);
      })
