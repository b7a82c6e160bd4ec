-- Data goes out segment by segment, while the next one has room.
use Rattle.std.proofs.Common.{◌≡◌, ◌⊎◌, ℕ, suc, ◌+◌, ◌-◌, ◌*◌, ◌/◌, ◌%◌, ◌<◌, ◌≤◌, Bool, true, false, ◌&&◌, min, nat_lt, nat_le, refl, sym, ◌∙◌, ap, inl, inr, arith, if◌then◌else◌}
use Rattle.std.proofs.Math.Nat.{add-mod_right, div-eq_of_lt, div-eq_of_lt-le, add-mul-div_left, mod-eq_of_lt}
use Rattle.std.proofs.lemmas.Bool.Decides.{nat_tests}
use Rattle.tcp_rules.specs.declared.records.Act.TheVariants.{Send}
use Rattle.tcp_rules.specs.Segments.{quiet, before}
use Rattle.tcp_rules.specs.Clients.{ClientFields, client_data, advanced, allowed, edge, data_stop, data_count, data_sent, data_out, next_length, may_send, sent_next}
use Rattle.tcp_rules.specs.Limits.{IsClientEnd}
use Rattle.tcp_rules.proofs.Cases.{before_or_from, if_case, both_left, both_right}

-- one segment less is left after one
pieces : (left mss : ℕ) → 1 ≤ mss → 0 < left → (left + (mss - 1)) / mss ≡ suc ((left - min mss left + (mss - 1)) / mss)
pieces left mss some more = elim (before_or_from left mss) [
  | inl w ↦
      let whole : (left + (mss - 1)) / mss ≡ 1 = div-eq_of_lt-le {k = 1} mss (omega arith) (omega arith) in
      let rest : (left - min mss left + (mss - 1)) / mss ≡ 0 = div-eq_of_lt (omega arith) in
      omega (arith, whole, rest)
  | inr w ↦
      let sum : left + (mss - 1) ≡ (left - min mss left + (mss - 1)) + mss * 1 = omega arith in
      let one : ((left - min mss left + (mss - 1)) + mss * 1) / mss ≡ (left - min mss left + (mss - 1)) / mss + 1 =
      add-mul-div_left (left - min mss left + (mss - 1)) 1 (omega arith) in
      let same = ap (λ x. x / mss) sum in
      omega (arith, one, same)
]

-- where data stops, in numbers
abbrev stop_at : (nxt end edge mss : ℕ) → ℕ
stop_at nxt end edge mss = if nat_le end edge then end else nxt + (edge - nxt - (edge - nxt) % mss)

-- a piece of some length is the next up to a stop, which is the same afterwards
record IsPiece (stop later nxt mss length : ℕ) : Type 0 where
  same : later ≡ stop
  taken : min mss (stop - nxt) ≡ length
  some : nxt < stop

whole_piece : (nxt end edge mss : ℕ) → 1 ≤ mss → edge < end → nxt < end → min mss (end - nxt) ≤ edge - nxt
    → IsPiece (nxt + (edge - nxt - (edge - nxt) % mss)) (nxt + min mss (end - nxt) + (edge - (nxt + min mss (end - nxt)) - (edge - (nxt + min mss (end - nxt))) % mss))
    nxt mss (min mss (end - nxt))
whole_piece nxt end edge mss some below more room =
    let length : min mss (end - nxt) ≡ mss = grind arith in
    let left : edge - (nxt + min mss (end - nxt)) ≡ edge - nxt - mss = omega arith in
    let sum : edge - nxt ≡ (edge - nxt - mss) + mss = omega arith in
    let modulo : (edge - nxt) % mss ≡ (edge - nxt - mss) % mss = ap (λ x. x % mss) sum ∙ add-mod_right (edge - nxt - mss) mss in
    let rest : (edge - (nxt + min mss (end - nxt))) % mss ≡ (edge - nxt - mss) % mss = ap (λ x. x % mss) left in
    record { same = omega (arith, modulo, rest, length); taken = omega (arith, modulo, length); some = omega (arith, modulo, length) }

piece_by : (b : Bool) (nxt end edge mss : ℕ) → nat_le end edge ≡ b → 1 ≤ mss → nxt < end → min mss (end - nxt) ≤ edge - nxt
    → IsPiece (if b then end else nxt + (edge - nxt - (edge - nxt) % mss))
    (if b then end else nxt + min mss (end - nxt) + (edge - (nxt + min mss (end - nxt)) - (edge - (nxt + min mss (end - nxt))) % mss))
    nxt mss (min mss (end - nxt))
piece_by true nxt end edge mss e some more room = record { same = refl; taken = refl; some = more }
piece_by false nxt end edge mss e some more room = whole_piece nxt end edge mss some (grind (arith, nat_tests)) more room

next_piece : (nxt end edge mss : ℕ) → 1 ≤ mss → nxt < end → min mss (end - nxt) ≤ edge - nxt
    → IsPiece (stop_at nxt end edge mss) (stop_at (nxt + min mss (end - nxt)) end edge mss) nxt mss (min mss (end - nxt))
next_piece nxt end edge mss some more room = piece_by (nat_le end edge) nxt end edge mss refl some more room

-- where the next piece has no room data has stopped
no_piece : (nxt end edge mss : ℕ) → 1 ≤ mss → (nat_lt nxt end && nat_le (min mss (end - nxt)) (edge - nxt)) ≡ false → stop_at nxt end edge mss ≤ nxt
no_piece nxt end edge mss some stops = if_case (λ stop. stop ≤ nxt) (nat_le end edge)
    (λ e. at_end nxt end edge mss (grind (arith, nat_tests)) stops)
    (λ e. short nxt end edge mss some (grind (arith, nat_tests)) stops)
  where
    at_end : (nxt end edge mss : ℕ) → end ≤ edge → (nat_lt nxt end && nat_le (min mss (end - nxt)) (edge - nxt)) ≡ false → end ≤ nxt
    at_end nxt end edge mss within stops = grind (arith, nat_tests)

    no_room : (nxt end edge mss : ℕ) → edge < end → (nat_lt nxt end && nat_le (min mss (end - nxt)) (edge - nxt)) ≡ false → edge - nxt < mss ⊎ edge ≤ nxt
    no_room nxt end edge mss below stops = grind (arith, nat_tests)

    short : (nxt end edge mss : ℕ) → 1 ≤ mss → edge < end → (nat_lt nxt end && nat_le (min mss (end - nxt)) (edge - nxt)) ≡ false
        → nxt + (edge - nxt - (edge - nxt) % mss) ≤ nxt
    short nxt end edge mss some below stops = elim (no_room nxt end edge mss below stops) [
      | inl w ↦ let all : (edge - nxt) % mss ≡ edge - nxt = mod-eq_of_lt w in omega (arith, all)
      | inr w ↦ omega arith
    ]

-- with one segment more the rest follows
one_more : (count n stop later length now : ℕ) (c : ClientFields) → count ≡ suc n → min c.window.mss (stop - c.nxt) ≡ length → later ≡ stop
    → data_sent count stop now c ≡ before (Send (client_data c c.nxt length)) (data_sent n later now (advanced c now length))
one_more count n stop later length now c counted taken same =
    ap (λ m. data_sent m stop now c) counted
    ∙ (ap (λ m. before (Send (client_data c c.nxt m)) (data_sent n stop now (advanced c now m))) taken
    ∙ ap (λ s. before (Send (client_data c c.nxt length)) (data_sent n s now (advanced c now length))) (sym same))

none_left : (count stop now : ℕ) (c : ClientFields) → count ≡ 0 → data_sent count stop now c ≡ quiet c
none_left count stop now c none = ap (λ m. data_sent m stop now c) none

-- the room beside what is in flight, by the edge
room_is : (c : ClientFields) → c.una ≤ c.nxt → allowed c - (c.nxt - c.una) ≡ c.una + allowed c - c.nxt
room_is c low = omega arith

sends_next : (now : ℕ) (c : ClientFields) → 1 ≤ c.window.mss → c.una ≤ c.nxt → may_send c ≡ true
    → data_out now c ≡ before (Send (client_data c c.nxt (next_length c))) (data_out now (advanced c now (next_length c)))
unfolding data_stop data_count edge
sends_next now c some low may =
    let mss = c.window.mss in
    let bound = c.una + allowed c in
    let more : c.nxt < c.end = lt_of c.nxt c.end (both_left (nat_lt c.nxt c.end) (nat_le (next_length c) (allowed c - (c.nxt - c.una))) may) in
    let room : next_length c ≤ bound - c.nxt =
    fits (next_length c) (allowed c - (c.nxt - c.una)) (bound - c.nxt) (room_is c low) (both_right (nat_lt c.nxt c.end) (nat_le (next_length c) (allowed c - (c.nxt - c.una))) may) in
    let piece = next_piece c.nxt c.end bound mss some more room in
    let taken = piece.taken in
    let same = piece.same in
    let left = piece.some in
    let counted = pieces (stop_at c.nxt c.end bound mss - c.nxt) mss some (omega arith) in
    let rest : stop_at c.nxt c.end bound mss - c.nxt - min mss (stop_at c.nxt c.end bound mss - c.nxt) ≡ stop_at (c.nxt + next_length c) c.end bound mss - (c.nxt + next_length c) = omega (arith, taken, same) in
    one_more ((stop_at c.nxt c.end bound mss - c.nxt + (mss - 1)) / mss)
    ((stop_at (c.nxt + next_length c) c.end bound mss - (c.nxt + next_length c) + (mss - 1)) / mss)
    (stop_at c.nxt c.end bound mss) (stop_at (c.nxt + next_length c) c.end bound mss) (next_length c) now c
    (counted ∙ ap (λ x. suc ((x + (mss - 1)) / mss)) rest) taken same
  where
    lt_of : (m n : ℕ) → nat_lt m n ≡ true → m < n
    lt_of m n e = grind (arith, nat_tests)

    fits : (m n k : ℕ) → n ≡ k → nat_le m n ≡ true → m ≤ k
    fits m n k same e = grind (arith, nat_tests)

sends_none : (now : ℕ) (c : ClientFields) → 1 ≤ c.window.mss → c.una ≤ c.nxt → may_send c ≡ false → data_out now c ≡ quiet c
unfolding data_stop data_count edge
sends_none now c some low may =
    let mss = c.window.mss in
    let bound = c.una + allowed c in
    let stops = ap (λ room. nat_lt c.nxt c.end && nat_le (next_length c) room) (sym (room_is c low)) ∙ may in
    let over = no_piece c.nxt c.end bound mss some stops in
    none_left ((stop_at c.nxt c.end bound mss - c.nxt + (mss - 1)) / mss) (stop_at c.nxt c.end bound mss) now c (div-eq_of_lt (omega (arith, over)))

-- data goes out while the next segment of it has room
pub data_out_next : (now : ℕ) (c : ClientFields) → IsClientEnd c → data_out now c ≡ sent_next now c
data_out_next now c is = by_test (may_send c) refl
  where
    by_test : (b : Bool) → may_send c ≡ b
        → data_out now c ≡ (if b then before (Send (client_data c c.nxt (next_length c))) (data_out now (advanced c now (next_length c))) else quiet c)
    by_test true e = sends_next now c is.window.some_mss is.una_nxt e
    by_test false e = sends_none now c is.window.some_mss is.una_nxt e
