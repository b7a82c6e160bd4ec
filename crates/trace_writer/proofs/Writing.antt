-- Texts appended piece by piece, and how far merged histories were written.
use Rattle.std.proofs.Common.{◌≡◌, subst, ℕ, zero, suc, ◌+◌, ◌<◌, ◌≤◌, ◌⊎◌, Bool, true, false, nat_lt, List, [], ◌∷◌, ◌++◌, length, length-append, take, drop, max, Result, Ok, Err, OnErr, append_assoc, Option, Some, None, IfSome, slice_get, refl, sym, ◌∙◌, ap, inl, inr, arith, ⊎_elim}
use Rattle.std.specs.List.{filter, flat_map, fold, slice_index_or}
use Rattle.std.specs.List.Sorted.{IsPermutation}
use Rattle.std.specs.declared.cmp.Reverse.{Reverse}
use Rattle.std.specs.BinaryHeap.{IsUpperBound}
use Rattle.std.proofs.lemmas.Bool.{lt-ltb, ltb-true}
use Rattle.std.proofs.lemmas.Grind.{flat_map-append}
use Rattle.std.proofs.lemmas.List.{append-nil, take-append-le}
use Rattle.std.proofs.lemmas.List.Elements.{filter-append}
use Rattle.std.proofs.lemmas.List.Sorted.{IsPermutation-sym}
use Rattle.std.proofs.Math.Seq.{take-append-add}
use Rattle.sim_base.specs.Outside.{Appends, AppendsPrefix}
use Rattle.event_order.specs.Order.{comes_before}
use Rattle.event_order.specs.Pending.{Among, put, put_all, IsRising, IsApart}
use Rattle.event_order.proofs.Order.{before_asym}
use Rattle.event_order.proofs.Pending.{test_cases, among_append_right, among_filter, filter_among, put_all_among, among_put_all_self, put_all_rises, filter_apart}
use Rattle.ssf_model.specs.declared.event.Entry.{Entry}
use Rattle.ssf_model.specs.declared.event.Line.{Line}
use Rattle.ssf_model.specs.declared.event.Names.{Names}
use Rattle.ssf_model.proofs.Lists.{within_of}
use Rattle.trace_writer.specs.declared.heads.Head.{Head}
use Rattle.trace_writer.specs.Report.{events_of}
use Rattle.trace_writer.specs.Trace.{action_line, entries_text, event_line, record_text}
use Rattle.trace_writer.specs.Merging.{CanMerge, IsInOrder, entries_before, in_key_order, longest_name, merged}
use Rattle.trace_writer.specs.Heads.{head_at, head_order, left_from, left_in_order, moved, AreHeads}
use Rattle.trace_writer.specs.Sending.{Sends}
use Rattle.trace_writer.proofs.Merges.{is_moved}
use Rattle.trace_writer.proofs.Nexts.{among_moved, heads_more, others_left, taken_least, nothing_left}
use Rattle.trace_writer.proofs.Sends.{part_longer, part_more, sends_more, sends_nothing}

-- ---- texts

pub appends_none : (old : Option (List ℕ)) → Appends [] old old
appends_none None = tt
appends_none (Some bytes) = ap (λ b. Some b) (sym (append-nil bytes))

pub appends_then : (a b : List ℕ) (old mid new : Option (List ℕ)) → Appends a old mid → Appends b mid new → Appends (a ++ b) old new
appends_then a b None mid new p q = tt
appends_then a b (Some bytes) mid new p q =
    let there : new ≡ Some ((bytes ++ a) ++ b) = subst (λ o. IfSome o (λ bs. new ≡ Some (bs ++ b))) p q in
    there ∙ ap (λ bs. Some bs) (append_assoc bytes a b)

-- a part of a text from its beginning, behind what was appended before
pub prefix_then : (a b c : List ℕ) (old mid new : Option (List ℕ)) → Appends a old mid → AppendsPrefix b mid new → AppendsPrefix (a ++ (b ++ c)) old new
prefix_then a b c None mid new p q = tt
prefix_then a b c (Some bytes) mid new p q =
    let there : (n : ℕ) × (n ≤ length b) × (new ≡ Some ((bytes ++ a) ++ take n b)) = subst (λ o. IfSome o (λ bs. (n : ℕ) × (n ≤ length b) × (new ≡ Some (bs ++ take n b)))) p q in
    let within = there.1 in
    let long = length-append a (b ++ c) in
    let long_rest = length-append b c in (
      length a + there.0,
      omega arith,
      there.2 ∙ ap (λ bs. Some bs) (append_assoc bytes a (take there.0 b)
          ∙ ap (λ bs. bytes ++ bs) (sym (take-append-add a (b ++ c) there.0 ∙ ap (λ bs. a ++ bs) (take-append-le there.0 b c there.1)))),
    )

pub prefix_first : (b c : List ℕ) (old new : Option (List ℕ)) → AppendsPrefix b old new → AppendsPrefix (b ++ c) old new
prefix_first b c old new q = prefix_then [] b c old old new (appends_none old) q

pub prefix_none : (text : List ℕ) (old : Option (List ℕ)) → AppendsPrefix text old old
prefix_none text None = tt
prefix_none text (Some bytes) = (0, omega arith, ap (λ b. Some b) (sym (append-nil bytes)))

-- ---- records

name_is : (names : List (List ℕ)) (i : ℕ) (name : List ℕ) → slice_get names i ≡ Some name → slice_index_or names i [] ≡ name
name_is [] i name h = absurd (cc)
name_is (x ∷ xs) zero name h = cc
name_is (x ∷ xs) (suc i) name h = name_is xs i name h

pub record_is : (names : Names) (entry : Entry) (name : List ℕ) → slice_get names.names entry.entity ≡ Some name → record_text names entry ≡ event_line name entry ++ flat_map action_line entry.lines
unfolding record_text
record_is names entry name h = ap (λ n. event_line n entry ++ flat_map action_line entry.lines) (name_is names.names entry.entity name h)

text_push : (names : Names) (done : List Entry) (e : Entry) (rest : List Entry) → entries_text names (done ++ e ∷ rest) ≡ entries_text names done ++ (record_text names e ++ entries_text names rest)
unfolding entries_text
text_push names done e rest = flat_map-append (record_text names) done (e ∷ rest)

text_one : (names : Names) (done : List Entry) (e : Entry) → entries_text names (done ++ e ∷ []) ≡ entries_text names done ++ record_text names e
unfolding entries_text
text_one names done e = flat_map-append (record_text names) done (e ∷ []) ∙ ap (λ t. flat_map (record_text names) done ++ t) (append-nil (record_text names e))

text_none : (names : Names) → entries_text names [] ≡ []
unfolding entries_text
text_none names = refl

-- ---- one step of the merge

next_is : (xs : List Entry) (a : ℕ) (x e : Entry) → slice_get xs a ≡ Some x → e ≡ slice_index_or xs a e → e ≡ x
next_is [] a x e h is = absurd (cc)
next_is (y ∷ ys) zero x e h is = let same : y ≡ x = cc in is ∙ same
next_is (y ∷ ys) (suc a) x e h is = next_is ys a x e h is

same_list : (o : Option (List Entry)) (x y : List Entry) → o ≡ Some x → o ≡ Some y → x ≡ y
same_list o x y p q = let both : Some x ≡ Some y = sym p ∙ q in cc

pub head_sound : (lists : List (List Entry)) (below n : ℕ) (old rest : List (Reverse Head)) (h : Reverse Head) → (at : ℕ → ℕ) × AreHeads lists below at n old → IsPermutation old (h ∷ rest) → h.0.history < n
head_sound lists below n old rest h heads popped = (heads.1.sound h (among_moved h (h ∷ rest) old (IsPermutation-sym old (h ∷ rest) popped) (inl refl))).1

pub head_within : (lists : List (List Entry)) (below n : ℕ) (old rest : List (Reverse Head)) (h : Reverse Head) (entries : List Entry) → (at : ℕ → ℕ) × AreHeads lists below at n old → IsPermutation old (h ∷ rest) → slice_get lists h.0.history ≡ Some entries
    → h.0.at < length entries
head_within lists below n old rest h entries heads popped is =
    let sound = (heads.1.sound h (among_moved h (h ∷ rest) old (IsPermutation-sym old (h ∷ rest) popped) (inl refl))).0 in
    let one = same_list (slice_get lists h.0.history) sound.history entries sound.is_history is in
    within_of entries h.0.at sound.entry (subst (λ xs. slice_get xs h.0.at ≡ Some sound.entry) one sound.is_entry)

pub next_step : (lists : List (List Entry)) (below n : ℕ) (old rest new : List (Reverse Head)) (h : Reverse Head) (entries : List Entry) (e : Entry) → ((xs : List Entry) → Among xs lists → IsInOrder xs) → n ≡ length lists
    → IsPermutation old (h ∷ rest) → IsUpperBound head_order h old → slice_get lists h.0.history ≡ Some entries → e ≡ slice_index_or entries h.0.at e → IsPermutation (head_at lists below h.0.history (h.0.at + 1) ++ rest) new
    → (at : ℕ → ℕ) → AreHeads lists below at n old → (after : ℕ → ℕ) × AreHeads lists below after n new × (left_in_order lists below at ≡ e ∷ left_in_order lists below after)
next_step lists below n old rest new h entries e order count popped bound is at_e pushed at are =
    let i = h.0.history in
    let move = is_moved at i in
    let own = are.sound h (among_moved h (h ∷ rest) old (IsPermutation-sym old (h ∷ rest) popped) (inl refl)) in
    let sound = own.0 in
    let one = same_list (slice_get lists i) sound.history entries sound.is_history is in
    let there : slice_get entries h.0.at ≡ Some sound.entry = subst (λ xs. slice_get xs h.0.at ≡ Some sound.entry) one sound.is_entry in
    let same : e ≡ sound.entry = next_is entries h.0.at sound.entry e there at_e in
    let E : Entry → Type 0 = λ x. left_in_order lists below at ≡ x ∷ left_in_order lists below (moved at i) in
    let place = sound.place in
    let place_after = move.own in (
      moved at i,
      heads_more lists below (moved at i) n i (h.0.at + 1) rest new (omega arith) own.1 (others_left lists below at (moved at i) n old rest h are popped move) pushed,
      subst E (sym same) (taken_least lists below at (moved at i) n old h entries sound.entry order count are bound move is (subst (λ a. slice_get entries a ≡ Some sound.entry) place there) sound.early sound.key),
    )

empty_of : {T : Type 0} (xs : List T) → length xs ≡ 0 → xs ≡ []
empty_of [] h = refl
empty_of (x ∷ xs) h = absurd (omega arith)

pub none_step : (lists : List (List Entry)) (below n : ℕ) (old : List (Reverse Head)) → ((xs : List Entry) → Among xs lists → IsInOrder xs) → n ≡ length lists → length old ≡ 0 → (at : ℕ → ℕ) → AreHeads lists below at n old → left_in_order lists below at ≡ []
none_step lists below n old order count none at are = nothing_left lists below at n order count (subst (λ hs. AreHeads lists below at n hs) (empty_of old none) are)

-- ---- how far the merge is

pub record AreWritten (names : Names) (lists : List (List Entry)) (below : ℕ) (heads : List (Reverse Head)) (kept : List ℕ) (old new : Option (List ℕ)) (count : ℕ) (done : List Entry) (at : ℕ → ℕ) : Type 0 where
  pub heads_are : AreHeads lists below at (length lists) heads
  pub parts : merged lists below ≡ done ++ left_in_order lists below at
  pub text : Sends (entries_text names done) kept old new
  pub count_is : count ≡ length done

left_at_first : (below : ℕ) (lists : List (List Entry)) → left_from below (λ _. 0) lists ≡ entries_before below (events_of lists)
left_at_first below [] = refl
left_at_first below (h ∷ hs) = ap (λ xs. entries_before below h ++ xs) (left_at_first below hs) ∙ sym (filter-append (λ (e : Entry). nat_lt e.key.time below) h (events_of hs))

pub written_none : (names : Names) (lists : List (List Entry)) (below : ℕ) (heads : List (Reverse Head)) (kept : List ℕ) (old : Option (List ℕ)) → kept ≡ [] → AreHeads lists below (λ _. 0) (length lists) heads → (done : List Entry) × (at : ℕ → ℕ) × AreWritten names lists below heads kept old old 0 done at
written_none names lists below heads kept old none are = (
  [],
  (λ _. 0),
  record {
    heads_are = are;
    parts = ap (λ xs. in_key_order xs) (sym (left_at_first below lists));
    text = subst (λ t. Sends t kept old old) (none ∙ sym (text_none names)) (sends_nothing kept old);
    count_is = refl;
  },
)

put_long : (x : Entry) (ys : List Entry) → length (put (λ (e : Entry). e.key) x ys) ≡ suc (length ys)
put_long x [] = refl
put_long x (y ∷ ys) =
    ⊎_elim (λ (t : comes_before x.key y.key ≡ true). rw t refl) (λ (f : comes_before x.key y.key ≡ false). rw f (let rest = put_long x ys in omega arith)) (test_cases (comes_before x.key y.key))

put_all_long : (xs ys : List Entry) → length (put_all (λ (e : Entry). e.key) xs ys) ≡ length xs + length ys
put_all_long [] ys = omega arith
put_all_long (x ∷ xs) ys = let rest = put_all_long xs (put (λ (e : Entry). e.key) x ys) in let one = put_long x ys in omega arith

filter_short : (p : Entry → Bool) (xs : List Entry) → length (filter p xs) ≤ length xs
filter_short p [] = omega arith
filter_short p (x ∷ xs) =
    let rest = filter_short p xs in
    ⊎_elim (λ (t : p x ≡ true). rw t (omega arith)) (λ (f : p x ≡ false). rw f (omega arith)) (test_cases (p x))

pub merged_short : (lists : List (List Entry)) (below : ℕ) → length (merged lists below) ≤ length (events_of lists)
merged_short lists below = let long = put_all_long (entries_before below (events_of lists)) [] in let short = filter_short (λ (e : Entry). nat_lt e.key.time below) (events_of lists) in omega arith

only_first : (x : Entry) (xs : List Entry) → Among x xs ⊎ Among x [] → Among x xs
only_first x xs (inl a) = a
only_first x xs (inr a) = absurd a

-- what is merged is of the histories and below the bound
pub merged_from : (lists : List (List Entry)) (below : ℕ) (x : Entry) → Among x (merged lists below) → Among x (events_of lists) × (x.key.time < below)
merged_from lists below x among =
    let kept = only_first x (entries_before below (events_of lists)) (put_all_among (λ (e : Entry). e.key) x (entries_before below (events_of lists)) [] among) in
    let found = filter_among (λ (e : Entry). nat_lt e.key.time below) x (events_of lists) kept in
    (found.among, ltb-true x.key.time below found.passes)

pub merged_whole : (lists : List (List Entry)) (below : ℕ) (x : Entry) → Among x (events_of lists) → x.key.time < below → Among x (merged lists below)
merged_whole lists below x among early =
    among_put_all_self (λ (e : Entry). e.key) x (entries_before below (events_of lists)) [] (among_filter (λ (e : Entry). nat_lt e.key.time below) x (events_of lists) among (lt-ltb x.key.time below early))

pub merged_rises : (lists : List (List Entry)) (below : ℕ) → IsApart (λ (e : Entry). e.key) (events_of lists) → IsRising (λ (e : Entry). e.key) (merged lists below)
merged_rises lists below apart =
    put_all_rises (λ (e : Entry). e.key) (entries_before below (events_of lists)) [] tt (filter_apart (λ (e : Entry). e.key) (λ (e : Entry). nat_lt e.key.time below) (events_of lists) apart) (λ x y a b. absurd b)

pub rising_in_order : (xs : List Entry) → IsRising (λ (e : Entry). e.key) xs → IsInOrder xs
rising_in_order [] r = tt
rising_in_order (x ∷ xs) r = (
  (λ y among. ⊎_elim (λ (t : comes_before y.key x.key ≡ true). absurd (before_asym y.key x.key t (r.0 y among))) (λ (f : comes_before y.key x.key ≡ false). f) (test_cases (comes_before y.key x.key))),
  rising_in_order xs r.1,
)

-- what the next entry tells: after it the heads are `later`
abbrev pub HasNext : List (List Entry) → ℕ → List (Reverse Head) → List (Reverse Head) → Entry → Type 0
HasNext lists below heads later e = (at : ℕ → ℕ) → AreHeads lists below at (length lists) heads → (after : ℕ → ℕ) × AreHeads lists below after (length lists) later × (left_in_order lists below at ≡ e ∷ left_in_order lists below after)

abbrev pub IsWritten : Names → List (List Entry) → ℕ → List (Reverse Head) → List ℕ → Option (List ℕ) → Option (List ℕ) → ℕ → Type 0
IsWritten names lists below heads kept old new count = (done : List Entry) × (at : ℕ → ℕ) × AreWritten names lists below heads kept old new count done at

pub some_heads : (names : Names) (lists : List (List Entry)) (below : ℕ) (heads : List (Reverse Head)) (kept : List ℕ) (old new : Option (List ℕ)) (count : ℕ) → IsWritten names lists below heads kept old new count → (at : ℕ → ℕ) × AreHeads lists below at (length lists) heads
some_heads names lists below heads kept old new count written = (written.1, written.2.heads_are)

-- all that is merged, where e comes next
pub next_parts : (names : Names) (lists : List (List Entry)) (below : ℕ) (heads later : List (Reverse Head)) (kept : List ℕ) (old new : Option (List ℕ)) (count : ℕ) (e : Entry) → IsWritten names lists below heads kept old new count → HasNext lists below heads later e
    → (done rest : List Entry) × (merged lists below ≡ done ++ e ∷ rest) × Sends (entries_text names done) kept old new × (count ≡ length done)
next_parts names lists below heads later kept old new count e written next =
    let step = next written.1 written.2.heads_are in
    (written.0, left_in_order lists below step.0, written.2.parts ∙ ap (λ xs. written.0 ++ xs) step.2, written.2.text, written.2.count_is)

pub next_named : (names : Names) (lists : List (List Entry)) (below : ℕ) (heads later : List (Reverse Head)) (kept : List ℕ) (old new : Option (List ℕ)) (count : ℕ) (e : Entry) → CanMerge names lists → IsWritten names lists below heads kept old new count → HasNext lists below heads later e
    → e.entity < length names.names
next_named names lists below heads later kept old new count e can written next =
    let p = next_parts names lists below heads later kept old new count e written next in
    let among : Among e (merged lists below) = subst (λ xs. Among e xs) (sym p.2) (among_append_right e p.0 (e ∷ p.1) (inl refl)) in
    can.named e (merged_from lists below e among).0

pub next_count : (names : Names) (lists : List (List Entry)) (below : ℕ) (heads later : List (Reverse Head)) (kept : List ℕ) (old new : Option (List ℕ)) (count : ℕ) (e : Entry) → IsWritten names lists below heads kept old new count → HasNext lists below heads later e → count < length (merged lists below)
next_count names lists below heads later kept old new count e written next =
    let p = next_parts names lists below heads later kept old new count e written next in
    let long = ap length p.2 ∙ length-append p.0 (e ∷ p.1) in
    let is = p.4 in
    omega arith

pub next_written : (names : Names) (lists : List (List Entry)) (below : ℕ) (heads later : List (Reverse Head)) (kept rest : List ℕ) (old mid new : Option (List ℕ)) (count : ℕ) (e : Entry) → IsWritten names lists below heads kept old mid count → HasNext lists below heads later e → Sends (kept ++ record_text names e) rest mid new
    → IsWritten names lists below later rest old new (count + 1)
next_written names lists below heads later kept rest old mid new count e written next text =
    let step = next written.1 written.2.heads_are in
    let done = written.0 in
    let one : List Entry = e ∷ [] in
    let long = length-append done one in
    let is = written.2.count_is in (
      done ++ one,
      step.0,
      record {
        heads_are = step.1;
        parts = written.2.parts ∙ (ap (λ xs. done ++ xs) step.2 ∙ sym (append_assoc done one (left_in_order lists below step.0)));
        text = subst (λ t. Sends t rest old new) (sym (text_one names done e)) (sends_more (entries_text names done) kept (record_text names e) rest old mid new written.2.text text);
        count_is = omega arith;
      },
    )

pub next_failed : (names : Names) (lists : List (List Entry)) (below : ℕ) (heads later : List (Reverse Head)) (kept : List ℕ) (old mid new : Option (List ℕ)) (count : ℕ) (e : Entry) → IsWritten names lists below heads kept old mid count → HasNext lists below heads later e → AppendsPrefix (kept ++ record_text names e) mid new
    → AppendsPrefix (entries_text names (merged lists below)) old new
next_failed names lists below heads later kept old mid new count e written next part =
    let p = next_parts names lists below heads later kept old mid count e written next in
    let text : entries_text names (merged lists below) ≡ entries_text names p.0 ++ (record_text names e ++ entries_text names p.1) = ap (λ xs. entries_text names xs) p.2 ∙ text_push names p.0 e p.1 in
    subst (λ t. AppendsPrefix t old new) (sym text) (subst (λ t. AppendsPrefix t old new) (append_assoc (entries_text names p.0) (record_text names e) (entries_text names p.1))
    (part_longer (entries_text names p.0 ++ record_text names e) (entries_text names p.1) old new (part_more (entries_text names p.0) kept (record_text names e) old mid new p.3 part)))

-- nothing comes next
abbrev pub HasNone : List (List Entry) → ℕ → List (Reverse Head) → Type 0
HasNone lists below heads = (at : ℕ → ℕ) → AreHeads lists below at (length lists) heads → left_in_order lists below at ≡ []

pub all_written : (names : Names) (lists : List (List Entry)) (below : ℕ) (heads : List (Reverse Head)) (kept : List ℕ) (old new : Option (List ℕ)) (count : ℕ) → IsWritten names lists below heads kept old new count → HasNone lists below heads
    → Sends (entries_text names (merged lists below)) kept old new × (count ≡ length (merged lists below))
all_written names lists below heads kept old new count written none =
    let is : merged lists below ≡ written.0 = written.2.parts ∙ (ap (λ xs. written.0 ++ xs) (none written.1 written.2.heads_are) ∙ append-nil written.0) in
    (subst (λ xs. Sends (entries_text names xs) kept old new) (sym is) written.2.text, written.2.count_is ∙ ap length (sym is))

-- ---- as the code has it

pub on_err : {T F : Type 0} (r : Result T F) (P : Type 0) → P → OnErr r P
on_err (Ok v) P p = tt
on_err (Err e) P p = p

lines_split : (lines : List Line) (i : ℕ) (d : Line) → i < length lines → flat_map action_line lines ≡ flat_map action_line (take i lines) ++ (action_line (slice_index_or lines i d) ++ flat_map action_line (drop (suc i) lines))
lines_split [] i d h = absurd (omega arith)
lines_split (x ∷ xs) zero d h = refl
lines_split (x ∷ xs) (suc i) d h =
    ap (λ t. action_line x ++ t) (lines_split xs i d (omega arith))
    ∙ sym (append_assoc (action_line x) (flat_map action_line (take i xs)) (action_line (slice_index_or xs i d) ++ flat_map action_line (drop (suc i) xs)))

-- the lines of actions up to one, and that one
pub actions_next : (lines : List Line) (i : ℕ) (d : Line) (base : List ℕ) → i < length lines
    → base ++ flat_map action_line lines ≡ ((base ++ flat_map action_line (take i lines)) ++ action_line (slice_index_or lines i d)) ++ flat_map action_line (drop (suc i) lines)
actions_next lines i d base h =
    let done = flat_map action_line (take i lines) in
    let one = action_line (slice_index_or lines i d) in
    let later = flat_map action_line (drop (suc i) lines) in
    ap (λ t. base ++ t) (lines_split lines i d h)
    ∙ (sym (append_assoc base done (one ++ later)) ∙ sym (append_assoc (base ++ done) one later))

lines_taken : (lines : List Line) (i : ℕ) (d : Line) → i < length lines → flat_map action_line (take (suc i) lines) ≡ flat_map action_line (take i lines) ++ action_line (slice_index_or lines i d)
lines_taken [] i d h = absurd (omega arith)
lines_taken (x ∷ xs) zero d h = append-nil (action_line x)
lines_taken (x ∷ xs) (suc i) d h =
    ap (λ t. action_line x ++ t) (lines_taken xs i d (omega arith)) ∙ sym (append_assoc (action_line x) (flat_map action_line (take i xs)) (action_line (slice_index_or xs i d)))

-- one more line of an action was sent or is held back
pub lines_sent : (lines : List Line) (i next : ℕ) (d : Line) (base mid rest : List ℕ) (old new later : Option (List ℕ)) → next ≡ suc i → i < length lines → Sends (base ++ flat_map action_line (take i lines)) mid old new
    → Sends (mid ++ action_line (slice_index_or lines i d)) rest new later → Sends (base ++ flat_map action_line (take next lines)) rest old later
lines_sent lines i next d base mid rest old new later is h first second =
    let done = flat_map action_line (take i lines) in
    let one = action_line (slice_index_or lines i d) in
    let text : base ++ flat_map action_line (take next lines) ≡ (base ++ done) ++ one =
    ap (λ n. base ++ flat_map action_line (take n lines)) is ∙ (ap (λ t. base ++ t) (lines_taken lines i d h) ∙ sym (append_assoc base done one)) in
    subst (λ t. Sends t rest old later) (sym text) (sends_more (base ++ done) mid one rest old new later first second)

-- a line of an action was not sent
pub lines_failed : (lines : List Line) (i : ℕ) (d : Line) (base mid : List ℕ) (old new later : Option (List ℕ)) → i < length lines → Sends (base ++ flat_map action_line (take i lines)) mid old new
    → AppendsPrefix (mid ++ action_line (slice_index_or lines i d)) new later → AppendsPrefix (base ++ flat_map action_line lines) old later
lines_failed lines i d base mid old new later h sent part =
    let done = base ++ flat_map action_line (take i lines) in
    let one = action_line (slice_index_or lines i d) in
    subst (λ t. AppendsPrefix t old later) (sym (actions_next lines i d base h))
    (part_longer (done ++ one) (flat_map action_line (drop (suc i) lines)) old later (part_more done mid one old new later sent part))

record_whole : (names : Names) (entry : Entry) (name base : List ℕ) → slice_get names.names entry.entity ≡ Some name
    → base ++ record_text names entry ≡ (base ++ event_line name entry) ++ flat_map action_line entry.lines
record_whole names entry name base named =
    ap (λ t. base ++ t) (record_is names entry name named) ∙ sym (append_assoc base (event_line name entry) (flat_map action_line entry.lines))

-- all of a record was sent or is held back, or the line of the event was not sent, or those of its actions were not
pub record_sent : (names : Names) (entry : Entry) (name base mid rest : List ℕ) (lines : List Line) (old new later : Option (List ℕ)) → slice_get names.names entry.entity ≡ Some name → lines ≡ entry.lines
    → Sends (base ++ event_line name entry) mid old new → Sends (mid ++ flat_map action_line lines) rest new later → Sends (base ++ record_text names entry) rest old later
record_sent names entry name base mid rest lines old new later named same first second =
    subst (λ t. Sends t rest old later) (sym (record_whole names entry name base named))
    (sends_more (base ++ event_line name entry) mid (flat_map action_line entry.lines) rest old new later first (subst (λ xs. Sends (mid ++ flat_map action_line xs) rest new later) same second))

pub event_failed : (names : Names) (entry : Entry) (name base : List ℕ) (old new : Option (List ℕ)) → slice_get names.names entry.entity ≡ Some name
    → AppendsPrefix (base ++ event_line name entry) old new → AppendsPrefix (base ++ record_text names entry) old new
event_failed names entry name base old new named part =
    subst (λ t. AppendsPrefix t old new) (sym (record_whole names entry name base named)) (part_longer (base ++ event_line name entry) (flat_map action_line entry.lines) old new part)

pub actions_failed : (names : Names) (entry : Entry) (name base mid : List ℕ) (lines : List Line) (old new later : Option (List ℕ)) → slice_get names.names entry.entity ≡ Some name → lines ≡ entry.lines
    → Sends (base ++ event_line name entry) mid old new → AppendsPrefix (mid ++ flat_map action_line lines) new later → AppendsPrefix (base ++ record_text names entry) old later
actions_failed names entry name base mid lines old new later named same first part =
    subst (λ t. AppendsPrefix t old later) (sym (record_whole names entry name base named))
    (part_more (base ++ event_line name entry) mid (flat_map action_line entry.lines) old new later first (subst (λ xs. AppendsPrefix (mid ++ flat_map action_line xs) new later) same part))

longest_grows : (names : List (List ℕ)) (n : ℕ) → n ≤ fold (λ longest (name : List ℕ). max longest (length name)) n names
longest_grows [] n = omega arith
longest_grows (x ∷ xs) n = let rest = longest_grows xs (max n (length x)) in omega arith

longest_of_all : (names : List (List ℕ)) (n i : ℕ) (name : List ℕ) → slice_get names i ≡ Some name → length name ≤ fold (λ longest (x : List ℕ). max longest (length x)) n names
longest_of_all [] n i name h = absurd (cc)
longest_of_all (x ∷ xs) n zero name h = let same : x ≡ name = cc in let long = ap length same in let rest = longest_grows xs (max n (length x)) in omega arith
longest_of_all (x ∷ xs) n (suc i) name h = longest_of_all xs (max n (length x)) i name h

pub name_short : (names : Names) (i : ℕ) (name : List ℕ) → slice_get names.names i ≡ Some name → length name ≤ longest_name names
name_short names i name h = longest_of_all names.names 0 i name h
