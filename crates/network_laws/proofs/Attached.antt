-- Attachments: each is an interface of its own, and those of a link stand in the order of its keys.
use Rattle.std.proofs.Common.{◌≡◌, ◌≢◌, ℕ, zero, suc, ◌+◌, ◌<◌, ◌≤◌, Bool, true, false, nat_eq, eqb, List, [], ◌∷◌, ◌++◌, length, map, get_or, Option, Some, None, refl, ap, sym, ◌∙◌, arith, append_assoc, append-nil, subst}
use Rattle.std.specs.Prelude.{All, if◌then◌else◌}
use Rattle.std.specs.List.{AllPairs, Contains, list_any}
use Rattle.std.specs.Option.{unwrap_or}
use Rattle.std.proofs.lemmas.Bool.{eq-eqb, eqb-true}
use Rattle.std.proofs.lemmas.Bool.Decides.{nat_tests}
use Rattle.std.proofs.lemmas.List.{get_or-map, length-map, get_or_default}
use Rattle.std.proofs.lemmas.List.Elements.{All-nil, All-cons, All-append, All-weaker, All-head, All-tail, Contains-append_left, Contains-append_right, Contains-get_or}
use Rattle.std.proofs.lemmas.List.Quantifiers.{position-Some, all_pairs_push}
use Rattle.nhi_address.specs.NhiFields.{NhiFields}
use Rattle.net_graph.specs.declared.fault.ShapeFault.{ShapeFault}
use Rattle.net_graph.specs.declared.fault.ShapeFault.TheVariants.{AttachedTwice}
use Rattle.net_graph.specs.declared.rows.InterfaceRow.{InterfaceRow}
use Rattle.net_graph.specs.declared.seen.LinkSeen.{LinkSeen}
use Rattle.net_graph.specs.declared.seen.Seen.{Seen}
use Rattle.net_graph.specs.Names.{same}
use Rattle.net_graph.specs.SeenRows.{first_some, fault_if}
use Rattle.net_graph.specs.Networks.{no_interface}
use Rattle.net_graph.specs.NetworkOf.{Attachment, attachments_of, attachments_from, attachments, full, interface_by_nhi, first_interface, host_by_ids, same_number, is_at, attachment_fault, attachments_fault, attached_at, attached_numbers}
use Rattle.network_laws.proofs.Names.{none_passes}

-- an interface that is found is there

first_within : (seen : Seen) (h : Option ℕ) (n : ℕ) → first_interface seen h ≡ Some n → n < length seen.interfaces
first_within seen None n e = let no : ⊥ = cc in absurd no
first_within seen (Some h) n e = (position-Some (λ (row : InterfaceRow). nat_eq row.host h) seen.interfaces n no_interface e).0

pub interface_within : (seen : Seen) (nhi : NhiFields) (o : Option ℕ) (n : ℕ) → length seen.interfaces ≡ length seen.interface_names → interface_by_nhi seen nhi o ≡ Some n → n < length seen.interfaces
interface_within seen nhi None n long e = first_within seen (host_by_ids seen nhi.ids) n e
interface_within seen nhi (Some id) n long e =
    let lt : n < length seen.interface_names = (position-Some (same (nhi.ids ++ id ∷ [])) seen.interface_names n [] e).0 in omega arith

abbrev pub IsThere : ℕ → Attachment → Type 0
IsThere count a = (n : ℕ) → a.interface ≡ Some n → n < count

there_of : (seen : Seen) (number : ℕ) (path : List ℕ) (place : ℕ) (nhis : List NhiFields) → length seen.interfaces ≡ length seen.interface_names → All (IsThere (length seen.interfaces)) (attachments_of seen number path place nhis)
there_of seen number path place [] long = All-nil (IsThere (length seen.interfaces))
there_of seen number path place (nhi ∷ nhis) long =
    All-cons (IsThere (length seen.interfaces)) (record { link = number; place = place; nhi = full path nhi; interface = interface_by_nhi seen (full path nhi) nhi.interface }) (attachments_of seen number path (place + 1) nhis)
    (λ n e. interface_within seen (full path nhi) nhi.interface n long e) (there_of seen number path (place + 1) nhis long)

there_from : (seen : Seen) (number : ℕ) (ls : List LinkSeen) → length seen.interfaces ≡ length seen.interface_names → All (IsThere (length seen.interfaces)) (attachments_from seen number ls)
there_from seen number [] long = All-nil (IsThere (length seen.interfaces))
there_from seen number (l ∷ ls) long = All-append (IsThere (length seen.interfaces)) (attachments_of seen number l.path 0 l.keys.attached) (attachments_from seen (number + 1) ls) (there_of seen number l.path 0 l.keys.attached long) (there_from seen (number + 1) ls long)

-- no interface is attached twice

abbrev pub Differ : Attachment → Attachment → Type 0
Differ a b = a.interface ≢ b.interface

abbrev pub HasInterface : Attachment → Type 0
HasInterface a = (n : ℕ) × (a.interface ≡ Some n)

at_is : (o : Option ℕ) (n : ℕ) → o ≡ Some n → same_number o n ≡ true
at_is None n e = cc
at_is (Some m) n e = let same : m ≡ n = cc in rw same (eq-eqb n n refl)

is_at_is : (o : Option ℕ) (n : ℕ) → same_number o n ≡ true → o ≡ Some n
is_at_is None n e = cc
is_at_is (Some m) n e = ap Some (eqb-true m n e)

no_fault : (b : Bool) (fault : ShapeFault) (rest : Option ShapeFault) → first_some (fault_if b fault) rest ≡ None → (b ≡ false) × (rest ≡ None)
no_fault true fault rest e = cc
no_fault false fault rest e = (refl, e)

one_attached : (before : List Attachment) (nhi : NhiFields) (o : Option ℕ) (rest : Option ShapeFault) → first_some (attachment_fault before nhi o) rest ≡ None →
    ((n : ℕ) × (o ≡ Some n)) × All (λ (b : Attachment). b.interface ≢ o) before × (rest ≡ None)
one_attached before nhi None rest e = let no : ⊥ = cc in absurd no
one_attached before nhi (Some n) rest e =
    let fine = no_fault (list_any (is_at n) before) (AttachedTwice nhi) rest e in
    ((n, refl), All-weaker (λ (b : Attachment). is_at n b ≡ false) (λ (b : Attachment). b.interface ≢ Some n) (λ b other same. let yes = at_is b.interface n same in cc) before (none_passes (is_at n) before fine.0), fine.1)

differ_from : (before all : List Attachment) → attachments_fault before all ≡ None → AllPairs Differ before → AllPairs Differ (before ++ all)
differ_from before [] e apart = rw (append-nil before) apart
differ_from before (a ∷ more) e apart =
    let one = one_attached before a.nhi a.interface (attachments_fault (before ++ a ∷ []) more) e in
    let next : AllPairs Differ (before ++ a ∷ []) = all_pairs_push Differ before a apart (λ k d lt. one.1 k d lt) in
    rw append_assoc at (differ_from (before ++ a ∷ []) more one.2 next)

have_from : (before all : List Attachment) → attachments_fault before all ≡ None → All HasInterface all
have_from before [] e = All-nil HasInterface
have_from before (a ∷ more) e =
    let one = one_attached before a.nhi a.interface (attachments_fault (before ++ a ∷ []) more) e in
    All-cons HasInterface a more one.0 (have_from (before ++ a ∷ []) more one.2)

pub have_all : (all : List Attachment) → attachments_fault [] all ≡ None → All HasInterface all
have_all all e = have_from [] all e

pub differ_all : (all : List Attachment) → attachments_fault [] all ≡ None → AllPairs Differ all
differ_all all e = differ_from [] all e (λ i j d lt less. absurd (omega arith))

-- the attachment of an interface

pub record Holder (all : List Attachment) (n : ℕ) (at : ℕ × ℕ) : Type 0 where
  pub index : ℕ
  pub within : index < length all
  pub interface : (d : Attachment) → (get_or all index d).interface ≡ Some n
  pub place : (d : Attachment) → at ≡ ((get_or all index d).link, (get_or all index d).place)

holder_by : (all : List Attachment) (a : Attachment) (n : ℕ) (at : ℕ × ℕ) (b : Bool) → is_at n a ≡ b → (attached_at all n ≡ Some at → Holder all n at) → (if b then Some (a.link, a.place) else attached_at all n) ≡ Some at → Holder (a ∷ all) n at
holder_by all a n at true is next e = record { index = 0; within = omega arith; interface = λ d. is_at_is a.interface n is; place = λ d. (let same : (let p : ℕ × ℕ = (a.link, a.place) in p ≡ at) = cc in sym same) }
holder_by all a n at false is next e =
    let h = next e in
    let lt = h.within in
    record { index = suc h.index; within = omega arith; interface = λ d. h.interface d; place = λ d. h.place d }

pub holder_of : (all : List Attachment) (n : ℕ) (at : ℕ × ℕ) → attached_at all n ≡ Some at → Holder all n at
holder_of [] n at e = let no : ⊥ = cc in absurd no
holder_of (a ∷ all) n at e = holder_by all a n at (is_at n a) refl (holder_of all n at) e

link_by : (all : List Attachment) (a : Attachment) (n : ℕ) (at : ℕ × ℕ) (b : Bool) → is_at n a ≡ b → a.interface ≢ Some n → attached_at all n ≡ Some at → (if b then Some (a.link, a.place) else attached_at all n) ≡ Some at
link_by all a n at true is other e = absurd (other (is_at_is a.interface n is))
link_by all a n at false is other e = e

pub link_of : (all : List Attachment) (i n : ℕ) (d : Attachment) → AllPairs Differ all → i < length all → (get_or all i d).interface ≡ Some n → attached_at all n ≡ Some ((get_or all i d).link, (get_or all i d).place)
link_of [] i n d apart lt e = absurd (omega arith)
link_of (a ∷ all) zero n d apart lt e = rw (at_is a.interface n e) refl
link_of (a ∷ all) (suc i) n d apart lt e =
    link_by all a n ((get_or all i d).link, (get_or all i d).place) (is_at n a) refl (λ same. apart 0 (suc i) d (omega arith) (omega arith) (same ∙ sym e))
    (link_of all i n d (λ j k c less few. apart (suc j) (suc k) c (omega arith) (omega arith)) (omega arith) e)

-- the numbers of the interfaces that a link attaches

abbrev pub number_of : Attachment → ℕ
number_of a = unwrap_or a.interface 0

then_append : (b : Bool) (x : ℕ) (xs ys : List ℕ) → (if b then x ∷ (xs ++ ys) else xs ++ ys) ≡ (if b then x ∷ xs else xs) ++ ys
then_append true x xs ys = refl
then_append false x xs ys = refl

numbers-append : (n : ℕ) (xs ys : List Attachment) → attached_numbers n (xs ++ ys) ≡ attached_numbers n xs ++ attached_numbers n ys
numbers-append n [] ys = refl
numbers-append n (a ∷ xs) ys = ap (λ (l : List ℕ). if nat_eq a.link n then number_of a ∷ l else l) (numbers-append n xs ys) ∙ then_append (nat_eq a.link n) (number_of a) (attached_numbers n xs) (attached_numbers n ys)

same_block : (seen : Seen) (n : ℕ) (path : List ℕ) (place : ℕ) (nhis : List NhiFields) → attached_numbers n (attachments_of seen n path place nhis) ≡ map number_of (attachments_of seen n path place nhis)
same_block seen n path place [] = refl
same_block seen n path place (nhi ∷ nhis) = rw (eq-eqb n n refl) (ap (λ (l : List ℕ). unwrap_or (interface_by_nhi seen (full path nhi) nhi.interface) 0 ∷ l) (same_block seen n path (place + 1) nhis))

other_block : (seen : Seen) (m n : ℕ) (path : List ℕ) (place : ℕ) (nhis : List NhiFields) → m ≢ n → attached_numbers n (attachments_of seen m path place nhis) ≡ []
other_block seen m n path place [] other = refl
other_block seen m n path place (nhi ∷ nhis) other = let no : eqb m n ≡ false = grind (arith, nat_tests) in rw no (other_block seen m n path (place + 1) nhis other)

no_block : (seen : Seen) (n base : ℕ) (ls : List LinkSeen) → n < base → attached_numbers n (attachments_from seen base ls) ≡ []
no_block seen n base [] lt = refl
no_block seen n base (l ∷ ls) lt =
    numbers-append n (attachments_of seen base l.path 0 l.keys.attached) (attachments_from seen (base + 1) ls)
    ∙ (ap (λ (x : List ℕ). x ++ attached_numbers n (attachments_from seen (base + 1) ls)) (other_block seen base n l.path 0 l.keys.attached (λ e. omega arith)) ∙ no_block seen n (base + 1) ls (omega arith))

-- the attachments of a link
abbrev pub block : Seen → ℕ → LinkSeen → List Attachment
block seen n l = attachments_of seen n l.path 0 l.keys.attached

numbers_are : (seen : Seen) (base j n : ℕ) (ls : List LinkSeen) (d : LinkSeen) → n ≡ base + j → j < length ls → attached_numbers n (attachments_from seen base ls) ≡ map number_of (block seen n (get_or ls j d))
numbers_are seen base j n [] d e lt = absurd (omega arith)
numbers_are seen base zero n (l ∷ ls) d e lt =
    let here : n ≡ base = omega arith in
    rw here (numbers-append base (block seen base l) (attachments_from seen (base + 1) ls)
    ∙ (ap (λ (x : List ℕ). attached_numbers base (block seen base l) ++ x) (no_block seen base (base + 1) ls (omega arith))
    ∙ (append-nil (attached_numbers base (block seen base l)) ∙ same_block seen base l.path 0 l.keys.attached)))
numbers_are seen base (suc j) n (l ∷ ls) d e lt =
    numbers-append n (block seen base l) (attachments_from seen (base + 1) ls)
    ∙ (ap (λ (x : List ℕ). x ++ attached_numbers n (attachments_from seen (base + 1) ls)) (other_block seen base n l.path 0 l.keys.attached (λ same. omega arith))
    ∙ numbers_are seen (base + 1) j n ls d (omega arith) (omega arith))

length-block : (seen : Seen) (n : ℕ) (path : List ℕ) (place : ℕ) (nhis : List NhiFields) → length (attachments_of seen n path place nhis) ≡ length nhis
length-block seen n path place [] = refl
length-block seen n path place (nhi ∷ nhis) = ap (λ (m : ℕ). suc m) (length-block seen n path (place + 1) nhis)

block_at : (seen : Seen) (n : ℕ) (path : List ℕ) (place : ℕ) (nhis : List NhiFields) (k : ℕ) (d : Attachment) → k < length nhis →
    ((get_or (attachments_of seen n path place nhis) k d).link ≡ n) × ((get_or (attachments_of seen n path place nhis) k d).place ≡ place + k)
block_at seen n path place [] k d lt = absurd (omega arith)
block_at seen n path place (nhi ∷ nhis) zero d lt = (refl, omega arith)
block_at seen n path place (nhi ∷ nhis) (suc k) d lt = let next = block_at seen n path (place + 1) nhis k d (omega arith) in let at = next.1 in (next.0, omega arith)

-- an attachment of the link with this place among some
pub record Among (seen : Seen) (base : ℕ) (ls : List LinkSeen) (d : LinkSeen) (a : Attachment) : Type 0 where
  pub index : ℕ
  pub within : index < length ls
  pub link_is : a.link ≡ base + index
  pub place_within : a.place < length (block seen (base + index) (get_or ls index d))
  pub stands : get_or (block seen (base + index) (get_or ls index d)) a.place a ≡ a

in_block : (seen : Seen) (base n : ℕ) (l : LinkSeen) (ls : List LinkSeen) (d : LinkSeen) → n ≡ base + 0 → All (Among seen base (l ∷ ls) d) (block seen n l)
in_block seen base n l ls d e k c lt =
    let long : length (block seen n l) ≡ length l.keys.attached = length-block seen n l.path 0 l.keys.attached in
    let at = block_at seen n l.path 0 l.keys.attached k c (omega arith) in
    let place : (get_or (block seen n l) k c).place ≡ k = (let p = at.1 in omega arith) in
    record {
      index = 0;
      within = omega arith;
      link_is = at.0 ∙ e;
      place_within = rw (← e) (omega arith);
      stands = rw (← e) (ap (λ (i : ℕ). get_or (block seen n l) i (get_or (block seen n l) k c)) place ∙ get_or_default (block seen n l) k (get_or (block seen n l) k c) c lt);
    }

later : (seen : Seen) (base : ℕ) (l : LinkSeen) (ls : List LinkSeen) (d : LinkSeen) (a : Attachment) → Among seen (base + 1) ls d a → Among seen base (l ∷ ls) d a
later seen base l ls d a among =
    let next : base + 1 + among.index ≡ base + suc among.index = omega arith in
    let lt = among.within in
    record {
      index = suc among.index;
      within = omega arith;
      link_is = among.link_is ∙ next;
      place_within = rw (← next) among.place_within;
      stands = rw (← next) among.stands;
    }

pub among_all : (seen : Seen) (base : ℕ) (ls : List LinkSeen) (d : LinkSeen) → All (Among seen base ls d) (attachments_from seen base ls)
among_all seen base [] d = All-nil (Among seen base [] d)
among_all seen base (l ∷ ls) d =
    All-append (Among seen base (l ∷ ls) d) (block seen base l) (attachments_from seen (base + 1) ls) (in_block seen base base l ls d (omega arith))
    (All-weaker (Among seen (base + 1) ls d) (Among seen base (l ∷ ls) d) (later seen base l ls d) (attachments_from seen (base + 1) ls) (among_all seen (base + 1) ls d))

contains_all : (seen : Seen) (base j n : ℕ) (ls : List LinkSeen) (d : LinkSeen) (a : Attachment) → n ≡ base + j → j < length ls → Contains (block seen n (get_or ls j d)) a → Contains (attachments_from seen base ls) a
contains_all seen base j n [] d a e lt has = absurd (omega arith)
contains_all seen base zero n (l ∷ ls) d a e lt has = let here : n ≡ base = omega arith in Contains-append_left (block seen base l) (attachments_from seen (base + 1) ls) a (subst (λ (m : ℕ). Contains (block seen m l) a) here has)
contains_all seen base (suc j) n (l ∷ ls) d a e lt has = Contains-append_right (block seen base l) (attachments_from seen (base + 1) ls) a (contains_all seen (base + 1) j n ls d a (omega arith) (omega arith) has)

-- what the rows of links and interfaces want of the attachments

pub no_attachment : Attachment
no_attachment = record { link = 0; place = 0; nhi = record { ids = []; interface = None }; interface = None }

pub no_link_seen : LinkSeen
no_link_seen = record { net = 0; path = []; order = 0; keys = record { attached = []; delay = 0; priority = 0; downs = [] } }

pub record Attaches (links interfaces : ℕ) (all : List Attachment) : Type 0 where
  pub link : (n : ℕ) (at : ℕ × ℕ) → attached_at all n ≡ Some at → at.0 < links
  pub place : (n : ℕ) (at : ℕ × ℕ) → attached_at all n ≡ Some at → at.1 < length (attached_numbers at.0 all)
  pub attached : (n : ℕ) (at : ℕ × ℕ) → attached_at all n ≡ Some at → get_or (attached_numbers at.0 all) at.1 0 ≡ n
  pub some : (l : ℕ) → l < links → 1 ≤ length (attached_numbers l all)
  pub there : (l : ℕ) → All (λ i. i < interfaces) (attached_numbers l all)
  pub back : (l k : ℕ) → l < links → k < length (attached_numbers l all) → attached_at all (get_or (attached_numbers l all) k 0) ≡ Some (l, k)

-- the place of an attachment
record Placed (all : List Attachment) (links n : ℕ) (at : ℕ × ℕ) : Type 0 where
  link : at.0 < links
  place : at.1 < length (attached_numbers at.0 all)
  attached : get_or (attached_numbers at.0 all) at.1 0 ≡ n

placed_at : (seen : Seen) (n : ℕ) (a : Attachment) → Among seen 0 seen.links no_link_seen a → a.interface ≡ Some n → Placed (attachments seen) (length seen.links) n (a.link, a.place)
placed_at seen n a among has =
    let link = get_or seen.links among.index no_link_seen in
    let lt = among.within in
    let is = among.link_is in
    let numbers : attached_numbers a.link (attachments seen) ≡ map number_of (block seen a.link link) = numbers_are seen 0 among.index a.link seen.links no_link_seen is lt in
    let few : a.place < length (block seen a.link link) = rw is among.place_within in
    let stands : get_or (block seen a.link link) a.place a ≡ a = subst (λ (m : ℕ). get_or (block seen m link) a.place a ≡ a) (sym is) among.stands in
    record {
      link = omega arith;
      place = rw (numbers, length-map (block seen a.link link) number_of) few;
      attached = rw numbers (get_or-map number_of (block seen a.link link) a.place a 0 few ∙ (ap number_of stands ∙ ap (λ (o : Option ℕ). unwrap_or o 0) has));
    }

placed : (seen : Seen) (n : ℕ) (at : ℕ × ℕ) → attached_at (attachments seen) n ≡ Some at → Placed (attachments seen) (length seen.links) n at
placed seen n at e =
    let h = holder_of (attachments seen) n at e in
    let a = get_or (attachments seen) h.index no_attachment in
    subst (Placed (attachments seen) (length seen.links) n) (sym (h.place no_attachment))
    (placed_at seen n a (among_all seen 0 seen.links no_link_seen h.index no_attachment h.within) (h.interface no_attachment))

there_by : (count : ℕ) (a : Attachment) → HasInterface a → IsThere count a → number_of a < count
there_by count a has there = let e : number_of a ≡ has.0 = ap (λ (o : Option ℕ). unwrap_or o 0) has.1 in let lt : has.0 < count = there has.0 has.1 in omega arith

numbers_there_by : (count : ℕ) (b : Bool) (x : ℕ) (xs : List ℕ) → x < count → All (λ i. i < count) xs → All (λ i. i < count) (if b then x ∷ xs else xs)
numbers_there_by count true x xs lt all = All-cons (λ (i : ℕ). i < count) x xs lt all
numbers_there_by count false x xs lt all = all

numbers_there : (count l : ℕ) (all : List Attachment) → All HasInterface all → All (IsThere count) all → All (λ i. i < count) (attached_numbers l all)
numbers_there count l [] has there = All-nil (λ (i : ℕ). i < count)
numbers_there count l (a ∷ all) has there =
    numbers_there_by count (nat_eq a.link l) (number_of a) (attached_numbers l all) (there_by count a (All-head HasInterface a all has) (All-head (IsThere count) a all there))
    (numbers_there count l all (All-tail HasInterface a all has) (All-tail (IsThere count) a all there))

-- an attachment stands at its place in its link, and its interface leads back to it
back_of : (all : List Attachment) (i l k m : ℕ) (a : Attachment) → AllPairs Differ all → i < length all → get_or all i a ≡ a → HasInterface (get_or all i a) → a.link ≡ l → a.place ≡ k → m ≡ number_of a → attached_at all m ≡ Some (l, k)
back_of all i l k m a apart lt here has link_is place_is e =
    let number : m ≡ has.0 = e ∙ (ap number_of (sym here) ∙ ap (λ (o : Option ℕ). unwrap_or o 0) has.1) in
    let spot : (let p : ℕ × ℕ = ((get_or all i a).link, (get_or all i a).place) in p ≡ (l, k)) = ap (λ (x : Attachment). (let p : ℕ × ℕ = (x.link, x.place) in p)) here ∙ (ap (λ (x : ℕ). (let p : ℕ × ℕ = (x, a.place) in p)) link_is ∙ ap (λ (x : ℕ). (let p : ℕ × ℕ = (l, x) in p)) place_is) in
    ap (attached_at all) number ∙ (link_of all i has.0 a apart lt has.1 ∙ ap Some spot)

numbers_back : (seen : Seen) (l k : ℕ) → attachments_fault [] (attachments seen) ≡ None → l < length seen.links → k < length (attached_numbers l (attachments seen)) →
    attached_at (attachments seen) (get_or (attached_numbers l (attachments seen)) k 0) ≡ Some (l, k)
numbers_back seen l k e lt less =
    let link = get_or seen.links l no_link_seen in
    let numbers : attached_numbers l (attachments seen) ≡ map number_of (block seen l link) = numbers_are seen 0 l l seen.links no_link_seen (omega arith) lt in
    let few : k < length (block seen l link) = rw (← length-map (block seen l link) number_of, ← numbers) less in
    let count : length (block seen l link) ≡ length link.keys.attached = length-block seen l link.path 0 link.keys.attached in
    let a = get_or (block seen l link) k no_attachment in
    let stands = block_at seen l link.path 0 link.keys.attached k no_attachment (omega arith) in
    let place = stands.1 in
    let has : Contains (attachments seen) a = contains_all seen 0 l l seen.links no_link_seen a (omega arith) lt (Contains-get_or (block seen l link) k no_attachment few) in
    back_of (attachments seen) has.0 l k (get_or (attached_numbers l (attachments seen)) k 0) a (differ_all (attachments seen) e) has.1 has.2 (have_all (attachments seen) e has.0 a has.1) stands.0 (omega arith)
    (ap (λ (x : List ℕ). get_or x k 0) numbers ∙ get_or-map number_of (block seen l link) k no_attachment 0 few)

pub attaches : (seen : Seen) → length seen.interfaces ≡ length seen.interface_names → All (λ (l : LinkSeen). 1 ≤ length l.keys.attached) seen.links → attachments_fault [] (attachments seen) ≡ None → Attaches (length seen.links) (length seen.interfaces) (attachments seen)
attaches seen long some e = record {
  link = λ n at is. (placed seen n at is).link;
  place = λ n at is. (placed seen n at is).place;
  attached = λ n at is. (placed seen n at is).attached;
  some = λ l lt.
      let numbers : attached_numbers l (attachments seen) ≡ map number_of (block seen l (get_or seen.links l no_link_seen)) = numbers_are seen 0 l l seen.links no_link_seen (omega arith) lt in
      rw (numbers, length-map (block seen l (get_or seen.links l no_link_seen)) number_of, length-block seen l (get_or seen.links l no_link_seen).path 0 (get_or seen.links l no_link_seen).keys.attached) (some l no_link_seen lt);
  there = λ l. numbers_there (length seen.interfaces) l (attachments seen) (have_all (attachments seen) e) (there_from seen 0 seen.links long);
  back = λ l k lt less. numbers_back seen l k e lt less;
}
