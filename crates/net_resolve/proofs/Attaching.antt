-- Attaching interfaces one after another, and the table that it makes.
use Rattle.std.proofs.Common.{◌≡◌, ℕ, zero, suc, ◌+◌, ◌<◌, ◌≤◌, ◌≢◌, Bool, true, false, cond, nat_eq, ◌||◌, List, [], ◌∷◌, ◌++◌, length, map, get_or, set, replicate, Option, Some, None, Ok, Err, is_some, refl, ap, sym, ◌∙◌, arith, append-nil, append_assoc, eqb-true, get_or-set_same, get_or-set_other, length-set, length-append, subst, sum_by}
use Rattle.std.proofs.lemmas.Bool.{eqb-false}
use Rattle.std.specs.Prelude.{if◌then◌else◌}
use Rattle.std.specs.List.{list_any}
use Rattle.std.specs.Option.{ForSome, unwrap_or}
use Rattle.std.proofs.lemmas.List.{length-replicate}
use Rattle.std.proofs.lemmas.List.Sums.{sum_by-set, count_by-le-length}
use Rattle.nhi_address.specs.NhiFields.{NhiFields}
use Rattle.net_graph.specs.declared.fault.ShapeFault.{ShapeFault}
use Rattle.net_graph.specs.declared.fault.ShapeFault.TheVariants.{UnknownNhi, AttachedTwice}
use Rattle.net_graph.specs.declared.seen.LinkSeen.{LinkSeen}
use Rattle.net_graph.specs.declared.seen.Seen.{Seen}
use Rattle.net_graph.specs.Names.{same}
use Rattle.net_graph.specs.Reads.{Read, then_read}
use Rattle.net_graph.specs.SeenRows.{first_some, fault_if}
use Rattle.net_graph.specs.NetworkOf.{Attachment, attachments, attachments_of, attachments_from, full, interface_by_nhi, first_interface, host_by_ids, is_at, attached_at, attachment_fault, attachments_fault}
use Rattle.net_resolve.specs.Tables.{Places, attachment_to, put_free, put_at, put, put_all, IsTable, is_taken, taken, interface_of}
use Rattle.net_resolve.proofs.Firsts.{position_below}

-- attachments after others

put_then_by : (r : Read Places) (q : Places) (xs ys : List Attachment) → ((m : Places) → put_all m xs ≡ Ok q → put_all m (xs ++ ys) ≡ put_all q ys) →
    then_read r (λ m. put_all m xs) ≡ Ok q → then_read r (λ m. put_all m (xs ++ ys)) ≡ put_all q ys
put_then_by (Ok m) q xs ys next e = next m e
put_then_by (Err fault) q xs ys next e = cc

pub put_then : (p q : Places) (xs ys : List Attachment) → put_all p xs ≡ Ok q → put_all p (xs ++ ys) ≡ put_all q ys
unfolding put_all
put_then p q [] ys e = let same : p ≡ q = cc in ap (λ (m : Places). put_all m ys) same
put_then p q (a ∷ xs) ys e = put_then_by (put p a) q xs ys (λ m here. put_then m q xs ys here) e

put_stop_by : (r : Read Places) (fault : ShapeFault) (xs ys : List Attachment) → ((m : Places) → put_all m xs ≡ Err fault → put_all m (xs ++ ys) ≡ Err fault) →
    then_read r (λ m. put_all m xs) ≡ Err fault → then_read r (λ m. put_all m (xs ++ ys)) ≡ Err fault
put_stop_by (Ok m) fault xs ys next e = next m e
put_stop_by (Err other) fault xs ys next e = cc

pub put_stop : (p : Places) (fault : ShapeFault) (xs ys : List Attachment) → put_all p xs ≡ Err fault → put_all p (xs ++ ys) ≡ Err fault
unfolding put_all
put_stop p fault [] ys e = cc
put_stop p fault (a ∷ xs) ys e = put_stop_by (put p a) fault xs ys (λ m here. put_stop m fault xs ys here) e

-- turns of the loop over what a link attaches

pub attach_turn : (seen : Seen) (number : ℕ) (path : List ℕ) (whole : Read Places) (p q : Places) (place : ℕ) (now rest : List NhiFields) (nhi : NhiFields) →
    whole ≡ put_all p (attachments_of seen number path place now) → now ≡ nhi ∷ rest → put p (attachment_to seen number place (full path nhi)) ≡ Ok q →
    whole ≡ put_all q (attachments_of seen number path (place + 1) rest)
unfolding put_all
attach_turn seen number path whole p q place now rest nhi e is here =
    e ∙ (ap (λ (xs : List NhiFields). put_all p (attachments_of seen number path place xs)) is
    ∙ ap (λ (r : Read Places). then_read r (λ m. put_all m (attachments_of seen number path (place + 1) rest))) here)

pub attach_stop : (seen : Seen) (number : ℕ) (path : List ℕ) (whole : Read Places) (p : Places) (place : ℕ) (now rest : List NhiFields) (nhi : NhiFields) (fault : ShapeFault) →
    whole ≡ put_all p (attachments_of seen number path place now) → now ≡ nhi ∷ rest → put p (attachment_to seen number place (full path nhi)) ≡ Err fault → whole ≡ Err fault
unfolding put_all
attach_stop seen number path whole p place now rest nhi fault e is here =
    e ∙ (ap (λ (xs : List NhiFields). put_all p (attachments_of seen number path place xs)) is
    ∙ ap (λ (r : Read Places). then_read r (λ m. put_all m (attachments_of seen number path (place + 1) rest))) here)

pub attach_end : (seen : Seen) (number : ℕ) (path : List ℕ) (whole : Read Places) (p : Places) (place : ℕ) (now : List NhiFields) →
    whole ≡ put_all p (attachments_of seen number path place now) → now ≡ [] → whole ≡ Ok p
unfolding put_all
attach_end seen number path whole p place now e is = e ∙ ap (λ (xs : List NhiFields). put_all p (attachments_of seen number path place xs)) is

pub numbers_turn : (seen : Seen) (number : ℕ) (path whole before after : List ℕ) (now rest : List NhiFields) (nhi : NhiFields) (n : ℕ) →
    whole ≡ before ++ map interface_of (attachments_of seen number path (length before) now) → now ≡ nhi ∷ rest → interface_by_nhi seen (full path nhi) nhi.interface ≡ Some n → after ≡ before ++ n ∷ [] →
    whole ≡ after ++ map interface_of (attachments_of seen number path (length after) rest)
numbers_turn seen number path whole before after now rest nhi n e is at pushed =
    let k = length before in
    let longer : length after ≡ k + 1 = ap (λ (l : List ℕ). length l) pushed ∙ length-append before (n ∷ []) in
    let left = map interface_of (attachments_of seen number path (k + 1) rest) in
    e ∙ (ap (λ (xs : List NhiFields). before ++ map interface_of (attachments_of seen number path k xs)) is
    ∙ (ap (λ (o : Option ℕ). before ++ (unwrap_or o 0 ∷ left)) at
    ∙ (sym (append_assoc before (n ∷ []) left)
    ∙ (ap (λ (l : List ℕ). l ++ left) (sym pushed)
    ∙ ap (λ (j : ℕ). after ++ map interface_of (attachments_of seen number path j rest)) (sym longer)))))

pub numbers_end : (seen : Seen) (number : ℕ) (path whole before : List ℕ) (now : List NhiFields) →
    whole ≡ before ++ map interface_of (attachments_of seen number path (length before) now) → now ≡ [] → before ≡ whole
numbers_end seen number path whole before now e is =
    sym (e ∙ (ap (λ (xs : List NhiFields). before ++ map interface_of (attachments_of seen number path (length before) xs)) is ∙ append-nil before))

-- turns of the loop over links

pub links_turn : (seen : Seen) (whole : Read Places) (p q : Places) (n : ℕ) (now rest : List LinkSeen) (l : LinkSeen) →
    whole ≡ put_all p (attachments_from seen n now) → now ≡ l ∷ rest → put_all p (attachments_of seen n l.path 0 l.keys.attached) ≡ Ok q → whole ≡ put_all q (attachments_from seen (n + 1) rest)
links_turn seen whole p q n now rest l e is here =
    e ∙ (ap (λ (xs : List LinkSeen). put_all p (attachments_from seen n xs)) is
    ∙ put_then p q (attachments_of seen n l.path 0 l.keys.attached) (attachments_from seen (n + 1) rest) here)

pub links_stop : (seen : Seen) (whole : Read Places) (p : Places) (n : ℕ) (now rest : List LinkSeen) (l : LinkSeen) (fault : ShapeFault) →
    whole ≡ put_all p (attachments_from seen n now) → now ≡ l ∷ rest → put_all p (attachments_of seen n l.path 0 l.keys.attached) ≡ Err fault → whole ≡ Err fault
links_stop seen whole p n now rest l fault e is here =
    e ∙ (ap (λ (xs : List LinkSeen). put_all p (attachments_from seen n xs)) is
    ∙ put_stop p fault (attachments_of seen n l.path 0 l.keys.attached) (attachments_from seen (n + 1) rest) here)

pub links_end : (seen : Seen) (whole : Read Places) (p : Places) (n : ℕ) (now : List LinkSeen) → whole ≡ put_all p (attachments_from seen n now) → now ≡ [] → whole ≡ Ok p
unfolding put_all
links_end seen whole p n now e is = e ∙ ap (λ (xs : List LinkSeen). put_all p (attachments_from seen n xs)) is

-- one more interface is attached

pub taken_put : (p : Places) (n : ℕ) (at : ℕ × ℕ) → n < length p → get_or p n None ≡ None → taken (set p n (Some at)) ≡ taken p + 1
taken_put p n at lt free =
    let f : Option (ℕ × ℕ) → ℕ = λ o. cond (is_taken o) 1 0 in
    let e : sum_by f (set p n (Some at)) + f (get_or p n None) ≡ sum_by f p + 1 = sum_by-set f p n (Some at) None lt in
    let none : f (get_or p n None) ≡ 0 = ap f free in
    omega (arith, e, none)

pub taken_few : (p : Places) → taken p ≤ length p
taken_few p = count_by-le-length is_taken p

-- the table of the attachments before, with one more

found_by : (b : Bool) (at : ℕ × ℕ) (before : List Attachment) (n : ℕ) → is_some (attached_at before n) ≡ list_any (is_at n) before →
    is_some (if b then Some at else attached_at before n) ≡ (b || list_any (is_at n) before)
found_by true at before n e = refl
found_by false at before n e = e

-- an interface is attached before where there is a place
is_found : (before : List Attachment) (n : ℕ) → is_some (attached_at before n) ≡ list_any (is_at n) before
is_found [] n = refl
is_found (a ∷ before) n = found_by (is_at n a) (a.link, a.place) before n (is_found before n)

skip_by : (b : Bool) (at : ℕ × ℕ) (o r : Option (ℕ × ℕ)) → o ≡ r → (if b then Some at else o) ≡ (if b then Some at else r)
skip_by b at o r e = ap (λ (x : Option (ℕ × ℕ)). if b then Some at else x) e

-- another interface
at_other : (before : List Attachment) (n : ℕ) (a : Attachment) → is_at n a ≡ false → attached_at (before ++ a ∷ []) n ≡ attached_at before n
at_other [] n a ne = ap (λ (b : Bool). if b then Some (a.link, a.place) else None) ne
at_other (x ∷ before) n a ne = skip_by (is_at n x) (x.link, x.place) (attached_at (before ++ a ∷ []) n) (attached_at before n) (at_other before n a ne)

last_by : (b : Bool) (at : ℕ × ℕ) (o r last : Option (ℕ × ℕ)) → (o ≡ None → r ≡ last) → (if b then Some at else o) ≡ None → (if b then Some at else r) ≡ last
last_by true at o r last next none = cc
last_by false at o r last next none = next none

-- this interface, which was not attached before
at_last : (before : List Attachment) (n : ℕ) (a : Attachment) → is_at n a ≡ true → attached_at before n ≡ None → attached_at (before ++ a ∷ []) n ≡ Some (a.link, a.place)
at_last [] n a here none = ap (λ (b : Bool). if b then Some (a.link, a.place) else None) here
at_last (x ∷ before) n a here none =
    last_by (is_at n x) (x.link, x.place) (attached_at before n) (attached_at (before ++ a ∷ []) n) (Some (a.link, a.place)) (λ e. at_last before n a here e) none

-- the attachment of interface m

abbrev with_interface : Attachment → ℕ → Attachment
with_interface a m = record { link = a.link; place = a.place; nhi = a.nhi; interface = Some m }

table_by : (before : List Attachment) (p : Places) (a : Attachment) (m n : ℕ) (b : Bool) → IsTable before p → m < length p → get_or p m None ≡ None → nat_eq m n ≡ b →
    get_or (set p m (Some (a.link, a.place))) n None ≡ attached_at (before ++ with_interface a m ∷ []) n
table_by before p a m n true table lt free here =
    let same : m ≡ n = eqb-true m n here in
    let at : (ℕ × ℕ) = (a.link, a.place) in
    let none : attached_at before n ≡ None = sym (table.each n) ∙ (ap (λ (k : ℕ). get_or p k None) (sym same) ∙ free) in
    ap (λ (k : ℕ). get_or (set p m (Some at)) k None) (sym same) ∙ (get_or-set_same p m (Some at) None lt ∙ sym (at_last before n (with_interface a m) here none))
table_by before p a m n false table lt free other =
    let ne : n ≢ m = λ e. eqb-false m n other (sym e) in
    get_or-set_other p m n (Some (a.link, a.place)) None ne ∙ (table.each n ∙ sym (at_other before n (with_interface a m) other))

table_with : (before : List Attachment) (p : Places) (a : Attachment) (m : ℕ) → IsTable before p → m < length p → get_or p m None ≡ None → IsTable (before ++ with_interface a m ∷ []) (set p m (Some (a.link, a.place)))
table_with before p a m table lt free = record { each = λ n. table_by before p a m n (nat_eq m n) table lt free refl }

-- one attachment after those before

pub record Grows (before : List Attachment) (p q : Places) (a : Attachment) : Type 0 where
  pub fine : attachment_fault before a.nhi a.interface ≡ None
  pub table : IsTable (before ++ a ∷ []) q
  pub long : length q ≡ length p

grows_free : (before : List Attachment) (p q : Places) (a : Attachment) (m : ℕ) (o : Option (ℕ × ℕ)) → IsTable before p → m < length p → get_or p m None ≡ o → put_free p m a o ≡ Ok q → Grows before p q (with_interface a m)
grows_free before p q a m (Some at) table lt is e = absurd (cc)
grows_free before p q a m None table lt is e =
    let same : set p m (Some (a.link, a.place)) ≡ q = cc in
    let none : list_any (is_at m) before ≡ false = sym (is_found before m) ∙ ap is_some (sym (table.each m) ∙ is) in
    record {
      fine = ap (λ (b : Bool). fault_if b (AttachedTwice a.nhi)) none;
      table = subst (λ (t : Places). IsTable (before ++ with_interface a m ∷ []) t) same (table_with before p a m table lt is);
      long = ap (λ (t : Places). length t) (sym same) ∙ length-set p m (Some (a.link, a.place));
    }

grows_at : (before : List Attachment) (p q : Places) (link place : ℕ) (nhi : NhiFields) (o : Option ℕ) → IsTable before p → ForSome o (λ m. m < length p) →
    put_at p (record { link = link; place = place; nhi = nhi; interface = o }) o ≡ Ok q → Grows before p q (record { link = link; place = place; nhi = nhi; interface = o })
grows_at before p q link place nhi None table below e = absurd (cc)
grows_at before p q link place nhi (Some m) table below e =
    grows_free before p q (record { link = link; place = place; nhi = nhi; interface = Some m }) m (get_or p m None) table (below m refl) refl e

fault_free : (before : List Attachment) (p : Places) (a : Attachment) (m : ℕ) (o : Option (ℕ × ℕ)) (fault : ShapeFault) → IsTable before p → get_or p m None ≡ o → put_free p m a o ≡ Err fault →
    attachment_fault before a.nhi (Some m) ≡ Some fault
fault_free before p a m None fault table is e = absurd (cc)
fault_free before p a m (Some at) fault table is e =
    let some : list_any (is_at m) before ≡ true = sym (is_found before m) ∙ ap is_some (sym (table.each m) ∙ is) in
    let same : AttachedTwice a.nhi ≡ fault = cc in
    ap (λ (b : Bool). fault_if b (AttachedTwice a.nhi)) some ∙ ap Some same

fault_at : (before : List Attachment) (p : Places) (a : Attachment) (o : Option ℕ) (fault : ShapeFault) → IsTable before p → put_at p a o ≡ Err fault → attachment_fault before a.nhi o ≡ Some fault
fault_at before p a None fault table e = let same : UnknownNhi a.nhi ≡ fault = cc in ap Some same
fault_at before p a (Some m) fault table e = fault_free before p a m (get_or p m None) fault table refl e

-- all attachments

abbrev pub AllBelow : ℕ → List Attachment → Type 0
AllBelow n [] = Unit {0}
AllBelow n (a ∷ more) = ForSome a.interface (λ m. m < n) × AllBelow n more

pub record Attached (before more : List Attachment) (q : Places) : Type 0 where
  pub fine : attachments_fault before more ≡ None
  pub table : IsTable (before ++ more) q

attached_by : (before more : List Attachment) (p q : Places) (a : Attachment) (r : Read Places) → put p a ≡ r → IsTable before p → ForSome a.interface (λ m. m < length p) →
    ((m : Places) → IsTable (before ++ a ∷ []) m → length m ≡ length p → put_all m more ≡ Ok q → Attached (before ++ a ∷ []) more q) →
    then_read r (λ m. put_all m more) ≡ Ok q → Attached before (a ∷ more) q
attached_by before more p q a (Err fault) here table below next e = absurd (cc)
attached_by before more p q a (Ok m) here table below next e =
    let g = grows_at before p m a.link a.place a.nhi a.interface table below here in
    let rest = next m g.table g.long e in
    record {
      fine = ap (λ (o : Option ShapeFault). first_some o (attachments_fault (before ++ a ∷ []) more)) g.fine ∙ rest.fine;
      table = subst (λ (all : List Attachment). IsTable all q) (append_assoc before (a ∷ []) more) rest.table;
    }

pub all_attached : (before more : List Attachment) (p q : Places) → IsTable before p → AllBelow (length p) more → put_all p more ≡ Ok q → Attached before more q
unfolding put_all
all_attached before [] p q table below e =
    let same : p ≡ q = cc in
    record { fine = refl; table = subst (λ (all : List Attachment). IsTable all q) (sym (append-nil before)) (subst (λ (t : Places). IsTable before t) same table) }
all_attached before (a ∷ more) p q table below e =
    attached_by before more p q a (put p a) refl table below.0
    (λ m t long here. all_attached (before ++ a ∷ []) more m q t (subst (λ (n : ℕ). AllBelow n more) (sym long) below.1) here) e

stopped_by : (before more : List Attachment) (p : Places) (a : Attachment) (r : Read Places) (fault : ShapeFault) → put p a ≡ r → IsTable before p → ForSome a.interface (λ m. m < length p) →
    ((m : Places) → IsTable (before ++ a ∷ []) m → length m ≡ length p → put_all m more ≡ Err fault → attachments_fault (before ++ a ∷ []) more ≡ Some fault) →
    then_read r (λ m. put_all m more) ≡ Err fault → attachments_fault before (a ∷ more) ≡ Some fault
stopped_by before more p a (Err other) fault here table below next e =
    let same : other ≡ fault = cc in
    ap (λ (o : Option ShapeFault). first_some o (attachments_fault (before ++ a ∷ []) more)) (fault_at before p a a.interface other table here ∙ ap Some same)
stopped_by before more p a (Ok m) fault here table below next e =
    let g = grows_at before p m a.link a.place a.nhi a.interface table below here in
    ap (λ (o : Option ShapeFault). first_some o (attachments_fault (before ++ a ∷ []) more)) g.fine ∙ next m g.table g.long e

pub all_stopped : (before more : List Attachment) (p : Places) (fault : ShapeFault) → IsTable before p → AllBelow (length p) more → put_all p more ≡ Err fault → attachments_fault before more ≡ Some fault
unfolding put_all
all_stopped before [] p fault table below e = absurd (cc)
all_stopped before (a ∷ more) p fault table below e =
    stopped_by before more p a (put p a) fault refl table below.0
    (λ m t long here. all_stopped (before ++ a ∷ []) more m fault t (subst (λ (n : ℕ). AllBelow n more) (sym long) below.1) here) e

-- the attachments of all links are of interfaces that are there

first_below : (seen : Seen) (o : Option ℕ) → ForSome (first_interface seen o) (λ m. m < length seen.interfaces)
first_below seen None = λ m e. cc
first_below seen (Some h) = position_below (λ row. nat_eq row.host h) seen.interfaces

pub interface_below : (seen : Seen) (nhi : NhiFields) (o : Option ℕ) → length seen.interfaces ≡ length seen.interface_names → ForSome (interface_by_nhi seen nhi o) (λ m. m < length seen.interfaces)
interface_below seen nhi None long = first_below seen (host_by_ids seen nhi.ids)
interface_below seen nhi (Some id) long = λ m e. let below = position_below (same (nhi.ids ++ id ∷ [])) seen.interface_names m e in omega (arith, long, below)

below_append : (n : ℕ) (xs ys : List Attachment) → AllBelow n xs → AllBelow n ys → AllBelow n (xs ++ ys)
below_append n [] ys here rest = rest
below_append n (a ∷ xs) ys here rest = (here.0, below_append n xs ys here.1 rest)

below_of : (seen : Seen) (number : ℕ) (path : List ℕ) (place : ℕ) (nhis : List NhiFields) → length seen.interfaces ≡ length seen.interface_names → AllBelow (length seen.interfaces) (attachments_of seen number path place nhis)
below_of seen number path place [] long = tt
below_of seen number path place (nhi ∷ nhis) long = (interface_below seen (full path nhi) nhi.interface long, below_of seen number path (place + 1) nhis long)

below_from : (seen : Seen) (number : ℕ) (ls : List LinkSeen) → length seen.interfaces ≡ length seen.interface_names → AllBelow (length seen.interfaces) (attachments_from seen number ls)
below_from seen number [] long = tt
below_from seen number (l ∷ ls) long =
    below_append (length seen.interfaces) (attachments_of seen number l.path 0 l.keys.attached) (attachments_from seen (number + 1) ls) (below_of seen number l.path 0 l.keys.attached long) (below_from seen (number + 1) ls long)

abbrev no_place : Option (ℕ × ℕ)
no_place = None

all_none : (n k : ℕ) → get_or (replicate n no_place) k None ≡ no_place
all_none zero k = refl
all_none (suc n) zero = refl
all_none (suc n) (suc k) = all_none n k

pub no_table : (n : ℕ) → IsTable [] (replicate n None)
no_table n = record { each = λ k. all_none n k }

pub seen_attached : (seen : Seen) (p q : Places) → length seen.interfaces ≡ length seen.interface_names → p ≡ replicate (length seen.interfaces) None → put_all p (attachments seen) ≡ Ok q → Attached [] (attachments seen) q
seen_attached seen p q long is e =
    let n = length seen.interfaces in
    let same : length p ≡ n = ap (λ (t : Places). length t) is ∙ length-replicate n no_place in
    all_attached [] (attachments seen) p q (subst (λ (t : Places). IsTable [] t) (sym is) (no_table n)) (subst (λ (k : ℕ). AllBelow k (attachments seen)) (sym same) (below_from seen 0 seen.links long)) e

pub seen_stopped : (seen : Seen) (p : Places) (fault : ShapeFault) → length seen.interfaces ≡ length seen.interface_names → p ≡ replicate (length seen.interfaces) None → put_all p (attachments seen) ≡ Err fault →
    attachments_fault [] (attachments seen) ≡ Some fault
seen_stopped seen p fault long is e =
    let n = length seen.interfaces in
    let same : length p ≡ n = ap (λ (t : Places). length t) is ∙ length-replicate n no_place in
    all_stopped [] (attachments seen) p fault (subst (λ (t : Places). IsTable [] t) (sym is) (no_table n)) (subst (λ (k : ℕ). AllBelow k (attachments seen)) (sym same) (below_from seen 0 seen.links long)) e
