-- The rows of links and of interfaces.
use Rattle.std.proofs.Common.{◌≡◌, ℕ, ◌+◌, ◌<◌, ◌≤◌, Bool, true, false, nat_eq, List, [], ◌∷◌, ◌++◌, length, map, get_or, Option, None, refl, ap, sym, ◌∙◌, arith, append-nil, append_assoc, eq-eqb, ne_eqb, length-append, ap₂}
use Rattle.std.specs.Prelude.{if◌then◌else◌}
use Rattle.std.specs.Option.{unwrap_or}
use Rattle.nhi_address.specs.NhiFields.{NhiFields}
use Rattle.net_graph.specs.declared.rows.InterfaceRow.{InterfaceRow}
use Rattle.net_graph.specs.declared.rows.LinkRow.{LinkRow}
use Rattle.net_graph.specs.declared.seen.LinkSeen.{LinkSeen}
use Rattle.net_graph.specs.declared.seen.Seen.{Seen}
use Rattle.net_graph.specs.NetworkOf.{Attachment, attachments, attachments_of, attachments_from, attached_numbers, link_rows, linked, interface_by_nhi}
use Rattle.net_resolve.specs.Tables.{Places, IsTable, interface_of, link_row, link_rows_from, placed_rows}

-- the numbers that are attached to one link, among the attachments of all

kept_by : (b : Bool) (n : ℕ) (xs ys : List ℕ) → (if b then n ∷ (xs ++ ys) else (xs ++ ys)) ≡ (if b then n ∷ xs else xs) ++ ys
kept_by true n xs ys = refl
kept_by false n xs ys = refl

attached_append : (n : ℕ) (xs ys : List Attachment) → attached_numbers n (xs ++ ys) ≡ attached_numbers n xs ++ attached_numbers n ys
attached_append n [] ys = refl
attached_append n (a ∷ xs) ys =
    ap (λ (l : List ℕ). if nat_eq a.link n then interface_of a ∷ l else l) (attached_append n xs ys)
    ∙ kept_by (nat_eq a.link n) (interface_of a) (attached_numbers n xs) (attached_numbers n ys)

attached_same : (seen : Seen) (n : ℕ) (path : List ℕ) (place : ℕ) (nhis : List NhiFields) → attached_numbers n (attachments_of seen n path place nhis) ≡ map interface_of (attachments_of seen n path place nhis)
attached_same seen n path place [] = refl
attached_same seen n path place (nhi ∷ nhis) =
    let x = unwrap_or (interface_by_nhi seen (record { ids = path ++ nhi.ids; interface = nhi.interface }) nhi.interface) 0 in
    let rest = attached_numbers n (attachments_of seen n path (place + 1) nhis) in
    ap (λ (b : Bool). if b then x ∷ rest else rest) (eq-eqb n n refl) ∙ ap (λ (l : List ℕ). x ∷ l) (attached_same seen n path (place + 1) nhis)

attached_other : (seen : Seen) (n m : ℕ) (path : List ℕ) (place : ℕ) (nhis : List NhiFields) → nat_eq m n ≡ false → attached_numbers n (attachments_of seen m path place nhis) ≡ []
attached_other seen n m path place [] ne = refl
attached_other seen n m path place (nhi ∷ nhis) ne =
    let x = unwrap_or (interface_by_nhi seen (record { ids = path ++ nhi.ids; interface = nhi.interface }) nhi.interface) 0 in
    let rest = attached_numbers n (attachments_of seen m path (place + 1) nhis) in
    ap (λ (b : Bool). if b then x ∷ rest else rest) ne ∙ attached_other seen n m path (place + 1) nhis ne

other_number : (m n : ℕ) → n < m → nat_eq m n ≡ false
other_number m n lt = ne_eqb m n (λ e. absurd (omega (arith, e)))

attached_after : (seen : Seen) (n m : ℕ) (ls : List LinkSeen) → n < m → attached_numbers n (attachments_from seen m ls) ≡ []
attached_after seen n m [] lt = refl
attached_after seen n m (l ∷ ls) lt =
    attached_append n (attachments_of seen m l.path 0 l.keys.attached) (attachments_from seen (m + 1) ls)
    ∙ (ap (λ (xs : List ℕ). xs ++ attached_numbers n (attachments_from seen (m + 1) ls)) (attached_other seen n m l.path 0 l.keys.attached (other_number m n lt))
    ∙ attached_after seen n (m + 1) ls (omega (arith, lt)))

-- the numbers of one link, where those before it are of earlier links
attached_here : (seen : Seen) (xs : List Attachment) (n : ℕ) (l : LinkSeen) (ls : List LinkSeen) → attached_numbers n xs ≡ [] →
    attached_numbers n (xs ++ (attachments_of seen n l.path 0 l.keys.attached ++ attachments_from seen (n + 1) ls)) ≡ map interface_of (attachments_of seen n l.path 0 l.keys.attached)
attached_here seen xs n l ls none =
    let here = attachments_of seen n l.path 0 l.keys.attached in let after = attachments_from seen (n + 1) ls in
    attached_append n xs (here ++ after)
    ∙ (ap (λ (ys : List ℕ). ys ++ attached_numbers n (here ++ after)) none
    ∙ (attached_append n here after
    ∙ (ap (λ (ys : List ℕ). attached_numbers n here ++ ys) (attached_after seen n (n + 1) ls (omega arith))
    ∙ (append-nil (attached_numbers n here) ∙ attached_same seen n l.path 0 l.keys.attached))))

rows_after : (seen : Seen) (xs : List Attachment) (n : ℕ) (ls : List LinkSeen) → ((m : ℕ) → n ≤ m → attached_numbers m xs ≡ []) → link_rows (xs ++ attachments_from seen n ls) n ls ≡ link_rows_from seen n ls
unfolding link_rows_from
rows_after seen xs n [] none = refl
rows_after seen xs n (l ∷ ls) none =
    let here = attachments_of seen n l.path 0 l.keys.attached in let after = attachments_from seen (n + 1) ls in
    let row : List ℕ → LinkRow = λ ns. record { net = l.net; order = l.order; delay = l.keys.delay; attached = ns; priority = l.keys.priority; downs = l.keys.downs } in
    let later : (m : ℕ) → n + 1 ≤ m → attached_numbers m (xs ++ here) ≡ [] = λ m le.
    attached_append m xs here
    ∙ (ap (λ (ys : List ℕ). ys ++ attached_numbers m here) (none m (omega (arith, le)))
    ∙ attached_other seen m n l.path 0 l.keys.attached (ne_eqb n m (λ e. absurd (omega (arith, e, le))))) in
    ap (λ (ns : List ℕ). row ns ∷ link_rows (xs ++ (here ++ after)) (n + 1) ls) (attached_here seen xs n l ls (none n (omega arith)))
    ∙ ap (λ (rs : List LinkRow). link_row seen n l ∷ rs)
    (ap (λ (all : List Attachment). link_rows all (n + 1) ls) (sym (append_assoc xs here after)) ∙ rows_after seen (xs ++ here) (n + 1) ls later)

pub link_rows_are : (seen : Seen) → link_rows (attachments seen) 0 seen.links ≡ link_rows_from seen 0 seen.links
link_rows_are seen = rows_after seen [] 0 seen.links (λ m le. refl)

-- turns of loops

pub rows_turn : (seen : Seen) (whole before after : List LinkRow) (now ls : List LinkSeen) (l : LinkSeen) (row : LinkRow) → whole ≡ before ++ link_rows_from seen (length before) now → now ≡ l ∷ ls → row ≡ link_row seen (length before) l → after ≡ before ++ row ∷ [] →
    whole ≡ after ++ link_rows_from seen (length after) ls
unfolding link_rows_from
rows_turn seen whole before after now ls l row e is made pushed =
    let n = length before in
    let longer : length after ≡ n + 1 = ap (λ (rs : List LinkRow). length rs) pushed ∙ length-append before (row ∷ []) in
    e ∙ (ap (λ (xs : List LinkSeen). before ++ link_rows_from seen n xs) is
    ∙ (ap (λ (r : LinkRow). before ++ (r ∷ link_rows_from seen (n + 1) ls)) (sym made)
    ∙ (sym (append_assoc before (row ∷ []) (link_rows_from seen (n + 1) ls))
    ∙ (ap (λ (rs : List LinkRow). rs ++ link_rows_from seen (n + 1) ls) (sym pushed)
    ∙ ap (λ (k : ℕ). after ++ link_rows_from seen k ls) (sym longer)))))

pub rows_end : (seen : Seen) (whole before : List LinkRow) (now : List LinkSeen) → whole ≡ before ++ link_rows_from seen (length before) now → now ≡ [] → before ≡ whole
unfolding link_rows_from
rows_end seen whole before now e is = sym (e ∙ (ap (λ (xs : List LinkSeen). before ++ link_rows_from seen (length before) xs) is ∙ append-nil before))

-- interfaces

pub placed_linked : (all : List Attachment) (places : Places) (n : ℕ) (rows : List InterfaceRow) → IsTable all places → placed_rows places n rows ≡ linked all n rows
unfolding placed_rows
placed_linked all places n [] table = refl
placed_linked all places n (row ∷ rows) table =
    ap₂ (λ (at : Option (ℕ × ℕ)) (rs : List InterfaceRow). record row { link = at } ∷ rs) (table.each n) (placed_linked all places (n + 1) rows table)

pub placed_turn : (places : Places) (whole before after : List InterfaceRow) (now rows : List InterfaceRow) (row placed : InterfaceRow) → whole ≡ before ++ placed_rows places (length before) now → now ≡ row ∷ rows →
    placed ≡ record row { link = get_or places (length before) None } → after ≡ before ++ placed ∷ [] → whole ≡ after ++ placed_rows places (length after) rows
unfolding placed_rows
placed_turn places whole before after now rows row placed e is made pushed =
    let n = length before in
    let longer : length after ≡ n + 1 = ap (λ (rs : List InterfaceRow). length rs) pushed ∙ length-append before (placed ∷ []) in
    e ∙ (ap (λ (xs : List InterfaceRow). before ++ placed_rows places n xs) is
    ∙ (ap (λ (r : InterfaceRow). before ++ (r ∷ placed_rows places (n + 1) rows)) (sym made)
    ∙ (sym (append_assoc before (placed ∷ []) (placed_rows places (n + 1) rows))
    ∙ (ap (λ (rs : List InterfaceRow). rs ++ placed_rows places (n + 1) rows) (sym pushed)
    ∙ ap (λ (k : ℕ). after ++ placed_rows places k rows) (sym longer)))))

pub placed_end : (places : Places) (whole before : List InterfaceRow) (now : List InterfaceRow) → whole ≡ before ++ placed_rows places (length before) now → now ≡ [] → before ≡ whole
unfolding placed_rows
placed_end places whole before now e is = sym (e ∙ (ap (λ (xs : List InterfaceRow). before ++ placed_rows places (length before) xs) is ∙ append-nil before))
