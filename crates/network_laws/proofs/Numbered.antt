-- Rows by their numbers.
use Rattle.std.proofs.Common.{◌≡◌, ℕ, zero, suc, ◌+◌, ◌<◌, List, [], ◌∷◌, length, get_or, refl, ap, sym, ◌∙◌, arith, subst}
use Rattle.std.specs.Prelude.{sum_by}
use Rattle.std.proofs.lemmas.List.Sums.{sum_by-cons}
use Rattle.net_graph.specs.declared.rows.InterfaceRow.{InterfaceRow}
use Rattle.net_graph.specs.declared.rows.LinkRow.{LinkRow}
use Rattle.net_graph.specs.declared.seen.LinkSeen.{LinkSeen}
use Rattle.net_graph.specs.NetworkOf.{Attachment, linked, link_rows, attached_at, attached_numbers}
use Rattle.network_laws.proofs.Parts.{downs_at}

-- items that are numbered from n on
abbrev pub EachFrom : {X : Type 0} → (ℕ → X → Type 0) → ℕ → List X → Type 0
EachFrom P n [] = Unit {0}
EachFrom P n (x ∷ xs) = P n x × EachFrom P (n + 1) xs

pub each_from : {X : Type 0} (P : ℕ → X → Type 0) (n : ℕ) (xs : List X) → ((i m : ℕ) (d : X) → m ≡ n + i → i < length xs → P m (get_or xs i d)) → EachFrom P n xs
each_from P n [] each = tt
each_from P n (x ∷ xs) each = (each 0 n x (omega arith) (omega arith), each_from P (n + 1) xs (λ i m d e lt. each (suc i) m d (omega arith) (omega arith)))

pub each_at : {X : Type 0} (P : ℕ → X → Type 0) (n : ℕ) (xs : List X) (i m : ℕ) (d : X) → EachFrom P n xs → m ≡ n + i → i < length xs → P m (get_or xs i d)
each_at P n [] i m d each e lt = absurd (omega arith)
each_at P n (x ∷ xs) zero m d each e lt = let here : n ≡ m = omega arith in subst (λ (k : ℕ). P k x) here each.0
each_at P n (x ∷ xs) (suc i) m d each e lt = each_at P (n + 1) xs i m d each.1 (omega arith) (omega arith)

-- interfaces with their links

abbrev pub with_link : List Attachment → ℕ → InterfaceRow → InterfaceRow
with_link all n row = record row { link = attached_at all n }

pub length-linked : (all : List Attachment) (n : ℕ) (rows : List InterfaceRow) → length (linked all n rows) ≡ length rows
length-linked all n [] = refl
length-linked all n (row ∷ rows) = ap (λ (m : ℕ). suc m) (length-linked all (n + 1) rows)

pub linked_at : (all : List Attachment) (n : ℕ) (rows : List InterfaceRow) (i m : ℕ) (d e : InterfaceRow) → m ≡ n + i → i < length rows → get_or (linked all n rows) i d ≡ with_link all m (get_or rows i e)
linked_at all n [] i m d e is lt = absurd (omega arith)
linked_at all n (row ∷ rows) zero m d e is lt = let here : n ≡ m = omega arith in ap (λ (k : ℕ). with_link all k row) here
linked_at all n (row ∷ rows) (suc i) m d e is lt = linked_at all (n + 1) rows i m d e (omega arith) (omega arith)

-- links with their interfaces

abbrev pub with_attached : List Attachment → ℕ → LinkSeen → LinkRow
with_attached all n l = record { net = l.net; order = l.order; delay = l.keys.delay; attached = attached_numbers n all; priority = l.keys.priority; downs = l.keys.downs }

pub length-link_rows : (all : List Attachment) (n : ℕ) (ls : List LinkSeen) → length (link_rows all n ls) ≡ length ls
length-link_rows all n [] = refl
length-link_rows all n (l ∷ ls) = ap (λ (m : ℕ). suc m) (length-link_rows all (n + 1) ls)

pub link_row_at : (all : List Attachment) (n : ℕ) (ls : List LinkSeen) (i m : ℕ) (d : LinkRow) (e : LinkSeen) → m ≡ n + i → i < length ls → get_or (link_rows all n ls) i d ≡ with_attached all m (get_or ls i e)
link_row_at all n [] i m d e is lt = absurd (omega arith)
link_row_at all n (l ∷ ls) zero m d e is lt = let here : n ≡ m = omega arith in ap (λ (k : ℕ). with_attached all k l) here
link_row_at all n (l ∷ ls) (suc i) m d e is lt = link_row_at all (n + 1) ls i m d e (omega arith) (omega arith)

pub downs_are : (all : List Attachment) (n : ℕ) (ls : List LinkSeen) → sum_by (λ (l : LinkRow). length l.downs) (link_rows all n ls) ≡ sum_by downs_at ls
downs_are all n [] = refl
downs_are all n (l ∷ ls) =
    sum_by-cons (λ (row : LinkRow). length row.downs) (with_attached all n l) (link_rows all (n + 1) ls)
    ∙ (ap (λ (m : ℕ). length l.keys.downs + m) (downs_are all (n + 1) ls) ∙ sym (sum_by-cons downs_at l ls))
