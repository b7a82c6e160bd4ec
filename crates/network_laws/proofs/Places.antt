-- Nets and links that were met: Nets stand behind their parents, and the orders in one Net differ.
use Rattle.std.proofs.Common.{◌≡◌, ◌≢◌, ℕ, suc, ◌+◌, ◌<◌, ◌≤◌, List, [], ◌∷◌, ◌++◌, length, map, get_or, Option, Some, None, refl, ap, sym, ◌∙◌, arith, append_assoc, append-nil, length-append, ⊎_elim, subst}
use Rattle.std.specs.Prelude.{All, EachIndex}
use Rattle.std.specs.List.{AllPairs}
use Rattle.std.specs.Option.{MatchOption}
use Rattle.std.proofs.lemmas.Bool.{cases_lt}
use Rattle.std.proofs.lemmas.List.{get_or_append_left, map-append}
use Rattle.std.proofs.Math.Seq.{get_or-append_seam}
use Rattle.std.proofs.lemmas.List.Elements.{All-nil, All-cons, All-append, All-push, All-weaker, All-head, All-tail}
use Rattle.std.proofs.lemmas.List.Kept.{AllPairs-cons}
use Rattle.net_graph.specs.declared.rows.NetRow.{NetRow}
use Rattle.net_graph.specs.declared.seen.LinkSeen.{LinkSeen}
use Rattle.net_graph.specs.SeenRows.{nested_row, number_in}
use Rattle.net_graph.specs.Networks.{IsId, no_net}
use Rattle.network_laws.proofs.Names.{IsAt, number_is}

-- each index of a list with one more item
pub each_push : {X : Type 0} (P : ℕ → X → Type 0) (xs : List X) (x d : X) → EachIndex xs (λ i. P i (get_or xs i d)) → P (length xs) x → EachIndex (xs ++ x ∷ []) (λ i. P i (get_or (xs ++ x ∷ []) i d))
each_push P xs x d each last i lt =
    ⊎_elim (λ h. rw (get_or_append_left xs (x ∷ []) d i h) (each i h))
    (λ h. let longer : length (xs ++ x ∷ []) ≡ length xs + 1 = length-append xs (x ∷ []) in
    let here : i ≡ length xs = omega arith in
    rw (here, get_or-append_seam xs x [] d) last)
    (cases_lt i (length xs))

-- a Net and an order there
abbrev pub Spot : Type 0
Spot = Option ℕ × ℕ

abbrev pub net_spot : NetRow → Spot
net_spot net = (net.parent, net.order)

abbrev pub link_spot : LinkSeen → Spot
link_spot link = (Some link.net, link.order)

abbrev pub spots : List NetRow → List LinkSeen → List Spot
spots nets links = map net_spot nets ++ map link_spot links

abbrev pub AreApart : List Spot → Type 0
AreApart xs = AllPairs (λ a b. a ≢ b) xs

-- the orders in Net n are below k
abbrev pub IsBelow : ℕ → ℕ → Spot → Type 0
IsBelow n k spot = spot.0 ≡ Some n → spot.1 < k

pub record AreBelow (n k : ℕ) (nets : List NetRow) (links : List LinkSeen) : Type 0 where
  pub all : All (IsBelow n k) (spots nets links)

pairs_head : {X : Type 0} (R : X → X → Type 0) (x : X) (xs : List X) → AllPairs R (x ∷ xs) → All (R x) xs
pairs_head R x xs pairs = λ k d lt. pairs 0 (suc k) d (omega arith) (omega arith)

pairs_tail : {X : Type 0} (R : X → X → Type 0) (x : X) (xs : List X) → AllPairs R (x ∷ xs) → AllPairs R xs
pairs_tail R x xs pairs = λ i j d lt less. pairs (suc i) (suc j) d (omega arith) (omega arith)

all_left : {X : Type 0} (P : X → Type 0) (xs ys : List X) → All P (xs ++ ys) → All P xs
all_left P [] ys all = All-nil P
all_left P (x ∷ xs) ys all = All-cons P x xs (All-head P x (xs ++ ys) all) (all_left P xs ys (All-tail P x (xs ++ ys) all))

all_right : {X : Type 0} (P : X → Type 0) (xs ys : List X) → All P (xs ++ ys) → All P ys
all_right P [] ys all = all
all_right P (x ∷ xs) ys all = all_right P xs ys (All-tail P x (xs ++ ys) all)

-- one more item somewhere
all_insert : {X : Type 0} (P : X → Type 0) (xs ys : List X) (x : X) → All P (xs ++ ys) → P x → All P (xs ++ x ∷ ys)
all_insert P xs ys x all here = All-append P xs (x ∷ ys) (all_left P xs ys all) (All-cons P x ys here (all_right P xs ys all))

differ : {X : Type 0} (x : X) (xs : List X) → All (λ a. a ≢ x) xs → All (λ b. x ≢ b) xs
differ x xs all = All-weaker (λ a. a ≢ x) (λ b. x ≢ b) (λ a h e. h (sym e)) xs all

pub apart_insert : {X : Type 0} (xs ys : List X) (x : X) → AllPairs (λ a b. a ≢ b) (xs ++ ys) → All (λ a. a ≢ x) (xs ++ ys) → AllPairs (λ a b. a ≢ b) (xs ++ x ∷ ys)
apart_insert [] ys x pairs new = AllPairs-cons (λ a b. a ≢ b) x ys (differ x ys new) pairs
apart_insert (z ∷ xs) ys x pairs new =
    AllPairs-cons (λ a b. a ≢ b) z (xs ++ x ∷ ys)
    (all_insert (λ b. z ≢ b) xs ys x (pairs_head (λ a b. a ≢ b) z (xs ++ ys) pairs) (All-head (λ a. a ≢ x) z (xs ++ ys) new))
    (apart_insert xs ys x (pairs_tail (λ a b. a ≢ b) z (xs ++ ys) pairs) (All-tail (λ a. a ≢ x) z (xs ++ ys) new))

-- where a new spot stands
with_net_spot : (nets : List NetRow) (links : List LinkSeen) (net : NetRow) → map net_spot nets ++ net_spot net ∷ map link_spot links ≡ spots (nets ++ net ∷ []) links
with_net_spot nets links net = sym (ap (λ (l : List Spot). l ++ map link_spot links) (map-append net_spot nets (net ∷ [])) ∙ append_assoc (map net_spot nets) (net_spot net ∷ []) (map link_spot links))

with_link_spot : (nets : List NetRow) (links : List LinkSeen) (link : LinkSeen) → spots nets links ++ link_spot link ∷ [] ≡ spots nets (links ++ link ∷ [])
with_link_spot nets links link = append_assoc (map net_spot nets) (map link_spot links) (link_spot link ∷ []) ∙ sym (ap (λ (l : List Spot). map net_spot nets ++ l) (map-append link_spot links (link ∷ [])))

-- an order that is not below k is new
fresh : (n k order : ℕ) (xs : List Spot) → k ≤ order → All (IsBelow n k) xs → All (λ a. a ≢ (Some n, order)) xs
fresh n k order xs le all = All-weaker (IsBelow n k) (λ a. a ≢ (Some n, order)) (λ a below e.
    let lt : a.1 < k = below (ap (λ (s : Spot). s.0) e) in
    let same : a.1 ≡ order = ap (λ (s : Spot). s.1) e in
    omega arith) xs all

pub apart_net : (n order : ℕ) (nets : List NetRow) (links : List LinkSeen) (net : NetRow) → net.parent ≡ Some n → net.order ≡ order → AreBelow n order nets links → AreApart (spots nets links) → AreApart (spots (nets ++ net ∷ []) links)
apart_net n order nets links net e f below apart =
    let spot : net_spot net ≡ (Some n, order) = cc in
    let new : All (λ (a : Spot). a ≢ net_spot net) (spots nets links) = rw spot (fresh n order order (spots nets links) (omega arith) below.all) in
    subst AreApart (with_net_spot nets links net) (apart_insert (map net_spot nets) (map link_spot links) (net_spot net) apart new)

pub apart_link : (n order : ℕ) (nets : List NetRow) (links : List LinkSeen) (link : LinkSeen) → link.net ≡ n → link.order ≡ order → AreBelow n order nets links → AreApart (spots nets links) → AreApart (spots nets (links ++ link ∷ []))
apart_link n order nets links link e f below apart =
    let spot : link_spot link ≡ (Some n, order) = cc in
    let new : All (λ (a : Spot). a ≢ link_spot link) (spots nets links) = rw spot (fresh n order order (spots nets links) (omega arith) below.all) in
    let there : AreApart (spots nets links ++ []) = rw (append-nil (spots nets links)) apart in
    let other : All (λ (a : Spot). a ≢ link_spot link) (spots nets links ++ []) = rw (append-nil (spots nets links)) new in
    subst AreApart (with_link_spot nets links link) (apart_insert (spots nets links) [] (link_spot link) there other)

pub below_net : (n k : ℕ) (nets : List NetRow) (links : List LinkSeen) (net : NetRow) → AreBelow n k nets links → IsBelow n k (net_spot net) → AreBelow n k (nets ++ net ∷ []) links
below_net n k nets links net below here = record { all = subst (All (IsBelow n k)) (with_net_spot nets links net) (all_insert (IsBelow n k) (map net_spot nets) (map link_spot links) (net_spot net) below.all here) }

pub below_link : (n k : ℕ) (nets : List NetRow) (links : List LinkSeen) (link : LinkSeen) → AreBelow n k nets links → IsBelow n k (link_spot link) → AreBelow n k nets (links ++ link ∷ [])
below_link n k nets links link below here = record { all = subst (All (IsBelow n k)) (with_link_spot nets links link) (All-push (IsBelow n k) (spots nets links) (link_spot link) below.all here) }

pub below_more : (n k j : ℕ) (nets : List NetRow) (links : List LinkSeen) → k ≤ j → AreBelow n k nets links → AreBelow n j nets links
below_more n k j nets links le below = record { all = All-weaker (IsBelow n k) (IsBelow n j) (λ a h e. let lt : a.1 < k = h e in omega arith) (spots nets links) below.all }

-- Nets and links

abbrev pub HasParent : ℕ → NetRow → Type 0
HasParent i net = MatchOption net.parent (i ≡ 0) (λ p. p < i)

-- the parents of Nets, and the Nets of Nets and links
abbrev pub IsFrom : ℕ → Spot → Type 0
IsFrom count spot = MatchOption spot.0 (Unit {0}) (λ n. n < count)

pub record NetsMet (nets : List NetRow) (names : List (List ℕ)) (links : List LinkSeen) : Type 0 where
  pub few : length names ≤ 65536
  pub same_length : length nets ≡ length names
  pub parents : EachIndex nets (λ i. HasParent i (get_or nets i no_net))
  pub ids : All (λ (net : NetRow). All IsId net.ids) nets
  pub within : All (λ (link : LinkSeen). link.net < length names) links
  pub spots_within : All (IsFrom (length names)) (spots nets links)
  pub apart : AreApart (spots nets links)
  pub few_links : length links ≤ 65536

further : (a b : ℕ) (o : Option ℕ) → a ≤ b → MatchOption o (Unit {0}) (λ n. n < a) → MatchOption o (Unit {0}) (λ n. n < b)
further a b None le h = tt
further a b (Some n) le h = omega arith

not_there : (a n : ℕ) (o : Option ℕ) (order : ℕ) → a ≤ n → MatchOption o (Unit {0}) (λ m. m < a) → o ≡ Some n → order < 0
not_there a n None order le h e = cc
not_there a n (Some m) order le h e = let same : m ≡ n = cc in absurd (omega arith)

pub met_net : (nets : List NetRow) (names : List (List ℕ)) (links : List LinkSeen) (parent : List ℕ) (n id order : ℕ) → NetsMet nets names links → IsAt parent n names → AreBelow n order nets links →
    length names < 65536 → All IsId parent → IsId id → NetsMet (nets ++ nested_row names parent id order ∷ []) (names ++ (parent ++ id ∷ []) ∷ []) links
met_net nets names links parent n id order met at below few ids is_id =
    let number : number_in names parent ≡ n = number_is parent n names at in
    let lt = at.within in
    let longer : length (names ++ (parent ++ id ∷ []) ∷ []) ≡ length names + 1 = length-append names ((parent ++ id ∷ []) ∷ []) in
    let row = nested_row names parent id order in
    let rows : length (nets ++ row ∷ []) ≡ length nets + 1 = length-append nets (row ∷ []) in
    let same = met.same_length in
    record {
      few = omega arith;
      same_length = omega arith;
      parents = each_push HasParent nets row no_net met.parents (let p : number_in names parent < length nets = omega arith in p);
      ids = All-push (λ (net : NetRow). All IsId net.ids) nets row met.ids (All-push IsId parent id ids is_id);
      within = All-weaker (λ (link : LinkSeen). link.net < length names) (λ (link : LinkSeen). link.net < length (names ++ (parent ++ id ∷ []) ∷ [])) (λ link h. omega arith) links met.within;
      spots_within = subst (All (IsFrom (length (names ++ (parent ++ id ∷ []) ∷ [])))) (with_net_spot nets links row)
          (all_insert (IsFrom (length (names ++ (parent ++ id ∷ []) ∷ []))) (map net_spot nets) (map link_spot links) (net_spot row)
          (All-weaker (IsFrom (length names)) (IsFrom (length (names ++ (parent ++ id ∷ []) ∷ []))) (λ spot h. further (length names) (length (names ++ (parent ++ id ∷ []) ∷ [])) spot.0 (omega arith) h) (spots nets links) met.spots_within)
          (let p : number_in names parent < length (names ++ (parent ++ id ∷ []) ∷ []) = omega arith in p));
      apart = apart_net n order nets links row (ap Some number) refl below met.apart;
      few_links = met.few_links;
    }

pub met_link : (nets : List NetRow) (names : List (List ℕ)) (links : List LinkSeen) (link : LinkSeen) (n order : ℕ) → NetsMet nets names links → n < length names → link.net ≡ n → link.order ≡ order → AreBelow n order nets links →
    length links < 65536 → NetsMet nets names (links ++ link ∷ [])
met_link nets names links link n order met lt e f below few =
    let rows : length (links ++ link ∷ []) ≡ length links + 1 = length-append links (link ∷ []) in
    record {
      few = met.few;
      same_length = met.same_length;
      parents = met.parents;
      ids = met.ids;
      within = All-push (λ (l : LinkSeen). l.net < length names) links link met.within (omega arith);
      spots_within = subst (All (IsFrom (length names))) (with_link_spot nets links link) (All-push (IsFrom (length names)) (spots nets links) (link_spot link) met.spots_within (let p : link.net < length names = omega arith in p));
      apart = apart_link n order nets links link e f below met.apart;
      few_links = omega arith;
    }

-- no order in a Net that is not there
pub below_new : (n : ℕ) (nets : List NetRow) (names : List (List ℕ)) (links : List LinkSeen) → NetsMet nets names links → length names ≤ n → AreBelow n 0 nets links
below_new n nets names links met le = record { all = All-weaker (IsFrom (length names)) (IsBelow n 0) (λ spot h e. not_there (length names) n spot.0 spot.1 le h e) (spots nets links) met.spots_within }
