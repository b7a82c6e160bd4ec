-- How many elements there are of each key, in a list by key; and how many mappings a link has.
use Rattle.std.proofs.Common.{◌≡◌, ℕ, ◌+◌, ◌-◌, ◌*◌, ◌<◌, ◌≤◌, zero, suc, Bool, true, false, ◌&&◌, ◌==◌, List, [], length, map, get_or, set, take, drop, replicate, refl, sym, ap, ◌∙◌, inl, inr, zero-add, arith}
use Rattle.std.specs.List.{count_by, flat_map, range_with_len, remove}
use Rattle.std.proofs.lemmas.List.{get_or-replicate, length-replicate, length-set, get_or-set_same, get_or-set_other, length-map, length-append, length-take-le, length-drop, take_all, map-id}
use Rattle.std.proofs.lemmas.List.Sums.{count_by_more_yes, count_by_more_no, count_by-le-length}
use Rattle.std.proofs.lemmas.List.Folds.{length-flat_map-take}
use Rattle.std.proofs.lemmas.List.FromFn.{take-map-range_with_len, length-range_with_len, get_or-range_with_len}
use Rattle.std.proofs.lemmas.Bool.{cases_eq, and_from, and_left, and_right, eq-eqb, ne_eqb}
use Rattle.net_graph.specs.declared.rows.Network.{Network}
use Rattle.net_layout.specs.declared.wiring.Wire.{Wire}
use Rattle.net_graph.specs.Networks.{numbers, link_at}
use Rattle.std.proofs.Math.Nat.{mul-le-mul_left}
use Rattle.net_layout.proofs.Numbered.{flat_map_next}
use Rattle.net_layout.specs.Wiring.{poke_wire, wires_from, wires_between, wires_of_link, wires_of, first_channel}

-- of each key below n, how many of these elements pass and have it
pub record AreCounts {X : Type 0} (p : X → Bool) (key : X → ℕ) (n : ℕ) (xs : List X) (counts : List ℕ) : Type 0 where
  pub as_many : length counts ≡ n
  pub each : (h : ℕ) → h < n → get_or counts h 0 ≡ count_by (λ x. p x && (key x == h)) xs

pub no_counts : {X : Type 0} (p : X → Bool) (key : X → ℕ) (n : ℕ) (counts : List ℕ) → counts ≡ replicate n 0 → AreCounts p key n [] counts
no_counts p key n counts e = record {
  as_many = ap length e ∙ length-replicate n 0;
  each = λ h lt. ap (λ (cs : List ℕ). get_or cs h 0) e ∙ get_or-replicate n h 0 0 lt;
}

module _ {X : Type 0} (p : X → Bool) (key : X → ℕ) (n : ℕ) (xs : List X) (counts : List ℕ) (i : ℕ) (d : X) (lt : i < length xs) (h : AreCounts p key n (take i xs) counts) where
  pub counts_skip : p (get_or xs i d) ≡ false → AreCounts p key n (take (i + 1) xs) counts
  counts_skip fails = record {
    as_many = h.as_many;
    each = λ k low. h.each k low ∙ sym (count_by_more_no (λ x. p x && (key x == k)) xs i d lt (and_left (p (get_or xs i d)) (key (get_or xs i d) == k) fails));
  }

  pub counts_more : p (get_or xs i d) ≡ true → key (get_or xs i d) < n → AreCounts p key n (take (i + 1) xs) (set counts (key (get_or xs i d)) (get_or counts (key (get_or xs i d)) 0 + 1))
  counts_more passes there = record {
    as_many = length-set counts (key (get_or xs i d)) (get_or counts (key (get_or xs i d)) 0 + 1) ∙ h.as_many;
    each = λ k low.
        let at : ℕ = key (get_or xs i d) in
        elim (cases_eq k at) [
          | inl same ↦
              ap (λ m. get_or (set counts at (get_or counts at 0 + 1)) m 0) same
              ∙ get_or-set_same counts at (get_or counts at 0 + 1) 0 (omega (arith, h.as_many))
              ∙ ap (λ m. get_or counts m 0 + 1) (sym same)
              ∙ ap (λ m. m + 1) (h.each k low)
              ∙ sym (count_by_more_yes (λ x. p x && (key x == k)) xs i d lt (and_from (p (get_or xs i d)) (at == k) passes (eq-eqb at k (sym same))))
          | inr other ↦
              get_or-set_other counts at k (get_or counts at 0 + 1) 0 other
              ∙ h.each k low
              ∙ sym (count_by_more_no (λ x. p x && (key x == k)) xs i d lt (and_right (p (get_or xs i d)) (at == k) (ne_eqb at k (λ e. other (sym e)))))
        ];
  }

  pub counts_low : (k : ℕ) → k < n → get_or counts k 0 ≤ i
  counts_low k low = omega (arith, h.each k low, count_by-le-length (λ x. p x && (key x == k)) (take i xs), length-take-le i xs (omega arith))

pub counts_all : {X : Type 0} (p : X → Bool) (key : X → ℕ) (n : ℕ) (xs : List X) (counts : List ℕ) (i : ℕ) → length xs ≤ i → AreCounts p key n (take i xs) counts → AreCounts p key n xs counts
counts_all p key n xs counts i end h = rw (take_all i xs end) at h

take_numbers : (k n : ℕ) → k ≤ n → take k (range_with_len 0 n) ≡ range_with_len 0 k
take_numbers k n le =
    ap (take k) (sym (map-id (range_with_len 0 n))) ∙ take-map-range_with_len (λ (x : ℕ). x) 0 n k le ∙ map-id (range_with_len 0 k)

pub length_part : {A : Type 0} (f : ℕ → List A) (k n : ℕ) → k < n → length (flat_map f (range_with_len 0 k)) + length (f k) ≤ length (flat_map f (range_with_len 0 n))
length_part f k n lt =
    let part = length-flat_map-take f (range_with_len 0 n) k 0 (rw (length-range_with_len 0 n) lt) in
    rw (take_numbers k n (omega arith), get_or-range_with_len 0 n k 0 lt, zero-add) at part

length_remove : {A : Type 0} (xs : List A) (place : ℕ) → place < length xs → length (remove xs place) ≡ length xs - 1
length_remove xs place lt = omega (arith, length-append (take place xs) (drop (suc place) xs), length-take-le place xs (omega arith), length-drop (suc place) xs)

-- pieces of one length each
length_equal : {A : Type 0} (f : ℕ → List A) (a n m : ℕ) → ((k : ℕ) → a ≤ k → k < a + n → length (f k) ≡ m) → length (flat_map f (range_with_len a n)) ≡ n * m
length_equal f a zero m each = omega arith
length_equal f a (suc n) m each =
    let rest = length_equal f (a + 1) n m (λ k low high. each k (omega arith) (omega arith)) in
    let first = each a (omega arith) (omega arith) in
    length-append (f a) (flat_map f (range_with_len (a + 1) n)) ∙ omega (arith, rest, first)

pub length_between : (network : Network) (l : ℕ) (attached : List ℕ) → length (wires_between network l attached) ≡ length attached * (length attached - 1)
length_between network l attached =
    length_equal (wires_from network l attached) 0 (length attached) (length attached - 1)
    (λ k low lt. length-map (remove attached k) _ ∙ length_remove attached k (omega arith))

pub length_of_link : (network : Network) (l : ℕ) → length (wires_of_link network l) ≡ length (link_at network l).attached * (length (link_at network l).attached - 1)
unfolding wires_of_link
length_of_link network l = length_between network l (link_at network l).attached

pub length_of_wires : (network : Network) → length (wires_of network) ≡ length network.hosts + length (flat_map (wires_of_link network) (numbers (length network.links)))
unfolding wires_of
length_of_wires network =
    length-append (map (poke_wire network) (numbers (length network.hosts))) (flat_map (wires_of_link network) (numbers (length network.links)))
    ∙ ap (λ n. n + length (flat_map (wires_of_link network) (numbers (length network.links)))) (length-map (numbers (length network.hosts)) (poke_wire network) ∙ length-range_with_len 0 (length network.hosts))

-- the channels without those of the mappings of the links from number k on
abbrev pub channels_before : Network → ℕ → ℕ
channels_before network k = first_channel network + (length network.hosts + length (flat_map (wires_of_link network) (numbers k)))

pub channels_more : (network : Network) (k : ℕ) → channels_before network k + length (link_at network k).attached * (length (link_at network k).attached - 1) ≡ channels_before network (k + 1)
channels_more network k =
    let before : List Wire = flat_map (wires_of_link network) (numbers k) in
    let joined = ap (λ (ws : List Wire). length ws) (flat_map_next (wires_of_link network) [] before k refl) in
    omega (arith, joined, length-append before (wires_of_link network k), length_of_link network k)

pub channels_part : (network : Network) (k : ℕ) → k < length network.links → channels_before network k + length (link_at network k).attached * (length (link_at network k).attached - 1) ≤ first_channel network + length (wires_of network)
channels_part network k lt =
    omega (arith, length_part (wires_of_link network) k (length network.links) lt, length_of_link network k, length_of_wires network)

pub channels_all : (network : Network) (k : ℕ) → k ≡ length network.links → channels_before network k ≡ first_channel network + length (wires_of network)
channels_all network k e = ap (channels_before network) e ∙ omega (arith, length_of_wires network)

pub many_attached : (n : ℕ) → 512 < n → 262144 < n * (n - 1)
many_attached n lt = omega (arith, mul-le-mul_left n (let le : 512 ≤ n - 1 = omega arith in le))
