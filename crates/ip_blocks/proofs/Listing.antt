-- The members are the parts, each with its number.
use Rattle.std.proofs.Common.{◌≡◌, ℕ, ◌+◌, ◌<◌, List, [], ◌∷◌, ◌++◌, length, slice_index_or, map, inl, inr, sym, ap, ◌∙◌, arith}
use Rattle.std.proofs.lemmas.List.{get_or_append_left, get_or_push, length_push, length-map, get_or-map, same_lists, get_or_default}
use Rattle.std.proofs.lemmas.Bool.{cases_lt}
use Rattle.ip_blocks.specs.declared.members.Member.{Member}
use Rattle.ip_blocks.specs.Blocks.{Part}
use Rattle.ip_blocks.specs.Tree.{at, no_part}
use Rattle.ip_blocks.specs.Members.{part_of, no_member, AreNumbered}

-- the first n parts are these members
abbrev pub AreListed : List Member → List Part → ℕ → Type 0
AreListed members parts n =
    (length members ≡ n) × ((x : ℕ) → x < n → (part_of (slice_index_or members x no_member) ≡ at parts x) × ((slice_index_or members x no_member).number ≡ x))

pub listed_more : (members : List Member) (parts : List Part) (n : ℕ) (member : Member) → AreListed members parts n → part_of member ≡ at parts n → member.number ≡ n → AreListed (members ++ member ∷ []) parts (n + 1)
listed_more members parts n member h part number = (
  omega (arith, length_push members member, h.0),
  λ x lt. elim (cases_lt x n) [
    | inl low ↦ rw (get_or_append_left members (member ∷ []) no_member x (omega (arith, h.0))) (h.1 x low)
    | inr high ↦
        let same : x ≡ n = omega arith in
        rw (get_or_push members member no_member x (h.0 ∙ sym same)) (part ∙ ap (at parts) (sym same), number ∙ sym same)
  ],
)

pub listed_all : (members : List Member) (parts : List Part) → AreListed members parts (length parts) → (map part_of members ≡ parts) × AreNumbered members
listed_all members parts h = (
  same_lists (map part_of members) parts (length-map members part_of ∙ h.0)
      (λ k d lt.
      let there : k < length members = omega (arith, length-map members part_of) in
      let low : k < length parts = omega (arith, h.0) in
      get_or-map part_of members k no_member d there ∙ (h.1 k low).0 ∙ get_or_default parts k no_part d low),
  λ k lt. (h.1 k (omega (arith, h.0))).1,
)
