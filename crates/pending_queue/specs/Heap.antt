-- A heap in one list: below the item at i stand those at 4 * i + 1 to 4 * i + 4. No public clause cites this file.
use Rattle.std.specs.Prelude.{◌≡◌, ℕ, ◌-◌, ◌/◌, ◌<◌, ◌≢◌, false, List, length, slice_index_or}
use Rattle.event_order.specs.declared.key.Key.{Key}
use Rattle.event_order.specs.Order.{comes_before}

-- the place above this one
abbrev pub above : ℕ → ℕ
above c = (c - 1) / 4

module _ {T : Type 0} (key : T → Key) where
  -- the item at q does not come before the one at p
  abbrev pub AreInOrder : List T → ℕ → ℕ → Type 0
  AreInOrder xs p q = (d : T) → comes_before (key (slice_index_or xs q d)) (key (slice_index_or xs p d)) ≡ false

  -- no item comes before the one above it
  abbrev pub IsHeap : List T → Type 0
  IsHeap xs = (c : ℕ) → 0 < c → c < length xs → AreInOrder xs (above c) c

  -- the same of all but the item at this place, and those below it come after the one above it
  abbrev pub IsHeapBut : List T → ℕ → Type 0
  IsHeapBut xs at = ((c : ℕ) → 0 < c → c < length xs → c ≢ at → above c ≢ at → AreInOrder xs (above c) c)
      × ((c : ℕ) → 0 < at → c < length xs → above c ≡ at → AreInOrder xs (above at) c)

  -- none of the items below this place comes before the one at it
  abbrev pub IsOverAll : List T → ℕ → Type 0
  IsOverAll xs at = (c : ℕ) → 0 < c → c < length xs → above c ≡ at → AreInOrder xs at c

  -- only the item at this place may come before the one above it
  abbrev pub CanRise : List T → ℕ → Type 0
  CanRise xs at = IsHeapBut xs at × IsOverAll xs at
