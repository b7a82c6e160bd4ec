-- What a contract sees of a queue, and what holds of every one.
use Rattle.std.specs.Prelude.{ℕ, List, [], refl}
use Rattle.std.specs.Coded.{Coded, code_by, coded×, coded_list, coded_ℕ}
use Rattle.event_order.specs.declared.key.Key.{Key}
use Rattle.event_order.specs.Pending.{put_all, IsApart}
use Rattle.pending_queue.specs.Heap.{IsHeap}

-- the items in the order of their keys, and how many more need no memory
pub record Queue (T : Type 0) : Type 0 where
  pub items : List T
  pub spare : ℕ

module _ {T : Type 0} where
  abbrev pub queue : List T → ℕ → Queue T
  queue items spare = record { items = items; spare = spare }

  abbrev pub queue_code : Coded T → Coded (Queue T)
  queue_code code = code_by (List T × ℕ) (coded× (coded_list code) coded_ℕ) (λ q. (q.items, q.spare)) (λ p. queue p.0 p.1) (λ _. refl)

  -- these items in the order of their keys
  abbrev pub sorted : (T → Key) → List T → List T
  sorted key items = put_all key items []

  -- the items are a heap, and no two have one key
  pub record IsQueue (key : T → Key) (items : List T) : Type 0 where
    pub heap : IsHeap key items
    pub apart : IsApart key items
