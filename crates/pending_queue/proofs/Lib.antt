mod HeapLemmas
mod KeyLemmas
mod QueueLemmas
mod SortLemmas
mod TestLemmas
