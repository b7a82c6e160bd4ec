-- The fields of a TCP segment (RFC 9293), and the ranges of those that the program makes.
use Rattle.std.specs.Prelude.{ℕ, ◌+◌, ◌<◌, ◌≤◌, ◌^◌, Bool, Option}
use Rattle.std.specs.Option.{ForSome}

pub record SegmentFields : Type 0 where
  pub seq : ℕ
  pub ack : Option ℕ
  pub syn : Bool
  pub fin : Bool
  pub length : ℕ
  pub window : ℕ

-- positions do not wrap, and no window is above 2^32
pub record IsSegment (segment : SegmentFields) : Type 0 where
  pub last : segment.seq + segment.length < 2 ^ 32
  pub ack : ForSome segment.ack (λ a. a ≤ 2 ^ 32)
  pub window : segment.window ≤ 2 ^ 32
