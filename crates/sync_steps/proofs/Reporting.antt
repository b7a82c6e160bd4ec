-- What is reported.
use Rattle.std.proofs.Common.{◌≡◌, ℕ, zero, suc, ◌<◌, Bool, true, false, nat_eq, nat_le, ◌&&◌, not, List, [], ◌∷◌, length, map, get_or, refl, arith, eq-eqb, Option, Some, None, slice_get}
use Rattle.std.specs.List.{Contains}
use Rattle.timeline_parts.specs.declared.part.Cross.{Cross}
use Rattle.timeline.specs.View.{TimelineOf}
use Rattle.timeline.specs.Holding.{low_in}
use Rattle.timeline_parts.specs.Parts.{channel_of}
use Rattle.barrier_window.specs.BarrierFields.{BarrierFields}
use Rattle.barrier_window.specs.Crossings.{after_report, with_report}
use Rattle.sync_steps.specs.Between.{is_silent, can_report, count_on}

both_true : (x y : Bool) → (x && y) ≡ true → (x ≡ true) × (y ≡ true)
both_true true y h = (refl, h)
both_true false y h = absurd (cc)

not_true : (x : Bool) → not x ≡ true → x ≡ false
not_true true h = absurd (cc)
not_true false h = refl

silent_is : (o : Option (Option ℕ)) → is_silent o ≡ true → o ≡ Some None
silent_is None h = absurd (cc)
silent_is (Some None) h = refl
silent_is (Some (Some least)) h = absurd (cc)

-- a report of its own round is kept
pub report_kept : (n round least : ℕ) (numbers : List (ℕ × ℕ)) (b : BarrierFields) → round ≡ b.round → after_report n round least numbers b ≡ with_report n least numbers b
unfolding after_report
report_kept n round least numbers b e = let t : nat_eq round b.round ≡ true = eq-eqb round b.round e in rw t refl

module _ {B S P : Type 0} (t : TimelineOf B S P) where
  pub report_due : (n : ℕ) (b : BarrierFields) → can_report t n b ≡ true → (b.ended ≡ false) × (slice_get b.reports n ≡ Some None)
  report_due n b h =
      let one = both_true (not b.ended) (is_silent (slice_get b.reports n) && (nat_eq t.entered b.window && nat_le b.window (low_in t))) h in
      let two = both_true (is_silent (slice_get b.reports n)) (nat_eq t.entered b.window && nat_le b.window (low_in t)) one.1 in
      (not_true b.ended one.0, silent_is (slice_get b.reports n) two.0)

  pub counted_cross : (xs : List Cross) (channels : List ℕ) → ((k d : ℕ) → k < length (map channel_of xs) → Contains channels (get_or (map channel_of xs) k d))
      → (k : ℕ) (d : ℕ × ℕ) → k < length (map (count_on t) xs) → Contains channels (get_or (map (count_on t) xs) k d).0
  counted_cross [] channels h k d less = absurd (omega arith)
  counted_cross (x ∷ xs) channels h zero d less = h zero 0 (omega arith)
  counted_cross (x ∷ xs) channels h (suc k) d less = counted_cross xs channels (λ j e l. h (suc j) e (omega arith)) k d (omega arith)
