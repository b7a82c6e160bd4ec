-- A timeline that enters a window stays sound.
use Rattle.std.proofs.Common.{◌≡◌, ℕ, ◌<◌, ◌≤◌, true, false, refl, ap, ◌∙◌, inl, inr, arith}
use Rattle.event_order.proofs.Steps.{lt_or_ge}
use Rattle.ssf_model.specs.Scene.{Scene}
use Rattle.ssf_model.specs.Truth.{IsPromise, IsCut, IsWindow}
use Rattle.sync_rules.specs.Parts.{Line, BarrierOf}
use Rattle.sync_rules.specs.Bounds.{IsInto, bound_of}
use Rattle.sync_rules.specs.Shared.{IsShared}
use Rattle.sync_rules.specs.Sound.{made, IsSoundLine, IsSoundBarrier, HasDone}
use Rattle.sync_rules.specs.Steps.{CanEnter, entered_line}
use Rattle.sync_rules.proofs.Writes.{origin, placed_before, kept_by}
use Rattle.sync_rules.proofs.Windows.{window_below, written_before}
use Rattle.sync_rules.proofs.Bounds.{is_line, bound_entered, bound_rises}

module _ {X E : Type 0} (s : Scene X E) (sh : IsShared s) (i : ℕ) (l : Line E) (sound : IsSoundLine s i l) where
  -- what was taken of a windowed channel holds all that comes before the window x, where all that was written before the
  -- window before x was taken
  pub ahead_of : (index v x at c : ℕ) → IsWindow s index v x → IsCut s v at → s.net.cross c ≡ true → s.net.appointed c ≡ false → made s c at ≤ l.taken c → IsPromise s c x (l.taken c)
  ahead_of index v x at c window cut cross windowed enough k d is early =
      let from = origin s c k d is in
      let channel = from.2.channel in
      let before = written_before s sh index v x from.0 from.1 d window from.2.written (ap s.net.cross channel ∙ cross) (ap s.net.appointed channel ∙ windowed) early in
      elim (lt_or_ge from.0 at) [
        | inl less ↦ omega (arith, placed_before s sh c k from.0 at from.1 d is from.2.written less, enough)
        | inr more ↦ let late = cut.late from.0 from.1 from.2.written.is more in absurd (omega arith)
      ]

  module _ (index v x at : ℕ) (window : IsWindow s index v x) (cut : IsCut s v at) (later : l.entered < x)
      (taken : (c : ℕ) → IsInto s.net i c → made s c at ≤ l.taken c) (done : HasDone s i v l) where
    -- the bound does not fall
    pub entered_bound : bound_of s.net i l ≤ bound_of s.net i (entered_line s x l)
    entered_bound = bound_rises s.net i l (entered_line s x l) (omega arith) (λ c. omega arith)

    pub entered_is_sound : IsSoundLine s i (entered_line s x l)
    entered_is_sound = record {
      standing = sound.standing;
      below = λ j e early is own. omega (arith, sound.below j e early is own, entered_bound);
      held = sound.held;
      held_most = sound.held_most;
      ahead = λ c into windowed. ahead_of index v x at c window cut into.cross windowed (taken c into);
      index = index;
      before = v;
      at = at;
      window = window;
      cut = cut;
      enough = taken;
      passed = λ j e is own early. done j e is own (cut.early j e is early);
      written = sound.written;
      outbox = sound.outbox;
      arrival_low = λ d k w from early.
          let own = is_line s sh i w.written.by ((sh.routed k w.written.by d (kept_by s k d w.written)).sent w.out.cross ∙ w.out.sender) in
          let below = sound.below k w.written.by early w.written.is own in
          let order = window_below s sh index v x sound.index sound.before l.entered window sound.window later in
          let late = cut.late k w.written.by w.written.is from in
          absurd (omega (arith, below, bound_entered s.net i l, order, late));
      arrival_is = inl refl;
    }

  -- a timeline that may enter the window of a sound barrier, and has executed what is before the one before, stays sound
  pub enters_soundly : (v : ℕ) (b : BarrierOf) → IsSoundBarrier s v b → CanEnter s.net i l b → HasDone s i v l → IsSoundLine s i (entered_line s b.window l)
  enters_soundly v b barrier may done =
      entered_is_sound b.round v b.window barrier.at barrier.window barrier.cut may.later
      (λ c into. omega (arith, may.taken c into, barrier.counts c into.cross)) done
