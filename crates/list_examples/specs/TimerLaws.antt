-- The laws of every behaviour, for the two entities with timers.
use Rattle.std.specs.Prelude.{ℕ, zero, suc, ◌≡◌, ◌≤◌, ◌+◌, Bool, true, false, cond, List, [], ◌∷◌, map, length, Option, Some, None, slice_get}
use Rattle.std.specs.List.{count_by}
use Rattle.std.proofs.Common.{refl, ap, arith, inl}
use Rattle.std.proofs.lemmas.List.Sums.{sum_by-append, count_by-le-length}
use Rattle.ssf_model.specs.declared.wait.Wait.{Wait}
use Rattle.ssf_model.specs.declared.wait.Wake.{Wake}
use Rattle.ssf_model.specs.declared.wait.Wake.TheVariants.{Begin, Timer, Message}
use Rattle.ssf_model.specs.declared.wait.Kind.{Kind}
use Rattle.ssf_model.specs.declared.out.Written.{Written}
use Rattle.ssf_model.specs.declared.process.Process.{Process}
use Rattle.ssf_model.specs.Wake.{timer_delay}
use Rattle.ssf_model.specs.Reaction.{Reaction, KeepsValid, Keeps, is_timed}
use Rattle.ssf_model.specs.Deliver.{IsModest, wake_of, reacted, delivered, is_write_on, timer_write}
use Rattle.list_examples.specs.declared.timers.Idle.{Idle}
use Rattle.list_examples.specs.declared.timers.Signal.{Signal}
use Rattle.list_examples.specs.Timers.{ticker_reaction, IsTicker, listener_reaction, IsListener, sleeper_reaction, IsSleeper, AnySignal}

-- where each process is timed, none is not
never_untimed : (ones : List Bool) (i : ℕ) → slice_get (true ∷ ones) i ≡ Some false → ((j : ℕ) → slice_get ones j ≡ Some false → ⊥) → ⊥
never_untimed ones zero e rest = cc
never_untimed ones (suc i) e rest = rest i e

none_there : (i : ℕ) → slice_get [] i ≡ Some false → ⊥
none_there zero e = cc
none_there (suc i) e = cc

-- ---- how often one event writes on one channel, where each action writes at most once

no_channel : (i ticket c : ℕ) (delay : Option ℕ) → count_by (is_write_on {P = Signal} c) (timer_write i ticket delay) ≡ 0
no_channel i ticket c None = refl
no_channel i ticket c (Some delay) = refl

module _ (r : Reaction Idle Signal) (once : (s : Idle) (i now : ℕ) (wake : Wake Signal) (c : ℕ) → count_by (is_write_on c) (r s i now wake).writes ≤ 1) where
  reacted_once : (c now i : ℕ) (s : Idle) (p : Process) (wake : Option (Wake Signal)) → count_by (is_write_on c) (reacted r now i s p wake).writes ≤ 1
  reacted_once c now i s p None = omega arith
  reacted_once c now i s p (Some wake) =
      let o = r s i now wake in
      omega (
        arith,
        once s i now wake c,
        no_channel i (p.ticket + 1) c (timer_delay o.wait),
        sum_by-append (λ (w : Written Signal). cond (is_write_on c w) 1 0) o.writes (timer_write i (p.ticket + 1) (timer_delay o.wait)),
      )

  delivered_once : (c now : ℕ) (kind : Kind Signal) (i : ℕ) (s : Idle) (ps : List Process) → count_by (is_write_on c) (delivered r now kind i s ps).writes ≤ length ps
  delivered_once c now kind i s [] = omega arith
  delivered_once c now kind i s (p ∷ ps) =
      let first = reacted r now i s p (wake_of kind i p) in
      omega (
        arith,
        reacted_once c now i s p (wake_of kind i p),
        delivered_once c now kind (i + 1) first.state ps,
        sum_by-append (λ (w : Written Signal). cond (is_write_on c w) 1 0) first.writes (delivered r now kind (i + 1) first.state ps).writes,
      )

length_flags : (ps : List Process) → length (map is_timed ps) ≡ length ps
length_flags [] = refl
length_flags (p ∷ ps) = ap (λ n. suc n) (length_flags ps)

-- ---- the ticker

ticker_once : (s : Idle) (i now : ℕ) (wake : Wake Signal) (c : ℕ) → count_by (is_write_on c) (ticker_reaction s i now wake).writes ≤ 1
ticker_once s i now Begin c = omega arith
ticker_once s i now Timer c = omega arith
ticker_once s i now (Message channel payload) c = omega arith

-- which waits a ticker has
ticker_keeps : (s : Idle) (i now : ℕ) (wake : Wake Signal) (ins outs : List ℕ) (timed : List Bool) (waits : List Wait) → IsTicker s ins outs timed waits
    → Keeps IsTicker AnySignal ins outs timed waits i (ticker_reaction s i now wake)
ticker_keeps s i now Begin ins outs timed waits v = record { stays = v; own_writes = tt; own_wait = omega arith; untimed = λ e h. never_untimed [] i (rw (← v) e) none_there }
ticker_keeps s i now Timer ins outs timed waits v = record { stays = v; own_writes = tt; own_wait = omega arith; untimed = λ e h. never_untimed [] i (rw (← v) e) none_there }
ticker_keeps s i now (Message channel payload) ins outs timed waits v = record { stays = v; own_writes = tt; own_wait = tt; untimed = λ e h. never_untimed [] i (rw (← v) e) none_there }

pub ticker_sound : KeepsValid IsTicker AnySignal ticker_reaction
ticker_sound s i now wake ready = ticker_keeps s i now wake ready.ins ready.outs ready.timed ready.waits ready.is_valid

pub ticker_modest : IsModest IsTicker AnySignal ticker_reaction
ticker_modest s ins outs ps now kind v t timely carried c =
    omega (arith, delivered_once ticker_reaction ticker_once c now kind 0 s ps, length_flags ps, ap (λ (xs : List Bool). length xs) v)

-- ---- the listener

listener_once : (s : Idle) (i now : ℕ) (wake : Wake Signal) (c : ℕ) → count_by (is_write_on c) (listener_reaction s i now wake).writes ≤ 1
listener_once s zero now wake c = omega arith
listener_once s (suc i) now Begin c = omega arith
listener_once s (suc i) now Timer c = omega (arith, count_by-le-length (is_write_on c) (listener_reaction s (suc i) now Timer).writes)
listener_once s (suc i) now (Message channel payload) c = omega arith

two_timed : (i : ℕ) (timed : List Bool) → timed ≡ true ∷ true ∷ [] → slice_get timed i ≡ Some false → ⊥
two_timed i timed v e = never_untimed (true ∷ []) i (rw (← v) e) (λ j f. never_untimed [] j f none_there)

listener_keeps : (s : Idle) (i now : ℕ) (wake : Wake Signal) (ins outs : List ℕ) (timed : List Bool) (waits : List Wait) → IsListener s ins outs timed waits
    → Keeps IsListener AnySignal ins outs timed waits i (listener_reaction s i now wake)
listener_keeps s zero now wake ins outs timed waits v = record {
  stays = record { in_channel = v.in_channel; out_channel = v.out_channel; timed_is = v.timed_is };
  own_writes = tt;
  own_wait = ((rw v.in_channel (inl refl), tt), omega arith);
  untimed = λ e h. two_timed zero timed v.timed_is e;
}
listener_keeps s (suc i) now Begin ins outs timed waits v = record {
  stays = record { in_channel = v.in_channel; out_channel = v.out_channel; timed_is = v.timed_is };
  own_writes = tt;
  own_wait = omega arith;
  untimed = λ e h. two_timed (suc i) timed v.timed_is e;
}
listener_keeps s (suc i) now Timer ins outs timed waits v = record {
  stays = record { in_channel = v.in_channel; out_channel = v.out_channel; timed_is = v.timed_is };
  own_writes = ((rw v.out_channel (inl refl), omega arith, tt), tt);
  own_wait = tt;
  untimed = λ e h. two_timed (suc i) timed v.timed_is e;
}
listener_keeps s (suc i) now (Message channel payload) ins outs timed waits v = record {
  stays = record { in_channel = v.in_channel; out_channel = v.out_channel; timed_is = v.timed_is };
  own_writes = tt;
  own_wait = tt;
  untimed = λ e h. two_timed (suc i) timed v.timed_is e;
}

pub listener_sound : KeepsValid IsListener AnySignal listener_reaction
listener_sound s i now wake ready = listener_keeps s i now wake ready.ins ready.outs ready.timed ready.waits ready.is_valid

pub listener_modest : IsModest IsListener AnySignal listener_reaction
listener_modest s ins outs ps now kind v t timely carried c =
    omega (arith, delivered_once listener_reaction listener_once c now kind 0 s ps, length_flags ps, ap (λ (xs : List Bool). length xs) v.timed_is)

-- ---- the sleeper, which writes nothing

reacted_none : (c now i : ℕ) (s : Idle) (p : Process) (wake : Option (Wake Signal)) → count_by (is_write_on c) (reacted sleeper_reaction now i s p wake).writes ≡ 0
reacted_none c now i s p None = refl
reacted_none c now i s p (Some wake) = refl

delivered_none : (c now : ℕ) (kind : Kind Signal) (i : ℕ) (s : Idle) (ps : List Process) → count_by (is_write_on c) (delivered sleeper_reaction now kind i s ps).writes ≡ 0
delivered_none c now kind i s [] = refl
delivered_none c now kind i s (p ∷ ps) =
    let first = reacted sleeper_reaction now i s p (wake_of kind i p) in
    omega (
      arith,
      reacted_none c now i s p (wake_of kind i p),
      delivered_none c now kind (i + 1) first.state ps,
      sum_by-append (λ (w : Written Signal). cond (is_write_on c w) 1 0) first.writes (delivered sleeper_reaction now kind (i + 1) first.state ps).writes,
    )

pub sleeper_sound : KeepsValid IsSleeper AnySignal sleeper_reaction
sleeper_sound s i now wake ready = record { stays = tt; own_writes = tt; own_wait = tt; untimed = λ e h. cc }

pub sleeper_modest : IsModest IsSleeper AnySignal sleeper_reaction
sleeper_modest s ins outs ps now kind v t timely carried c = omega (arith, delivered_none c now kind 0 s ps)
