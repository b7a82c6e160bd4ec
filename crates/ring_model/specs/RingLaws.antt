-- The laws of every behaviour, for the nodes of a ring.
use Rattle.std.specs.Prelude.{ℕ, ◌≡◌, ◌≤◌, false, List, [], ◌∷◌, ◌++◌, replicate, map, Option, Some, None, slice_get, slice_set}
use Rattle.std.specs.List.{count_by}
use Rattle.std.proofs.Common.{refl, ◌∙◌, arith, inl, zero, suc, append-nil}
use Rattle.std.proofs.lemmas.List.Sums.{count_by-le-length}
use Rattle.std.proofs.lemmas.List.{length-replicate}
use Rattle.ssf_model.specs.declared.wait.Wait.{Wait}
use Rattle.ssf_model.specs.declared.wait.Wait.TheVariants.{On}
use Rattle.ssf_model.specs.declared.wait.Wake.{Wake}
use Rattle.ssf_model.specs.declared.wait.Wake.TheVariants.{Begin, Timer, Message}
use Rattle.ssf_model.specs.declared.wait.Kind.{Kind}
use Rattle.ssf_model.specs.declared.process.Process.{Process}
use Rattle.ssf_model.specs.Reaction.{KeepsValid, Each, IsOwnWrite, is_timed}
use Rattle.ssf_model.specs.Deliver.{IsModest, MostWrites, wake_of, reacted, delivered, is_write_on}
use Rattle.ring_model.specs.declared.ring.RingState.{RingState}
use Rattle.ring_model.specs.declared.ring.RingPayload.{RingPayload}
use Rattle.ring_model.specs.Reacting.{ring_reaction, IsRing, AnyPayload, token, tokens_at, AreOnePatient}

own_tokens : (node n : ℕ) → Each (IsOwnWrite AnyPayload (node ∷ [])) (replicate n (token node))
own_tokens node zero = tt
own_tokens node (suc n) = ((inl refl, omega arith, tt), own_tokens node n)

only_place : (i : ℕ) (waits : List Wait) (wait new : Wait) → AreOnePatient waits → slice_get waits i ≡ Some wait → slice_set waits i new ≡ new ∷ []
only_place i [] wait new one e = absurd one
only_place zero (w ∷ []) wait new one e = refl
only_place (suc i) (w ∷ []) wait new one e = cc
only_place i (w ∷ v ∷ vs) wait new one e = absurd one

pub ring_sound : KeepsValid IsRing AnyPayload ring_reaction
ring_sound s i now wake ready =
    let v = ready.is_valid in
    let e = only_place i ready.waits ready.wait (On (s.node ∷ [])) v.patient ready.waiting in
    record {
      stays = record { in_channel = v.in_channel; out_channel = v.out_channel; untimed = v.untimed; patient = rw e refl; few = v.few };
      own_writes = rw v.out_channel (own_tokens s.node (tokens_at s wake));
      own_wait = rw v.in_channel (inl refl, tt);
      untimed = λ _ h. cc;
    }

tokens_few : (s : RingState) (wake : Wake RingPayload) → s.tokens ≤ MostWrites → tokens_at s wake ≤ MostWrites
tokens_few s Begin few = few
tokens_few s Timer few = omega arith
tokens_few s (Message channel payload) few = omega arith

few_writes : (s : RingState) (now c : ℕ) (p : Process) (w : Option (Wake RingPayload)) → s.tokens ≤ MostWrites →
    count_by (is_write_on c) ((reacted ring_reaction now 0 s p w).writes ++ []) ≤ MostWrites
few_writes s now c p None few = omega arith
few_writes s now c p (Some wake) few =
    let n = tokens_at s wake in
    let e : ((replicate n (token s.node) ++ []) ++ []) ≡ replicate n (token s.node) = append-nil (replicate n (token s.node) ++ []) ∙ append-nil (replicate n (token s.node)) in
    rw e (omega (arith, count_by-le-length (is_write_on c) (replicate n (token s.node)), length-replicate n (token s.node), tokens_few s wake few))

one_modest : (s : RingState) (ps : List Process) (now c : ℕ) (kind : Kind RingPayload) → map is_timed ps ≡ false ∷ [] → s.tokens ≤ MostWrites →
    count_by (is_write_on c) (delivered ring_reaction now kind 0 s ps).writes ≤ MostWrites
one_modest s [] now c kind e few = cc
one_modest s (p ∷ []) now c kind e few = few_writes s now c p (wake_of kind 0 p) few
one_modest s (p ∷ q ∷ qs) now c kind e few = cc

pub ring_modest : IsModest IsRing AnyPayload ring_reaction
ring_modest s ins outs ps now kind v t timely carried c = one_modest s ps now c kind v.untimed v.few
