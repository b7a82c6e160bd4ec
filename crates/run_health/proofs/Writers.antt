-- Which entity writes on which channel of a plan.
use Rattle.std.proofs.Common.{◌≡◌, ℕ, ◌+◌, ◌<◌, ◌≤◌, List, length, map, refl, sym, ap, ◌∙◌, subst, inl, inr, arith, Option, Some, None, slice_get, option_to_list}
use Rattle.std.specs.List.{flat_map}
use Rattle.event_order.specs.Pending.{Among}
use Rattle.ssf_model.specs.declared.process.Process.{Process}
use Rattle.ssf_model.specs.declared.entity.Entity.{Entity}
use Rattle.ssf_model.specs.declared.plan.Mapping.{Mapping}
use Rattle.ssf_model.specs.declared.plan.Plan.{Plan}
use Rattle.ssf_model.specs.Channels.{timer_of}
use Rattle.ssf_model.specs.Run.{timers_of, HasAt, IsWired}
use Rattle.run_health.specs.Groups.{IsTimerOf, IsWriterOn}
use Rattle.ssf_model.proofs.Lists.{among_range, above_range, range_once, IsOnce, one_place, one_mapped, mapped_among, flat_among}

pub timer_some : (o : Option Process) (c : ℕ) → timer_of o ≡ Some c → (p : Process) × (o ≡ Some p) × (p.timer ≡ Some c)
timer_some None c h = let n : None ≡ Some c = h in absurd (cc)
timer_some (Some p) c h = (p, refl, h)

pub timer_among : (ps : List Process) (i c : ℕ) (p : Process) → slice_get ps i ≡ Some p → p.timer ≡ Some c → Among c (flat_map (λ q. option_to_list q.timer) ps)
timer_among ps i c p h t = flat_among (λ (q : Process). option_to_list q.timer) c ps i p h (rw t (inl refl))

module _ {B S P : Type 0} (plan : Plan B S P) (wired : IsWired plan) where
  -- the timer channel of an entity is below those of the mappings
  pub timer_low : (k c : ℕ) → HasAt plan.entities k (IsTimerOf c) → c < length plan.entities + length (timers_of plan.entities)
  timer_low k c h =
      let all : Among c (timers_of plan.entities) = flat_among (λ (e : Entity B S P). flat_map (λ p. option_to_list p.timer) e.processes) c plan.entities k h.0 h.1 h.2 in
      let range = among_range (length plan.entities) (length (timers_of plan.entities)) c (subst (λ xs. Among c xs) wired.timers all) in omega arith

  mapping_in : (m : Mapping) → Among m plan.mappings → Among m.channel (map (λ (k : Mapping). k.channel) plan.mappings)
  mapping_in m a = mapped_among (λ (k : Mapping). k.channel) m plan.mappings a

  pub mapping_high : (m : Mapping) → Among m plan.mappings → length plan.entities + length (timers_of plan.entities) ≤ m.channel
  mapping_high m a =
      let range = above_range (length plan.entities + length (timers_of plan.entities)) (length plan.mappings) m.channel
      (subst (λ xs. Among m.channel xs) wired.channels (mapping_in m a)) in omega arith

  mapping_low : (m : Mapping) → Among m plan.mappings → m.channel < length plan.entities + length (timers_of plan.entities) + length plan.mappings
  mapping_low m a =
      let range = among_range (length plan.entities + length (timers_of plan.entities)) (length plan.mappings) m.channel
      (subst (λ xs. Among m.channel xs) wired.channels (mapping_in m a)) in omega arith

  -- a channel that is written on has a number below that of all channels
  pub writer_low : (k c : ℕ) → IsWriterOn plan k c → c < length plan.entities + length (timers_of plan.entities) + length plan.mappings
  writer_low k c (inl a) = let low = mapping_low a.0 a.1 in let is = a.2.channel_is in omega arith
  writer_low k c (inr b) = let low = timer_low k c b in omega arith

  pub one_mapping : (m k : Mapping) → Among m plan.mappings → Among k plan.mappings → m.channel ≡ k.channel → m ≡ k
  one_mapping m k a b e =
      one_mapped (λ (j : Mapping). j.channel) m k plan.mappings
      (subst IsOnce (sym wired.channels) (range_once (length plan.entities + length (timers_of plan.entities)) (length plan.mappings))) a b e

  -- one entity writes on a channel
  pub one_writer : (i k c : ℕ) → IsWriterOn plan i c → IsWriterOn plan k c → i ≡ k
  one_writer i k c (inl a) (inl b) =
      let same : a.0 ≡ b.0 = one_mapping a.0 b.0 a.1 b.1 (a.2.channel_is ∙ sym b.2.channel_is) in
      sym a.2.source ∙ (ap (λ (m : Mapping). m.from) same ∙ b.2.source)
  one_writer i k c (inl a) (inr b) = let high = mapping_high a.0 a.1 in let low = timer_low k c b in let is = a.2.channel_is in absurd (omega arith)
  one_writer i k c (inr a) (inl b) = let high = mapping_high b.0 b.1 in let low = timer_low i c a in let is = b.2.channel_is in absurd (omega arith)
  one_writer i k c (inr a) (inr b) =
      one_place (λ (e : Entity B S P). flat_map (λ p. option_to_list p.timer) e.processes) c plan.entities i k a.0 b.0
      (subst IsOnce (sym wired.timers) (range_once (length plan.entities) (length (timers_of plan.entities)))) a.1 b.1 a.2 b.2
