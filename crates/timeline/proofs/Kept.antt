-- What stays in order in the tables of ends.
use Rattle.std.proofs.Common.{◌≡◌, ℕ, zero, suc, ◌<◌, nat_eq, List, [], ◌∷◌, length, get_or, map, refl, sym, ap, ◌∙◌, subst, inl, inr, arith, length-append}
use Rattle.event_order.specs.declared.key.Key.{Key}
use Rattle.event_order.proofs.Pending.{test_cases}
use Rattle.ssf_model.specs.declared.event.Event.{Event}
use Rattle.ssf_model.specs.Reaction.{Each}
use Rattle.ssf_model.specs.Channels.{Sent, numbered}
use Rattle.timeline_parts.specs.declared.ends.OutEnd.{OutEnd}
use Rattle.timeline_parts.specs.Tables.{numbers_of, AreNumbered, changed}
use Rattle.timeline_parts.specs.Sending.{with_event, put_one, all_put, count_of, IsSent}
use Rattle.timeline_parts.proofs.Tables.{numbered_same}
use Rattle.timeline_parts.proofs.Sending.{numbers_all_counted, numbers_all_put}
use Rattle.timeline_parts.specs.declared.part.Cross.{Cross}
use Rattle.timeline.specs.Holding.{IsFilled}
use Rattle.timeline.specs.Moving.{posted_end}
use Rattle.timeline_parts.specs.Parts.{channel_of}
use Rattle.timeline.specs.Opening.{first_in, first_out}

pub each_at : {T : Type 0} (Q : T → Type 0) (xs : List T) (i : ℕ) (x : T) → i < length xs → x ≡ get_or xs i x → Each Q xs → Q x
each_at Q [] i x h e q = absurd (omega arith)
each_at Q (y ∷ ys) zero x h e q = subst Q (sym e) q.0
each_at Q (y ∷ ys) (suc i) x h e q = each_at Q ys i x (omega arith) e q.1

each_changed : {T : Type 0} (Q : ℕ × T → Type 0) (n : ℕ) (f : T → T) → ((k : ℕ) (x : T) → Q (k, x) → Q (k, f x)) → (xs : List (ℕ × T)) → Each Q xs → Each Q (changed n f xs)
each_changed Q n f keeps [] e = tt
each_changed Q n f keeps (x ∷ xs) e = elim (test_cases (nat_eq n x.0)) [
  | inl t ↦ rw t (keeps x.0 x.1 e.0, each_changed Q n f keeps xs e.1)
  | inr o ↦ rw o (e.0, each_changed Q n f keeps xs e.1)
]

module _ {P : Type 0} where
  filled_with : (e : Event P) (k : ℕ) (o : OutEnd P) → IsFilled (k, o) → IsFilled (k, with_event e o)
  filled_with e k o h = omega (arith, h, length-append o.outbox (e ∷ []))

  pub filled_put : (es : List (Event P)) (ends : List (ℕ × OutEnd P)) → Each IsFilled ends → Each IsFilled (all_put es ends)
  filled_put [] ends h = h
  filled_put (e ∷ es) ends h = filled_put es (put_one e ends) (each_changed IsFilled e.key.channel (with_event e) (filled_with e) ends h)

  pub filled_posted : (c : ℕ) (ends : List (ℕ × OutEnd P)) → Each IsFilled ends → Each IsFilled (changed c posted_end ends)
  filled_posted c ends h = each_changed IsFilled c posted_end (λ k o q. omega arith) ends h

  -- after an event was sent
  pub sent_counts_rise : {parent : Key} {ss : List (Sent P)} {c0 c1 : List (ℕ × ℕ)} {o0 o1 : List (ℕ × OutEnd P)} {w0 w1 : List (Event P)} → IsSent parent ss c0 o0 w0 c1 o1 w1 → AreNumbered c0 → AreNumbered c1
  sent_counts_rise {parent} {ss} {c0} {c1} q rise = numbered_same c1 c0 (ap numbers_of q.counts ∙ numbers_all_counted (numbered parent (count_of c0) ss) c0) rise

  pub sent_ends_rise : {parent : Key} {ss : List (Sent P)} {c0 c1 : List (ℕ × ℕ)} {o0 o1 : List (ℕ × OutEnd P)} {w0 w1 : List (Event P)} → IsSent parent ss c0 o0 w0 c1 o1 w1 → AreNumbered o0 → AreNumbered o1
  sent_ends_rise {parent} {ss} {c0} {c1} {o0} {o1} q rise = numbered_same o1 o0 (ap numbers_of q.ends ∙ numbers_all_put (numbered parent (count_of c0) ss) o0) rise

  pub sent_filled : {parent : Key} {ss : List (Sent P)} {c0 c1 : List (ℕ × ℕ)} {o0 o1 : List (ℕ × OutEnd P)} {w0 w1 : List (Event P)} → IsSent parent ss c0 o0 w0 c1 o1 w1 → Each IsFilled o0 → Each IsFilled o1
  sent_filled {parent} {ss} {c0} {c1} {o0} {o1} q filled = subst (λ os. Each IsFilled os) (sym q.ends) (filled_put (numbered parent (count_of c0) ss) o0 filled)

pub filled_first : (P : Type 0) (outs : List Cross) → Each IsFilled (map (first_out {P = P}) outs)
filled_first P [] = tt
filled_first P (x ∷ outs) = (omega arith, filled_first P outs)

pub numbers_first_out : (P : Type 0) (outs : List Cross) → numbers_of (map (first_out {P = P}) outs) ≡ map channel_of outs
numbers_first_out P [] = refl
numbers_first_out P (x ∷ outs) = ap (λ ns. x.mapping.channel ∷ ns) (numbers_first_out P outs)

pub numbers_first_in : (ins : List Cross) → numbers_of (map first_in ins) ≡ map channel_of ins
numbers_first_in [] = refl
numbers_first_in (x ∷ ins) = ap (λ ns. x.mapping.channel ∷ ns) (numbers_first_in ins)
