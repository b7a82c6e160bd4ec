-- Loops that do one thing after another: what is done and what is left make all.
use Rattle.std.proofs.Common.{◌≡◌, ℕ, ◌+◌, ◌<◌, ◌≤◌, List, ◌∷◌, length, drop, get_or, subst}
use Rattle.std.specs.Prelude.{Result, Ok, Err, OnOk}
use Rattle.std.proofs.lemmas.List.{at_drop_all}
use Rattle.ssf_model.specs.Output.{Output}
use Rattle.ip_layer.specs.Packets.{PacketFields}
use Rattle.host_rules.specs.declared.rows.HostRows.{HostRows}
use Rattle.host_rules.specs.Hosts.{Stack}
use Rattle.host_rules.specs.Effects.{Effect}
use Rattle.host_rules.specs.Hearing.{timed_out, all_timed_out}
use Rattle.host_rules.specs.Limits.{IsStack}
use Rattle.host_sending.proofs.Looping.{ahead, IsSameEnd, IsDone, one_more, at_end}

-- What holds in any case holds where a call ended well.
pub on_ok : {T E P : Type 0} (r : Result T E) → P → OnOk r P
on_ok (Ok x) p = p
on_ok (Err d) p = tt

-- Deadlines.
pub record TimeLoop (rows : HostRows) (now : ℕ) (numbers rest : List ℕ) (s0 : Stack) (out0 : Output PacketFields) (s : Stack) (out : Output PacketFields) : Type 0 where
  pub same : IsSameEnd (all_timed_out rows now rest s) out (all_timed_out rows now numbers s0) out0
  pub valid : IsStack rows s

pub times_next : (rows : HostRows) (now : ℕ) (numbers : List ℕ) (i number : ℕ) (s0 : Stack) (out0 : Output PacketFields) (s : Stack) (out : Output PacketFields) (s' : Stack) (out' : Output PacketFields)
    → i < length numbers → number ≡ get_or numbers i number → TimeLoop rows now numbers (drop i numbers) s0 out0 s out → IsStack rows s' → IsDone (timed_out rows now number s) s' out' out
    → TimeLoop rows now numbers (drop (i + 1) numbers) s0 out0 s' out'
times_next rows now numbers i number s0 out0 s out s' out' below at loop kept is =
    let step : TimeLoop rows now numbers (number ∷ drop (i + 1) numbers) s0 out0 s out = subst (λ (rest : List ℕ). TimeLoop rows now numbers rest s0 out0 s out) (ahead numbers i number below at) loop in
    record {
      same = one_more (timed_out rows now number s) (all_timed_out rows now (drop (i + 1) numbers)) out out' s' (all_timed_out rows now numbers s0) out0 step.same is;
      valid = kept;
    }

pub times_last : (rows : HostRows) (now : ℕ) (numbers : List ℕ) (i : ℕ) (s0 : Stack) (out0 : Output PacketFields) (s : Stack) (out : Output PacketFields)
    → length numbers ≤ i → TimeLoop rows now numbers (drop i numbers) s0 out0 s out → IsDone (all_timed_out rows now numbers s0) s out out0
times_last rows now numbers i s0 out0 s out past loop =
    at_end s out (all_timed_out rows now numbers s0) out0
    (subst (λ (e : Effect). IsSameEnd e out (all_timed_out rows now numbers s0) out0) (at_drop_all (λ (rest : List ℕ). all_timed_out rows now rest s) numbers i past) loop.same)
