-- Loops that do one thing after another: what is done and what is left make all.
use Rattle.std.proofs.Common.{◌≡◌, ◌∙◌, ℕ, ◌+◌, ◌<◌, ◌≤◌, List, ◌∷◌, ◌++◌, length, drop, get_or, refl, sym, ap, subst, append_assoc, append-nil, add-one, drop-cons}
use Rattle.std.proofs.lemmas.List.{at_drop_all}
use Rattle.ssf_model.specs.Reaction.{LatestTime}
use Rattle.ssf_model.specs.declared.event.Line.{Line}
use Rattle.ssf_model.specs.declared.out.Written.{Written}
use Rattle.ssf_model.specs.Output.{Output}
use Rattle.ip_layer.specs.Packets.{PacketFields}
use Rattle.tcp_rules.specs.declared.records.Act.{Act}
use Rattle.host_rules.specs.declared.rows.HostRows.{HostRows}
use Rattle.host_rules.specs.declared.sockets.Sockets.{Sockets}
use Rattle.host_rules.specs.Hosts.{Stack}
use Rattle.host_rules.specs.Effects.{Effect, quiet, and_then}
use Rattle.host_rules.specs.Sending.{done, all_done}
use Rattle.host_rules.specs.Limits.{AreRows, IsStack}
use Rattle.host_sending.proofs.Reaching.{done_keeps}

pub ahead : {T : Type 0} (xs : List T) (i : ℕ) (x : T) → i < length xs → x ≡ get_or xs i x → drop i xs ≡ x ∷ drop (i + 1) xs
ahead xs i x h e = let d = drop-cons xs i x h in rw (add-one, d, ← e) refl

-- what an effect makes of a host and of what is written and told is what another one makes of others
pub record IsSameEnd (e : Effect) (out : Output PacketFields) (all : Effect) (out0 : Output PacketFields) : Type 0 where
  pub stack : e.stack ≡ all.stack
  pub writes : out.writes ++ e.writes ≡ out0.writes ++ all.writes
  pub lines : out.lines ++ e.lines ≡ out0.lines ++ all.lines

-- an effect was done: the stack and what was written and told are those after it
pub record IsDone (e : Effect) (s : Stack) (out : Output PacketFields) (out0 : Output PacketFields) : Type 0 where
  pub stack : s ≡ e.stack
  pub writes : out.writes ≡ out0.writes ++ e.writes
  pub lines : out.lines ≡ out0.lines ++ e.lines

pub one_more : (first : Effect) (next : Stack → Effect) (out out' : Output PacketFields) (s : Stack) (all : Effect) (out0 : Output PacketFields)
    → IsSameEnd (and_then first next) out all out0 → IsDone first s out' out → IsSameEnd (next s) out' all out0
one_more first next out out' s all out0 same is = record {
  stack = ap (λ (t : Stack). (next t).stack) is.stack ∙ same.stack;
  writes = ap (λ (ws : List (Written PacketFields)). ws ++ (next s).writes) is.writes ∙ append_assoc out.writes first.writes (next s).writes
      ∙ ap (λ (t : Stack). out.writes ++ (first.writes ++ (next t).writes)) is.stack ∙ same.writes;
  lines = ap (λ (ls : List Line). ls ++ (next s).lines) is.lines ∙ append_assoc out.lines first.lines (next s).lines
      ∙ ap (λ (t : Stack). out.lines ++ (first.lines ++ (next t).lines)) is.stack ∙ same.lines;
}

pub at_end : (s : Stack) (out : Output PacketFields) (all : Effect) (out0 : Output PacketFields) → IsSameEnd (quiet s) out all out0 → IsDone all s out out0
at_end s out all out0 same = record {
  stack = same.stack;
  writes = sym (append-nil out.writes) ∙ same.writes;
  lines = sym (append-nil out.lines) ∙ same.lines;
}

-- Acts.
pub record DoneLoop (rows : HostRows) (now : ℕ) (sockets : Sockets) (acts rest : List Act) (s0 : Stack) (out0 : Output PacketFields) (s : Stack) (out : Output PacketFields) : Type 0 where
  pub same : IsSameEnd (all_done rows now sockets rest s) out (all_done rows now sockets acts s0) out0
  pub valid : IsStack rows s0 → IsStack rows s

pub acts_next : (rows : HostRows) (now : ℕ) (sockets : Sockets) (acts : List Act) (i : ℕ) (act : Act) (s0 : Stack) (out0 : Output PacketFields) (s : Stack) (out : Output PacketFields) (s' : Stack) (out' : Output PacketFields)
    → AreRows rows → now ≤ LatestTime → i < length acts → act ≡ get_or acts i act → DoneLoop rows now sockets acts (drop i acts) s0 out0 s out → IsDone (done rows now sockets act s) s' out' out
    → DoneLoop rows now sockets acts (drop (i + 1) acts) s0 out0 s' out'
acts_next rows now sockets acts i act s0 out0 s out s' out' ranges early below at loop is =
    let step : DoneLoop rows now sockets acts (act ∷ drop (i + 1) acts) s0 out0 s out = subst (λ (rest : List Act). DoneLoop rows now sockets acts rest s0 out0 s out) (ahead acts i act below at) loop in
    record {
      same = one_more (done rows now sockets act s) (all_done rows now sockets (drop (i + 1) acts)) out out' s' (all_done rows now sockets acts s0) out0 step.same is;
      valid = λ k. subst (λ (t : Stack). IsStack rows t) (sym is.stack) (done_keeps rows now sockets act s ranges early (loop.valid k));
    }

pub acts_last : (rows : HostRows) (now : ℕ) (sockets : Sockets) (acts : List Act) (i : ℕ) (s0 : Stack) (out0 : Output PacketFields) (s : Stack) (out : Output PacketFields)
    → length acts ≤ i → DoneLoop rows now sockets acts (drop i acts) s0 out0 s out → IsDone (all_done rows now sockets acts s0) s out out0
acts_last rows now sockets acts i s0 out0 s out past loop =
    at_end s out (all_done rows now sockets acts s0) out0
    (subst (λ (e : Effect). IsSameEnd e out (all_done rows now sockets acts s0) out0) (at_drop_all (λ (rest : List Act). all_done rows now sockets rest s) acts i past) loop.same)
