use Rattle.std.proofs.Common.{◌≡◌, suc, [], ◌∷◌, ◌++◌, ◌+◌, subst}
use Rattle.ssf_model.specs.Scene.{scene_of, world_at}
use Rattle.sync_rules.specs.Steps.{executed_line}
use Rattle.sync_rules.proofs.Runs.{one_number}
use Rattle.timeline.specs.Lines.{line_of}
use Rattle.timeline.specs.Sound.{IsSoundTimeline}
use Rattle.timeline.proofs.Executed.{history_before, next, comes_last, step_line, step_sound, step_history, step_low}
use Rattle.timeline.proofs.laws.executing_is_the_step.Goals as goal

pub returns-clause-next : goal.returns-clause-next
returns-clause-next g c = λ b plan until kept line net fits in_time i m t on sound after q.
    next (g.B.Behaviour.reaction b) (g.B.Behaviour.valid b) (g.B.Behaviour.carried b) (g.met.B.Behaviour.sound b) (g.met.B.Behaviour.modest b) plan until in_time fits kept line net i m t on sound q.run.event q.run.rest q.run.first q.free

pub returns-clause-last : goal.returns-clause-last
returns-clause-last g c = λ b plan until kept line net fits in_time i m t on sound after q.
    comes_last (g.B.Behaviour.reaction b) (g.B.Behaviour.valid b) (g.B.Behaviour.carried b) (g.met.B.Behaviour.sound b) (g.met.B.Behaviour.modest b) plan until in_time fits kept line net i m t on sound q.run.event q.run.rest q.run.first q.free

pub returns-clause-line : goal.returns-clause-line
returns-clause-line g c = λ b plan until kept line net fits in_time i m t on sound after q n at.
    let s = (scene_of (g.B.Behaviour.reaction b) plan until kept line net) in
    let q0 = next (g.B.Behaviour.reaction b) (g.B.Behaviour.valid b) (g.B.Behaviour.carried b) (g.met.B.Behaviour.sound b) (g.met.B.Behaviour.modest b) plan until in_time fits kept line net i m t on sound q.run.event q.run.rest q.run.first q.free in
    let same = one_number s on.shared (q0.wait + m) n q.run.event q0.is at in
    subst (λ k. line_of (suc k) after ≡ executed_line s i k (s.machine.writes (world_at s k).state q.run.event) q.run.rest (line_of m t)) same
    (step_line (g.B.Behaviour.reaction b) (g.B.Behaviour.valid b) (g.B.Behaviour.carried b) (g.met.B.Behaviour.sound b) (g.met.B.Behaviour.modest b) plan until in_time fits kept line net i m t on sound q.run.event q.run.rest q.run.first q.free after q.run.entity q.run.at after.spare q.run.is)

pub returns-clause-sound : goal.returns-clause-sound
returns-clause-sound g c = λ b plan until kept line net fits in_time i m t on sound after q n at.
    let s = (scene_of (g.B.Behaviour.reaction b) plan until kept line net) in
    let q0 = next (g.B.Behaviour.reaction b) (g.B.Behaviour.valid b) (g.B.Behaviour.carried b) (g.met.B.Behaviour.sound b) (g.met.B.Behaviour.modest b) plan until in_time fits kept line net i m t on sound q.run.event q.run.rest q.run.first q.free in
    let same = one_number s on.shared (q0.wait + m) n q.run.event q0.is at in
    subst (λ k. IsSoundTimeline plan line s i (suc k) after) same
    (step_sound (g.B.Behaviour.reaction b) (g.B.Behaviour.valid b) (g.B.Behaviour.carried b) (g.met.B.Behaviour.sound b) (g.met.B.Behaviour.modest b) plan until in_time fits kept line net i m t on sound q.run.event q.run.rest q.run.first q.free after q.run.entity q.run.at after.spare q.run.is)

pub returns-clause-history : goal.returns-clause-history
returns-clause-history g c = λ b plan until kept line net fits in_time i m t on sound after q n at.
    let s = (scene_of (g.B.Behaviour.reaction b) plan until kept line net) in
    let q0 = next (g.B.Behaviour.reaction b) (g.B.Behaviour.valid b) (g.B.Behaviour.carried b) (g.met.B.Behaviour.sound b) (g.met.B.Behaviour.modest b) plan until in_time fits kept line net i m t on sound q.run.event q.run.rest q.run.first q.free in
    let same = one_number s on.shared (q0.wait + m) n q.run.event q0.is at in
    subst (λ k. after.history ≡ t.history ++ s.entry (world_at s k).state q.run.event ∷ []) same
    (step_history (g.B.Behaviour.reaction b) (g.B.Behaviour.valid b) (g.B.Behaviour.carried b) (g.met.B.Behaviour.sound b) (g.met.B.Behaviour.modest b) plan until in_time fits kept line net i m t on sound q.run.event q.run.rest q.run.first q.free after q.run.entity q.run.at after.spare q.run.is)

pub returns-clause-low : goal.returns-clause-low
returns-clause-low g c = λ b plan until kept line net fits in_time i m t on sound after q.
    step_low (g.B.Behaviour.reaction b) (g.B.Behaviour.valid b) (g.B.Behaviour.carried b) (g.met.B.Behaviour.sound b) (g.met.B.Behaviour.modest b) plan until in_time fits kept line net i m t on sound q.run.event q.run.rest q.run.first q.free after q.run.entity q.run.at after.spare q.run.is

pub returns-clause-rises : goal.returns-clause-rises
returns-clause-rises g c = λ b plan until kept line net fits in_time i m t on sound after q.
    history_before (g.B.Behaviour.reaction b) (g.B.Behaviour.valid b) (g.B.Behaviour.carried b) (g.met.B.Behaviour.sound b) (g.met.B.Behaviour.modest b) plan until in_time fits kept line net i m t on sound q.run.event q.run.rest q.run.first q.free
