use Rattle.std.proofs.Common.{refl, sym, subst}
use Rattle.sync_rules.specs.Sound.{IsSoundBarrier}
use Rattle.sync_rules.proofs.Reports.{cross_least, next_is_sound, ended_is_sound}
use Rattle.sync_rules.proofs.laws.crossing_keeps_sound.Goals as goal

pub returns-clause-least : goal.returns-clause-least
returns-clause-least g c = λ s sh v b sound may. cross_least s sh v b sound may.all_in

pub returns-clause-next : goal.returns-clause-next
returns-clause-next g c = λ s sh v b after sound may crossing early. next_is_sound s sh v b sound may.all_in after early (crossing.goes_on early)

pub returns-clause-over : goal.returns-clause-over
returns-clause-over g c = λ s sh v b after sound may crossing late.
    let ended = ended_is_sound s sh v b sound may.all_in late in
    (subst (λ x. IsSoundBarrier s v x) (sym (crossing.ends late)) ended, ended.over refl)
