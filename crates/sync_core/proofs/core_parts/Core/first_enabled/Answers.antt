use Rattle.std.proofs.Common.{sym, ◌∙◌}
use Rattle.sync_core.proofs.Firsts.{enabled_1, enabled_2, enabled_3, enabled_4, enabled_5, enabled_6}
use Rattle.sync_core.proofs.core_parts.Core.first_enabled.Goals as goal

pub returns-in-Some-clause-first : goal.returns-in-Some-clause-first
returns-in-Some-clause-first g c = sym (enabled_1 c.args.self.now c.in-Some.step (sym c.first_of.ensures.first ∙ c.in-Some.is))

pub returns-in-Some-first_of-clause-first : goal.returns-in-Some-first_of-clause-first
returns-in-Some-first_of-clause-first g c =
    sym (enabled_2 c.args.self.now c.in-Some-first_of.step (sym c.first_of.ensures.first ∙ c.in_default.is) (sym c.first_of-2.ensures.first ∙ c.in-Some-first_of.is))

pub returns-in-Some-first_of-2-clause-first : goal.returns-in-Some-first_of-2-clause-first
returns-in-Some-first_of-2-clause-first g c =
    sym (enabled_3 c.args.self.now c.in-Some-first_of-2.step (sym c.first_of.ensures.first ∙ c.in_default.is) (sym c.first_of-2.ensures.first ∙ c.in_default-first_of.is)
    (sym c.first_of-3.ensures.first ∙ c.in-Some-first_of-2.is))

pub returns-in-Some-first_of-3-clause-first : goal.returns-in-Some-first_of-3-clause-first
returns-in-Some-first_of-3-clause-first g c =
    sym (enabled_4 c.args.self.now c.in-Some-first_of-3.step (sym c.first_of.ensures.first ∙ c.in_default.is) (sym c.first_of-2.ensures.first ∙ c.in_default-first_of.is)
    (sym c.first_of-3.ensures.first ∙ c.in_default-first_of-2.is) (sym c.first_of-4.ensures.first ∙ c.in-Some-first_of-3.is))

pub returns-in-Some-first_of-4-clause-first : goal.returns-in-Some-first_of-4-clause-first
returns-in-Some-first_of-4-clause-first g c =
    sym (enabled_5 c.args.self.now c.in-Some-first_of-4.step (sym c.first_of.ensures.first ∙ c.in_default.is) (sym c.first_of-2.ensures.first ∙ c.in_default-first_of.is)
    (sym c.first_of-3.ensures.first ∙ c.in_default-first_of-2.is) (sym c.first_of-4.ensures.first ∙ c.in_default-first_of-3.is) (sym c.first_of-5.ensures.first ∙ c.in-Some-first_of-4.is))

pub returns-clause-first : goal.returns-clause-first
returns-clause-first g c =
    c.if_enabled.ensures
    ∙ sym (enabled_6 c.args.self.now (sym c.first_of.ensures.first ∙ c.in_default.is) (sym c.first_of-2.ensures.first ∙ c.in_default-first_of.is)
    (sym c.first_of-3.ensures.first ∙ c.in_default-first_of-2.is) (sym c.first_of-4.ensures.first ∙ c.in_default-first_of-3.is) (sym c.first_of-5.ensures.first ∙ c.in_default-first_of-4.is))
