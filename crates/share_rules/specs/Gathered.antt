-- Parts that were gathered again.
use Rattle.std.specs.Prelude.{◌≡◌}
use Rattle.core_rules.specs.Cores.{CoreView}

-- the parts of the same run: all but timelines, mails and the barrier is the same
pub record IsOfSame {B S P : Type 0} (key core : CoreView B S P) : Type 0 where
  pub behaviour : core.behaviour ≡ key.behaviour
  pub ends : core.ends ≡ key.ends
  pub until : core.until ≡ key.until
  pub budget : core.budget ≡ key.budget
  pub before : core.before ≡ key.before
  pub starts : core.starts ≡ key.starts
