use Rattle.sync_rules.proofs.Posts.{promise_is_true, outbox_is_true, posted_is_sound, posted_mail_is_sound}
use Rattle.sync_rules.proofs.laws.posting_keeps_sound.Goals as goal

pub returns-clause-promise : goal.returns-clause-promise
returns-clause-promise g c = λ s sh. promise_is_true s sh

pub returns-clause-parcel : goal.returns-clause-parcel
returns-clause-parcel g c = λ s sh. outbox_is_true s sh

pub returns-clause-line : goal.returns-clause-line
returns-clause-line g c = λ s sh. posted_is_sound s sh

pub returns-clause-mail : goal.returns-clause-mail
returns-clause-mail g c = λ s sh. posted_mail_is_sound s sh
