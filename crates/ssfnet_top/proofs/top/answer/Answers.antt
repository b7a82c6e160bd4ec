use Rattle.std.proofs.Common.{ap, map, string_bytes, List, String}
use Rattle.std.specs.declared.alloc.Global.{Global}
use Rattle.command_words.specs.Words.{asked_of_words}
use Rattle.ssfnet_top.specs.Outcome.{asked_of, offline_of}
use Rattle.ssfnet_top.specs.Answering.{told_text}
use Rattle.ssfnet_top.proofs.Acting.{asked_unbegun}
use Rattle.ssfnet_top.proofs.Endings.{unread_answers}
use Rattle.ssfnet_top.proofs.NoFiles.{campus_written}
use Rattle.ssfnet_top.proofs.top.answer.Goals as goal

pub returns-clause-outcome : goal.returns-clause-outcome
returns-clause-outcome g c =
    unread_answers (offline_of (asked_of_words (map string_bytes c.args.words.now))) (asked_of c.in-Ok.request) (map string_bytes c.as_slice.result.now) c.in-Ok.ensures.asked
    (ap (λ (l : List (String Global)). map string_bytes l) c.as_slice.ensures.value)
    (g.L.Library.files c.args.library.now) (told_text c.args.told.now) c.in-Err-read_files.refusal (g.L.Library.faults c.args.library.now) (g.L.Library.faults c.read_files.new.library)
    (g.K.Sink.faults c.args.out.now) (g.K.Sink.held c.args.out.now) c.in-Err-read_files.ensures.files c.in-Err-read_files.ensures.reached c.in-Err-read_files.ensures.read

pub returns-in-Ok-read_files-clause-generated : goal.returns-in-Ok-read_files-clause-generated
returns-in-Ok-read_files-clause-generated g c =
    campus_written (offline_of (asked_of_words (map string_bytes c.args.words.now))) (asked_of c.in-Ok.request) c.in-Ok-read_files.tree (told_text c.act.new.told) c.act.result
    (g.K.Sink.faults c.args.out.now) (g.K.Sink.faults c.act.new.out) (g.K.Sink.held c.args.out.now) (g.K.Sink.held c.act.new.out) c.in-Ok.ensures.asked c.act.ensures.due

pub returns-in-Ok-read_files-clause-unbegun : goal.returns-in-Ok-read_files-clause-unbegun
returns-in-Ok-read_files-clause-unbegun g c =
    asked_unbegun c.act.result (offline_of (asked_of_words (map string_bytes c.args.words.now))) (asked_of c.in-Ok.request) (g.K.Sink.held c.args.out.now) (g.K.Sink.held c.act.new.out) c.in-Ok.ensures.asked c.act.ensures.unbegun
