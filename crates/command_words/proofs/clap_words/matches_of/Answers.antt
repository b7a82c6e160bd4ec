use Rattle.std.proofs.Common.{◌≡◌, ◌∙◌, ap, map, string_bytes, List}
use Rattle.clap.specs.Words.{App, found_of, is_simple, kind_of, matches_of, rows_of, takes}
use Rattle.clap.specs.declared.error.kind.ErrorKind.TheVariants.{OutOfMemory}
use Rattle.command_words.specs.Parsed.{the_app}
use Rattle.command_words.specs.Table.{Text}
use Rattle.command_words.proofs.TheApp.{app_simple}
use Rattle.command_words.proofs.Matched.{table_matched, table_taken}
use Rattle.command_words.proofs.clap_words.matches_of.Goals as goal

pub returns-in-Ok-clause-matched : goal.returns-in-Ok-clause-matched
returns-in-Ok-clause-matched c =
    let words : List Text = map string_bytes c.args.words.now in
    let rows : rows_of (found_of c.in-Ok.matches) ≡ matches_of the_app words =
    (c.in-Ok.ensures.matches (ap is_simple c.in_ok-command.ensures ∙ app_simple)).0 ∙ ap (λ (a : App). matches_of a words) c.in_ok-command.ensures in
    table_matched c.args.name words c.requires (found_of c.in-Ok.matches) rows

pub unreachable-requires : goal.unreachable-requires
unreachable-requires c =
    let words : List Text = map string_bytes c.args.words.now in
    let is : kind_of c.in-Err.error ≡ OutOfMemory = c.in-Err.ensures.passes (ap (λ (a : App). takes a words) c.in_ok-command.ensures ∙ table_taken c.args.name words c.requires) in
    c.in_default.not-OutOfMemory (c.kind.ensures ∙ is)
