use Rattle.std.proofs.Common.{◌≡◌, ◌∙◌, ap₂, codes}
use Rattle.std.proofs.lemmas.Result.{IfOk-weaker}
use Rattle.clap.specs.Words.{App, app_of, with_rule}
use Rattle.command_words.specs.Parsed.{bare_app, command_arg, files_arg, flag_arg, value_arg}
use Rattle.command_words.proofs.clap_words.parsed_command.Goals as goal

pub returns : goal.returns
returns c =
    let app_1 : App = with_rule bare_app command_arg in
    let is_1 : app_of c.in_ok-arg.field-0 ≡ app_1 = c.in_ok-arg.ensures.shape c.command_arg.ensures.global ∙ ap₂ with_rule c.bare_command.ensures c.command_arg.ensures.rule in
    let app_2 : App = with_rule app_1 files_arg in
    let is_2 : app_of c.in_ok-arg-2.field-0 ≡ app_2 = c.in_ok-arg-2.ensures.shape c.files_arg.ensures.global ∙ ap₂ with_rule is_1 c.files_arg.ensures.rule in
    let app_3 : App = with_rule app_2 (value_arg (codes "until")) in
    let is_3 : app_of c.in_ok-arg-3.field-0 ≡ app_3 = c.in_ok-arg-3.ensures.shape c.value_arg.ensures.global ∙ ap₂ with_rule is_2 c.value_arg.ensures.rule in
    let app_4 : App = with_rule app_3 (value_arg (codes "align")) in
    let is_4 : app_of c.in_ok-arg-4.field-0 ≡ app_4 = c.in_ok-arg-4.ensures.shape c.value_arg-2.ensures.global ∙ ap₂ with_rule is_3 c.value_arg-2.ensures.rule in
    let app_5 : App = with_rule app_4 (value_arg (codes "threshold")) in
    let is_5 : app_of c.in_ok-arg-5.field-0 ≡ app_5 = c.in_ok-arg-5.ensures.shape c.value_arg-3.ensures.global ∙ ap₂ with_rule is_4 c.value_arg-3.ensures.rule in
    let app_6 : App = with_rule app_5 (value_arg (codes "budget")) in
    let is_6 : app_of c.in_ok-arg-6.field-0 ≡ app_6 = c.in_ok-arg-6.ensures.shape c.value_arg-4.ensures.global ∙ ap₂ with_rule is_5 c.value_arg-4.ensures.rule in
    let app_7 : App = with_rule app_6 (value_arg (codes "schedule")) in
    let is_7 : app_of c.in_ok-arg-7.field-0 ≡ app_7 = c.in_ok-arg-7.ensures.shape c.value_arg-5.ensures.global ∙ ap₂ with_rule is_6 c.value_arg-5.ensures.rule in
    let app_8 : App = with_rule app_7 (value_arg (codes "workers")) in
    let is_8 : app_of c.in_ok-arg-8.field-0 ≡ app_8 = c.in_ok-arg-8.ensures.shape c.value_arg-6.ensures.global ∙ ap₂ with_rule is_7 c.value_arg-6.ensures.rule in
    let app_9 : App = with_rule app_8 (value_arg (codes "seed")) in
    let is_9 : app_of c.in_ok-arg-9.field-0 ≡ app_9 = c.in_ok-arg-9.ensures.shape c.value_arg-7.ensures.global ∙ ap₂ with_rule is_8 c.value_arg-7.ensures.rule in
    let app_10 : App = with_rule app_9 (value_arg (codes "size")) in
    let is_10 : app_of c.in_ok-arg-10.field-0 ≡ app_10 = c.in_ok-arg-10.ensures.shape c.value_arg-8.ensures.global ∙ ap₂ with_rule is_9 c.value_arg-8.ensures.rule in
    let app_11 : App = with_rule app_10 (flag_arg (codes "flat")) in
    let is_11 : app_of c.in_ok-arg-11.field-0 ≡ app_11 = c.in_ok-arg-11.ensures.shape c.flag_arg.ensures.global ∙ ap₂ with_rule is_10 c.flag_arg.ensures.rule in
    IfOk-weaker c.arg-12.result _ _ (λ made added. added.shape c.flag_arg-2.ensures.global ∙ ap₂ with_rule is_11 c.flag_arg-2.ensures.rule) c.arg-12.ensures
