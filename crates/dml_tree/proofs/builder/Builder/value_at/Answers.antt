use Rattle.dml_lexer.specs.declared.lexer.TokenKind.TheVariants.{Word, Quoted}
use Rattle.dml_tree.specs.declared.tree.Value.TheVariants as value
use Rattle.dml_tree.specs.Building.{IsOneMore, IsOpened}
use Rattle.dml_tree.proofs.Builders.{on_ok, if_err, is_text, text_goes_on, open_goes_on, left_refused}
use Rattle.dml_tree.proofs.builder.Builder.value_at.Goals as goal

pub returns-in_ok-text-in-Word-clause-goes_on : goal.returns-in_ok-text-in-Word-clause-goes_on
returns-in_ok-text-in-Word-clause-goes_on c =
    let text = c.in_ok-text-in-Word.text in
    on_ok c.add.result _ _
    (λ (more : IsOneMore c.args.self.now c.args.key (value.Plain text) c.add.new.self). text_goes_on c.args.bytes.now c.args.token.now c.args.self.now c.add.new.self c.args.key text c.requires.no_key (is_text c.args.bytes.now c.args.token.now Word text c.in-Word.is c.in_ok-text-in-Word.ensures) more)
    c.add.ensures.added

pub returns-in_ok-text-in-Quoted-clause-goes_on : goal.returns-in_ok-text-in-Quoted-clause-goes_on
returns-in_ok-text-in-Quoted-clause-goes_on c =
    let text = c.in_ok-text-in-Quoted.text in
    on_ok c.add-in-Quoted.result _ _
    (λ (more : IsOneMore c.args.self.now c.args.key (value.Plain text) c.add-in-Quoted.new.self). text_goes_on c.args.bytes.now c.args.token.now c.args.self.now c.add-in-Quoted.new.self c.args.key text c.requires.no_key (is_text c.args.bytes.now c.args.token.now Quoted text c.in-Quoted.is c.in_ok-text-in-Quoted.ensures) more)
    c.add-in-Quoted.ensures.added

pub returns-in-LeftBracket-clause-goes_on : goal.returns-in-LeftBracket-clause-goes_on
returns-in-LeftBracket-clause-goes_on c =
    on_ok c.open_list.result _ _ (λ (opened : IsOpened c.args.self.now c.args.key c.args.token.now.from c.open_list.new.self). open_goes_on c.args.bytes.now c.args.token.now c.args.self.now c.open_list.new.self c.args.key c.requires.no_key c.in-LeftBracket.is opened) c.open_list.ensures.opened

pub returns-in-LeftBracket-clause-fault : goal.returns-in-LeftBracket-clause-fault
returns-in-LeftBracket-clause-fault c =
    if_err c.open_list.result _ _ (λ f h. left_refused c.args.self.now.opened.items c.args.token.now f c.in-LeftBracket.is h) c.open_list.ensures.fault
