use Rattle.std.proofs.Common.{◌≡◌, ℕ, suc, ◌+◌, ◌<◌, ◌≤◌, [], refl, ap, subst, ◌∙◌}
use mathlib.Core.Option.{none}
use Rattle.atomic_table.specs.Table.{step, Me}
use Rattle.turn_table.specs.declared.view.View.{View}
use Rattle.turn_table.specs.Rule.{Kept}
use Rattle.turn_table.specs.Passes.{view_of}
use Rattle.turn_table.specs.Steps.{read}
use Rattle.turn_table.specs.Views.{note, mark, reading}
use Rattle.turn_table.proofs.Hands.{from, count_at}
use Rattle.turn_table.proofs.Moves.{reads}
use Rattle.turn_table.proofs.Reseating.{reseated_by, viewing_by}
use Rattle.turn_table.proofs.turns.Turns.load.Goals as goal

pub load-found-requires : goal.load-found-requires
load-found-requires g c =
    let own = c.requires.pass in let z = c.args.self.now.board.table.shared.table_id in let key = c.args.self.now.board.table.shared.key in
    let word = c.args.word in let v = view_of c.args.pass.now in let shape = g.V.Tenant.shape key in let places = c.args.self.now.board.places in
    let here = count_at z shape c.args.pass.now places word c.args.self.now.board.slots own c.requires.word in (
      c.sit-seat.ensures.table ∙ own.table,
      here.0,
      from (Kept g.V.Tenant key) z.slots c.sit-seat.result.id (places + 1 + word) (λ n. n) (λ me n. read (step z.slots (places + 1 + word) 0 0 none) me n) c.sit-seat.result.me (v, []) c.sit-seat.ensures.me
          (reads g.V.Tenant key z.slots c.sit-seat.result.id v [] word (places + 1 + word) here.3 here.1 c.requires.word own.shaped),
    )

abbrev after : {S : Type 0} → ℕ → ℕ → Me S View → Me S View
after c n m = (reading m.0 c n, m.1)

pub rest-requires : goal.rest-requires
rest-requires g c =
    let here = count_at c.args.self.now.board.table.shared.table_id _ c.args.pass.now c.args.self.now.board.places c.args.word c.args.self.now.board.slots c.requires.pass c.requires.word in
    let told = c.load-found.ensures.2 c.args.word here.2 in ap (λ (m : Me _ View). m.1) (told.0 ∙ ap (after c.args.word c.load-found.result) c.sit-seat.ensures.me)

pub returns-clause-pass : goal.returns-clause-pass
returns-clause-pass g c =
    let here = count_at c.args.self.now.board.table.shared.table_id _ c.args.pass.now c.args.self.now.board.places c.args.word c.args.self.now.board.slots c.requires.pass c.requires.word in
    let told = c.load-found.ensures.2 c.args.word here.2 in
    reseated_by _ _ c.args.pass.now c.rest.new.self c.load-found.new.seat.me (reading (view_of c.args.pass.now) c.args.word c.load-found.result) [] c.requires.pass
    (c.rest.ensures.table ∙ c.load-found.ensures.0 ∙ c.sit-seat.ensures.table ∙ c.requires.pass.table) c.rest.ensures.views (c.rest.ensures.number ∙ c.sit-seat.ensures.number)
    (told.0 ∙ ap (after c.args.word c.load-found.result) c.sit-seat.ensures.me) refl refl

pub returns-clause-view : goal.returns-clause-view
returns-clause-view g c =
    let here = count_at c.args.self.now.board.table.shared.table_id _ c.args.pass.now c.args.self.now.board.places c.args.word c.args.self.now.board.slots c.requires.pass c.requires.word in
    let told = c.load-found.ensures.2 c.args.word here.2 in
    viewing_by c.rest.new.self c.load-found.new.seat.me (reading (view_of c.args.pass.now) c.args.word c.load-found.result) [] c.rest.ensures.views
    (told.0 ∙ ap (after c.args.word c.load-found.result) c.sit-seat.ensures.me)

abbrev AtMost : {S : Type 0} → ℕ → ℕ → Me S View → Type 0
AtMost c n m = mark m.0 c ≤ suc n

abbrev IsNoted : {S : Type 0} → ℕ → ℕ → Me S View → Type 0
IsNoted c n m = 0 < note m.0 c → note m.0 c ≡ suc n

pub returns-clause-mark : goal.returns-clause-mark
returns-clause-mark g c =
    let here = count_at c.args.self.now.board.table.shared.table_id _ c.args.pass.now c.args.self.now.board.places c.args.word c.args.self.now.board.slots c.requires.pass c.requires.word in
    subst (AtMost c.args.word c.load-found.result) c.sit-seat.ensures.me (c.load-found.ensures.2 c.args.word here.2).1

pub returns-clause-note : goal.returns-clause-note
returns-clause-note g c =
    let here = count_at c.args.self.now.board.table.shared.table_id _ c.args.pass.now c.args.self.now.board.places c.args.word c.args.self.now.board.slots c.requires.pass c.requires.word in
    subst (IsNoted c.args.word c.load-found.result) c.sit-seat.ensures.me (c.load-found.ensures.2 c.args.word here.2).2
