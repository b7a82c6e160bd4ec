use Rattle.std.proofs.Common.{ℕ, ◌+◌, [], refl, ap, ◌∙◌}
use mathlib.Core.Option.{none}
use Rattle.atomic_table.specs.Table.{step, Me}
use Rattle.turn_table.specs.declared.view.View.{View}
use Rattle.turn_table.specs.Rule.{Kept}
use Rattle.turn_table.specs.Passes.{view_of}
use Rattle.turn_table.specs.Steps.{given}
use Rattle.turn_table.specs.Views.{giving}
use Rattle.turn_table.proofs.Hands.{from, turn_within}
use Rattle.turn_table.proofs.Moves.{gives_up}
use Rattle.turn_table.proofs.Reseating.{reseated_by}
use Rattle.turn_table.proofs.turns.Turns.leave.Goals as goal

pub store-requires : goal.store-requires
store-requires g c =
    let own = c.requires.pass in let z = c.args.self.now.board.table.shared.table_id in let key = c.args.self.now.board.table.shared.key in
    let place = c.args.turn.place in let v = view_of c.args.pass.now in let shape = g.V.Tenant.shape key in (
      c.sit-seat.ensures.table ∙ own.table,
      turn_within z shape c.args.pass.now place own c.requires.place,
      from (Kept g.V.Tenant key) z.slots c.sit-seat.result.id (place + 1) (λ _. 0) (λ me n. given (step z.slots (place + 1) 0 0 none) me 0) c.sit-seat.result.me (v, []) c.sit-seat.ensures.me
          (gives_up g.V.Tenant key z.slots c.sit-seat.result.id v [] place c.requires.place own.shaped c.requires.held),
    )

abbrev after : {S : Type 0} → ℕ → Me S View → Me S View
after p m = (giving m.0 p, m.1)

pub rest-requires : goal.rest-requires
rest-requires g c = let told = c.store.ensures.2 c.args.turn.place refl in ap (λ (m : Me _ View). m.1) (told ∙ ap (after c.args.turn.place) c.sit-seat.ensures.me)

pub returns-clause-pass : goal.returns-clause-pass
returns-clause-pass g c = let told = c.store.ensures.2 c.args.turn.place refl in
    reseated_by _ _ c.args.pass.now c.rest.new.self c.store.new.seat.me (giving (view_of c.args.pass.now) c.args.turn.place) [] c.requires.pass
    (c.rest.ensures.table ∙ c.store.ensures.0 ∙ c.sit-seat.ensures.table ∙ c.requires.pass.table) c.rest.ensures.views (c.rest.ensures.number ∙ c.sit-seat.ensures.number)
    (told ∙ ap (after c.args.turn.place) c.sit-seat.ensures.me) refl refl
