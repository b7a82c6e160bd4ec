use Rattle.std.proofs.Common.{ℕ, ◌+◌, [], ◌∷◌, refl, ap, ◌∙◌}
use mathlib.Core.Option.{none}
use Rattle.atomic_table.specs.Table.{step, Me, rest}
use Rattle.turn_table.specs.declared.cell.Cell.{Cell}
use Rattle.turn_table.specs.declared.cell.Cell.TheVariants.{Value, Empty}
use Rattle.turn_table.specs.declared.view.View.{View}
use Rattle.turn_table.specs.Rule.{Kept}
use Rattle.turn_table.specs.Passes.{view_of}
use Rattle.turn_table.specs.Steps.{entered, settled}
use Rattle.turn_table.specs.Views.{holding, moving_home}
use Rattle.turn_table.proofs.Lookups.{at_here}
use Rattle.turn_table.proofs.Hands.{from, first_of, swapped, swapped_out, turn_within}
use Rattle.turn_table.proofs.Moves.{enters, settles}
use Rattle.turn_table.proofs.Reseating.{reseated_by, viewing_by}
use Rattle.turn_table.proofs.turns.Turns.put.Goals as goal

pub load-requires : goal.load-requires
load-requires g c =
    let own = c.requires.pass in let z = c.args.self.now.board.table.shared.table_id in let key = c.args.self.now.board.table.shared.key in
    let place = c.args.held.place in let v = view_of c.args.pass.now in let shape = g.V.Tenant.shape key in (
      c.sit-seat.ensures.table ∙ own.table,
      turn_within z shape c.args.pass.now place own c.requires.place,
      from (Kept g.V.Tenant key) z.slots c.sit-seat.result.id (place + 1) (λ n. n) (λ me n. entered (step z.slots (place + 1) 0 0 none) me n) c.sit-seat.result.me (v, []) c.sit-seat.ensures.me
          (enters g.V.Tenant key z.slots c.sit-seat.result.id v [] place c.requires.place own.shaped c.requires.held),
    )

abbrev entering : {T : Type 0} → ℕ → Me (Cell T) View → Me (Cell T) View
entering p m = (holding m.0 p 3, (p, Empty) ∷ m.1)

pub exchange-old-requires : goal.exchange-old-requires
exchange-old-requires g c = let told = c.load.ensures.2 c.args.held.place refl ∙ ap (entering c.args.held.place) c.sit-seat.ensures.me in
    (c.load.ensures.0 ∙ c.sit-seat.ensures.table ∙ c.requires.pass.table, (Empty, first_of _ _ _ (ap (λ (m : Me _ View). m.1) told)))

pub unreachable-requires : goal.unreachable-requires
unreachable-requires g c = let told = c.load.ensures.2 c.args.held.place refl ∙ ap (entering c.args.held.place) c.sit-seat.ensures.me in
    c.in_default.not-Empty (swapped_out c.load.new.seat.me _ c.args.held.place Empty c.exchange-old.result [] c.exchange-old.ensures.2 told)

pub load-requires-2 : goal.load-requires-2
load-requires-2 g c =
    let own = c.requires.pass in let z = c.args.self.now.board.table.shared.table_id in let key = c.args.self.now.board.table.shared.key in
    let place = c.args.held.place in let v = view_of c.args.pass.now in let shape = g.V.Tenant.shape key in
    let told = c.load.ensures.2 place refl ∙ ap (entering place) c.sit-seat.ensures.me in
    let me = swapped c.load.new.seat.me c.exchange-old.new.seat.me (holding v place 3) place Empty (Value c.args.held.value) [] c.exchange-old.ensures.3 told in (
      c.exchange-old.ensures.0 ∙ c.load.ensures.0 ∙ c.sit-seat.ensures.table ∙ own.table,
      turn_within z shape c.args.pass.now place own c.requires.place,
      from (Kept g.V.Tenant key) z.slots c.exchange-old.new.seat.id (place + 1) (λ n. n) (λ me n. settled (step z.slots (place + 1) 0 0 none) me n) c.exchange-old.new.seat.me (holding v place 3, (place, Value c.args.held.value) ∷ []) me
          (settles g.V.Tenant key z.slots c.exchange-old.new.seat.id (holding v place 3) [] place c.requires.place own.shaped
          c.args.held.value (at_here v.held place 3) (record { sound = c.requires.pays.sound; marked = c.requires.pays.marked; owed = c.requires.pays.owed })),
    )

abbrev settling : {T : Type 0} → ℕ → Me (Cell T) View → Me (Cell T) View
settling p m = (holding m.0 p 1, rest m.1)

pub rest-requires : goal.rest-requires
rest-requires g c =
    let place = c.args.held.place in let v = view_of c.args.pass.now in
    let told = c.load.ensures.2 place refl ∙ ap (entering place) c.sit-seat.ensures.me in
    let me = swapped c.load.new.seat.me c.exchange-old.new.seat.me (holding v place 3) place Empty (Value c.args.held.value) [] c.exchange-old.ensures.3 told in
    ap (λ (m : Me _ View). m.1) (c.load-2.ensures.2 place refl ∙ ap (settling place) me)

pub returns-clause-pass : goal.returns-clause-pass
returns-clause-pass g c =
    let place = c.args.held.place in let v = view_of c.args.pass.now in
    let told = c.load.ensures.2 place refl ∙ ap (entering place) c.sit-seat.ensures.me in
    let me = swapped c.load.new.seat.me c.exchange-old.new.seat.me (holding v place 3) place Empty (Value c.args.held.value) [] c.exchange-old.ensures.3 told in
    reseated_by _ _ c.args.pass.now c.rest.new.self c.load-2.new.seat.me (moving_home v place) [] c.requires.pass
    (c.rest.ensures.table ∙ c.load-2.ensures.0 ∙ c.exchange-old.ensures.0 ∙ c.load.ensures.0 ∙ c.sit-seat.ensures.table ∙ c.requires.pass.table) c.rest.ensures.views (c.rest.ensures.number ∙ c.sit-seat.ensures.number)
    (c.load-2.ensures.2 place refl ∙ ap (settling place) me) refl refl

pub returns-clause-view : goal.returns-clause-view
returns-clause-view g c =
    let place = c.args.held.place in let v = view_of c.args.pass.now in
    let told = c.load.ensures.2 place refl ∙ ap (entering place) c.sit-seat.ensures.me in
    let me = swapped c.load.new.seat.me c.exchange-old.new.seat.me (holding v place 3) place Empty (Value c.args.held.value) [] c.exchange-old.ensures.3 told in
    viewing_by c.rest.new.self c.load-2.new.seat.me (moving_home v place) [] c.rest.ensures.views (c.load-2.ensures.2 place refl ∙ ap (settling place) me)
