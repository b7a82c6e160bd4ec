use Rattle.std.proofs.Common.{ℕ, ◌+◌, [], ◌∷◌, refl, sym, ap, subst, ◌∙◌, IfSome}
use mathlib.Core.Option.{none}
use Rattle.atomic_table.specs.Table.{step, Me, rest}
use Rattle.turn_table.specs.declared.cell.Cell.{Cell}
use Rattle.turn_table.specs.declared.cell.Cell.TheVariants.{Value, Empty}
use Rattle.turn_table.specs.declared.view.View.{View}
use Rattle.turn_table.specs.Rule.{Kept}
use Rattle.turn_table.specs.Steps.{reached, emptied, Tells}
use Rattle.turn_table.specs.Views.{holding, moving_out}
use Rattle.turn_table.proofs.Lookups.{at_here}
use Rattle.turn_table.proofs.Hands.{from, both, first_of, swapped, swapped_out, same_value, is_value}
use Rattle.turn_table.proofs.Moves.{reaches, clears}
use Rattle.turn_table.proofs.turns.Turns.reach.Goals as goal

pub load-requires : goal.load-requires
load-requires g c =
    let z = c.args.self.now.board.table.shared.table_id in let key = c.args.self.now.board.table.shared.key in
    let place = c.args.place in let v = c.args.seat.now.me.0 in (
      c.requires.table.0,
      c.requires.words,
      from (Kept g.V.Tenant key) z.slots c.args.seat.now.id (place + 1) (λ n. n) (λ me n. reached g.V.Tenant g.R.About.key (step z.slots (place + 1) 0 0 none) me n) c.args.seat.now.me (v, []) (both _ v [] refl c.requires.table.1)
          (reaches g.V.Tenant key z.slots c.args.seat.now.id v [] place c.requires.place c.requires.shape c.requires.held g.R.About.key c.requires.about),
    )

pub exchange-cell-requires : goal.exchange-cell-requires
exchange-cell-requires g c = let told = c.load.ensures.2 c.args.place refl in
    (c.load.ensures.0 ∙ c.requires.table.0, (Value told.0, first_of _ _ _ (ap (λ (m : Me _ View). m.1) told.2)))

abbrev cleared : {T : Type 0} → ℕ → Me (Cell T) View → Me (Cell T) View
cleared p m = (holding m.0 p 2, rest m.1)

pub load-requires-2 : goal.load-requires-2
load-requires-2 g c =
    let z = c.args.self.now.board.table.shared.table_id in let key = c.args.self.now.board.table.shared.key in
    let place = c.args.place in let v = c.args.seat.now.me.0 in let told = c.load.ensures.2 place refl in
    let me = swapped c.load.new.seat.me c.exchange-cell.new.seat.me (holding v place 3) place (Value told.0) Empty c.args.seat.now.me.1 c.exchange-cell.ensures.3 told.2 in (
      c.exchange-cell.ensures.0 ∙ c.load.ensures.0 ∙ c.requires.table.0,
      c.requires.words,
      from (Kept g.V.Tenant key) z.slots c.exchange-cell.new.seat.id (place + 1) (λ n. n) (λ me n. emptied (step z.slots (place + 1) 0 0 none) me n) c.exchange-cell.new.seat.me (holding v place 3, (place, Empty) ∷ c.args.seat.now.me.1) me
          (clears g.V.Tenant key z.slots c.exchange-cell.new.seat.id (holding v place 3) c.args.seat.now.me.1 place c.requires.place c.requires.shape (at_here v.held place 3)),
    )

pub into_value-requires : goal.into_value-requires
into_value-requires g c = let told = c.load.ensures.2 c.args.place refl in
    is_value c.exchange-cell.result told.0 (swapped_out c.load.new.seat.me _ c.args.place (Value told.0) c.exchange-cell.result c.args.seat.now.me.1 c.exchange-cell.ensures.2 told.2)

pub returns-clause-seat : goal.returns-clause-seat
returns-clause-seat g c =
    let place = c.args.place in let v = c.args.seat.now.me.0 in let told = c.load.ensures.2 place refl in
    let me = swapped c.load.new.seat.me c.exchange-cell.new.seat.me (holding v place 3) place (Value told.0) Empty c.args.seat.now.me.1 c.exchange-cell.ensures.3 told.2 in (
      c.load-2.ensures.0 ∙ c.exchange-cell.ensures.0 ∙ c.load.ensures.0,
      c.load-2.ensures.2 place refl ∙ ap (cleared place) me ∙ both _ (moving_out v place) [] refl c.requires.table.1,
    )

pub returns-clause-value : goal.returns-clause-value
returns-clause-value g c =
    let place = c.args.place in let key = c.args.self.now.board.table.shared.key in let told = c.load.ensures.2 place refl in
    let same = sym (swapped_out c.load.new.seat.me _ place (Value told.0) c.exchange-cell.result c.args.seat.now.me.1 c.exchange-cell.ensures.2 told.2) ∙ c.into_value.ensures in
    subst (λ x. Tells g.V.Tenant key c.args.seat.now.me.0 place x) (same_value told.0 c.into_value.result same)
    (subst (λ o. IfSome o (λ k. Tells g.V.Tenant k c.args.seat.now.me.0 place told.0)) c.requires.about told.1)
