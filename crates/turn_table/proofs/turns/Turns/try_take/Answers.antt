use Rattle.std.proofs.Common.{◌≡◌, ℕ, ◌+◌, ◌==◌, [], refl, ap, ◌∙◌}
use mathlib.Core.Option.{none}
use prog.Atomic.{either}
use Rattle.atomic_table.specs.Table.{step, Me}
use Rattle.turn_table.specs.declared.view.View.{View}
use Rattle.turn_table.specs.Rule.{Kept}
use Rattle.turn_table.specs.Views.{taking, losing}
use Rattle.turn_table.specs.Passes.{view_of}
use Rattle.turn_table.specs.Steps.{tried}
use Rattle.turn_table.proofs.Hands.{from, turn_within}
use Rattle.turn_table.proofs.Moves.{tries}
use Rattle.turn_table.proofs.Reseating.{reseated_by, after_try}
use Rattle.turn_table.proofs.turns.Turns.try_take.Goals as goal

abbrev after_taking : {S : Type 0} → ℕ → Me S View → Me S View
after_taking p m = (taking m.0 p, m.1)

abbrev after_losing : {S : Type 0} → ℕ → Me S View → Me S View
after_losing p m = (losing m.0 p, m.1)

pub compare_exchange-found-requires : goal.compare_exchange-found-requires
compare_exchange-found-requires g c =
    let own = c.requires.pass in
    let z = c.args.self.now.board.table.shared.table_id in
    let key = c.args.self.now.board.table.shared.key in
    let place = c.args.place in let v = view_of c.args.pass.now in
    let shape = g.V.Tenant.shape key in (
      c.sit-seat.ensures.table ∙ own.table,
      turn_within z shape c.args.pass.now place own c.requires.place,
      from (Kept g.V.Tenant key) z.slots c.sit-seat.result.id (place + 1) (λ n. either (n == 0) c.args.pass.now.number n) (λ me. tried (step z.slots (place + 1) 0 c.args.pass.now.number none) me)
          c.sit-seat.result.me (v, []) c.sit-seat.ensures.me
          (tries g.V.Tenant key z.slots c.sit-seat.result.id v [] place c.requires.place own.shaped
          c.args.pass.now.number own.lives own.number c.requires.free),
    )

pub rest-requires : goal.rest-requires
rest-requires g c = let told = c.compare_exchange-found.ensures.2 c.args.place refl in
    after_try (λ me. me.1 ≡ []) c.compare_exchange-found.result c.compare_exchange-found.new.seat.me _ _ told (ap (λ (m : Me _ _). m.1) c.sit-seat.ensures.me) (ap (λ (m : Me _ _). m.1) c.sit-seat.ensures.me)

pub returns-then-found-eq0-clause-pass : goal.returns-then-found-eq0-clause-pass
returns-then-found-eq0-clause-pass g c = let told = c.compare_exchange-found.ensures.2 c.args.place refl in
    reseated_by _ _ c.args.pass.now c.rest.new.self c.compare_exchange-found.new.seat.me (taking (view_of c.args.pass.now) c.args.place) [] c.requires.pass
    (c.rest.ensures.table ∙ c.compare_exchange-found.ensures.0 ∙ c.sit-seat.ensures.table ∙ c.requires.pass.table) c.rest.ensures.views (c.rest.ensures.number ∙ c.sit-seat.ensures.number)
    (told.0 c.if-found-eq0.true ∙ ap (after_taking c.args.place) c.sit-seat.ensures.me) refl refl

pub returns-else-found-eq0-clause-pass : goal.returns-else-found-eq0-clause-pass
returns-else-found-eq0-clause-pass g c = let told = c.compare_exchange-found.ensures.2 c.args.place refl in
    reseated_by _ _ c.args.pass.now c.rest.new.self c.compare_exchange-found.new.seat.me (losing (view_of c.args.pass.now) c.args.place) [] c.requires.pass
    (c.rest.ensures.table ∙ c.compare_exchange-found.ensures.0 ∙ c.sit-seat.ensures.table ∙ c.requires.pass.table) c.rest.ensures.views (c.rest.ensures.number ∙ c.sit-seat.ensures.number)
    (told.1 c.if-found-eq0.false ∙ ap (after_losing c.args.place) c.sit-seat.ensures.me) refl refl
