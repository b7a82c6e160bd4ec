-- A plan that opens in the middle of a worked run: it has what the run makes of its own plan by three events, and it
-- fits.
use Rattle.std.proofs.Common.{◌≡◌, ℕ, zero, suc, [], ◌∷◌, refl, sym, subst, inl, inr, arith, Some, slice_get}
use Rattle.event_order.specs.Order.{comes_before, IsBefore}
use Rattle.event_order.specs.Pending.{Among}
use Rattle.event_order.specs.Machine.{all_kept}
use Rattle.ssf_model.specs.declared.wait.Wait.TheVariants.{OnFor, Forever}
use Rattle.ssf_model.specs.declared.wait.Kind.TheVariants.{Timer}
use Rattle.ssf_model.specs.declared.entity.Entity.{Entity}
use Rattle.ssf_model.specs.declared.event.Event.{Event}
use Rattle.ssf_model.specs.declared.plan.Plan.{Plan}
use Rattle.ssf_model.specs.Drafts.{planned}
use Rattle.ssf_model.specs.Run.{Fits, machine_of, world_after}
use Rattle.ssf_model.specs.Openings.{reopened, opening_after}
use Rattle.ssf_model.proofs.Worked.{key, listens, listening}

listener : Entity (Unit {0}) (Unit {0}) (Unit {0})
listener = record {
  state = tt;
  processes = record { wait = OnFor (0 ∷ []) 4; ticket = 2; timer = Some 1 } ∷ record { wait = Forever; ticket = 2; timer = Some 2 } ∷ [];
  in_channels = 0 ∷ [];
  out_channels = 0 ∷ [];
}

half : Plan (Unit {0}) (Unit {0}) (Unit {0})
half = record {
  behaviour = tt;
  entities = listener ∷ [];
  events = record { key = key 4 0 1 0; entity = 0; kind = Timer 0 1 } ∷ record { key = key 6 0 1 1; entity = 0; kind = Timer 0 2 } ∷ [];
  mappings = record { channel = 3; out_channel = 0; in_channel = 0; from = 0; to = 0; delay = 0; priority = 0 } ∷ [];
  counts = 1 ∷ 2 ∷ 1 ∷ 1 ∷ [];
  before = 3;
}

its_entities_are_the_runs : (world_after listens listening 11 all_kept 3).state.entities ≡ half.entities
unfolding machine_of comes_before planned listens listening key half listener
its_entities_are_the_runs = refl

its_events_are_the_runs : (world_after listens listening 11 all_kept 3).pending ≡ half.events
unfolding machine_of comes_before planned listens listening key half listener
its_events_are_the_runs = refl

it_opens_where_its_run_stands : reopened listening (opening_after listens listening 11 all_kept 3) ≡ half
unfolding machine_of comes_before planned listens listening key half listener
it_opens_where_its_run_stands = refl

only_first : (i : ℕ) (e : Entity (Unit {0}) (Unit {0}) (Unit {0})) → slice_get (listener ∷ []) i ≡ Some e → i ≡ 0
only_first zero e h = refl
only_first (suc i) e h = absurd (cc)

first_end : Event (Unit {0})
first_end = record { key = key 4 0 1 0; entity = 0; kind = Timer 0 1 }

second_end : Event (Unit {0})
second_end = record { key = key 6 0 1 1; entity = 0; kind = Timer 0 2 }

in_order : IsBefore (key 4 0 1 0) (key 6 0 1 1)
unfolding comes_before key
in_order = refl

before_second : (y : Event (Unit {0})) → Among y (second_end ∷ []) → IsBefore (key 4 0 1 0) y.key
unfolding second_end
before_second y (inl e) = subst (λ (d : Event (Unit {0})). IsBefore (key 4 0 1 0) d.key) (sym e) in_order
before_second y (inr a) = absurd a

it_fits : Fits (λ s ins outs timed waits. Unit {0}) (λ p. Unit {0}) half
unfolding half listener key second_end
it_fits = record {
  wired = record {
    ins = λ i j c x y at there a b. let p = only_first i x at in let q = only_first j y there in omega arith;
    outs = λ i j c x y at there a b. let p = only_first i x at in let q = only_first j y there in omega arith;
    in_ends = (record { rising = λ k h. absurd (omega arith); below = (omega arith, tt) }, tt);
    out_ends = (record { rising = λ k h. absurd (omega arith); below = (omega arith, tt) }, tt);
    timers = refl;
    channels = refl;
    mappings = (record { from = (listener, refl, inl refl); to = (listener, refl, inl refl); delay = omega arith; priority = omega arith }, tt);
    most = omega arith;
  };
  opened = record {
    entities = (record { state = tt; few = omega arith }, tt);
    processes = ((record { waits = (inl refl, tt); untimed = λ e h. cc; ticket = omega arith }, (record { waits = tt; untimed = λ e h. cc; ticket = omega arith }, tt)), tt);
    size = refl;
    counts = (omega arith, (omega arith, (omega arith, (omega arith, tt))));
    before = omega arith;
    rising = (before_second, ((λ y a. absurd a), tt));
    pending = (
      record { entity = omega arith; on_channel = ((listener, refl, (_, refl, record { on = refl; given = omega arith; ends = λ h. absurd (omega arith) })), refl); round = refl; number = omega arith; time = omega arith },
      (
        record { entity = omega arith; on_channel = ((listener, refl, (_, refl, record { on = refl; given = omega arith; ends = λ h. refl })), refl); round = refl; number = omega arith; time = omega arith },
        tt,
      ),
    );
  };
}
