-- How pending events are kept: under their keys.
use Rattle.std.specs.Prelude.{◌≡◌, List, [], ◌∷◌}
use Rattle.event_order.specs.declared.key.Key.{Key}
use Rattle.ssf_model.specs.declared.event.Event.{Event}

-- the key of an event
abbrev pub key_of : {P : Type 0} → Event P → Key
key_of e = e.key

-- each event stands under its own key
abbrev pub IsKeyed : {P : Type 0} → List (Key × Event P) → Type 0
IsKeyed [] = Unit {0}
IsKeyed (e ∷ es) = (e.0 ≡ key_of e.1) × IsKeyed es
