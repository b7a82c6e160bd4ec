-- Reading one thing after another: what was read, or the first fault.
use Rattle.std.specs.Prelude.{List, [], ◌∷◌, Option, Some, None, Result, Ok, Err}
use Rattle.net_graph.specs.declared.fault.ShapeFault.{ShapeFault}

abbrev pub Read : Type 0 → Type 0
Read A = Result A ShapeFault

-- one thing is read after another
abbrev pub then_read : {A B : Type 0} → Read A → (A → Read B) → Read B
then_read (Ok x) next = next x
then_read (Err fault) next = Err fault

-- one thing is read of each of these, in their order
abbrev pub read_each : {A B : Type 0} → (A → Read B) → List A → Read (List B)
read_each f [] = Ok []
read_each f (x ∷ xs) = then_read (f x) (λ y. then_read (read_each f xs) (λ ys. Ok (y ∷ ys)))

-- one thing is read of what is there, and without it something else stands
abbrev pub read_or : {A B : Type 0} → Read B → (A → Read B) → Option A → Read B
read_or absent f None = absent
read_or absent f (Some x) = f x

-- what is there, and else a fault
abbrev pub ok_or : {A : Type 0} → ShapeFault → Option A → Read A
ok_or fault None = Err fault
ok_or fault (Some x) = Ok x
