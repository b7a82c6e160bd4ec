-- Pieces appended one after another.
use Rattle.std.proofs.Common.{ℕ, ◌≡◌, ◌≤◌, ◌+◌, List, [], ◌++◌, length, take, drop, Option, Some, None, append_assoc, append-nil, arith, sym, ap, ◌∙◌, ◌-◌, take-add, take_all, length-drop}
use Rattle.sim_base.specs.Outside.{Appends, AppendsPrefix}

-- two pieces appended one after the other
pub appends_more : (a b : List ℕ) (o n m : Option (List ℕ)) → Appends a o n → Appends b n m → Appends (a ++ b) o m
appends_more a b None n m first second = tt
appends_more a b (Some h) n m first second =
    let there : m ≡ Some ((h ++ a) ++ b) = rw first at second in
    there ∙ ap (λ (bytes : List ℕ). Some bytes) (append_assoc h a b)

-- what is told stays told when nothing is appended
pub appends_none : (o : Option (List ℕ)) → Appends [] o o
appends_none None = tt
appends_none (Some h) = ap (λ (bytes : List ℕ). Some bytes) (sym (append-nil h))

-- a piece appended is a part of any text that begins with it
pub appends_part : (n : ℕ) (text : List ℕ) (o m : Option (List ℕ)) → n ≤ length text → Appends (take n text) o m → AppendsPrefix text o m
appends_part n text None m within appended = tt
appends_part n text (Some h) m within appended = (n, within, appended)

-- after `written` bytes of a text, some more of what is left
pub appends_next : (written n : ℕ) (text piece : List ℕ) (o m k : Option (List ℕ)) → piece ≡ drop written text → Appends (take written text) o m
    → Appends (take n piece) m k → Appends (take (written + n) text) o k
appends_next written n text piece o m k is before now =
    let there : Appends (take n (drop written text)) m k = rw is at now in
    rw take-add (appends_more (take written text) (take n (drop written text)) o m k before there)

-- the rest of a text, as a range from a place to the end
pub rest_of : (written : ℕ) (text : List ℕ) → take (length text - written) (drop written text) ≡ drop written text
rest_of written text =
    let long : length (drop written text) ≤ length text - written = omega (arith, length-drop written text) in
    take_all (length text - written) (drop written text) long
