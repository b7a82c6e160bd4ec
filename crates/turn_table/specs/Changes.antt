-- A function from numbers to numbers as the list of its changes, the latest first. It is 0 where nothing was changed.
use Rattle.std.specs.Prelude.{ℕ, zero, suc, ◌==◌, Bool, cond, List, [], ◌∷◌}

abbrev pub at : List (ℕ × ℕ) → ℕ → ℕ
at [] p = 0
at (x ∷ xs) p = cond (p == x.0) x.1 (at xs p)

-- 0 at each number that f names, elsewhere as before
abbrev pub forget : (ℕ → Bool) → List (ℕ × ℕ) → List (ℕ × ℕ)
forget f [] = []
forget f (x ∷ xs) = cond (f x.0) (forget f xs) (x ∷ forget f xs)

-- the function f, but n at p
abbrev pub put : (ℕ → ℕ) → ℕ → ℕ → ℕ → ℕ
put f p n q = cond (q == p) n (f q)

-- each of the first n numbers has one more than its number by f, and the others have what they had
abbrev pub put_first : (ℕ → ℕ) → ℕ → List (ℕ × ℕ) → List (ℕ × ℕ)
put_first f zero l = l
put_first f (suc n) l = (n, suc (f n)) ∷ put_first f n l
