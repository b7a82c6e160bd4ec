-- The ranges of what is drawn, and of the nets that links name.
use Rattle.std.proofs.Common.{◌≡◌, ℕ, ◌+◌, ◌*◌, ◌/◌, ◌%◌, ◌<◌, ◌≤◌, ◌≢◌, [], ◌∷◌, ◌++◌, length, length-append, ap, ◌∙◌, arith, inl, inr}
use Rattle.std.specs.Prelude.{decimal}
use Rattle.std.proofs.Math.Nat.{mod-lt, mod-eq_of_lt, mod_self}
use Rattle.std.proofs.lemmas.Bool.{cases_lt}
use Rattle.std.proofs.lemmas.Fmt.{decimal_digit, decimal_step}
use Rattle.model_gen.specs.Draws.{word_at, delay, server_net}
use Rattle.model_gen.specs.Campus.{delay_text, next_net}

pub delay_from : (seed i : ℕ) → (100 ≤ delay seed i) × (delay seed i ≤ 999)
delay_from seed i = let w = word_at seed (2 * i) in let small : w % 900 < 900 = omega arith in (omega arith, omega arith)

one_digit_more : (n k : ℕ) → 10 ≤ n → n < 1000 → length (decimal (n / 10)) ≡ k → length (decimal n) ≡ k + 1
one_digit_more n k least most e =
    let split : length (decimal n) ≡ length (decimal (n / 10) ++ ((48 + n % 10) ∷ [])) = ap length (decimal_step n least (omega arith)) in
    let joined = length-append (decimal (n / 10)) ((48 + n % 10) ∷ []) in
    omega arith

three_digits : (n : ℕ) → 100 ≤ n → n < 1000 → length (decimal n) ≡ 3
three_digits n least most =
    let first : length (decimal (n / 10 / 10)) ≡ 1 = ap length (decimal_digit (n / 10 / 10) (omega arith)) in
    one_digit_more n 2 (omega arith) most (one_digit_more (n / 10) 1 (omega arith) (omega arith) first)

pub delay_digits : (seed i : ℕ) → length (delay_text (delay seed i)) ≡ 8
delay_digits seed i =
    let range = delay_from seed i in
    let three : length (decimal (delay seed i)) ≡ 3 = three_digits (delay seed i) range.0 (let most = range.1 in omega arith) in
    omega arith

pub server_within : (seed size i : ℕ) → 1 ≤ size → server_net seed size i < size
server_within seed size i some = let positive : 0 < size = omega arith in mod-lt (word_at seed (2 * i + 1)) positive

pub next_within : (size i : ℕ) → 1 ≤ size → next_net size i < size
next_within size i some = let positive : 0 < size = omega arith in mod-lt (i + 1) positive

pub next_differs : (size i : ℕ) → 2 ≤ size → i < size → next_net size i ≢ i
next_differs size i two within same =
    elim (cases_lt (i + 1) size) [
      | inl less ↦ let next : (i + 1) % size ≡ i + 1 = mod-eq_of_lt less in omega arith
      | inr most ↦
          let last : i + 1 ≡ size = omega arith in
          let first : (i + 1) % size ≡ 0 = ap (λ (n : ℕ). n % size) last ∙ mod_self size in
          omega arith
    ]
