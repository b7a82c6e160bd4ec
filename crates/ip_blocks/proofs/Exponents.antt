-- The exponent of a number of addresses is the least that gives room for them.
use Rattle.std.proofs.Common.{◌≡◌, ℕ, zero, suc, ◌+◌, ◌*◌, ◌^◌, ◌<◌, ◌≤◌, leb, inl, inr, arith, add-one}
use Rattle.std.proofs.Math.Nat.{pow-suc, pow-le-pow_right}
use Rattle.std.proofs.lemmas.Nat.{pow_pos}
use Rattle.std.proofs.lemmas.Bool.{leb-true, leb-false, cond_both, cases_lt}
use Rattle.ip_blocks.specs.Blocks.{exponent_of}

pub exponent-room : (n : ℕ) → n ≤ 2 ^ exponent_of n
unfolding exponent_of
exponent-room zero = omega arith
exponent-room (suc n) =
    cond_both (leb (suc n) (2 ^ exponent_of n)) (exponent_of n) (exponent_of n + 1) (λ e. suc n ≤ 2 ^ e)
    (λ fits. leb-true (suc n) (2 ^ exponent_of n) fits)
    (λ _. rw (add-one, pow-suc) (omega (arith, exponent-room n, pow_pos (exponent_of n))))

pub exponent-least : (n f : ℕ) → n ≤ 2 ^ f → exponent_of n ≤ f
unfolding exponent_of
exponent-least zero f h = omega arith
exponent-least (suc n) f h =
    cond_both (leb (suc n) (2 ^ exponent_of n)) (exponent_of n) (exponent_of n + 1) (λ e. e ≤ f)
    (λ _. exponent-least n f (omega arith))
    (λ full. elim (cases_lt (exponent_of n) f) [
      | inl below ↦ omega arith
      | inr above ↦ let same : exponent_of n ≡ f = omega (arith, exponent-least n f (omega arith)) in
          let short = leb-false (suc n) (2 ^ exponent_of n) full in
          absurd (let at_f : 2 ^ f < suc n = rw same at short in omega arith)
    ])

pub exponent_is : (n e : ℕ) → n ≤ 2 ^ e → ((f : ℕ) → f < e → 2 ^ f < n) → exponent_of n ≡ e
exponent_is n e room least =
    let most : exponent_of n ≤ e = exponent-least n e room in
    elim (cases_lt (exponent_of n) e) [
      | inl below ↦ absurd (omega (arith, least (exponent_of n) below, exponent-room n))
      | inr above ↦ omega arith
    ]

-- a lesser exponent gives no more addresses
pub pow_up : (i j : ℕ) → i ≤ j → 2 ^ i ≤ 2 ^ j
pow_up i j h = let two : 0 < 2 = omega arith in pow-le-pow_right two h

-- an exponent above another stands for a greater power
pub pow_back : (i j : ℕ) → 2 ^ i ≤ 2 ^ j → i ≤ j
pow_back i j h =
    elim (cases_lt j i) [
      | inl above ↦ absurd (let more : 2 ^ (j + 1) ≤ 2 ^ i = pow_up (j + 1) i (omega arith) in
          let twice : 2 ^ suc j ≡ 2 ^ j * 2 = pow-suc 2 j in
          let same : 2 ^ suc j ≤ 2 ^ i = rw add-one at more in
          omega (arith, pow_pos j))
      | inr fits ↦ fits
    ]
