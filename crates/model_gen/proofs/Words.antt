-- The words of a seed's generator, one after another.
use Rattle.std.proofs.Common.{◌≡◌, ℕ, zero, suc, ◌+◌, refl, sym, ap, ◌∙◌, add-one}
use Rattle.rand_core.specs.Pcg32Seed.{pcg32_seed}
use Rattle.rand_pcg.specs.Lcg.{Lcg, next, next_state, state_after, advance}
use Rattle.rand_pcg.specs.Pcg.{multiplier_64, pcg32, pcg32_of_seed}
use Rattle.model_gen.specs.Draws.{generator_after, word_at}

last_step : (w m p n s : ℕ) → next_state w m p (state_after w m p n s) ≡ state_after w m p (suc n) s
unfolding state_after
last_step w m p zero s = refl
last_step w m p (suc n) s = last_step w m p n (next_state w m p s)

one_more : (w m n : ℕ) (g : Lcg) → next w m (advance w m n g) ≡ advance w m (n + 1) g
one_more w m n g =
    ap (λ (s : ℕ). let h : Lcg = record { state = s; increment = g.increment } in h)
    (last_step w m g.increment n g.state ∙ ap (λ (k : ℕ). state_after w m g.increment k g.state) (sym (add-one n)))

-- no word is drawn at first
pub none_drawn : (seed : ℕ) → pcg32_of_seed (pcg32_seed 16 seed) ≡ generator_after seed 0
unfolding generator_after state_after
none_drawn seed = refl

pub this_word : (seed n : ℕ) → (pcg32 (generator_after seed n)).0 ≡ word_at seed n
unfolding word_at
this_word seed n = refl

pub next_generator : (seed n : ℕ) → (pcg32 (generator_after seed n)).1 ≡ generator_after seed (n + 1)
unfolding generator_after
next_generator seed n = one_more 64 multiplier_64 n (pcg32_of_seed (pcg32_seed 16 seed))
