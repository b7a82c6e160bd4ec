-- What is drawn for the nets of a campus: words of the generator PCG-XSH-RR, which has 64 bits of state and gives
-- words of 32 bits (O'Neill, "PCG: a family of simple fast space-efficient statistically good algorithms for random
-- number generation").
use Rattle.std.specs.Prelude.{ℕ, ◌+◌, ◌*◌, ◌%◌}
use Rattle.rand_core.specs.Pcg32Seed.{pcg32_seed}
use Rattle.rand_pcg.specs.Lcg.{Lcg, advance}
use Rattle.rand_pcg.specs.Pcg.{multiplier_64, pcg32, pcg32_of_seed}

-- the generator of a seed after so many words
unfoldable pub generator_after : ℕ → ℕ → Lcg
generator_after seed n = advance 64 multiplier_64 n (pcg32_of_seed (pcg32_seed 16 seed))

-- its words, numbered from 0
unfoldable pub word_at : ℕ → ℕ → ℕ
word_at seed n = (pcg32 (generator_after seed n)).0

-- for each net two words are drawn, first u and then v
abbrev pub u : ℕ → ℕ → ℕ
u seed i = word_at seed (2 * i)

abbrev pub v : ℕ → ℕ → ℕ
v seed i = word_at seed (2 * i + 1)

-- the delay of the link from a net to the next one, in millionths of a second
abbrev pub delay : ℕ → ℕ → ℕ
delay seed i = 100 + u seed i % 900

-- the net in which the server of a net's client is
abbrev pub server_net : ℕ → ℕ → ℕ → ℕ
server_net seed size i = v seed i % size
