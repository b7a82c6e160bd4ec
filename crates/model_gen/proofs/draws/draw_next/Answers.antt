use Rattle.std.proofs.Common.{◌≡◌, ℕ, ◌+◌, ◌*◌, ◌%◌, ap, ◌∙◌, arith}
use Rattle.model_gen.specs.Draws.{generator_after}
use Rattle.model_gen.proofs.draws.draw_next.Goals as goal

pub returns-clause-delay : goal.returns-clause-delay
returns-clause-delay c = λ seed i at. ap (λ (w : ℕ). 100 + w % 900) (c.next_word-u.ensures.word seed (2 * i) at)

pub returns-clause-server_net : goal.returns-clause-server_net
returns-clause-server_net c = λ seed i at.
    ap (λ (w : ℕ). w % c.args.size) (c.next_word-v.ensures.word seed (2 * i + 1) (c.next_word-u.ensures.generator seed (2 * i) at))

pub returns-clause-generator : goal.returns-clause-generator
returns-clause-generator c = λ seed i at.
    let two : 2 * i + 1 + 1 ≡ 2 * (i + 1) = omega arith in
    c.next_word-v.ensures.generator seed (2 * i + 1) (c.next_word-u.ensures.generator seed (2 * i) at) ∙ ap (generator_after seed) two
