use Rattle.std.proofs.Common.{◌≡◌, ℕ, ◌+◌, ◌^◌, ◌<◌, ◌≤◌, List, length, get_or, map, take, slice_index, slice_set, refl, ap, ◌∙◌, arith}
use Rattle.std.proofs.lemmas.List.{map_more, take-map}
use Rattle.ip_blocks.specs.declared.layout.LinkSize.{LinkSize}
use Rattle.ip_blocks.specs.Apart.{no_link}
use Rattle.ip_blocks.specs.Blocks.{Part, exponent_of, sum_in, link_part, size_of}
use Rattle.ip_blocks.specs.Sums.{AreSums, AreTooMany}
use Rattle.ip_blocks.proofs.Adding.{sums_zero, sums_add, sums_turn, sum_with, sum_in_push, sum_in-take-le}
use Rattle.ip_blocks.proofs.Outcomes.{on_err_always}
use Rattle.ip_blocks.proofs.sizes.add_links.Goals as goal

-- one more link
links_more : (links : List LinkSize) (sums : List ℕ) (i e : ℕ) → i < length links → AreSums sums (map link_part (take i links)) → let link : LinkSize = get_or links i no_link in e ≡ exponent_of (link.attachments + 2) → link.net < length sums → slice_index sums link.net + 2 ^ e ≤ 2 ^ 24 → AreSums (slice_set sums link.net (slice_index sums link.net + 2 ^ e)) (map link_part (take (i + 1) links))
links_more links sums i e lt h is there fits =
    let link : LinkSize = get_or links i no_link in
    let so_far : List Part = map link_part (take i links) in
    let room : slice_index sums link.net + size_of (link_part link) ≤ 2 ^ 24 = rw is at fits in
    let added = sums_turn (slice_set sums link.net (slice_index sums link.net + size_of (link_part link))) (link_part link) so_far (sums_add sums (link_part link) so_far link.net h refl there room) in
    rw (map_more link_part links i no_link lt, is) added

-- one link too many
links_too_many : (links : List LinkSize) (sums : List ℕ) (count i e : ℕ) → count ≡ length sums → i < length links → AreSums sums (map link_part (take i links)) → let link : LinkSize = get_or links i no_link in e ≡ exponent_of (link.attachments + 2) → link.net < length sums → 2 ^ 24 < slice_index sums link.net + 2 ^ e → AreTooMany count (map link_part links)
links_too_many links sums count i e long lt h is there over =
    let link : LinkSize = get_or links i no_link in
    let so_far : List Part = map link_part (take i links) in
    let with_it : sum_in link.net (map link_part (take (i + 1) links)) ≡ slice_index sums link.net + size_of (link_part link) =
    ap (sum_in link.net) (map_more link_part links i no_link lt)
    ∙ sum_in_push link.net (link_part link) so_far ∙ sum_with sums (link_part link) so_far link.net h refl there in
    let part_of_all : sum_in link.net (take (i + 1) (map link_part links)) ≤ sum_in link.net (map link_part links) = sum_in-take-le link.net (i + 1) (map link_part links) in
    let moved = rw (take-map link_part (i + 1) links) at part_of_all in
    let size : 2 ^ e ≡ size_of (link_part link) = ap (λ k. 2 ^ k) is in
    (link.net, omega arith, omega arith)

pub loop-link-init : goal.loop-link-init
loop-link-init c = sums_zero c.args.sums.now c.requires.zero

pub returns-in_err-add-clause-no_space : goal.returns-in_err-add-clause-no_space
returns-in_err-add-clause-no_space c =
    let i : ℕ = c.loop-link.link-index in
    let links : List LinkSize = c.args.links.now in
    let there : (get_or links i no_link).net < length c.loop-link.sums = omega (arith, c.requires.nets i no_link (omega arith)) in
    on_err_always c.from_residual.result (links_too_many links c.loop-link.sums (length c.args.sums.now) i c.link_exponent.result (omega arith) (omega arith) c.loop-link.invariant c.link_exponent.ensures there c.in_err-add.ensures.no_space)

pub loop-link-preserved : goal.loop-link-preserved
loop-link-preserved c =
    let i : ℕ = c.loop-link.link-index in
    let links : List LinkSize = c.args.links.now in
    let there : (get_or links i no_link).net < length c.loop-link.sums = omega (arith, c.requires.nets i no_link (omega arith)) in
    rw c.in_ok-add.ensures.ok (links_more links c.loop-link.sums i c.link_exponent.result (omega arith) c.loop-link.invariant c.link_exponent.ensures there c.in_ok-add.ensures.fits)
