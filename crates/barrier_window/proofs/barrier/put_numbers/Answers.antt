use Rattle.std.proofs.Common.{ℕ, ◌≡◌, ◌+◌, ◌∙◌, List, [], ◌∷◌, ◌++◌, length, set, get_or, take, sym, ap, arith}
use Rattle.std.proofs.lemmas.List.{take_more}
use Rattle.std.proofs.lemmas.Option.{slice_get_within}
use Rattle.barrier_window.specs.Crossings.{latest_of}
use Rattle.barrier_window.proofs.Latest.{put_next, latest_of_none, length-latest_of}
use Rattle.barrier_window.proofs.barrier.put_numbers.Goals as goal

pub loop-pair-init : goal.loop-pair-init
loop-pair-init c = sym (latest_of_none c.args.channels.now c.args.numbers.now c.requires.each)

pub bounds-numbers-place_of : goal.bounds-numbers-place_of
bounds-numbers-place_of c =
    let within = slice_get_within c.args.channels.now c.place_of.result _ c.place_of.ensures in
    let each = length-latest_of (take c.loop-pair.pair-index c.args.pairs.now) c.args.channels.now c.args.numbers.now c.requires.each in
    let same = ap length c.loop-pair.invariant in
    omega arith

pub loop-pair-preserved : goal.loop-pair-preserved
loop-pair-preserved c =
    let ps = c.args.pairs.now in
    let n = c.loop-pair.pair-index in
    let p : ℕ × ℕ = get_or ps n (0, 0) in
    let more : take (n + 1) ps ≡ take n ps ++ p ∷ [] = take_more ps n (0, 0) c.loop-pair-test.true in
    ap (λ (l : List ℕ). set l c.place_of.result p.1) c.loop-pair.invariant
    ∙ put_next (take n ps) p c.args.channels.now c.args.numbers.now c.place_of.result c.requires.rising c.requires.each c.place_of.ensures
    ∙ ap (λ (l : List (ℕ × ℕ)). latest_of l c.args.channels.now c.args.numbers.now) (sym more)
