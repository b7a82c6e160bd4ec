use Rattle.std.proofs.Common.{ℕ, ◌∙◌, ap, codes, refl, sym, List, Option, Bor, option_map}
use Rattle.command_words.proofs.options.align_in.Goals as goal

pub align_of-requires : goal.align_of-requires
align_of-requires c =
    c.requires (codes "--align") refl c.in-Some.word.now (sym c.get_str.ensures ∙ ap (λ (o : Option (Bor (List ℕ))). option_map (λ (s : Bor (List ℕ)). s.now) o) c.in-Some.is)
