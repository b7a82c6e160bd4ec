-- What a word is: an option with a value, one without, or a file.
use Rattle.std.proofs.Common.{ℕ, ◌≡◌, ◌∙◌, ◌⊎◌, inl, inr, ap, refl, sym, subst, true, false, not, List, [], ◌∷◌, Bool, ◌&&◌, ◌||◌, nat_eq, true≢false, Option, Some, None, slice_get}
use Rattle.std.specs.Str.{bytes_eq}
use Rattle.std.proofs.lemmas.Slice.Eq.{bytes_eq-Decides}
use Rattle.clap.proofs.WalkLemmas.{both}
use Rattle.command_words.specs.declared.name.CommandName.{CommandName}
use Rattle.command_words.specs.declared.name.CommandName.TheVariants.{Dml, Check, Plan, Seq, Step, Run, Gen}
use Rattle.command_words.specs.Table.{Text, row, options_of, is_one_of, same_text, takes_value, value_options}
use Rattle.command_words.specs.Words.{begins_with_dash, is_plain_word, is_value_of, is_word_of}
use Rattle.command_words.proofs.Steps.{IsFlag, IsValueOption, is_until, is_align, is_threshold, is_budget, is_schedule, is_workers, is_seed, is_size, is_flat, is_report}

-- ---- tests

pub or_else : (a b : Bool) → (a || b) ≡ true → a ≡ false → b ≡ true
or_else false b e f = e
or_else true b e f = absurd (true≢false f)

pub neither : (a b : Bool) → (a || b) ≡ false → (a ≡ false) × (b ≡ false)
neither false b e = (refl, e)
neither true b e = absurd (true≢false e)

pub not_true : (a : Bool) → not a ≡ true → a ≡ false
not_true false e = refl
not_true true e = absurd (true≢false (sym e))

pub and_false : (a : Bool) → (a && false) ≡ false
and_false true = refl
and_false false = refl

pub or_true : (a : Bool) → (a || true) ≡ true
or_true true = refl
or_true false = refl

-- two texts are not the same
pub apart : (a b : Text) → (a ≡ b → ⊥) → bytes_eq a b ≡ false
apart a b differ = go (bytes_eq a b) refl
  where
    go : (t : Bool) → bytes_eq a b ≡ t → t ≡ false
    go true e = absurd (differ ((bytes_eq-Decides a b).0 e))
    go false e = refl

-- ---- one of a list of texts

abbrev pub EachOf : (Text → Type 0) → List Text → Type 0
EachOf P [] = Unit {0}
EachOf P (t ∷ ts) = P t × EachOf P ts

pub one_of : (P : Text → Type 0) (ts : List Text) → EachOf P ts → (w : Text) → is_one_of ts w ≡ true → P w
one_of P [] each w e = absurd (true≢false (sym e))
one_of P (t ∷ ts) each w e = go (same_text w t) refl (λ later. one_of P ts each.1 w later)
  where
    go : (b : Bool) → same_text w t ≡ b → (is_one_of ts w ≡ true → P w) → P w
    go true same others = subst P (sym ((bytes_eq-Decides w t).0 same)) each.0
    go false differ others = others (or_else (same_text w t) (is_one_of ts w) e differ)

pub value_option : (w : Text) → takes_value w ≡ true → IsValueOption w
value_option w e = one_of IsValueOption value_options (is_until, (is_align, (is_threshold, (is_budget, (is_schedule, (is_workers, (is_seed, (is_size, tt)))))))) w e

-- ---- the kinds

abbrev Known : Text → Type 0
Known w = (takes_value w ≡ true) ⊎ IsFlag w

known_of : (name : CommandName) → EachOf Known (options_of (row name))
known_of Dml = (inr is_flat, tt)
known_of Check = tt
known_of Plan = tt
known_of Seq = (inl refl, (inl refl, (inr is_report, tt)))
known_of Step = (inl refl, (inl refl, (inl refl, (inl refl, (inl refl, (inr is_report, tt))))))
known_of Run = (inl refl, (inl refl, (inl refl, (inl refl, (inl refl, (inr is_report, tt))))))
known_of Gen = (inl refl, (inl refl, tt))

-- a plain word begins with another byte than `-`
pub record IsPlain (w : Text) : Type 0 where
  pub first : ℕ
  pub rest : Text
  pub is : w ≡ first ∷ rest
  pub other : nat_eq first 45 ≡ false

pub plain_word : (w : Text) → is_plain_word w ≡ true → IsPlain w
plain_word [] e = absurd (true≢false (sym e))
plain_word (x ∷ xs) e = record { first = x; rest = xs; is = refl; other = not_true (nat_eq x 45) (both _ _ e).1 }

pub plain_dashless : (w : Text) → IsPlain w → begins_with_dash w ≡ false
plain_dashless w p = ap begins_with_dash p.is ∙ p.other

-- a plain word is no text that begins with `-`
pub plain_apart : (w : Text) → IsPlain w → (n : Text) → begins_with_dash n ≡ true → same_text w n ≡ false
plain_apart w p n dashed = apart w n (λ same. true≢false (sym dashed ∙ (ap begins_with_dash (sym same) ∙ plain_dashless w p)))

plain_valueless : (w : Text) → IsPlain w → takes_value w ≡ false
plain_valueless w p = go (takes_value w) refl
  where
    go : (t : Bool) → takes_value w ≡ t → t ≡ false
    go true e = absurd (true≢false (sym ((value_option w e).dashed) ∙ plain_dashless w p))
    go false e = refl

pub data Kind (w : Text) : Type 0 where
  valued : takes_value w ≡ true → IsValueOption w → Kind w
  flagged : IsFlag w → Kind w
  plain : takes_value w ≡ false → begins_with_dash w ≡ false → IsPlain w → Kind w

pub kind_of : (name : CommandName) (w : Text) → is_word_of (row name) w ≡ true → Kind w
kind_of name w e = by_plain (is_plain_word w) refl
  where
    by_known : Known w → Kind w
    by_known (inl takes) = valued takes (value_option w takes)
    by_known (inr is) = flagged is

    by_plain : (b : Bool) → is_plain_word w ≡ b → Kind w
    by_plain true p = let is = plain_word w p in plain (plain_valueless w is) (plain_dashless w is) is
    by_plain false p = by_known (one_of Known (options_of (row name)) (known_of name) w (or_else (is_plain_word w) (is_one_of (options_of (row name)) w) e p))

-- ---- options that wait for their value

-- the option before these words, if one waits for its value, finds it
abbrev pub Pends : Option Text → List Text → Type 0
Pends None words = Unit {0}
Pends (Some n) words = IsValueOption n × (is_value_of n (slice_get words 0) ≡ true)

-- the value that an option finds is plain
pub value_plain : (n v : Text) → is_value_of n (Some v) ≡ true → IsPlain v
value_plain n v e = plain_word v (both _ _ e).0
