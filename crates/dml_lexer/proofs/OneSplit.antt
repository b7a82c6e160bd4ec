-- A text is split into fronts in one way. What its first byte is tells which front it begins, and how long that is.
use Rattle.std.proofs.Common.{◌≡◌, ℕ, suc, ◌+◌, ◌<◌, ◌==◌, Bool, true, false, not, ◌&&◌, ◌||◌, cond, ltb, nat_lt, List, [], ◌∷◌, ◌++◌, length, take, drop, refl, ap, sym, ◌∙◌, subst, append_assoc, append-nil, length-append, inl, inr, arith, lt-ltb, le-ltb}
use Rattle.std.specs.Prelude.{Option, Some, None}
use Rattle.std.proofs.Math.Numerals.{one-add}
use Rattle.std.proofs.Math.Seq.{take-append_seam, drop-append_seam}
use Rattle.std.specs.List.{prefix_len, AllByRecursion}
use Rattle.std.proofs.lemmas.Bool.Decides.{nat_tests}
use Rattle.dml_lexer.specs.declared.lexer.TokenKind.{TokenKind}
use Rattle.dml_lexer.specs.declared.lexer.TokenKind.TheVariants as kind
use Rattle.dml_lexer.specs.declared.lexer.Token.{Token}
use Rattle.dml_lexer.specs.Tokens.{is_blank, is_mark, is_word_byte, Ends, IsRun, IsFront, Front, text_of, AreFronts, tokens_from, Spelt, BeginsBad, BeginsOpen, Reaches}

data Lead : Type 0 where
  found : Option TokenKind → ℕ → Lead
  bad : Lead
  unclosed : Lead

abbrev kept : ℕ → ℕ → Bool
kept end byte = not (byte == end)

-- what a byte begins before others
abbrev lead : ℕ → List ℕ → Lead
lead b more =
    cond (is_blank b) (found None 1)
    (cond (b == 35) (found None (1 + prefix_len (kept 10) more))
    (cond (b == 91) (found (Some kind.LeftBracket) 1)
    (cond (b == 93) (found (Some kind.RightBracket) 1)
    (cond (b == 34) (cond (ltb (prefix_len (kept 34) more) (length more)) (found (Some kind.Quoted) (2 + prefix_len (kept 34) more)) unclosed)
    (cond (is_word_byte b) (found (Some kind.Word) (1 + prefix_len is_word_byte more)) bad)))))

-- a run of bytes that pass is as long as it is
run_length : (p : ℕ → Bool) (run rest : List ℕ) → AllByRecursion (λ b. p b ≡ true) run → Ends p rest → prefix_len p (run ++ rest) ≡ length run
run_length p [] [] a e = refl
run_length p [] (b ∷ rest) a e = ap (λ t. cond t (1 + prefix_len p rest) 0) e
run_length p (x ∷ run) rest a e = ap (λ t. cond t (1 + prefix_len p (run ++ rest)) 0) a.0 ∙ ap (λ n. 1 + n) (run_length p run rest a.1 e) ∙ one-add (length run)

split_and : (a b : Bool) → (a && b) ≡ true → (a ≡ true) × (b ≡ true)
split_and true true e = (refl, refl)
split_and true false e = (refl, e)
split_and false true e = (e, refl)
split_and false false e = (e, e)

split_or : (a b : Bool) → (a || b) ≡ false → (a ≡ false) × (b ≡ false)
split_or true b e = (e, absurd (let f : true ≡ false = e in cc))
split_or false b e = (refl, e)

not_true : (b : Bool) → not b ≡ true → b ≡ false
not_true true e = sym e
not_true false e = refl

blank_is_no_word : (b : ℕ) → (nat_lt 32 b && nat_lt b 127 || nat_lt 127 b) ≡ true → is_blank b ≡ false
blank_is_no_word b e = grind (arith, nat_tests)

record NoOther (b : ℕ) : Type 0 where
  blank : is_blank b ≡ false
  hash : (b == 35) ≡ false
  left : (b == 91) ≡ false
  right : (b == 93) ≡ false
  quote : (b == 34) ≡ false

word_is_no_other : (b : ℕ) → is_word_byte b ≡ true → NoOther b
word_is_no_other b e =
    let parts = split_and (nat_lt 32 b && nat_lt b 127 || nat_lt 127 b) (not (is_mark b)) e in
    let m : is_mark b ≡ false = not_true (is_mark b) parts.1 in
    let m3 = split_or (b == 35 || b == 91 || b == 93) (b == 34) m in
    let m2 = split_or (b == 35 || b == 91) (b == 93) m3.0 in
    let m1 = split_or (b == 35) (b == 91) m2.0 in
    record { blank = blank_is_no_word b parts.0; hash = m1.0; left = m1.1; right = m2.1; quote = m3.1 }

-- the tests of a byte lead to a word
word_lead : (b : ℕ) (more : List ℕ) → is_word_byte b ≡ true → lead b more ≡ found (Some kind.Word) (1 + prefix_len is_word_byte more)
word_lead b more w =
    let o = word_is_no_other b w in
    let l : Lead = found (Some kind.Word) (1 + prefix_len is_word_byte more) in
    let quotes : Lead = cond (ltb (prefix_len (kept 34) more) (length more)) (found (Some kind.Quoted) (2 + prefix_len (kept 34) more)) unclosed in
    ap (λ t. cond t (found None 1) (cond (b == 35) (found None (1 + prefix_len (kept 10) more)) (cond (b == 91) (found (Some kind.LeftBracket) 1) (cond (b == 93) (found (Some kind.RightBracket) 1) (cond (b == 34) quotes (cond (is_word_byte b) l bad)))))) o.blank
    ∙ ap (λ t. cond t (found None (1 + prefix_len (kept 10) more)) (cond (b == 91) (found (Some kind.LeftBracket) 1) (cond (b == 93) (found (Some kind.RightBracket) 1) (cond (b == 34) quotes (cond (is_word_byte b) l bad))))) o.hash
    ∙ ap (λ t. cond t (found (Some kind.LeftBracket) 1) (cond (b == 93) (found (Some kind.RightBracket) 1) (cond (b == 34) quotes (cond (is_word_byte b) l bad)))) o.left
    ∙ ap (λ t. cond t (found (Some kind.RightBracket) 1) (cond (b == 34) quotes (cond (is_word_byte b) l bad))) o.right
    ∙ ap (λ t. cond t quotes (cond (is_word_byte b) l bad)) o.quote
    ∙ ap (λ t. cond t l bad) w

bad_lead : (b : ℕ) (more : List ℕ) → is_blank b || is_mark b || is_word_byte b ≡ false → lead b more ≡ bad
bad_lead b more e =
    let both = split_or (is_blank b || is_mark b) (is_word_byte b) e in
    let two = split_or (is_blank b) (is_mark b) both.0 in
    let m3 = split_or (b == 35 || b == 91 || b == 93) (b == 34) two.1 in
    let m2 = split_or (b == 35 || b == 91) (b == 93) m3.0 in
    let m1 = split_or (b == 35) (b == 91) m2.0 in
    let l : Lead = found (Some kind.Word) (1 + prefix_len is_word_byte more) in
    let quotes : Lead = cond (ltb (prefix_len (kept 34) more) (length more)) (found (Some kind.Quoted) (2 + prefix_len (kept 34) more)) unclosed in
    ap (λ t. cond t (found None 1) (cond (b == 35) (found None (1 + prefix_len (kept 10) more)) (cond (b == 91) (found (Some kind.LeftBracket) 1) (cond (b == 93) (found (Some kind.RightBracket) 1) (cond (b == 34) quotes (cond (is_word_byte b) l bad)))))) two.0
    ∙ ap (λ t. cond t (found None (1 + prefix_len (kept 10) more)) (cond (b == 91) (found (Some kind.LeftBracket) 1) (cond (b == 93) (found (Some kind.RightBracket) 1) (cond (b == 34) quotes (cond (is_word_byte b) l bad))))) m1.0
    ∙ ap (λ t. cond t (found (Some kind.LeftBracket) 1) (cond (b == 93) (found (Some kind.RightBracket) 1) (cond (b == 34) quotes (cond (is_word_byte b) l bad)))) m1.1
    ∙ ap (λ t. cond t (found (Some kind.RightBracket) 1) (cond (b == 34) quotes (cond (is_word_byte b) l bad))) m2.1
    ∙ ap (λ t. cond t quotes (cond (is_word_byte b) l bad)) m3.1
    ∙ ap (λ t. cond t l bad) both.1

-- what a text that is not empty begins with
abbrev lead_of : List ℕ → Lead
lead_of [] = bad
lead_of (b ∷ more) = lead b more

open_lead : (more : List ℕ) → AllByRecursion (λ b. kept 34 b ≡ true) more → lead 34 more ≡ unclosed
open_lead more a =
    let n : prefix_len (kept 34) more ≡ length more = ap (prefix_len (kept 34)) (sym (append-nil more)) ∙ run_length (kept 34) more [] a tt in
    ap (λ t. cond t (found (Some kind.Quoted) (2 + prefix_len (kept 34) more)) unclosed) (le-ltb (prefix_len (kept 34) more) (length more) (omega arith))

quoted_lead : (text rest : List ℕ) → AllByRecursion (λ b. kept 34 b ≡ true) text → lead_of ((34 ∷ (text ++ 34 ∷ [])) ++ rest) ≡ found (Some kind.Quoted) (length (34 ∷ (text ++ 34 ∷ [])))
quoted_lead text rest a =
    let more : List ℕ = (text ++ 34 ∷ []) ++ rest in
    let n : prefix_len (kept 34) more ≡ length text = ap (prefix_len (kept 34)) (append_assoc text (34 ∷ []) rest) ∙ run_length (kept 34) text (34 ∷ rest) a refl in
    let size : length (text ++ 34 ∷ []) ≡ length text + 1 = length-append text (34 ∷ []) in
    let all : length more ≡ length text + 1 + length rest = length-append (text ++ 34 ∷ []) rest ∙ ap (λ k. k + length rest) size in
    let lt : prefix_len (kept 34) more < length more = omega arith in
    ap (λ t. cond t (found (Some kind.Quoted) (2 + prefix_len (kept 34) more)) unclosed) (lt-ltb (prefix_len (kept 34) more) (length more) lt)
    ∙ ap (found (Some kind.Quoted)) (let e : 2 + prefix_len (kept 34) more ≡ suc (length (text ++ 34 ∷ [])) = omega arith in e)

run_lead : (p : ℕ → Bool) (k : Option TokenKind) (run rest : List ℕ) → IsRun p run rest → found k (1 + prefix_len p (run ++ rest)) ≡ found k (suc (length run))
run_lead p k run rest h = ap (λ n. found k (1 + n)) (run_length p run rest h.all h.longest) ∙ ap (found k) (one-add (length run))

word_front : (front rest : List ℕ) → 0 < length front → IsRun is_word_byte front rest → lead_of (front ++ rest) ≡ found (Some kind.Word) (length front)
word_front [] rest some h = absurd (omega arith)
word_front (b ∷ front) rest some h =
    word_lead b (front ++ rest) h.all.0 ∙ run_lead is_word_byte (Some kind.Word) front rest (record { all = h.all.1; longest = h.longest })

-- a front is what the text that it begins leads to
lead_front : (k : Option TokenKind) (front rest : List ℕ) → IsFront k front rest → lead_of (front ++ rest) ≡ found k (length front)
lead_front None front rest (inl (b, blank, e)) =
    ap (λ f. lead_of (f ++ rest)) e
    ∙ ap (λ t. cond t (found None 1) (cond (b == 35) (found None (1 + prefix_len (kept 10) rest)) (cond (b == 91) (found (Some kind.LeftBracket) 1) (cond (b == 93) (found (Some kind.RightBracket) 1) (cond (b == 34) (cond (ltb (prefix_len (kept 34) rest) (length rest)) (found (Some kind.Quoted) (2 + prefix_len (kept 34) rest)) unclosed) (cond (is_word_byte b) (found (Some kind.Word) (1 + prefix_len is_word_byte rest)) bad)))))) blank
    ∙ ap (λ f. found None (length f)) (sym e)
lead_front None front rest (inr (text, e, h)) =
    ap (λ f. lead_of (f ++ rest)) e ∙ run_lead (kept 10) None text rest h ∙ ap (λ f. found None (length f)) (sym e)
lead_front (Some kind.Word) front rest h = word_front front rest h.0 h.1
lead_front (Some kind.Quoted) front rest (text, e, a) =
    ap (λ f. lead_of (f ++ rest)) e ∙ quoted_lead text rest a ∙ ap (λ f. found (Some kind.Quoted) (length f)) (sym e)
lead_front (Some kind.LeftBracket) front rest e = ap (λ f. lead_of (f ++ rest)) e ∙ ap (λ f. found (Some kind.LeftBracket) (length f)) (sym e)
lead_front (Some kind.RightBracket) front rest e = ap (λ f. lead_of (f ++ rest)) e ∙ ap (λ f. found (Some kind.RightBracket) (length f)) (sym e)

found_kind : (k j : Option TokenKind) (m n : ℕ) → found k m ≡ found j n → k ≡ j
found_kind k j m n e = cc

found_length : (k j : Option TokenKind) (m n : ℕ) → found k m ≡ found j n → m ≡ n
found_length k j m n e = cc

-- one text begins with one front
record SameFront (k j : Option TokenKind) (f g r s : List ℕ) : Type 0 where
  kinds : k ≡ j
  fronts : f ≡ g
  rests : r ≡ s

same_front : (k j : Option TokenKind) (f g r s : List ℕ) → IsFront k f r → IsFront j g s → f ++ r ≡ g ++ s → SameFront k j f g r s
same_front k j f g r s h i e =
    let both : found k (length f) ≡ found j (length g) = sym (lead_front k f r h) ∙ ap lead_of e ∙ lead_front j g s i in
    let n : length f ≡ length g = found_length k j (length f) (length g) both in
    record {
      kinds = found_kind k j (length f) (length g) both;
      fronts = sym (take-append_seam f r) ∙ ap (λ m. take m (f ++ r)) n ∙ ap (take (length g)) e ∙ take-append_seam g s;
      rests = sym (drop-append_seam f r) ∙ ap (λ m. drop m (f ++ r)) n ∙ ap (drop (length g)) e ∙ drop-append_seam g s;
    }

-- no front begins here
Stuck : List ℕ → Type 0
Stuck r = (k : Option TokenKind) (n : ℕ) → lead_of r ≡ found k n → ⊥

not_stuck : (k : Option TokenKind) (f r rest : List ℕ) → IsFront k f r → rest ≡ f ++ r → Stuck rest → ⊥
unfolding Stuck
not_stuck k f r rest h e stuck = stuck k (length f) (ap lead_of e ∙ lead_front k f r h)

stuck_end : Stuck []
unfolding Stuck
stuck_end k n e = cc

stuck_bad : (rest : List ℕ) → BeginsBad rest → Stuck rest
unfolding Stuck
stuck_bad [] b k n e = absurd b
stuck_bad (x ∷ more) b k n e = let f : bad ≡ found k n = sym (bad_lead x more b) ∙ e in cc

stuck_open : (rest : List ℕ) → BeginsOpen rest → Stuck rest
unfolding Stuck
stuck_open [] b k n e = absurd b
stuck_open (x ∷ more) b k n e = let f : unclosed ≡ found k n = sym (open_lead more b.1) ∙ ap (λ y. lead y more) (sym b.0) ∙ e in cc

-- fronts up to where none begins are the same fronts
record SameSplit (fs gs : List Front) (r s : List ℕ) : Type 0 where
  fronts : fs ≡ gs
  rests : r ≡ s

front_is : (f g : Front) → f.kind ≡ g.kind → f.bytes ≡ g.bytes → f ≡ g
front_is f g k b = let make : Option TokenKind → List ℕ → Front = λ k b. record { kind = k; bytes = b } in ap (λ k. make k f.bytes) k ∙ ap (make g.kind) b

same_split : (fs gs : List Front) (r s : List ℕ) → AreFronts fs r → AreFronts gs s → text_of fs ++ r ≡ text_of gs ++ s → Stuck r → Stuck s → SameSplit fs gs r s
same_split [] [] r s a b e u v = record { fronts = refl; rests = e }
same_split [] (g ∷ gs) r s a b e u v = absurd (not_stuck g.kind g.bytes (text_of gs ++ s) r b.0 (e ∙ append_assoc g.bytes (text_of gs) s) u)
same_split (f ∷ fs) [] r s a b e u v = absurd (not_stuck f.kind f.bytes (text_of fs ++ r) s a.0 (sym e ∙ append_assoc f.bytes (text_of fs) r) v)
same_split (f ∷ fs) (g ∷ gs) r s a b e u v =
    let first = same_front f.kind g.kind f.bytes g.bytes (text_of fs ++ r) (text_of gs ++ s) a.0 b.0 (sym (append_assoc f.bytes (text_of fs) r) ∙ e ∙ append_assoc g.bytes (text_of gs) s) in
    let others = same_split fs gs r s a.1 b.1 first.rests u v in
    record { fronts = ap (λ x. x ∷ fs) (front_is f g first.kinds first.fronts) ∙ ap (λ xs. g ∷ xs) others.fronts; rests = others.rests }

-- a text has at most one list of tokens
pub one_list : (bytes : List ℕ) (ts us : List Token) → Spelt bytes ts → Spelt bytes us → ts ≡ us
one_list bytes ts us a b =
    let same = same_split a.fronts b.fronts [] [] a.are b.are (append-nil (text_of a.fronts) ∙ sym a.cover ∙ b.cover ∙ sym (append-nil (text_of b.fronts))) stuck_end stuck_end in
    a.these ∙ ap (tokens_from 0) same.fronts ∙ sym b.these

no_reach : (bytes : List ℕ) (ts : List Token) (at : ℕ) (Stand : List ℕ → Type 0) → Spelt bytes ts → Reaches bytes at Stand → ((rest : List ℕ) → Stand rest → Stuck rest) → (Stand [] → ⊥) → ⊥
no_reach bytes ts at Stand a b stuck none_at_end =
    let same = same_split a.fronts b.fronts [] b.rest a.are b.are (append-nil (text_of a.fronts) ∙ sym a.cover ∙ b.cover) stuck_end (stuck b.rest b.stand) in
    none_at_end (subst Stand (sym same.rests) b.stand)

same_reach : (bytes : List ℕ) (at there : ℕ) (Stand Other : List ℕ → Type 0) → Reaches bytes at Stand → Reaches bytes there Other → ((rest : List ℕ) → Stand rest → Stuck rest) → ((rest : List ℕ) → Other rest → Stuck rest) → (at ≡ there) × ((rest : List ℕ) × Stand rest × Other rest)
same_reach bytes at there Stand Other a b s o =
    let same = same_split a.fronts b.fronts a.rest b.rest a.are b.are (sym a.cover ∙ b.cover) (s a.rest a.stand) (o b.rest b.stand) in
    (sym a.place ∙ ap (λ fs. length (text_of fs)) same.fronts ∙ b.place, (b.rest, subst Stand same.rests a.stand, b.stand))

bad_or_open : (rest : List ℕ) → BeginsBad rest → BeginsOpen rest → ⊥
bad_or_open [] b o = b
bad_or_open (x ∷ more) b o = let e : bad ≡ unclosed = sym (bad_lead x more b) ∙ ap (λ y. lead y more) o.0 ∙ open_lead more o.1 in cc

-- a text with tokens has no bad byte and no open quote
pub no_bad : (bytes : List ℕ) (ts : List Token) (at : ℕ) → Spelt bytes ts → Reaches bytes at BeginsBad → ⊥
no_bad bytes ts at a b = no_reach bytes ts at BeginsBad a b stuck_bad (λ h. h)

pub no_open : (bytes : List ℕ) (ts : List Token) (at : ℕ) → Spelt bytes ts → Reaches bytes at BeginsOpen → ⊥
no_open bytes ts at a b = no_reach bytes ts at BeginsOpen a b stuck_open (λ h. h)

-- and a text without has one of them, at one place
pub one_bad : (bytes : List ℕ) (at there : ℕ) → Reaches bytes at BeginsBad → Reaches bytes there BeginsBad → at ≡ there
one_bad bytes at there a b = (same_reach bytes at there BeginsBad BeginsBad a b stuck_bad stuck_bad).0

pub one_open : (bytes : List ℕ) (at there : ℕ) → Reaches bytes at BeginsOpen → Reaches bytes there BeginsOpen → at ≡ there
one_open bytes at there a b = (same_reach bytes at there BeginsOpen BeginsOpen a b stuck_open stuck_open).0

pub not_both : (bytes : List ℕ) (at there : ℕ) → Reaches bytes at BeginsBad → Reaches bytes there BeginsOpen → ⊥
not_both bytes at there a b = let s = (same_reach bytes at there BeginsBad BeginsOpen a b stuck_bad stuck_open).1 in bad_or_open s.0 s.1 s.2
