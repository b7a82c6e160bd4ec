-- How far a walk over a text has come: the fronts behind it, the bytes before it, and the tokens so far.
use Rattle.std.proofs.Common.{◌≡◌, ℕ, ◌+◌, ◌-◌, ◌<◌, ◌≤◌, suc, List, [], ◌∷◌, ◌++◌, length, get_or, take, drop, Option, Some, None, All, refl, sym, ap, ◌∙◌, subst, arith, append_assoc, append-nil, length-append, zero-add}
use Rattle.std.proofs.Math.Seq.{drop-cons, drop-append_seam}
use Rattle.std.proofs.lemmas.List.{take-append-drop, length-take-le, nil_from_length, take_all, length-drop}
use Rattle.std.proofs.lemmas.List.Elements.{All-from_recursion}
use Rattle.dml_lexer.specs.declared.lexer.TokenKind.{TokenKind}
use Rattle.dml_lexer.specs.declared.lexer.TokenKind.TheVariants as kinds
use Rattle.dml_lexer.specs.declared.lexer.Token.{Token}
use Rattle.dml_lexer.specs.Tokens.{IsFront, Front, text_of, AreFronts, with_token, tokens_from, Spelt, Reaches, LiesIn, least_length}
use Rattle.dml_lexer.specs.FirstFront.{BeginsFront}

pub record Walked (bytes : List ℕ) (at : ℕ) (tokens : List Token) : Type 0 where
  pub fronts : List Front
  pub rest : List ℕ
  pub are : AreFronts fronts rest
  pub cover : bytes ≡ text_of fronts ++ rest
  pub place : length (text_of fronts) ≡ at
  pub these : tokens ≡ tokens_from 0 fronts

text_of-push : (fs : List Front) (f : Front) → text_of (fs ++ f ∷ []) ≡ text_of fs ++ f.bytes
text_of-push [] f = append-nil f.bytes
text_of-push (g ∷ fs) f = ap (λ l. g.bytes ++ l) (text_of-push fs f) ∙ sym (append_assoc g.bytes (text_of fs) f.bytes)

AreFronts-push : (fs : List Front) (f : Front) (rest : List ℕ) → AreFronts fs (f.bytes ++ rest) → IsFront f.kind f.bytes rest → AreFronts (fs ++ f ∷ []) rest
AreFronts-push [] f rest are is = (is, tt)
AreFronts-push (g ∷ fs) f rest are is =
    let e : text_of fs ++ (f.bytes ++ rest) ≡ text_of (fs ++ f ∷ []) ++ rest = sym (append_assoc (text_of fs) f.bytes rest) ∙ ap (λ l. l ++ rest) (sym (text_of-push fs f)) in
    (subst (IsFront g.kind g.bytes) e are.0, AreFronts-push fs f rest are.1 is)

with_token-append : (kind : Option TokenKind) (from to : ℕ) (xs ys : List Token) → with_token kind from to (xs ++ ys) ≡ with_token kind from to xs ++ ys
with_token-append None from to xs ys = refl
with_token-append (Some k) from to xs ys = refl

tokens_from-push : (at : ℕ) (fs : List Front) (f : Front) (now : ℕ) → at + length (text_of fs) ≡ now → tokens_from at (fs ++ f ∷ []) ≡ tokens_from at fs ++ with_token f.kind now (now + length f.bytes) []
tokens_from-push at [] f now e = ap (λ k. with_token f.kind k (k + length f.bytes) []) (let z : at ≡ now = omega arith in z)
tokens_from-push at (g ∷ fs) f now e =
    let here : at + length g.bytes + length (text_of fs) ≡ now = omega (arith, length-append g.bytes (text_of fs)) in
    ap (with_token g.kind at (at + length g.bytes)) (tokens_from-push (at + length g.bytes) fs f now here)
    ∙ with_token-append g.kind at (at + length g.bytes) (tokens_from (at + length g.bytes) fs) (with_token f.kind now (now + length f.bytes) [])

-- nothing is behind the walk as it begins
pub walked_none : (bytes : List ℕ) → Walked bytes 0 []
walked_none bytes = record { fronts = []; rest = bytes; are = tt; cover = refl; place = refl; these = refl }

-- one more front
pub walked_more : (bytes : List ℕ) (at : ℕ) (tokens : List Token) (kind : Option TokenKind) (len : ℕ) (w : Walked bytes at tokens) → BeginsFront kind len w.rest → Walked bytes (at + len) (tokens ++ with_token kind at (at + len) [])
walked_more bytes at tokens kind len w b =
    let f : Front = record { kind = kind; bytes = take len w.rest } in
    let l : length (take len w.rest) ≡ len = length-take-le len w.rest b.within in
    record {
      fronts = w.fronts ++ f ∷ [];
      rest = drop len w.rest;
      are = AreFronts-push w.fronts f (drop len w.rest) (subst (AreFronts w.fronts) (sym (take-append-drop len w.rest)) w.are) b.is;
      cover = w.cover ∙ ap (λ r. text_of w.fronts ++ r) (sym (take-append-drop len w.rest)) ∙ sym (append_assoc (text_of w.fronts) (take len w.rest) (drop len w.rest)) ∙ ap (λ t. t ++ drop len w.rest) (sym (text_of-push w.fronts f));
      place = ap length (text_of-push w.fronts f) ∙ length-append (text_of w.fronts) (take len w.rest) ∙ ap (λ n. n + length (take len w.rest)) w.place ∙ ap (λ n. at + n) l;
      these = ap (λ ts. ts ++ with_token kind at (at + len) []) w.these ∙ sym (tokens_from-push 0 w.fronts f at (zero-add (length (text_of w.fronts)) ∙ w.place) ∙ ap (λ n. tokens_from 0 w.fronts ++ with_token kind at (at + n) []) l);
    }

-- the bytes before the walk
pub walked_rest : (bytes : List ℕ) (at : ℕ) (tokens : List Token) (w : Walked bytes at tokens) → drop at bytes ≡ w.rest
walked_rest bytes at tokens w = ap (λ n. drop n bytes) (sym w.place) ∙ ap (drop (length (text_of w.fronts))) w.cover ∙ drop-append_seam (text_of w.fronts) w.rest

-- the next byte, and those after it as a slice gives them
pub walked_next : (bytes : List ℕ) (at : ℕ) (tokens : List Token) (w : Walked bytes at tokens) → at < length bytes → w.rest ≡ get_or bytes at 0 ∷ take (length bytes - (at + 1)) (drop (at + 1) bytes)
walked_next bytes at tokens w lt =
    let one : suc at ≡ at + 1 = omega arith in
    let all : take (length bytes - (at + 1)) (drop (at + 1) bytes) ≡ drop (at + 1) bytes = take_all (length bytes - (at + 1)) (drop (at + 1) bytes) (omega (arith, length-drop (at + 1) bytes)) in
    sym (walked_rest bytes at tokens w) ∙ drop-cons bytes at 0 lt ∙ ap (λ l. get_or bytes at 0 ∷ l) (ap (λ n. drop n bytes) one ∙ sym all)

-- the walk is at the end
pub walked_all : (bytes : List ℕ) (at : ℕ) (tokens : List Token) → Walked bytes at tokens → length bytes ≤ at → Spelt bytes tokens
walked_all bytes at tokens w le =
    let e : w.rest ≡ [] = nil_from_length w.rest (omega (arith, length-append (text_of w.fronts) w.rest, ap length w.cover, w.place)) in
    record { fronts = w.fronts; are = subst (AreFronts w.fronts) e w.are; cover = w.cover ∙ ap (λ r. text_of w.fronts ++ r) e ∙ append-nil (text_of w.fronts); these = w.these }

-- bytes that begin no front
pub walked_fault : (bytes : List ℕ) (at : ℕ) (tokens : List Token) (w : Walked bytes at tokens) (Stand : List ℕ → Type 0) → Stand w.rest → Reaches bytes at Stand
walked_fault bytes at tokens w Stand s = record { fronts = w.fronts; rest = w.rest; are = w.are; cover = w.cover; place = w.place; stand = s }

-- a walk that goes on without a token
pub walked_on : (bytes : List ℕ) (at : ℕ) (tokens : List Token) (len : ℕ) (w : Walked bytes at tokens) → BeginsFront None len w.rest → Walked bytes (at + len) tokens
walked_on bytes at tokens len w b = subst (Walked bytes (at + len)) (append-nil tokens) (walked_more bytes at tokens None len w b)

pub walked_within : (bytes : List ℕ) (at : ℕ) (tokens : List Token) (kind : Option TokenKind) (len : ℕ) (w : Walked bytes at tokens) → BeginsFront kind len w.rest → at + len ≤ length bytes
walked_within bytes at tokens kind len w b = omega (arith, b.within, w.place, ap length w.cover, length-append (text_of w.fronts) w.rest)

quoted_length : (text front : List ℕ) (len : ℕ) → len ≡ length front → front ≡ 34 ∷ (text ++ 34 ∷ []) → 2 ≤ len
quoted_length text front len e f = omega (arith, ap length f, length-append text (34 ∷ []))

least : (kind : TokenKind) (len : ℕ) (rest : List ℕ) → BeginsFront (Some kind) len rest → least_length kind ≤ len
least kinds.Word len rest b = omega (arith, b.some)
least kinds.Quoted len rest b = quoted_length b.is.0 (take len rest) len (sym (length-take-le len rest b.within)) b.is.1
least kinds.LeftBracket len rest b = omega (arith, b.some)
least kinds.RightBracket len rest b = omega (arith, b.some)

-- the token of a front lies in the text
pub lies : (bytes : List ℕ) (at : ℕ) (tokens : List Token) (kind : TokenKind) (len : ℕ) (w : Walked bytes at tokens) → BeginsFront (Some kind) len w.rest → LiesIn (length bytes) (record { kind = kind; from = at; to = at + len })
lies bytes at tokens kind len w b = record { least = omega (arith, least kind len w.rest b); last = walked_within bytes at tokens (Some kind) len w b }

pub All-one : (P : Token → Type 0) (t : Token) → P t → All P (t ∷ [])
All-one P t h = All-from_recursion P (t ∷ []) (h, tt)
