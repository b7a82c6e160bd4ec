-- Texts that are sent in pieces.
use Rattle.std.proofs.Common.{ℕ, ◌≡◌, ◌+◌, ◌∙◌, sym, ap, subst, refl, List, [], ◌++◌, length, take, append_assoc, append-nil, length-append, arith, Option, Some, None}
use Rattle.std.proofs.Math.Seq.{take-append-add}
use Rattle.std.proofs.lemmas.List.{take-append-le}
use Rattle.sim_base.specs.Outside.{Appends, AppendsPrefix}
use Rattle.trace_writer.specs.Sending.{Sends}

-- nothing is sent yet
pub sends_nothing : (text : List ℕ) (o : Option (List ℕ)) → Sends text text o o
sends_nothing text None = tt
sends_nothing text (Some h) = ([], refl, ap (λ (bytes : List ℕ). Some bytes) (sym (append-nil h)))

-- all is sent
pub sends_all : (text rest : List ℕ) (o n : Option (List ℕ)) → rest ≡ [] → Appends text o n → Sends text rest o n
sends_all text rest None n none all = tt
sends_all text rest (Some h) n none all = (text, sym (ap (λ (bytes : List ℕ). text ++ bytes) none ∙ append-nil text), all)

-- what follows is held back
pub sends_put : (a rest b later : List ℕ) (o n : Option (List ℕ)) → Sends a rest o n → later ≡ rest ++ b → Sends (a ++ b) later o n
sends_put a rest b later None n first is = tt
sends_put a rest b later (Some h) n first is =
    (first.0, ap (λ (bytes : List ℕ). bytes ++ b) first.1 ∙ (append_assoc first.0 rest b ∙ ap (λ (bytes : List ℕ). first.0 ++ bytes) (sym is)), first.2)

-- what is held back is sent with what follows
pub sends_more : (a mid b rest : List ℕ) (o m n : Option (List ℕ)) → Sends a mid o m → Sends (mid ++ b) rest m n → Sends (a ++ b) rest o n
sends_more a mid b rest None m n first second = tt
sends_more a mid b rest (Some h) m n first second =
    let then_sent : Sends (mid ++ b) rest (Some (h ++ first.0)) n = rw first.2 at second in (
      first.0 ++ then_sent.0,
      ap (λ (bytes : List ℕ). bytes ++ b) first.1 ∙ (append_assoc first.0 mid b ∙ (ap (λ (bytes : List ℕ). first.0 ++ bytes) then_sent.1 ∙ sym (append_assoc first.0 then_sent.0 rest))),
      then_sent.2 ∙ ap (λ (bytes : List ℕ). Some bytes) (append_assoc h first.0 then_sent.0),
    )

-- what is held back is sent in part
pub part_more : (a mid b : List ℕ) (o m n : Option (List ℕ)) → Sends a mid o m → AppendsPrefix (mid ++ b) m n → AppendsPrefix (a ++ b) o n
part_more a mid b None m n first second = tt
part_more a mid b (Some h) m n first second =
    let part : AppendsPrefix (mid ++ b) (Some (h ++ first.0)) n = rw first.2 at second in
    let whole : a ++ b ≡ first.0 ++ (mid ++ b) = ap (λ (bytes : List ℕ). bytes ++ b) first.1 ∙ append_assoc first.0 mid b in (
      length first.0 + part.0,
      omega (arith, ap length whole, length-append first.0 (mid ++ b)),
      part.2 ∙ ap (λ (bytes : List ℕ). Some bytes) (append_assoc h first.0 (take part.0 (mid ++ b))
          ∙ ap (λ (bytes : List ℕ). h ++ bytes) (sym (take-append-add first.0 (mid ++ b) part.0) ∙ ap (λ (bytes : List ℕ). take (length first.0 + part.0) bytes) (sym whole))),
    )

-- a part of a text is a part of a longer one
pub part_longer : (a b : List ℕ) (o n : Option (List ℕ)) → AppendsPrefix a o n → AppendsPrefix (a ++ b) o n
part_longer a b None n part = tt
part_longer a b (Some h) n part =
    let within = part.1 in
    (part.0, omega (arith, length-append a b), part.2 ∙ ap (λ (bytes : List ℕ). Some (h ++ bytes)) (sym (take-append-le part.0 a b within)))

-- what is held back is sent at the end
pub sends_end : (a mid : List ℕ) (o m n : Option (List ℕ)) → Sends a mid o m → Appends mid m n → Appends a o n
sends_end a mid None m n first second = tt
sends_end a mid (Some h) m n first second =
    let last : Appends mid (Some (h ++ first.0)) n = rw first.2 at second in
    last ∙ ap (λ (bytes : List ℕ). Some bytes) (append_assoc h first.0 mid ∙ ap (λ (bytes : List ℕ). h ++ bytes) (sym first.1))

-- what is held back is sent in part at the end
pub part_end : (a mid : List ℕ) (o m n : Option (List ℕ)) → Sends a mid o m → AppendsPrefix mid m n → AppendsPrefix a o n
part_end a mid o m n first second =
    let P : List ℕ → Type 0 = λ t. AppendsPrefix t m n in
    let Q : List ℕ → Type 0 = λ t. AppendsPrefix t o n in
    subst Q (append-nil a) (part_more a mid [] o m n first (subst P (sym (append-nil mid)) second))
