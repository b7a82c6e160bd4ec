-- Texts that are sent in pieces.
use Rattle.std.proofs.Common.{ℕ, ◌≡◌, ◌+◌, ◌∙◌, sym, ap, subst, refl, List, [], ◌∷◌, ◌++◌, length, take, append_assoc, append-nil, length-append, arith, inl, inr, ◌≤◌, Option, Some, None, Result, Ok, Err, OnErr}
use Rattle.std.specs.Prelude.{IsErrOf}
use Rattle.std.proofs.Math.Seq.{take-append-add, take-append_seam}
use Rattle.std.proofs.lemmas.List.{take-append-le}
use Rattle.std.proofs.lemmas.Grind.{flat_map-append}
use Rattle.sim_base.specs.Outside.{Appends, AppendsPrefix, Rose}
use Rattle.event_order.specs.Machine.{option_list}
use Rattle.ssf_model.specs.declared.event.Entry.{Entry}
use Rattle.ssf_model.specs.declared.event.Names.{Names}
use Rattle.trace_writer.specs.Trace.{record_text, entries_text, trace_text, end_line}
use Rattle.list_run.specs.Sending.{Sends}

-- nothing is sent yet
pub sends_nothing : (text : List ℕ) (o : Option (List ℕ)) → Sends text text o o
sends_nothing text None = tt
sends_nothing text (Some h) = ([], refl, ap (λ (bytes : List ℕ). Some bytes) (sym (append-nil h)))

-- what is held back is sent with what follows
pub sends_more : (a mid b rest : List ℕ) (o m n : Option (List ℕ)) → Sends a mid o m → Sends (mid ++ b) rest m n → Sends (a ++ b) rest o n
sends_more a mid b rest None m n first second = tt
sends_more a mid b rest (Some h) m n first second =
    let then_sent : Sends (mid ++ b) rest (Some (h ++ first.0)) n = rw first.2 at second in (
      first.0 ++ then_sent.0,
      ap (λ (bytes : List ℕ). bytes ++ b) first.1 ∙ (append_assoc first.0 mid b ∙ (ap (λ (bytes : List ℕ). first.0 ++ bytes) then_sent.1 ∙ sym (append_assoc first.0 then_sent.0 rest))),
      then_sent.2 ∙ ap (λ (bytes : List ℕ). Some bytes) (append_assoc h first.0 then_sent.0),
    )

-- what is held back is sent in part
pub part_more : (a mid b : List ℕ) (o m n : Option (List ℕ)) → Sends a mid o m → AppendsPrefix (mid ++ b) m n → AppendsPrefix (a ++ b) o n
part_more a mid b None m n first second = tt
part_more a mid b (Some h) m n first second =
    let part : AppendsPrefix (mid ++ b) (Some (h ++ first.0)) n = rw first.2 at second in
    let whole : a ++ b ≡ first.0 ++ (mid ++ b) = ap (λ (bytes : List ℕ). bytes ++ b) first.1 ∙ append_assoc first.0 mid b in (
      length first.0 + part.0,
      omega (arith, ap length whole, length-append first.0 (mid ++ b)),
      part.2 ∙ ap (λ (bytes : List ℕ). Some bytes) (append_assoc h first.0 (take part.0 (mid ++ b))
          ∙ ap (λ (bytes : List ℕ). h ++ bytes) (sym (take-append-add first.0 (mid ++ b) part.0) ∙ ap (λ (bytes : List ℕ). take (length first.0 + part.0) bytes) (sym whole))),
    )

-- nothing is a part of any text
pub part_none : (text : List ℕ) (o : Option (List ℕ)) → AppendsPrefix text o o
part_none text None = tt
part_none text (Some h) = (0, omega arith, ap (λ (bytes : List ℕ). Some bytes) (sym (append-nil h)))

-- a part of a text is a part of a longer one
pub part_longer : (a b : List ℕ) (o n : Option (List ℕ)) → AppendsPrefix a o n → AppendsPrefix (a ++ b) o n
part_longer a b None n part = tt
part_longer a b (Some h) n part =
    let within = part.1 in
    (part.0, omega (arith, length-append a b), part.2 ∙ ap (λ (bytes : List ℕ). Some (h ++ bytes)) (sym (take-append-le part.0 a b within)))

-- what is held back is sent at the end
pub sends_end : (a mid b : List ℕ) (o m n : Option (List ℕ)) → Sends a mid o m → Appends (mid ++ b) m n → Appends (a ++ b) o n
sends_end a mid b None m n first second = tt
sends_end a mid b (Some h) m n first second =
    let last : Appends (mid ++ b) (Some (h ++ first.0)) n = rw first.2 at second in
    last ∙ ap (λ (bytes : List ℕ). Some bytes) (append_assoc h first.0 (mid ++ b)
    ∙ ap (λ (bytes : List ℕ). h ++ bytes) (sym (append_assoc first.0 mid b) ∙ ap (λ (bytes : List ℕ). bytes ++ b) (sym first.1)))

-- what was sent is a part of the text
pub sends_part : (a mid : List ℕ) (o m : Option (List ℕ)) → Sends a mid o m → AppendsPrefix a o m
sends_part a mid None m first = tt
sends_part a mid (Some h) m first = (
  length first.0,
  omega (arith, ap length first.1, length-append first.0 mid),
  first.2 ∙ ap (λ (bytes : List ℕ). Some (h ++ bytes)) (sym (ap (λ (bytes : List ℕ). take (length first.0) bytes) first.1 ∙ take-append_seam first.0 mid)),
)

-- the same without a text behind it
pub part_end : (a mid : List ℕ) (o m n : Option (List ℕ)) → Sends a mid o m → AppendsPrefix mid m n → AppendsPrefix a o n
part_end a mid o m n first second =
    let P : List ℕ → Type 0 = λ t. AppendsPrefix t m n in
    let Q : List ℕ → Type 0 = λ t. AppendsPrefix t o n in
    subst Q (append-nil a) (part_more a mid [] o m n first (subst P (sym (append-nil mid)) second))

-- the records of some entries and of others
pub entries_both : (names : Names) (xs ys : List Entry) → entries_text names (xs ++ ys) ≡ entries_text names xs ++ entries_text names ys
unfolding entries_text
entries_both names xs ys = flat_map-append (record_text names) xs ys

pub entries_none : (names : Names) → entries_text names [] ≡ []
unfolding entries_text
entries_none names = refl

pub entries_one : (names : Names) (e : Entry) → entries_text names (e ∷ []) ≡ record_text names e
unfolding entries_text
entries_one names e = append-nil (record_text names e)

-- a trace is its records and its end
pub trace_is : (names : Names) (entries : List Entry) (until count : ℕ) → trace_text names entries until count ≡ entries_text names entries ++ end_line until count
unfolding trace_text
trace_is names entries until count = refl

-- the record of the next entry, or nothing where there is none
pub next_text : (names : Names) (e : Entry) (o : Option Entry) → Some e ≡ o → record_text names e ≡ entries_text names (option_list o)
next_text names e o is = sym (entries_one names e) ∙ ap (λ (p : Option Entry). entries_text names (option_list p)) is

pub next_sent : (names : Names) (e : Entry) (o : Option Entry) (base rest : List ℕ) (held held' : Option (List ℕ)) → Some e ≡ o
    → Sends (base ++ record_text names e) rest held held' → Sends (base ++ entries_text names (option_list o)) rest held held'
next_sent names e o base rest held held' is sent = subst (λ (t : List ℕ). Sends (base ++ t) rest held held') (next_text names e o is) sent

pub next_part : (names : Names) (e : Entry) (o : Option Entry) (base : List ℕ) (held held' : Option (List ℕ)) → Some e ≡ o
    → AppendsPrefix (base ++ record_text names e) held held' → AppendsPrefix (base ++ entries_text names (option_list o)) held held'
next_part names e o base held held' is part = subst (λ (t : List ℕ). AppendsPrefix (base ++ t) held held') (next_text names e o is) part

pub none_sent : (names : Names) (o : Option Entry) (base : List ℕ) (held : Option (List ℕ)) → None ≡ o → Sends (base ++ entries_text names (option_list o)) base held held
none_sent names o base held is =
    let text : base ++ entries_text names (option_list o) ≡ base =
    ap (λ (p : Option Entry). base ++ entries_text names (option_list p)) (sym is) ∙ (ap (λ (t : List ℕ). base ++ t) (entries_none names) ∙ append-nil base) in
    subst (λ (t : List ℕ). Sends t base held held) (sym text) (sends_nothing base held)

-- what holds whatever was refused
pub of_err : {A F P : Type 0} (answer : Result A F) → P → OnErr answer P
of_err (Ok value) p = tt
of_err (Err fault) p = p

pub err_by : {A F P Q : Type 0} (answer : Result A F) → (P → Q) → OnErr answer P → OnErr answer Q
err_by (Ok value) f p = tt
err_by (Err fault) f p = f p

pub rose_later : (a b c : ℕ) → a ≤ b → Rose b c → Rose a c
rose_later a b c h (inl l) = inl (omega arith)
rose_later a b c h (inr e) = inr e

-- a fault is handed on
pub same_fault : {A C F : Type 0} (x y : F) → IsErrOf {T = C} {E = F} (Err x) y → IsErrOf {T = A} {E = F} (Err x) y
same_fault {A} {C} {F} x y is = let e : x ≡ y = cc in ap (λ (z : F). Err z) e
