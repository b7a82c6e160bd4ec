-- A fault of a substitution stands at the place of an attribute of the tree.
use Rattle.std.proofs.Common.{ℕ, zero, suc, ◌≡◌, ◌<◌, ◌+◌, ap, sym, subst, refl, Bool, true, false, cond, nat_lt, not, List, [], ◌∷◌, ◌++◌, length, filter, map, string_bytes, String, arith, ◌⊎◌, inl, inr, Option, Some, None, Result, Ok, Err}
use Rattle.std.specs.declared.alloc.Global.{Global}
use Rattle.std.proofs.lemmas.List.{length-map}
use Rattle.dml_lexer.specs.declared.lexer.Token.{Token}
use Rattle.dml_tree.specs.declared.tree.Place.{Place}
use Rattle.dml_tree.specs.Attributes.{Attributes, none, plain, list}
use Rattle.dml_tree.specs.TreeView.{joined}
use Rattle.dml_tree.specs.Grammar.{Spells}
use Rattle.dml_tree.specs.Reading.{Reads}
use Rattle.dml_resolve.specs.declared.resolving.PathFault.{PathFault}
use Rattle.dml_resolve.specs.declared.resolving.PathFault.TheVariants as fault
use Rattle.dml_resolve.specs.Resolving.{is_find, is_substitution, most_nested, most_weight, components, Counted, pure, refuse, and_then, ◌>>=◌, count, Entry, text_entry, list_entry, entry_key, same_key, expand_entries, expand, has_plain, first_list, known, with_key, named_from, named, plain_entries, moved, substituted, path_or_fault, path_of, level_from, below, is_schemas, result_of, resolved}
use Rattle.ssfnet_top.specs.declared.refusal.Refusal.{Refusal}
use Rattle.ssfnet_top.specs.declared.refusal.Refusal.TheVariants as refusal
use Rattle.ssfnet_top.specs.Outcome.{file_of_fault}
use Rattle.ssfnet_top.specs.Answering.{IsOfModel}
use Rattle.ssfnet_top.specs.FilePlaces.{AllPlaces, HasPlace, ArePlaced, IsPlaced}

pub all_weaker : (P Q : Place → Type 0) → ((p : Place) → P p → Q p) → (t : Attributes) → AllPlaces P t → AllPlaces Q t
all_weaker P Q weaker none all = tt
all_weaker P Q weaker (plain key place text rest) all = (weaker place all.0, all_weaker P Q weaker rest all.1)
all_weaker P Q weaker (list key place inner rest) all = (weaker place all.0, all_weaker P Q weaker inner all.1, all_weaker P Q weaker rest all.2)

pub all_joined : (P : Place → Type 0) (t more : Attributes) → AllPlaces P t → AllPlaces P more → AllPlaces P (joined t more)
all_joined P none more all others = others
all_joined P (plain key place text rest) more all others = (all.0, all_joined P rest more all.1 others)
all_joined P (list key place inner rest) more all others = (all.0, all.1, all_joined P rest more all.2 others)

-- the places of a file's tree have the file's number
pub all_of_file : (file : ℕ) (bytes : List ℕ) (depth : ℕ) (tokens : List Token) (t : Attributes) → Spells file bytes depth tokens t → AllPlaces (λ p. p.file ≡ file) t
all_of_file file bytes depth tokens none s = tt
all_of_file file bytes depth tokens (plain key place text rest) s = (ap (λ (p : Place). p.file) s.4.at, all_of_file file bytes depth s.2 rest s.6)
all_of_file file bytes depth tokens (list key place inner rest) s =
    (ap (λ (p : Place). p.file) s.6.at, all_of_file file bytes (depth + 1) s.2 inner s.10, all_of_file file bytes depth s.4 rest s.11)

pub file_placed : (file : ℕ) (bytes : List ℕ) (t : Attributes) → Reads file bytes (Ok t) → AllPlaces (λ p. p.file ≡ file) t
file_placed file bytes t reads = all_of_file file bytes 0 reads.tokens t reads.spells

-- one more file was joined
pub files_placed : (names : List (String Global)) (file : ℕ) (t more next : Attributes) → file < length names → next ≡ joined t more
    → ArePlaced (map string_bytes names) t → AllPlaces (λ p. p.file ≡ file) more → ArePlaced (map string_bytes names) next
files_placed names file t more next within joins all others =
    let below : file < length (map string_bytes names) = omega (arith, within, length-map names (λ (name : String Global). string_bytes name)) in
    let placed : Place → Type 0 = λ p. p.file < length (map string_bytes names) in
    subst (λ (u : Attributes). AllPlaces placed u) (sym joins)
    (all_joined placed t more all (all_weaker (λ p. p.file ≡ file) placed (λ p is. subst (λ (n : ℕ). n < length (map string_bytes names)) (sym is) below) more others))

module _ (P : Place → Type 0) where
  -- what is computed is so, or its fault stands at such a place
  abbrev pub Holds : {A : Type 0} → (A → Type 0) → Result (A × ℕ) PathFault → Type 0
  Holds Q (Ok found) = Q found.0
  Holds Q (Err reason) = HasPlace P reason

  then_holds : {A B : Type 0} (Q : A → Type 0) (R : B → Type 0) (r : Result (A × ℕ) PathFault) (f : A → Counted B) → Holds Q r → ((x : A) → Q x → (w : ℕ) → Holds R (f x w)) → Holds R (and_then r f)
  then_holds Q R (Ok found) f h k = k found.0 h found.1
  then_holds Q R (Err reason) f h k = h

  abbrev pub Any : {A : Type 0} → A → Type 0
  Any x = Unit {0}

  -- the lists of an entry have such places
  abbrev pub IsOf : Entry → Type 0
  IsOf (text_entry key place text) = Unit {0}
  IsOf (list_entry key place written expanded) = AllPlaces P written × ((w : ℕ) → Holds {A = Attributes} Any (expanded w))

  abbrev pub AreOf : List Entry → Type 0
  AreOf [] = Unit {0}
  AreOf (entry ∷ entries) = IsOf entry × AreOf entries

  of_both : (xs ys : List Entry) → AreOf xs → AreOf ys → AreOf (xs ++ ys)
  of_both [] ys h k = k
  of_both (x ∷ xs) ys h k = (h.0, of_both xs ys h.1 k)

  of_kept : (b : Bool) (x : Entry) (xs : List Entry) → IsOf x → AreOf xs → AreOf (cond b (x ∷ xs) xs)
  of_kept true x xs h k = (h, k)
  of_kept false x xs h k = k

  of_filter : (keeps : Entry → Bool) (xs : List Entry) → AreOf xs → AreOf (filter keeps xs)
  of_filter keeps [] h = tt
  of_filter keeps (x ∷ xs) h = of_kept (keeps x) x (filter keeps xs) h.0 (of_filter keeps xs h.1)

  entries_hold : (xs : List Entry) → AreOf xs → (w : ℕ) → Holds {A = Attributes} Any (expand_entries xs w)
  entries_hold [] h w = tt
  entries_hold (text_entry key place text ∷ xs) h w =
      then_holds Any Any (expand_entries xs w) (λ rest. pure (plain key place text rest)) (entries_hold xs h.1 w) (λ rest k v. tt)
  entries_hold (list_entry key place written expanded ∷ xs) h w =
      then_holds Any Any (expanded w) (λ inner. expand_entries xs >>= λ rest. pure (list key place inner rest)) (h.0.1 w)
      (λ inner k v. then_holds Any Any (expand_entries xs v) (λ rest. pure (list key place inner rest)) (entries_hold xs h.1 v) (λ rest j u. tt))

  counted_holds : (b : Bool) (n : ℕ) → (let r : Result (Unit {0} × ℕ) PathFault = cond b (Err fault.TooLarge) (Ok (tt, n)) in Holds Any r)
  counted_holds true n = tt
  counted_holds false n = tt

  count_holds : (more w : ℕ) → Holds {A = Unit {0}} Any (count more w)
  count_holds more w = counted_holds (nat_lt most_weight (w + more)) (w + more)

  expand_holds : (level : Counted (List Entry)) (w : ℕ) → Holds AreOf (level w) → Holds {A = Attributes} Any (expand level w)
  expand_holds level w h =
      then_holds AreOf Any (level w) (λ entries. count (length entries) >>= λ _. expand_entries entries) h
      (λ entries k v. then_holds Any Any (count (length entries) v) (λ _. expand_entries entries) (count_holds (length entries) v) (λ _ j u. entries_hold entries k u))

  first_holds : (place : Place) → P place → (xs : List Entry) → AreOf xs → (w : ℕ) → Holds {A = Attributes} (AllPlaces P) (first_list place xs w)
  first_holds place p [] h w = p
  first_holds place p (text_entry key there text ∷ xs) h w = first_holds place p xs h.1 w
  first_holds place p (list_entry key there written expanded ∷ xs) h w = h.0.0

  known_holds : (place : Place) → P place → (xs : List Entry) → AreOf xs → (w : ℕ) → Holds AreOf (known place xs w)
  known_holds place p [] h w = p
  known_holds place p (x ∷ xs) h w = h

  keyed_holds : (place : Place) → P place → (key : List ℕ) (xs : List Entry) → AreOf xs → (w : ℕ) → Holds AreOf (with_key place key xs w)
  keyed_holds place p key xs h w = known_holds place p (filter (same_key key) xs) (of_filter (same_key key) xs h) w

  -- the levels of lists with such places
  abbrev pub Forms : (Attributes → Counted (List Entry)) → Type 0
  Forms level = (t : Attributes) → AllPlaces P t → (w : ℕ) → Holds AreOf (level t w)

  from_holds : (place : Place) → P place → (level : Attributes → Counted (List Entry)) → Forms level → (path : List (List ℕ)) (found : List Entry) → AreOf found → (w : ℕ)
      → Holds AreOf (named_from place level path found w)
  from_holds place p level forms [] found h w = h
  from_holds place p level forms (component ∷ path) found h w =
      then_holds (AllPlaces P) AreOf (first_list place found w) (λ written. level written >>= λ inside. with_key place component inside >>= λ more. named_from place level path more)
      (first_holds place p found h w)
      (λ written k v. then_holds AreOf AreOf (level written v) (λ inside. with_key place component inside >>= λ more. named_from place level path more) (forms written k v)
      (λ inside j u. then_holds AreOf AreOf (with_key place component inside u) (λ more. named_from place level path more) (keyed_holds place p component inside j u)
      (λ more i t. from_holds place p level forms path more i t)))

  named_holds : (place : Place) → P place → (level : Attributes → Counted (List Entry)) → Forms level → (path : List (List ℕ)) (entries : List Entry) → AreOf entries → (w : ℕ)
      → Holds AreOf (named place level path entries w)
  named_holds place p level forms [] entries h w = p
  named_holds place p level forms (component ∷ path) entries h w =
      then_holds AreOf AreOf (with_key place component entries w) (λ found. named_from place level path found) (keyed_holds place p component entries h w)
      (λ found k v. from_holds place p level forms path found k v)

  of_unless : (b : Bool) (x : Entry) (xs : List Entry) → IsOf x → AreOf xs → AreOf (cond b xs (x ∷ xs))
  of_unless true x xs h k = k
  of_unless false x xs h k = (h, k)

  plain_of : (level : Attributes → Counted (List Entry)) → Forms level → (t : Attributes) → AllPlaces P t → AreOf (plain_entries level t)
  plain_of level forms none h = tt
  plain_of level forms (plain key place text rest) h = of_unless (is_substitution key) (text_entry key place text) (plain_entries level rest) tt (plain_of level forms rest h.1)
  plain_of level forms (list key place inner rest) h =
      of_unless (is_substitution key) (list_entry key place inner (expand (level inner))) (plain_entries level rest) (h.1, λ w. expand_holds (level inner) w (forms inner h.1 w))
      (plain_of level forms rest h.2)

  moved_of : (level : Attributes → Counted (List Entry)) → Forms level → (xs : List Entry) → AreOf xs → AreOf (moved level xs)
  moved_of level forms [] h = tt
  moved_of level forms (text_entry key place text ∷ xs) h = (tt, moved_of level forms xs h.1)
  moved_of level forms (list_entry key place written expanded ∷ xs) h =
      ((h.0.0, λ w. expand_holds (level written) w (forms written h.0.0 w)), moved_of level forms xs h.1)

  either_holds : (b : Bool) (m n : Counted (List Entry)) (w : ℕ) → Holds AreOf (m w) → Holds AreOf (n w) → Holds AreOf (cond b m n w)
  either_holds true m n w h k = h
  either_holds false m n w h k = k

  abbrev pub FormsBelow : Option (Attributes → Counted (List Entry)) → Type 0
  FormsBelow None = Unit {0}
  FormsBelow (Some level) = Forms level

  module _ (root : Attributes) (placed : AllPlaces P root) where
    substituted_holds : (under : Option (Attributes → Counted (List Entry))) → FormsBelow under → (written : Attributes) (key : List ℕ) (place : Place) → P place → (path : List (List ℕ)) (w : ℕ)
        → Holds AreOf (substituted root under written key place path w)
    substituted_holds None forms written key place p path w = p
    substituted_holds (Some level) forms written key place p path w =
        let missing : Entry → Bool = λ entry. not (has_plain written (entry_key entry)) in
        let filtered : List Entry → List Entry = λ entries. filter missing entries in
        let included : List Entry → Counted (List Entry) = λ found. first_list place found >>= λ inner. level inner >>= λ entries. pure (filtered entries) in
        let chosen : List Entry → Counted (List Entry) = λ found. cond (is_find key) (pure (moved level found)) (included found) in
        then_holds Any AreOf (count 1 w) (λ _. named place level path (plain_entries level root) >>= chosen) (count_holds 1 w)
        (λ _ k v. then_holds AreOf AreOf (named place level path (plain_entries level root) v) chosen
        (named_holds place p level forms path (plain_entries level root) (plain_of level forms root placed) v)
        (λ found j u. either_holds (is_find key) (pure (moved level found)) (included found) u (moved_of level forms found j)
        (then_holds (AllPlaces P) AreOf (first_list place found u) (λ inner. level inner >>= λ entries. pure (filtered entries)) (first_holds place p found j u)
        (λ inner i t. then_holds AreOf AreOf (level inner t) (λ entries. pure (filtered entries)) (forms inner i t) (λ entries h s. of_filter missing entries h)))))

    path_holds : (place : Place) → P place → (found : Option (List (List ℕ))) (w : ℕ) → Holds {A = List (List ℕ)} Any (path_or_fault place found w)
    path_holds place p None w = p
    path_holds place p (Some path) w = tt

    level_holds : (under : Option (Attributes → Counted (List Entry))) → FormsBelow under → (kept : List ℕ → Bool) (written t : Attributes) → AllPlaces P t → (w : ℕ)
        → Holds AreOf (level_from root under kept written t w)
    level_holds under forms kept written none h w = tt
    level_holds under forms kept written (plain key place text rest) h w =
        let follows : Counted (List Entry) = path_of place text >>= λ path. substituted root under written key place path in
        then_holds AreOf AreOf (cond (is_substitution key) follows (pure (text_entry key place text ∷ [])) w) (λ entries. level_from root under kept written rest >>= λ others. pure (entries ++ others))
        (either_holds (is_substitution key) follows (pure (text_entry key place text ∷ [])) w
        (then_holds Any AreOf (path_of place text w) (λ path. substituted root under written key place path) (path_holds place h.0 (components text) w)
        (λ path k v. substituted_holds under forms written key place h.0 path v)) (tt, tt))
        (λ entries k v. then_holds AreOf AreOf (level_from root under kept written rest v) (λ others. pure (entries ++ others)) (level_holds under forms kept written rest h.1 v)
        (λ others j u. of_both entries others k j))
    level_holds under forms kept written (list key place inner rest) h w =
        let expanded : Counted Attributes = expand (level_from root under (λ _. false) inner inner) in
        let entry : Entry = list_entry key place inner (cond (kept key) (pure inner) expanded) in
        then_holds AreOf AreOf (cond (is_substitution key) (refuse (fault.BadPath place)) (pure (entry ∷ [])) w) (λ entries. level_from root under kept written rest >>= λ others. pure (entries ++ others))
        (either_holds (is_substitution key) (refuse (fault.BadPath place)) (pure (entry ∷ [])) w h.0
        ((h.1, λ v. either_tree (kept key) inner expanded v (expand_holds (level_from root under (λ _. false) inner inner) v (level_holds under forms (λ _. false) inner inner h.1 v))), tt))
        (λ entries k v. then_holds AreOf AreOf (level_from root under kept written rest v) (λ others. pure (entries ++ others)) (level_holds under forms kept written rest h.2 v)
        (λ others j u. of_both entries others k j))
      where
        either_tree : (b : Bool) (tree : Attributes) (m : Counted Attributes) (v : ℕ) → Holds {A = Attributes} Any (m v) → Holds {A = Attributes} Any (cond b (pure tree) m v)
        either_tree true tree m v k = tt
        either_tree false tree m v k = k

    below_holds : (left : ℕ) → FormsBelow (below root left)
    unfolding below
    below_holds zero = tt
    below_holds (suc left) = λ t all w. level_holds (below root left) (below_holds left) (λ _. false) t t all w

    fault_holds : (r : Result (Attributes × ℕ) PathFault) → Holds Any r → (f : PathFault) → result_of r ≡ Err f → HasPlace P f
    fault_holds (Ok found) h f is = absurd (cc)
    fault_holds (Err reason) h f is = let same : reason ≡ f = cc in subst (λ (x : PathFault). HasPlace P x) same h

    pub fault_placed : (f : PathFault) → resolved root ≡ Err f → HasPlace P f
    unfolding resolved
    fault_placed f is =
        fault_holds (expand (level_from root (below root most_nested) is_schemas root root) 0)
        (expand_holds (level_from root (below root most_nested) is_schemas root root) 0 (level_holds (below root most_nested) (below_holds most_nested) is_schemas root root placed 0)) f is

pub fault_in_files : (names : List (List ℕ)) (root : Attributes) → ArePlaced names root → (f : PathFault) → (f ≡ fault.Memory) ⊎ (resolved root ≡ Err f) → IsPlaced names f
fault_in_files names root placed f (inl is) = subst (λ (x : PathFault). IsPlaced names x) (sym is) tt
fault_in_files names root placed f (inr is) = fault_placed (λ place. place.file < length names) root placed f is

-- what such a fault is refused with
pub path_of_model : (names : List (List ℕ)) (f : PathFault) (r : Refusal) → IsPlaced names f → ¬ (f ≡ fault.Memory) → (r ≡ refusal.Memory) ⊎ (r ≡ refusal.Path (file_of_fault names f) f) → IsOfModel names r
path_of_model names f r placed differs (inl is) = subst (λ (s : Refusal). IsOfModel names s) (sym is) tt
path_of_model names f r placed differs (inr is) = subst (λ (s : Refusal). IsOfModel names s) (sym is) (refl, placed, differs)
