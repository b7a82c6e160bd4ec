-- A level attribute by attribute, and a substitution step by step.
use Rattle.std.proofs.Common.{◌≡◌, ℕ, ◌<◌, ◌≤◌, ◌+◌, ◌-◌, suc, Bool, true, false, List, [], ◌∷◌, ◌++◌, length, get_or, drop, map, filter, refl, ap, sym, ◌∙◌, arith, append_assoc, append-nil}
use Rattle.std.specs.Prelude.{not, ◌&&◌, if◌then◌else◌, Result, Ok, Err, OnOk, Some}
use Rattle.dml_tree.specs.declared.tree.Place.{Place}
use Rattle.dml_tree.specs.declared.tree.Attribute.{Attribute}
use Rattle.dml_tree.specs.declared.tree.Value.{Value}
use Rattle.dml_tree.specs.declared.tree.Value.TheVariants as value
use Rattle.dml_tree.specs.Attributes.{Attributes}
use Rattle.dml_tree.specs.TreeView.{tree_of, with_value}
use Rattle.dml_resolve.specs.declared.members.Member.{Member}
use Rattle.dml_resolve.specs.declared.resolving.PathFault.{PathFault}
use Rattle.dml_resolve.specs.declared.resolving.PathFault.TheVariants as fault
use Rattle.dml_resolve.specs.Resolving.{Counted, pure, refuse, and_then, ◌>>=◌, count, expand, Entry, text_entry, list_entry, entry_key, same_key, has_plain, is_find, is_substitution, is_schemas, plain_entries, moved, level, level_from, below, first_list, known, with_key, named, named_from, substituted, path_of, path_or_fault, components}
use Rattle.dml_resolve.specs.Members.{entry_from, entries_of, given, given_by, followed, followed_by, adds, is_keyed, is_missing, moved_to}
use Rattle.dml_resolve.proofs.Entries.{tree_item, tree_end, moved_all, keyed, missing, entries_of-append}

abbrev pub Outcome : Type 0 → Type 0
Outcome A = Result (A × ℕ) PathFault

ok_pair : {A : Type 0} (a b : A × ℕ) (r : Outcome A) → r ≡ Ok a → r ≡ Ok b → a ≡ b
ok_pair a b r e f = cc

-- of a call that succeeds another fact holds where this one does
pub on_ok : {T E P Q : Type 0} (r : Result T E) → (P → Q) → OnOk r P → OnOk r Q
on_ok (Ok x) f h = f h
on_ok (Err e) f h = h

pub bind_ok : {A B : Type 0} (r : Outcome A) (x : A) (w : ℕ) (f : A → Counted B) → r ≡ Ok (x, w) → and_then r f ≡ f x w
bind_ok r x w f e = ap (λ o. and_then o f) e

pub bind_err : {A B : Type 0} (r : Outcome A) (reason : PathFault) (f : A → Counted B) → r ≡ Err reason → and_then r f ≡ Err reason
bind_err r reason f e = ap (λ o. and_then o f) e

-- the level of the attributes of a list from some place on
abbrev pub levels : Attributes → ℕ → Bool → Attributes → Attributes → Counted (List Entry)
levels root left is_root written rest = level_from root (below root left) (λ key. is_root && is_schemas key) written rest

levels-with_value : (root : Attributes) (left : ℕ) (is_root : Bool) (written : Attributes) (key : List ℕ) (place : Place) (v : Value) (rest : Attributes) (w : ℕ) →
    levels root left is_root written (with_value key place v rest) w ≡ (given_by root left is_root written key place v >>= λ entries. levels root left is_root written rest >>= λ others. pure (entries ++ others)) w
levels-with_value root left is_root written key place (value.Plain text) rest w = refl
levels-with_value root left is_root written key place (value.List inner) rest w = refl

pub levels_at : (root : Attributes) (left : ℕ) (is_root : Bool) (written : Attributes) (xs : List Attribute) (i : ℕ) (x : Attribute) (w : ℕ) → i < length xs → x ≡ get_or xs i x →
    levels root left is_root written (tree_of (drop i xs)) w ≡ (given root left is_root written x >>= λ entries. levels root left is_root written (tree_of (drop (i + 1) xs)) >>= λ others. pure (entries ++ others)) w
levels_at root left is_root written xs i x w lt is =
    ap (λ t. levels root left is_root written t w) (tree_item xs i x lt is)
    ∙ levels-with_value root left is_root written x.key x.place x.value (tree_of (drop (i + 1) xs)) w

adds_others : (old entries : List Entry) (r : Outcome (List Entry)) → adds old (and_then r (λ others. pure (entries ++ others))) ≡ adds (old ++ entries) r
adds_others old entries (Ok found) = ap (λ (l : List Entry). Ok (l, found.1)) (sym (append_assoc old entries found.0))
adds_others old entries (Err reason) = refl

adds_then : (old new : List Entry) (r : Outcome (List Entry)) (w : ℕ) (f : Counted (List Entry)) → adds old r ≡ Ok (new, w) → adds old (and_then r (λ entries. f >>= λ others. pure (entries ++ others))) ≡ adds new (f w)
adds_then old new (Ok found) w f e =
    let pair = ok_pair (old ++ found.0, found.1) (new, w) (Ok (old ++ found.0, found.1)) refl e in
    let entries : old ++ found.0 ≡ new = ap (λ (p : List Entry × ℕ). p.0) pair in
    let counted : found.1 ≡ w = ap (λ (p : List Entry × ℕ). p.1) pair in
    adds_others old found.0 (f found.1) ∙ (ap (λ l. adds l (f found.1)) entries ∙ ap (λ n. adds new (f n)) counted)
adds_then old new (Err reason) w f e = absurd (cc)

-- one more attribute was gone over
pub levels_step : (root : Attributes) (left : ℕ) (is_root : Bool) (written : Attributes) (xs : List Attribute) (i : ℕ) (x : Attribute) (old new : List Entry) (w w' : ℕ) → i < length xs → x ≡ get_or xs i x →
    adds old (given root left is_root written x w) ≡ Ok (new, w') → adds old (levels root left is_root written (tree_of (drop i xs)) w) ≡ adds new (levels root left is_root written (tree_of (drop (i + 1) xs)) w')
levels_step root left is_root written xs i x old new w w' lt is e =
    ap (adds old) (levels_at root left is_root written xs i x w lt is)
    ∙ adds_then old new (given root left is_root written x w) w' (levels root left is_root written (tree_of (drop (i + 1) xs))) e

pub levels_fault : (root : Attributes) (left : ℕ) (is_root : Bool) (written : Attributes) (xs : List Attribute) (i : ℕ) (x : Attribute) (old : List Entry) (w : ℕ) (reason : PathFault) → i < length xs → x ≡ get_or xs i x →
    given root left is_root written x w ≡ Err reason → adds old (levels root left is_root written (tree_of (drop i xs)) w) ≡ Err reason
levels_fault root left is_root written xs i x old w reason lt is e =
    ap (adds old) (levels_at root left is_root written xs i x w lt is ∙ bind_err (given root left is_root written x w) reason _ e)

pub levels_end : (root : Attributes) (left : ℕ) (is_root : Bool) (written : Attributes) (xs : List Attribute) (i : ℕ) (old : List Entry) (w : ℕ) → length xs ≤ i → adds old (levels root left is_root written (tree_of (drop i xs)) w) ≡ Ok (old, w)
levels_end root left is_root written xs i old w le =
    ap (λ t. adds old (levels root left is_root written t w)) (tree_end xs i le) ∙ ap (λ (l : List Entry). Ok (l, w)) (append-nil old)

-- nothing before
pub adds_none : (r : Outcome (List Entry)) → adds [] r ≡ r
adds_none (Ok found) = refl
adds_none (Err reason) = refl

-- what is done with the attributes that a path names
abbrev pub ending : Attributes → ℕ → Attributes → List ℕ → Place → List Entry → Counted (List Entry)
ending root l written key place found =
    if is_find key then pure (moved (level root l) found)
    else (first_list place found >>= λ included. level root l included >>= λ entries. pure (filter (λ entry. not (has_plain written (entry_key entry))) entries))

-- a path that was read
pub followed_path : (root : Attributes) (left : ℕ) (written : Attributes) (key : List ℕ) (place : Place) (v : Value) (text : List ℕ) (path : List (List ℕ)) (w : ℕ) → v ≡ value.Plain text → components text ≡ Some path →
    followed_by root left written key place v w ≡ substituted root (below root left) written key place path w
followed_path root left written key place v text path w e f =
    ap (λ u. followed_by root left written key place u w) e
    ∙ ap (λ p. and_then (path_or_fault place p w) (λ path. substituted root (below root left) written key place path)) f

-- a substitution that was counted
pub followed_counted : (root : Attributes) (left l : ℕ) (written : Attributes) (key : List ℕ) (place : Place) (path : List (List ℕ)) (w w' : ℕ) → left ≡ suc l → count 1 w ≡ Ok (tt, w') →
    substituted root (below root left) written key place path w ≡ and_then (named place (level root l) path (plain_entries (level root l) root) w') (ending root l written key place)
unfolding below
followed_counted root left l written key place path w w' e f =
    ap (λ n. substituted root (below root n) written key place path w) e
    ∙ bind_ok (count 1 w) tt w' (λ _. named place (level root l) path (plain_entries (level root l) root) >>= λ found. ending root l written key place found) f

pub counted_fault : (root : Attributes) (left l : ℕ) (written : Attributes) (key : List ℕ) (place : Place) (path : List (List ℕ)) (w : ℕ) (reason : PathFault) → left ≡ suc l → count 1 w ≡ Err reason →
    substituted root (below root left) written key place path w ≡ Err reason
unfolding below
counted_fault root left l written key place path w reason e f =
    ap (λ n. substituted root (below root n) written key place path w) e
    ∙ bind_err (count 1 w) reason (λ _. named place (level root l) path (plain_entries (level root l) root) >>= λ found. ending root l written key place found) f

pub too_deep : (root : Attributes) (left : ℕ) (written : Attributes) (key : List ℕ) (place : Place) (path : List (List ℕ)) (w : ℕ) → left ≡ 0 → substituted root (below root left) written key place path w ≡ Err (fault.TooDeep place)
unfolding below
too_deep root left written key place path w e = ap (λ n. substituted root (below root n) written key place path w) e

pub ending_find : (root : Attributes) (l : ℕ) (written : Attributes) (key : List ℕ) (place : Place) (found : List Member) (w : ℕ) → is_find key ≡ true → ending root l written key place (entries_of root found) w ≡ Ok (entries_of root (map (moved_to l) found), w)
ending_find root l written key place found w e =
    ap (λ b. (if b then pure (moved (level root l) (entries_of root found)) else (first_list place (entries_of root found) >>= λ included. level root l included >>= λ entries. pure (filter (λ entry. not (has_plain written (entry_key entry))) entries))) w) e
    ∙ ap (λ (l : List Entry). Ok (l, w)) (moved_all root l found)

pub ending_extends : (root : Attributes) (l : ℕ) (written : Attributes) (key : List ℕ) (place : Place) (found : List Entry) (w : ℕ) → is_find key ≡ false →
    ending root l written key place found w ≡ (first_list place found >>= λ included. level root l included >>= λ entries. pure (filter (λ entry. not (has_plain written (entry_key entry))) entries)) w
ending_extends root l written key place found w e =
    ap (λ b. (if b then pure (moved (level root l) found) else (first_list place found >>= λ included. level root l included >>= λ entries. pure (filter (λ entry. not (has_plain written (entry_key entry))) entries))) w) e

pub ending_included : (root : Attributes) (l : ℕ) (written : Attributes) (key : List ℕ) (place : Place) (found : List Entry) (named_list : Attributes) (w : ℕ) → is_find key ≡ false → first_list place found w ≡ Ok (named_list, w) →
    ending root l written key place found w ≡ (level root l named_list >>= λ entries. pure (filter (λ entry. not (has_plain written (entry_key entry))) entries)) w
ending_included root l written key place found named_list w e f =
    ending_extends root l written key place found w e
    ∙ bind_ok (first_list place found w) named_list w (λ included. level root l included >>= λ entries. pure (filter (λ entry. not (has_plain written (entry_key entry))) entries)) f

pub included_level : (root : Attributes) (l : ℕ) (written named_list : Attributes) (included : List Member) (w w' : ℕ) → level root l named_list w ≡ Ok (entries_of root included, w') →
    (level root l named_list >>= λ entries. pure (filter (λ entry. not (has_plain written (entry_key entry))) entries)) w ≡ Ok (entries_of root (filter (is_missing written) included), w')
included_level root l written named_list included w w' e =
    bind_ok (level root l named_list w) (entries_of root included) w' (λ entries. pure (filter (λ entry. not (has_plain written (entry_key entry))) entries)) e
    ∙ ap (λ (l : List Entry). Ok (l, w')) (missing root written included)

-- a plain attribute gives itself
given_plain_by : (root : Attributes) (left : ℕ) (is_root : Bool) (written : Attributes) (key : List ℕ) (place : Place) (v : Value) (w : ℕ) → is_substitution key ≡ false →
    given_by root left is_root written key place v w ≡ Ok (entry_from root left (is_root && is_schemas key) key place v ∷ [], w)
given_plain_by root left is_root written key place (value.Plain text) w h =
    ap (λ b. (if b then (path_of place text >>= λ path. substituted root (below root left) written key place path) else pure (text_entry key place text ∷ [])) w) h
given_plain_by root left is_root written key place (value.List inner) w h =
    ap (λ b. (if b then refuse (fault.BadPath place) else pure (list_entry key place inner (if is_root && is_schemas key then pure inner else expand (level root left inner)) ∷ [])) w) h

pub given_plain : (root : Attributes) (left : ℕ) (is_root : Bool) (written : Attributes) (x : Attribute) (old new : List Member) (m : Member) (w : ℕ) → is_substitution x.key ≡ false →
    new ≡ old ++ m ∷ [] → m.left ≡ left → m.kept ≡ (is_root && is_schemas x.key) → m.attribute.now ≡ x →
    adds (entries_of root old) (given root left is_root written x w) ≡ Ok (entries_of root new, w)
given_plain root left is_root written x old new m w h e a b d =
    ap (adds (entries_of root old)) (given_plain_by root left is_root written x.key x.place x.value w h)
    ∙ ap (λ (l : List Entry). Ok (l, w)) (
    ap (λ k. entries_of root old ++ entry_from root left k x.key x.place x.value ∷ []) (sym b)
    ∙ (ap (λ n. entries_of root old ++ entry_from root n m.kept x.key x.place x.value ∷ []) (sym a)
    ∙ (ap (λ (y : Attribute). entries_of root old ++ entry_from root m.left m.kept y.key y.place y.value ∷ []) (sym d)
    ∙ (sym (entries_of-append root old (m ∷ [])) ∙ ap (entries_of root) (sym e)))))

-- a substitution gives what following it gives
given_followed_by : (root : Attributes) (left : ℕ) (is_root : Bool) (written : Attributes) (key : List ℕ) (place : Place) (v : Value) (w : ℕ) → is_substitution key ≡ true →
    given_by root left is_root written key place v w ≡ followed_by root left written key place v w
given_followed_by root left is_root written key place (value.Plain text) w h =
    ap (λ b. (if b then (path_of place text >>= λ path. substituted root (below root left) written key place path) else pure (text_entry key place text ∷ [])) w) h
given_followed_by root left is_root written key place (value.List inner) w h =
    ap (λ b. (if b then refuse (fault.BadPath place) else pure (list_entry key place inner (if is_root && is_schemas key then pure inner else expand (level root left inner)) ∷ [])) w) h

pub given_followed : (root : Attributes) (left : ℕ) (is_root : Bool) (written : Attributes) (x : Attribute) (w : ℕ) → is_substitution x.key ≡ true →
    given root left is_root written x w ≡ followed root left written x w
given_followed root left is_root written x w h = given_followed_by root left is_root written x.key x.place x.value w h

-- a substitution whose path was read and that was counted
pub followed_named : (root : Attributes) (left : ℕ) (written : Attributes) (x : Attribute) (text : List ℕ) (path : List (List ℕ)) (w w' : ℕ) → (left ≡ 0 → ⊥) → x.value ≡ value.Plain text → components text ≡ Some path → count 1 w ≡ Ok (tt, w') →
    followed root left written x w ≡ and_then (named x.place (level root (left - 1)) path (plain_entries (level root (left - 1)) root) w') (ending root (left - 1) written x.key x.place)
followed_named root left written x text path w w' some e f counted =
    followed_path root left written x.key x.place x.value text path w e f
    ∙ followed_counted root left (left - 1) written x.key x.place path w w' (omega arith) counted

pub followed_found : (root : Attributes) (left : ℕ) (written : Attributes) (x : Attribute) (text : List ℕ) (path : List (List ℕ)) (found : List Member) (w w' w'' : ℕ) → (left ≡ 0 → ⊥) → x.value ≡ value.Plain text → components text ≡ Some path → count 1 w ≡ Ok (tt, w') →
    named x.place (level root (left - 1)) path (plain_entries (level root (left - 1)) root) w' ≡ Ok (entries_of root found, w'') →
    followed root left written x w ≡ ending root (left - 1) written x.key x.place (entries_of root found) w''
followed_found root left written x text path found w w' w'' some e f counted g =
    followed_named root left written x text path w w' some e f counted
    ∙ bind_ok (named x.place (level root (left - 1)) path (plain_entries (level root (left - 1)) root) w') (entries_of root found) w'' (ending root (left - 1) written x.key x.place) g

pub followed_find : (root : Attributes) (left : ℕ) (written : Attributes) (x : Attribute) (found old new : List Member) (w w'' : ℕ) →
    followed root left written x w ≡ ending root (left - 1) written x.key x.place (entries_of root found) w'' → is_find x.key ≡ true → new ≡ old ++ map (moved_to (left - 1)) found →
    adds (entries_of root old) (followed root left written x w) ≡ Ok (entries_of root new, w'')
followed_find root left written x found old new w w'' e find is =
    ap (adds (entries_of root old)) (e ∙ ending_find root (left - 1) written x.key x.place found w'' find)
    ∙ ap (λ (l : List Entry). Ok (l, w'')) (sym (entries_of-append root old (map (moved_to (left - 1)) found)) ∙ ap (entries_of root) (sym is))

pub followed_list_fault : (root : Attributes) (left : ℕ) (written : Attributes) (x : Attribute) (found : List Member) (w w'' : ℕ) (reason : PathFault) →
    followed root left written x w ≡ ending root (left - 1) written x.key x.place (entries_of root found) w'' → is_find x.key ≡ false → first_list x.place (entries_of root found) w'' ≡ Err reason →
    followed root left written x w ≡ Err reason
followed_list_fault root left written x found w w'' reason e extends f =
    e ∙ (ending_extends root (left - 1) written x.key x.place (entries_of root found) w'' extends
    ∙ bind_err (first_list x.place (entries_of root found) w'') reason _ f)

pub followed_level_fault : (root : Attributes) (left : ℕ) (written : Attributes) (x : Attribute) (found : List Member) (named_list : Attributes) (w w'' : ℕ) (reason : PathFault) →
    followed root left written x w ≡ ending root (left - 1) written x.key x.place (entries_of root found) w'' → is_find x.key ≡ false → first_list x.place (entries_of root found) w'' ≡ Ok (named_list, w'') →
    level root (left - 1) named_list w'' ≡ Err reason → followed root left written x w ≡ Err reason
followed_level_fault root left written x found named_list w w'' reason e extends f g =
    e ∙ (ending_included root (left - 1) written x.key x.place (entries_of root found) named_list w'' extends f
    ∙ bind_err (level root (left - 1) named_list w'') reason _ g)

pub followed_extends : (root : Attributes) (left : ℕ) (written : Attributes) (x : Attribute) (found included old new : List Member) (named_list : Attributes) (w w'' w''' : ℕ) →
    followed root left written x w ≡ ending root (left - 1) written x.key x.place (entries_of root found) w'' → is_find x.key ≡ false → first_list x.place (entries_of root found) w'' ≡ Ok (named_list, w'') →
    level root (left - 1) named_list w'' ≡ Ok (entries_of root included, w''') → new ≡ old ++ filter (is_missing written) included →
    adds (entries_of root old) (followed root left written x w) ≡ Ok (entries_of root new, w''')
followed_extends root left written x found included old new named_list w w'' w''' e extends f g is =
    ap (adds (entries_of root old)) (e ∙ (ending_included root (left - 1) written x.key x.place (entries_of root found) named_list w'' extends f ∙ included_level root (left - 1) written named_list included w'' w''' g))
    ∙ ap (λ (l : List Entry). Ok (l, w''')) (sym (entries_of-append root old (filter (is_missing written) included)) ∙ ap (entries_of root) (sym is))

known_some : (root : Attributes) (place : Place) (ms : List Member) (w : ℕ) → 0 < length ms → known place (entries_of root ms) w ≡ Ok (entries_of root ms, w)
known_some root place [] w some = absurd (omega arith)
known_some root place (m ∷ ms) w some = refl

-- the attributes of a key that were found
pub keyed_some : (root : Attributes) (place : Place) (key : List ℕ) (entries : List Entry) (ms : List Member) (w : ℕ) → entries_of root ms ≡ filter (same_key key) entries → 0 < length ms → with_key place key entries w ≡ Ok (entries_of root ms, w)
keyed_some root place key entries ms w e some = ap (λ l. known place l w) (sym e) ∙ known_some root place ms w some

pub keyed_none : (root : Attributes) (place : Place) (key : List ℕ) (entries : List Entry) (ms : List Member) (w : ℕ) → entries_of root ms ≡ filter (same_key key) entries → ms ≡ [] → with_key place key entries w ≡ Err (fault.UnknownPath place)
keyed_none root place key entries ms w e none_left = ap (λ l. known place l w) (sym e) ∙ ap (λ l. known place (entries_of root l) w) none_left

-- the first component was looked up
pub named_first : (root : Attributes) (place : Place) (level : Attributes → Counted (List Entry)) (component : List ℕ) (others : List (List ℕ)) (entries : List Entry) (ms : List Member) (w : ℕ) →
    with_key place component entries w ≡ Ok (entries_of root ms, w) → named place level (component ∷ others) entries w ≡ named_from place level others (entries_of root ms) w
named_first root place level component others entries ms w e = bind_ok (with_key place component entries w) (entries_of root ms) w (λ found. named_from place level others found) e

-- one more component was looked up
pub named_step : (root : Attributes) (place : Place) (level : Attributes → Counted (List Entry)) (component : List ℕ) (others : List (List ℕ)) (found inside next : List Member) (named_list : Attributes) (w w' : ℕ) →
    first_list place (entries_of root found) w ≡ Ok (named_list, w) → level named_list w ≡ Ok (entries_of root inside, w') → next ≡ filter (is_keyed component) inside → 0 < length next →
    named_from place level (component ∷ others) (entries_of root found) w ≡ named_from place level others (entries_of root next) w'
named_step root place level component others found inside next named_list w w' e f g some =
    bind_ok (first_list place (entries_of root found) w) named_list w _ e
    ∙ (bind_ok (level named_list w) (entries_of root inside) w' (λ inside. with_key place component inside >>= λ found. named_from place level others found) f
    ∙ bind_ok (with_key place component (entries_of root inside) w') (entries_of root next) w' (λ found. named_from place level others found)
    (keyed_some root place component (entries_of root inside) next w' (ap (entries_of root) g ∙ sym (keyed root component inside)) some))

pub named_list_fault : (place : Place) (level : Attributes → Counted (List Entry)) (component : List ℕ) (others : List (List ℕ)) (found : List Entry) (w : ℕ) (reason : PathFault) →
    first_list place found w ≡ Err reason → named_from place level (component ∷ others) found w ≡ Err reason
named_list_fault place level component others found w reason e = bind_err (first_list place found w) reason _ e

pub named_level_fault : (place : Place) (level : Attributes → Counted (List Entry)) (component : List ℕ) (others : List (List ℕ)) (found : List Entry) (named_list : Attributes) (w : ℕ) (reason : PathFault) →
    first_list place found w ≡ Ok (named_list, w) → level named_list w ≡ Err reason → named_from place level (component ∷ others) found w ≡ Err reason
named_level_fault place level component others found named_list w reason e f =
    bind_ok (first_list place found w) named_list w _ e ∙ bind_err (level named_list w) reason (λ inside. with_key place component inside >>= λ found. named_from place level others found) f

pub named_unknown : (root : Attributes) (place : Place) (level : Attributes → Counted (List Entry)) (component : List ℕ) (others : List (List ℕ)) (found inside next : List Member) (named_list : Attributes) (w w' : ℕ) →
    first_list place (entries_of root found) w ≡ Ok (named_list, w) → level named_list w ≡ Ok (entries_of root inside, w') → next ≡ filter (is_keyed component) inside → next ≡ [] →
    named_from place level (component ∷ others) (entries_of root found) w ≡ Err (fault.UnknownPath place)
named_unknown root place level component others found inside next named_list w w' e f g none_left =
    bind_ok (first_list place (entries_of root found) w) named_list w _ e
    ∙ (bind_ok (level named_list w) (entries_of root inside) w' (λ inside. with_key place component inside >>= λ found. named_from place level others found) f
    ∙ bind_err (with_key place component (entries_of root inside) w') (fault.UnknownPath place) (λ found. named_from place level others found)
    (keyed_none root place component (entries_of root inside) next w' (ap (entries_of root) g ∙ sym (keyed root component inside)) none_left))
