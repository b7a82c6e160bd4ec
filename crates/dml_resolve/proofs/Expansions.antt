-- A level expanded attribute by attribute, and how much is counted.
use Rattle.std.proofs.Common.{◌≡◌, ℕ, ◌<◌, ◌≤◌, ◌+◌, ◌⊎◌, inl, inr, suc, Bool, true, false, List, [], ◌∷◌, ◌++◌, length, get_or, drop, refl, ap, sym, ◌∙◌, arith, drop_of_length-le}
use Rattle.std.specs.Prelude.{if◌then◌else◌, Result, Ok, Err, IfOk, IfErr}
use Rattle.dml_tree.specs.declared.tree.Place.{Place}
use Rattle.dml_tree.specs.declared.tree.Attribute.{Attribute}
use Rattle.dml_tree.specs.declared.tree.Value.{Value}
use Rattle.dml_tree.specs.declared.tree.Value.TheVariants as value
use Rattle.dml_tree.specs.Attributes.{Attributes, none, plain, list, weight}
use Rattle.dml_tree.specs.TreeView.{tree_of, with_value, joined}
use Rattle.dml_tree.proofs.TreeLists.{tree_of-append}
use Rattle.dml_resolve.specs.declared.members.Member.{Member}
use Rattle.dml_resolve.specs.declared.resolving.PathFault.{PathFault}
use Rattle.dml_resolve.specs.Resolving.{Counted, pure, and_then, ◌>>=◌, count, Entry, expand, expand_entries, level, is_schemas, counted_weight, most_nested, result_of, resolved}
use Rattle.dml_resolve.specs.Members.{entry_from, entries_of, value_of, value_by, value_weight, weight_at, level_at}
use Rattle.dml_resolve.proofs.Entries.{drop_item}
use Rattle.dml_resolve.proofs.LevelSteps.{Outcome, bind_ok, bind_err}

-- these attributes, and then those that follow
abbrev pub onto : Attributes → Outcome Attributes → Outcome Attributes
onto before (Ok found) = Ok (joined before found.0, found.1)
onto before (Err reason) = Err reason

through_list : (r : Outcome Attributes) (f : Value → Counted Attributes) → and_then r (λ tree. f (value.List tree)) ≡ and_then (and_then r (λ tree. pure (value.List tree))) f
through_list (Ok found) f = refl
through_list (Err reason) f = refl

expand_one : (root : Attributes) (left : ℕ) (kept : Bool) (key : List ℕ) (place : Place) (v : Value) (others : List Entry) (w : ℕ) →
    expand_entries (entry_from root left kept key place v ∷ others) w ≡ and_then (value_by root left kept v w) (λ v. expand_entries others >>= λ rest. pure (with_value key place v rest))
expand_one root left kept key place (value.Plain text) others w = refl
expand_one root left kept key place (value.List inner) others w = through_list ((if kept then pure inner else expand (level root left inner)) w) (λ v. expand_entries others >>= λ rest. pure (with_value key place v rest))

expand_at : (root : Attributes) (ms : List Member) (i : ℕ) (m : Member) (w : ℕ) → i < length ms → m ≡ get_or ms i m →
    expand_entries (entries_of root (drop i ms)) w ≡ and_then (value_of root m w) (λ v. expand_entries (entries_of root (drop (i + 1) ms)) >>= λ rest. pure (with_value m.attribute.now.key m.attribute.now.place v rest))
expand_at root ms i m w lt is =
    ap (λ l. expand_entries (entries_of root l) w) (drop_item ms i m lt is)
    ∙ expand_one root m.left m.kept m.attribute.now.key m.attribute.now.place m.attribute.now.value (entries_of root (drop (i + 1) ms)) w

joined_one : (before : Attributes) (key : List ℕ) (place : Place) (v : Value) (rest : Attributes) → joined before (with_value key place v rest) ≡ joined (joined before (with_value key place v none)) rest
joined_one none key place (value.Plain text) rest = refl
joined_one none key place (value.List inner) rest = refl
joined_one (plain k p t r) key place v rest = ap (plain k p t) (joined_one r key place v rest)
joined_one (list k p n r) key place v rest = ap (list k p n) (joined_one r key place v rest)

onto_one : (before : Attributes) (key : List ℕ) (place : Place) (v : Value) (r : Outcome Attributes) → onto before (and_then r (λ rest. pure (with_value key place v rest))) ≡ onto (joined before (with_value key place v none)) r
onto_one before key place v (Ok found) = ap (λ (t : Attributes). Ok (t, found.1)) (joined_one before key place v found.0)
onto_one before key place v (Err reason) = refl

tree_of-one : (xs : List Attribute) (x : Attribute) → tree_of (xs ++ x ∷ []) ≡ joined (tree_of xs) (with_value x.key x.place x.value none)
tree_of-one xs x = tree_of-append xs (x ∷ [])

-- one more attribute was expanded
pub expand_step : (root : Attributes) (ms : List Member) (i : ℕ) (m : Member) (xs : List Attribute) (x : Attribute) (w w' : ℕ) → i < length ms → m ≡ get_or ms i m →
    value_of root m w ≡ Ok (x.value, w') → m.attribute.now.key ≡ x.key → m.attribute.now.place ≡ x.place →
    onto (tree_of xs) (expand_entries (entries_of root (drop i ms)) w) ≡ onto (tree_of (xs ++ x ∷ [])) (expand_entries (entries_of root (drop (i + 1) ms)) w')
expand_step root ms i m xs x w w' lt is e key place =
    let rest = expand_entries (entries_of root (drop (i + 1) ms)) in
    ap (onto (tree_of xs)) (expand_at root ms i m w lt is ∙ bind_ok (value_of root m w) x.value w' (λ v. expand_entries (entries_of root (drop (i + 1) ms)) >>= λ rest. pure (with_value m.attribute.now.key m.attribute.now.place v rest)) e)
    ∙ (onto_one (tree_of xs) m.attribute.now.key m.attribute.now.place x.value (expand_entries (entries_of root (drop (i + 1) ms)) w')
    ∙ (ap (λ k. onto (joined (tree_of xs) (with_value k m.attribute.now.place x.value none)) (expand_entries (entries_of root (drop (i + 1) ms)) w')) key
    ∙ (ap (λ p. onto (joined (tree_of xs) (with_value x.key p x.value none)) (expand_entries (entries_of root (drop (i + 1) ms)) w')) place
    ∙ ap (λ t. onto t (expand_entries (entries_of root (drop (i + 1) ms)) w')) (sym (tree_of-one xs x)))))

pub expand_fault : (root : Attributes) (ms : List Member) (i : ℕ) (m : Member) (before : Attributes) (w : ℕ) (reason : PathFault) → i < length ms → m ≡ get_or ms i m →
    value_of root m w ≡ Err reason → onto before (expand_entries (entries_of root (drop i ms)) w) ≡ Err reason
expand_fault root ms i m before w reason lt is e =
    ap (onto before) (expand_at root ms i m w lt is ∙ bind_err (value_of root m w) reason _ e)

joined_none : (t : Attributes) → joined t none ≡ t
joined_none none = refl
joined_none (plain k p t r) = ap (plain k p t) (joined_none r)
joined_none (list k p n r) = ap (list k p n) (joined_none r)

pub expand_end : (root : Attributes) (ms : List Member) (i : ℕ) (before : Attributes) (w : ℕ) → length ms ≤ i → onto before (expand_entries (entries_of root (drop i ms)) w) ≡ Ok (before, w)
expand_end root ms i before w le =
    ap (λ l. onto before (expand_entries (entries_of root l) w)) (drop_of_length-le ms le) ∙ ap (λ (t : Attributes). Ok (t, w)) (joined_none before)

pub onto_none : (r : Outcome Attributes) → onto none r ≡ r
onto_none (Ok found) = refl
onto_none (Err reason) = refl

length-entries_of : (root : Attributes) (ms : List Member) → length (entries_of root ms) ≡ length ms
length-entries_of root [] = refl
length-entries_of root (m ∷ ms) = ap suc (length-entries_of root ms)

-- a level that is complete
pub expand_level : (root : Attributes) (formed : Counted (List Entry)) (ms : List Member) (w w' : ℕ) → formed w ≡ Ok (entries_of root ms, w') →
    expand formed w ≡ and_then (count (length ms) w') (λ _. expand_entries (entries_of root ms))
expand_level root formed ms w w' e =
    bind_ok (formed w) (entries_of root ms) w' (λ entries. count (length entries) >>= λ _. expand_entries entries) e
    ∙ ap (λ n. and_then (count n w') (λ _. expand_entries (entries_of root ms))) (length-entries_of root ms)

-- a level that is complete and counted
pub expand_counted : (root : Attributes) (formed : Counted (List Entry)) (ms : List Member) (w w' w'' : ℕ) → formed w ≡ Ok (entries_of root ms, w') → count (length ms) w' ≡ Ok (tt, w'') →
    expand formed w ≡ expand_entries (entries_of root ms) w''
expand_counted root formed ms w w' w'' e f =
    expand_level root formed ms w w' e ∙ bind_ok (count (length ms) w') tt w'' (λ _. expand_entries (entries_of root ms)) f

pub expand_too_large : (root : Attributes) (formed : Counted (List Entry)) (ms : List Member) (w w' : ℕ) (reason : PathFault) → formed w ≡ Ok (entries_of root ms, w') → count (length ms) w' ≡ Err reason →
    expand formed w ≡ Err reason
expand_too_large root formed ms w w' reason e f =
    expand_level root formed ms w w' e ∙ bind_err (count (length ms) w') reason (λ _. expand_entries (entries_of root ms)) f

weight-joined : (t u : Attributes) → weight (joined t u) ≡ weight t + weight u
weight-joined none u = omega arith
weight-joined (plain k p t r) u = omega (arith, weight-joined r u)
weight-joined (list k p n r) u = omega (arith, weight-joined r u)

counted_weight-joined : (t u : Attributes) → counted_weight (joined t u) ≡ counted_weight t + counted_weight u
counted_weight-joined none u = omega arith
counted_weight-joined (plain k p t r) u = omega (arith, counted_weight-joined r u)
counted_weight-joined (list k p n r) u = omega (arith, counted_weight-joined r u)

-- what an attribute of a resolved list adds to what was counted
abbrev pub own_weight : Bool → Value → ℕ
own_weight true v = 0
own_weight false v = value_weight v

weight_one : (key : List ℕ) (place : Place) (v : Value) → weight (with_value key place v none) ≡ 1 + value_weight v
weight_one key place (value.Plain text) = omega arith
weight_one key place (value.List inner) = omega arith

schemas_or : (s kept : Bool) (n : ℕ) → (kept ≡ true → s ≡ true) → (if s then 0 else n) ≤ (if kept then 0 else n)
schemas_or true kept n h = omega arith
schemas_or false true n h = let e : false ≡ true = h refl in absurd (cc)
schemas_or false false n h = omega arith

counted_one : (key : List ℕ) (place : Place) (v : Value) (kept : Bool) → (kept ≡ true → is_schemas key ≡ true) → counted_weight (with_value key place v none) ≤ 1 + (if kept then 0 else value_weight v)
counted_one key place (value.Plain text) kept h = omega arith
counted_one key place (value.List inner) kept h = omega (arith, schemas_or (is_schemas key) kept (weight inner) h)

not_kept : (kept : Bool) (n : ℕ) → kept ≡ false → n ≤ (if kept then 0 else n)
not_kept true n e = absurd (cc)
not_kept false n e = omega arith

-- one more attribute weighs one, and what its list does where it is not kept
pub weight_step : (is_root : Bool) (xs : List Attribute) (x : Attribute) (kept : Bool) → (is_root ≡ false → kept ≡ false) → (kept ≡ true → is_schemas x.key ≡ true) →
    weight_at is_root (tree_of (xs ++ x ∷ [])) ≤ weight_at is_root (tree_of xs) + 1 + (if kept then 0 else value_weight x.value)
weight_step true xs x kept expands schemas =
    let e : counted_weight (tree_of (xs ++ x ∷ [])) ≡ counted_weight (tree_of xs) + counted_weight (with_value x.key x.place x.value none) = ap counted_weight (tree_of-one xs x) ∙ counted_weight-joined (tree_of xs) _ in
    omega (arith, counted_one x.key x.place x.value kept schemas)
weight_step false xs x kept expands schemas =
    let e : weight (tree_of (xs ++ x ∷ [])) ≡ weight (tree_of xs) + weight (with_value x.key x.place x.value none) = ap weight (tree_of-one xs x) ∙ weight-joined (tree_of xs) _ in
    omega (arith, weight_one x.key x.place x.value, not_kept kept (value_weight x.value) (expands refl))

pub weight_at-none : (is_root : Bool) → weight_at is_root none ≡ 0
weight_at-none true = refl
weight_at-none false = refl

pub resolved_ok : (root same tree : Attributes) (w w' : ℕ) → same ≡ root → w ≡ 0 → expand (level_at same most_nested true root) w ≡ Ok (tree, w') → resolved root ≡ Ok tree
unfolding resolved
resolved_ok root same tree w w' i e f = ap (λ n. result_of (expand (level_at root most_nested true root) n)) (sym e) ∙ (ap (λ r. result_of (expand (level_at r most_nested true root) w)) (sym i) ∙ ap result_of f)

pub resolved_err : (root same : Attributes) (w : ℕ) (reason : PathFault) → same ≡ root → w ≡ 0 → expand (level_at same most_nested true root) w ≡ Err reason → resolved root ≡ Err reason
unfolding resolved
resolved_err root same w reason i e f = ap (λ n. result_of (expand (level_at root most_nested true root) n)) (sym e) ∙ (ap (λ r. result_of (expand (level_at r most_nested true root) w)) (sym i) ∙ ap result_of f)

pub if_ok : {T E : Type 0} {P Q : T → Type 0} (r : Result T E) → ((x : T) → P x → Q x) → IfOk r P → IfOk r Q
if_ok (Ok x) f h = f x h
if_ok (Err e) f h = h

pub if_err : {T E : Type 0} {P Q : E → Type 0} (r : Result T E) → ((e : E) → P e → Q e) → IfErr r P → IfErr r Q
if_err (Ok x) f h = h
if_err (Err e) f h = f e h

pub or_fault : {M P Q : Type 0} → (P → Q) → M ⊎ P → M ⊎ Q
or_fault f (inl m) = inl m
or_fault f (inr p) = inr (f p)
