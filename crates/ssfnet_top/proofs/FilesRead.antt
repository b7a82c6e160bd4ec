-- Files that are read one after another.
use Rattle.std.proofs.Common.{ℕ, zero, suc, ◌≡◌, ◌<◌, ◌+◌, ◌∙◌, sym, ap, subst, refl, List, [], ◌∷◌, length, get_or, drop, drop-cons, add-one, arith, inl, inr, ◌⊎◌, map, Option, Some, None, IfSome, Result, Ok, Err, string_bytes, String}
use Rattle.std.specs.List.{Contains}
use Rattle.std.specs.declared.alloc.Global.{Global}
use Rattle.sim_base.specs.Outside.{Files, IsLonger}
use Rattle.dml_tree.specs.Attributes.{Attributes, none, plain, list}
use Rattle.dml_tree.specs.TreeView.{joined}
use Rattle.dml_tree.specs.Reading.{Reads, most_bytes}
use Rattle.dml_tree.specs.declared.reading.TreeFault.{TreeFault}
use Rattle.dml_tree.specs.declared.reading.TreeFault.TheVariants as fault
use Rattle.ssfnet_top.specs.declared.refusal.Refusal.{Refusal}
use Rattle.ssfnet_top.specs.declared.refusal.Refusal.TheVariants as refusal
use Rattle.ssfnet_top.specs.Refusals.{status_of}
use Rattle.ssfnet_top.specs.Outcome.{IsRead, IsFileRead, AreRead}
use Rattle.ssfnet_top.specs.Answering.{IsOfFiles}
use Rattle.ssfnet_top.specs.Ending.{IsReached}

-- a file with these bytes has the fault
pub read_fault : (files : Files) (number : ℕ) (name bytes : List ℕ) (f : TreeFault) → files name ≡ Some bytes → Reads number bytes (Err f) → IsFileRead files number name (Err (refusal.Dml name f))
read_fault files number name bytes f there means =
    let P : Option (List ℕ) → Type 0 = λ o. IsRead name number o (Err (refusal.Dml name f)) in
    subst P (sym there) (Err f, means, refl)

-- what is read behind a tree
abbrev pub onto : Attributes → Result Attributes Refusal → Result Attributes Refusal
onto root (Ok others) = Ok (joined root others)
onto root (Err r) = Err r

pub joined_none : (t : Attributes) → joined t none ≡ t
joined_none none = refl
joined_none (plain key place text rest) = ap (plain key place text) (joined_none rest)
joined_none (list key place inner rest) = ap (list key place inner) (joined_none rest)

pub joined_joined : (a b c : Attributes) → joined (joined a b) c ≡ joined a (joined b c)
joined_joined none b c = refl
joined_joined (plain key place text rest) b c = ap (plain key place text) (joined_joined rest b c)
joined_joined (list key place inner rest) b c = ap (list key place inner) (joined_joined rest b c)

-- what the files from `number` on give decides what all give, their trees standing behind the root
abbrev pub Decides : Files → List (String Global) → ℕ → Attributes → Type 0
Decides files names number root =
    (others : Result Attributes Refusal) → AreRead files number (map string_bytes (drop number names)) others → AreRead files 0 (map string_bytes names) (onto root others)

names_at : (names : List (String Global)) (number : ℕ) (name : String Global) → number < length names → name ≡ get_or names number name
    → map string_bytes (drop number names) ≡ string_bytes name ∷ map string_bytes (drop (number + 1) names)
names_at names number name within is =
    rw add-one (ap (λ (l : List (String Global)). map string_bytes l) (drop-cons names number name within)
    ∙ ap (λ (n : String Global). string_bytes n ∷ map string_bytes (drop (suc number) names)) (sym is))

next_read : (files : Files) (number : ℕ) (name : List ℕ) (names : List (List ℕ)) (tree root : Attributes) (all : Result Attributes Refusal → Type 0)
    → IsFileRead files number name (Ok tree)
    → ((others : Result Attributes Refusal) → AreRead files number (name ∷ names) others → all (onto root others))
    → (others : Result Attributes Refusal) → AreRead files (number + 1) names others → all (onto (joined root tree) others)
next_read files number name names tree root all first before (Ok others) read =
    subst (λ (t : Attributes). all (Ok t)) (sym (joined_joined root tree others)) (before (Ok (joined tree others)) (tree, others, first, read, refl))
next_read files number name names tree root all first before (Err r) read = before (Err r) (inr (tree, first, read))

-- one more file was read
pub decides_next : (files : Files) (names : List (String Global)) (number : ℕ) (name : String Global) (tree root next : Attributes) → number < length names → name ≡ get_or names number name
    → IsFileRead files number (string_bytes name) (Ok tree) → next ≡ joined root tree → Decides files names number root → Decides files names (number + 1) next
decides_next files names number name tree root next within is first joins before =
    let all : Result Attributes Refusal → Type 0 = λ r. AreRead files 0 (map string_bytes names) r in
    let P : List (List ℕ) → Type 0 = λ l. (others : Result Attributes Refusal) → AreRead files number l others → all (onto root others) in
    let here : P (string_bytes name ∷ map string_bytes (drop (number + 1) names)) = subst P (names_at names number name within is) before in
    let Q : Attributes → Type 0 = λ t. Decides files names (number + 1) t in
    subst Q (sym joins) (next_read files number (string_bytes name) (map string_bytes (drop (number + 1) names)) tree root all first here)

-- a file was refused
pub decides_refused : (files : Files) (names : List (String Global)) (number : ℕ) (name : String Global) (r : Refusal) (root : Attributes) → number < length names → name ≡ get_or names number name
    → IsFileRead files number (string_bytes name) (Err r) → Decides files names number root → AreRead files 0 (map string_bytes names) (Err r)
decides_refused files names number name r root within is here before =
    let P : List (List ℕ) → Type 0 = λ l. AreRead files number l (Err r) in
    before (Err r) (subst P (sym (names_at names number name within is)) (inl here))

-- all files were read
pub decides_last : (files : Files) (names : List (String Global)) (number : ℕ) (root : Attributes) → drop number names ≡ [] → Decides files names number root → AreRead files 0 (map string_bytes names) (Ok root)
decides_last files names number root over before =
    let P : List (String Global) → Type 0 = λ l. AreRead files number (map string_bytes l) (Ok none) in
    let Q : Attributes → Type 0 = λ t. AreRead files 0 (map string_bytes names) (Ok t) in
    subst Q (joined_none root) (before (Ok none) (subst P (sym over) refl))

contains_at : (names : List (String Global)) (number : ℕ) (name : String Global) → number < length names → name ≡ get_or names number name → Contains (map string_bytes names) (string_bytes name)
contains_at [] number name within is = absurd (omega arith)
contains_at (n ∷ names) zero name within is = (zero, omega arith, ap (λ (s : String Global). string_bytes s) (sym is))
contains_at (n ∷ names) (suc number) name within is =
    let lower : number < length names = omega arith in
    let found = contains_at names number name lower is in
    let below : found.0 < length (map string_bytes names) = found.1 in
    (suc found.0, omega arith, found.2)

same_file : (name file : List ℕ) → Contains (name ∷ []) file → name ≡ file
same_file name file found = let below = found.1 in let first : found.0 ≡ zero = omega arith in
    let P : ℕ → Type 0 = λ k. get_or (name ∷ []) k file ≡ file in subst P first found.2

-- a refusal of one of the files
pub one_of_files : (names : List (String Global)) (number : ℕ) (name : String Global) (r : Refusal) → number < length names → name ≡ get_or names number name
    → IsOfFiles (string_bytes name ∷ []) r → IsOfFiles (map string_bytes names) r
one_of_files names number name refusal.Memory within is h = tt
one_of_files names number name refusal.Words within is h = h
one_of_files names number name (refusal.Read file) within is h =
    subst (λ (f : List ℕ). Contains (map string_bytes names) f) (same_file (string_bytes name) file h) (contains_at names number name within is)
one_of_files names number name (refusal.Dml file f) within is h =
    (subst (λ (g : List ℕ). Contains (map string_bytes names) g) (same_file (string_bytes name) file h.0) (contains_at names number name within is), h.1)
one_of_files names number name (refusal.Path file f) within is h = h
one_of_files names number name (refusal.Shape f) within is h = h
one_of_files names number name refusal.Write within is h = h
one_of_files names number name (refusal.Budget budget) within is h = h
one_of_files names number name (refusal.TimelineBudget timeline budget below) within is h = h
one_of_files names number name (refusal.MemoryBelow below) within is h = h
one_of_files names number name (refusal.Stopped worker below) within is h = h

-- a file that is reached from `number` on is reached
abbrev pub Reaches : Files → List (String Global) → ℕ → Type 0
Reaches files names number = (name : List ℕ) → IsReached files number (map string_bytes (drop number names)) name → IsReached files 0 (map string_bytes names) name

reaches_from : (files : Files) (names : List (String Global)) (number : ℕ) (name : String Global) → number < length names → name ≡ get_or names number name
    → Reaches files names number → (other : List ℕ) → IsReached files number (string_bytes name ∷ map string_bytes (drop (number + 1) names)) other
    → IsReached files 0 (map string_bytes names) other
reaches_from files names number name within is before other here =
    let P : List (List ℕ) → Type 0 = λ l. IsReached files number l other in
    before other (subst P (sym (names_at names number name within is)) here)

-- Where the files are told, and memory and the library did not fail (`M`).
module _ (M : Type 0) (names : List (String Global)) (number : ℕ) (name : String Global) (text : List ℕ) (spelt : text ≡ string_bytes name)
    (within : number < length names) (is : name ≡ get_or names number name) where
  pub files_refused : (told now : Option Files) (r : Refusal) (root : Attributes) → now ≡ told
      → M ⊎ IfSome now (λ files. IsFileRead files number text (Err r))
      → IfSome told (λ files. Decides files names number root)
      → M ⊎ IfSome told (λ files. AreRead files 0 (map string_bytes names) (Err r))
  files_refused told now r root same (inl failed) before = inl failed
  files_refused told now r root same (inr read) before =
      inr (refused_where told (subst (λ (o : Option Files). IfSome o (λ files. IsFileRead files number text (Err r))) same read) before)
    where
      refused_where : (o : Option Files) → IfSome o (λ files. IsFileRead files number text (Err r)) → IfSome o (λ files. Decides files names number root)
          → IfSome o (λ files. AreRead files 0 (map string_bytes names) (Err r))
      refused_where None here there = tt
      refused_where (Some files) here there =
          decides_refused files names number name r root within is (subst (λ (t : List ℕ). IsFileRead files number t (Err r)) spelt here) there

  pub files_next : (told now : Option Files) (tree root next : Attributes) → now ≡ told → next ≡ joined root tree
      → ⊥ ⊎ IfSome now (λ files. IsFileRead files number text (Ok tree))
      → IfSome told (λ files. Decides files names number root)
      → IfSome told (λ files. Decides files names (number + 1) next)
  files_next told now tree root next same joins (inl never) before = absurd never
  files_next told now tree root next same joins (inr read) before =
      next_where told (subst (λ (o : Option Files). IfSome o (λ files. IsFileRead files number text (Ok tree))) same read) before
    where
      next_where : (o : Option Files) → IfSome o (λ files. IsFileRead files number text (Ok tree)) → IfSome o (λ files. Decides files names number root)
          → IfSome o (λ files. Decides files names (number + 1) next)
      next_where None here there = tt
      next_where (Some files) here there =
          decides_next files names number name tree root next within is (subst (λ (t : List ℕ). IsFileRead files number t (Ok tree)) spelt here) joins there

  pub reaches_next : (told now : Option Files) (tree : Attributes) → now ≡ told → ⊥ ⊎ IfSome now (λ files. IsFileRead files number text (Ok tree))
      → IfSome told (λ files. Reaches files names number) → IfSome told (λ files. Reaches files names (number + 1))
  reaches_next told now tree same (inl never) before = absurd never
  reaches_next told now tree same (inr read) before =
      next_where told (subst (λ (o : Option Files). IfSome o (λ files. IsFileRead files number text (Ok tree))) same read) before
    where
      next_where : (o : Option Files) → IfSome o (λ files. IsFileRead files number text (Ok tree)) → IfSome o (λ files. Reaches files names number)
          → IfSome o (λ files. Reaches files names (number + 1))
      next_where None here there = tt
      next_where (Some files) here there = λ other reached.
          reaches_from files names number name within is there other (inr (tree, subst (λ (t : List ℕ). IsFileRead files number t (Ok tree)) spelt here, reached))

  -- the file that could not be read is reached
  pub reached_here : (told : Option Files) (r : Refusal) → IsOfFiles (text ∷ []) r → IfSome told (λ files. Reaches files names number)
      → (file : List ℕ) → r ≡ refusal.Read file → IfSome told (λ files. IsReached files 0 (map string_bytes names) file)
  reached_here None r cause before file read = tt
  reached_here (Some files) r cause before file read =
      let found : Contains (text ∷ []) file = subst (λ (s : Refusal). IsOfFiles (text ∷ []) s) read cause in
      reaches_from files names number name within is before file (inl (sym spelt ∙ same_file text file found))

  pub file_of_files : (r : Refusal) → IsOfFiles (text ∷ []) r → IsOfFiles (map string_bytes names) r
  file_of_files r h = one_of_files names number name r within is (subst (λ (t : List ℕ). IsOfFiles (t ∷ []) r) spelt h)

-- all files were read
pub files_last : (told : Option Files) (names : List (String Global)) (number : ℕ) (root : Attributes) → drop number names ≡ []
    → IfSome told (λ files. Decides files names number root) → IfSome told (λ files. AreRead files 0 (map string_bytes names) (Ok root))
files_last None names number root over before = tt
files_last (Some files) names number root over before = decides_last files names number root over before

-- a file that is too long
pub long_file : (told : Option Files) (number : ℕ) (name : List ℕ) (r : Refusal) → IsLonger told name most_bytes
    → (r ≡ refusal.Memory) ⊎ (r ≡ refusal.Dml name fault.TooLong)
    → ((r ≡ refusal.Memory) ⊎ (status_of r ≡ 3)) ⊎ IfSome told (λ files. IsFileRead files number name (Err r))
long_file told number name r longer (inl m) = inl (inl m)
long_file told number name r longer (inr is) = inr (subst (λ (s : Refusal). IfSome told (λ files. IsFileRead files number name (Err s))) (sym is) (long_where told longer))
  where
    long_where : (o : Option Files) → IsLonger o name most_bytes → IfSome o (λ files. IsFileRead files number name (Err (refusal.Dml name fault.TooLong)))
    long_where None h = tt
    long_where (Some files) h = read_fault files number name h.0 fault.TooLong h.1 h.2
