-- What each kind of step tells the pass that makes it: what it found, and the view and the slots in hand after it.
use Rattle.std.specs.Prelude.{◌≡◌, ◌≢◌, ℕ, suc, ◌+◌, ◌-◌, ◌<◌, ◌≤◌, List, [], ◌∷◌, IfSome}
use Rattle.std.specs.Prelude as std
use Rattle.atomic_table.specs.Table.{Me, Step, rest}
use Rattle.turn_table.specs.declared.cell.Cell.{Cell}
use Rattle.turn_table.specs.declared.cell.Cell.TheVariants.{Value, Empty}
use Rattle.turn_table.specs.declared.tenant.Tenant.{Ghosts}
use Rattle.turn_table.specs.declared.view.View.{View}
use Rattle.turn_table.specs.Changes.{put}
use Rattle.turn_table.specs.Views.{note, mark, holding, taking, losing, giving, writing, reading, marking, looking}

-- each note is the number of the word in these counts
abbrev pub Fits : View → (ℕ → ℕ) → Type 0
Fits v f = (c : ℕ) → 0 < note v c → note v c ≡ suc (f c)

-- the number of the word in these counts has reached each mark
abbrev pub Above : View → (ℕ → ℕ) → Type 0
Above v f = (c : ℕ) → mark v c ≤ suc (f c)

module _ {T K : Type 0} (g : Ghosts T K) (key : K) where
  -- there are counts that fit the notes and the marks of the view, and to which this value is true at this place
  pub record Owing (v : View) (p : ℕ) (x : T) : Type 0 where
    pub counts : ℕ → ℕ
    pub kept : g.keeps key counts
    pub fits : Fits v counts
    pub above : Above v counts
    pub owed : g.owes key counts p x

  -- what a pass is told of the value of a place that it moves out
  pub record Tells (v : View) (p : ℕ) (x : T) : Type 0 where
    pub sound : g.sound key p x
    pub marked : g.marked key (mark v) p x
    pub owing : Owing v p x

  -- what a pass owes where it moves a value home: whatever counts fit its notes and marks, the value is true to them
  pub record Pays (v : View) (p : ℕ) (x : T) : Type 0 where
    pub sound : g.sound key p x
    pub marked : g.marked key (mark v) p x
    pub owed : (f : ℕ → ℕ) → g.keeps key f → Fits v f → Above v f → g.owes key f p x

-- what a pass owes where it writes the number n into the count word c: the counts still keep what they keep among themselves
abbrev pub KeepsWith : {T K : Type 0} → Ghosts T K → K → View → ℕ → ℕ → Type 0
KeepsWith g key v c n = (f : ℕ → ℕ) → g.keeps key f → Fits v f → Above v f → g.keeps key (put f c n)

-- the place whose turn word this is; the count word whose word this is
abbrev pub OfTurn : {S : Type 0} → Step S → (ℕ → Type 0) → Type 0
OfTurn st P = (p : ℕ) → st.word ≡ p + 1 → P p

abbrev pub OfCount : {S : Type 0} → Step S → (ℕ → Type 0) → Type 0
OfCount st P = (c : ℕ) → st.word ≡ st.slots + c → P c

module _ {T : Type 0} where
  -- 0 was found and the turn is won, or another was found
  abbrev pub tried : Step (Cell T) → Me (Cell T) View → ℕ → Me (Cell T) View → Type 0
  tried st m r n = OfTurn st (λ p. (r ≡ 0 → n ≡ (taking m.0 p, m.1)) × (r ≢ 0 → n ≡ (losing m.0 p, m.1)))

  -- the slot of the place is in hand, with its value
  abbrev pub reached : {K : Type 0} → Ghosts T K → std.Option K → Step (Cell T) → Me (Cell T) View → ℕ → Me (Cell T) View → Type 0
  reached g key st m r n = OfTurn st (λ p. (x : T) × IfSome key (λ k. Tells g k m.0 p x) × (n ≡ (holding m.0 p 3, (p, Value x) ∷ m.1)))

  -- the slot is back, empty
  abbrev pub emptied : Step (Cell T) → Me (Cell T) View → ℕ → Me (Cell T) View → Type 0
  emptied st m r n = OfTurn st (λ p. n ≡ (holding m.0 p 2, rest m.1))

  -- the empty slot of the place is in hand
  abbrev pub entered : Step (Cell T) → Me (Cell T) View → ℕ → Me (Cell T) View → Type 0
  entered st m r n = OfTurn st (λ p. n ≡ (holding m.0 p 3, (p, Empty) ∷ m.1))

  -- the slot is back with a value
  abbrev pub settled : Step (Cell T) → Me (Cell T) View → ℕ → Me (Cell T) View → Type 0
  settled st m r n = OfTurn st (λ p. n ≡ (holding m.0 p 1, rest m.1))

  -- the turn is given
  abbrev pub given : Step (Cell T) → Me (Cell T) View → ℕ → Me (Cell T) View → Type 0
  given st m r n = OfTurn st (λ p. n ≡ (giving m.0 p, m.1))

  -- a count word was read, whose number fits the mark and the note of it
  abbrev pub read : Step (Cell T) → Me (Cell T) View → ℕ → Me (Cell T) View → Type 0
  read st m r n = OfCount st (λ c. (n ≡ (reading m.0 c r, m.1)) × (mark m.0 c ≤ suc r) × (0 < note m.0 c → note m.0 c ≡ suc r))

  -- a count word was written
  abbrev pub written : Step (Cell T) → Me (Cell T) View → ℕ → Me (Cell T) View → Type 0
  written st m r n = OfCount st (λ c. n ≡ (writing m.0 c st.first, m.1))

  -- each count word was marked, by counts that fit the notes and the marks
  abbrev pub marked_all : Step (Cell T) → Me (Cell T) View → ℕ → Me (Cell T) View → Type 0
  marked_all st m r n = (f : ℕ → ℕ) × Fits m.0 f × Above m.0 f × (n ≡ (marking m.0 f, m.1))

  -- the stop word was read
  abbrev pub looked : Step (Cell T) → Me (Cell T) View → ℕ → Me (Cell T) View → Type 0
  looked st m r n = n ≡ (looking m.0 r, m.1)

  -- the stop word was raised
  abbrev pub raised : Step (Cell T) → Me (Cell T) View → ℕ → Me (Cell T) View → Type 0
  raised st m r n = n ≡ m
