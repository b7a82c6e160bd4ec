-- What a view says, and what a step makes of it.
use Rattle.std.specs.Prelude.{ℕ, suc, Bool, true, false, cond, not, ◌||◌, ltb, [], ◌∷◌}
use Rattle.turn_table.specs.declared.view.Shape.{Shape}
use Rattle.turn_table.specs.declared.view.View.{View}
use Rattle.turn_table.specs.Changes.{at, forget, put_first}
use Rattle.turn_table.specs.Shapes.{words_in, spoken, is_marked, is_cleared}

-- How a pass holds a place: 0 not at all, 1 with its value at home, 2 with its value out, and 3 while the slot is being emptied or filled.
abbrev pub held : View → ℕ → ℕ
held v p = at v.held p

-- how often the turn of the place was asked for and found with another pass
abbrev pub lost : View → ℕ → ℕ
lost v p = at v.lost p

-- one more than the count word's number, or 0 where there is no note of it
abbrev pub note : View → ℕ → ℕ
note v c = at v.notes c

-- one more than a number that the count word has reached, or 0 where there is no mark of it
abbrev pub mark : View → ℕ → ℕ
mark v c = at v.marks c

-- the count word c speaks of a place that is held, by this function of places
abbrev pub is_spoken_for : Shape → (ℕ → ℕ) → ℕ → Bool
is_spoken_for s h c = ltb 0 (h (spoken s c).0) || ltb 0 (h (spoken s c).1)

-- the place p is held so from now on
abbrev pub holding : View → ℕ → ℕ → View
holding v p n = record v { held = (p, n) ∷ v.held }

-- the value of the place was moved out, and was moved home
abbrev pub moving_out : View → ℕ → View
moving_out v p = holding (holding v p 3) p 2

abbrev pub moving_home : View → ℕ → View
moving_home v p = holding (holding v p 3) p 1

-- the turn was won: the place is held, as at home, and its marks are lost
abbrev pub taking : View → ℕ → View
taking v p = record v { held = (p, 1) ∷ v.held; marks = forget (is_cleared v.shape p) v.marks }

-- the turn was found with another
abbrev pub losing : View → ℕ → View
losing v p = record v { lost = (p, suc (lost v p)) ∷ v.lost }

-- the turn was given: the place is not held, and the notes of words that speak of no held place are lost
abbrev pub giving : View → ℕ → View
giving v p = record v { held = (p, 0) ∷ v.held; notes = forget (λ c. not (is_spoken_for v.shape (at ((p, 0) ∷ v.held)) c)) v.notes }

-- the number of the count word c was written: it is noted, and marked where the word is one that is marked
abbrev pub writing : View → ℕ → ℕ → View
writing v c n = record v { notes = (c, suc n) ∷ v.notes; marks = cond (is_marked v.shape c) ((c, suc n) ∷ v.marks) v.marks }

-- the number of the count word c was read: it is noted where the word speaks of a held place, and marked where the word is one that is marked
abbrev pub reading : View → ℕ → ℕ → View
reading v c n = record v { notes = cond (is_spoken_for v.shape (at v.held) c) ((c, suc n) ∷ v.notes) v.notes; marks = cond (is_marked v.shape c) ((c, suc n) ∷ v.marks) v.marks }

-- each count word was marked with its number in these counts
abbrev pub marking : View → (ℕ → ℕ) → View
marking v f = record v { marks = put_first f (words_in v.shape) v.marks }

-- the stop word was read
abbrev pub looking : View → ℕ → View
looking v n = record v { stop_loads = suc v.stop_loads; stop_found = n }

-- the view of the root at first
abbrev pub rooted : Shape → View
rooted s = record { is_root = true; number = 0; made = 0; back = []; shape = s; held = []; lost = []; notes = []; marks = []; stop_loads = 0; stop_found = 0 }

-- the root after it made a pass, and the view of that pass
abbrev pub made_one : View → View
made_one v = record v { made = suc v.made }

abbrev pub fresh : View → View
fresh v = record { is_root = false; number = suc v.made; made = 0; back = []; shape = v.shape; held = []; lost = []; notes = []; marks = []; stop_loads = 0; stop_found = 0 }

-- the root after it took a pass in, and what is left of the view of that pass
abbrev pub taken_in : View → View → View
taken_in v w = record v { back = w.number ∷ v.back }

abbrev pub spent : View
spent = record { is_root = false; number = 0; made = 0; back = []; shape = record { places = 0; words = []; clears = [] }; held = []; lost = []; notes = []; marks = []; stop_loads = 0; stop_found = 0 }
