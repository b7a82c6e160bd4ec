-- The mail on one channel among those of all channels.
use Rattle.std.proofs.Common.{ℕ, zero, suc, ◌≡◌, ◌<◌, ◌∙◌, sym, ap, subst, refl, nat_eq, if◌then◌else◌, List, [], ◌∷◌, length, set, get_or, Some, slice_get, arith}
use Rattle.std.proofs.lemmas.Bool.{eq-eqb, ne_eqb}
use Rattle.std.proofs.lemmas.List.{get_or-set_same, length-set}
use Rattle.std.proofs.lemmas.Option.{slice_get_within}
use Rattle.std.specs.List.Sorted.{IsStrictlyIncreasing}
use Rattle.appointments.specs.Mails.{ChannelMail, Mails, IsMails, row_at, mail_at}
use Rattle.channel_places.proofs.Places.{one_place}

module _ {P : Type 0} where
  row_is : (cs : List ℕ) (rows : List (ChannelMail P)) (c k : ℕ) (d : ChannelMail P) → slice_get cs k ≡ Some c → ((j : ℕ) → slice_get cs j ≡ Some c → j ≡ k) → length rows ≡ length cs → row_at cs rows c ≡ get_or rows k d
  row_is [] rows c k d at one each = absurd (cc)
  row_is (b ∷ cs) [] c k d at one each = absurd (omega arith)
  row_is (b ∷ cs) (row ∷ rows) c zero d at one each = let is : b ≡ c = cc in let t = eq-eqb b c is in rw t refl
  row_is (b ∷ cs) (row ∷ rows) c (suc k) d at one each =
      let t = ne_eqb b c (λ is. let e = one zero (ap Some is) in absurd (omega arith)) in
      rw t (row_is cs rows c k d at (λ j there. let e = one (suc j) there in omega arith) (omega arith))

  -- the mail on a channel stands in the place of the channel
  pub row_here : (cs : List ℕ) (rows : List (ChannelMail P)) (c k : ℕ) (d : ChannelMail P) → IsStrictlyIncreasing cs → length rows ≡ length cs → slice_get cs k ≡ Some c → row_at cs rows c ≡ get_or rows k d
  row_here cs rows c k d rising each at = row_is cs rows c k d at (λ j there. one_place cs c j k rising there at) each

  -- what is put there is the mail on this channel
  pub row_put : (cs : List ℕ) (rows : List (ChannelMail P)) (c k : ℕ) (row : ChannelMail P) → IsStrictlyIncreasing cs → length rows ≡ length cs → slice_get cs k ≡ Some c → row_at cs (set rows k row) c ≡ row
  row_put cs rows c k row rising each at =
      let within : k < length cs = slice_get_within cs k c at in
      let inside : k < length rows = omega arith in
      row_here cs (set rows k row) c k row rising (length-set rows k row ∙ each) at ∙ get_or-set_same rows k row row inside

  -- and the mail on any other channel stays
  pub row_stays : (cs : List ℕ) (rows : List (ChannelMail P)) (c other k : ℕ) (row : ChannelMail P) → slice_get cs k ≡ Some c → (other ≡ c → ⊥) → row_at cs (set rows k row) other ≡ row_at cs rows other
  row_stays [] rows c other k row at differ = refl
  row_stays (b ∷ cs) [] c other k row at differ = refl
  row_stays (b ∷ cs) (r ∷ rows) c other zero row at differ =
      let is : b ≡ c = cc in
      let t = ne_eqb b other (λ e. differ (sym e ∙ is)) in
      rw t refl
  row_stays (b ∷ cs) (r ∷ rows) c other (suc k) row at differ = ap (λ l. if nat_eq b other then r else l) (row_stays cs rows c other k row at differ)

  -- the same as methods meet it: `m` is the mail, `cs` its channels and `rows` what it holds, `ds` are its channels too, and
  -- k is the place of channel c among them
  pub mail_here : (m : Mails P) (cs ds : List ℕ) (rows : List (ChannelMail P)) (c k : ℕ) (row : ChannelMail P) → record { channels = cs; rows = rows } ≡ m → IsMails (record { channels = cs; rows = rows })
      → ds ≡ cs → slice_get ds k ≡ Some c → row ≡ get_or rows k row → mail_at m c ≡ row
  mail_here m cs ds rows c k row view is same at value =
      subst (λ (m : Mails P). mail_at m c ≡ row) view (row_here cs rows c k row is.rising is.each (subst (λ l. slice_get l k ≡ Some c) same at) ∙ sym value)

  pub mail_put : (cs ds : List ℕ) (rows : List (ChannelMail P)) (c k : ℕ) (row : ChannelMail P) → IsMails (record { channels = cs; rows = rows }) → ds ≡ cs → slice_get ds k ≡ Some c
      → mail_at (record { channels = cs; rows = set rows k row }) c ≡ row
  mail_put cs ds rows c k row is same at = row_put cs rows c k row is.rising is.each (subst (λ l. slice_get l k ≡ Some c) same at)

  pub mail_stays : (m : Mails P) (cs ds : List ℕ) (rows : List (ChannelMail P)) (c k : ℕ) (row : ChannelMail P) → record { channels = cs; rows = rows } ≡ m → ds ≡ cs → slice_get ds k ≡ Some c
      → (other : ℕ) → (other ≡ c → ⊥) → mail_at (record { channels = cs; rows = set rows k row }) other ≡ mail_at m other
  mail_stays m cs ds rows c k row view same at other differ =
      row_stays cs rows c other k row (subst (λ l. slice_get l k ≡ Some c) same at) differ ∙ ap (λ (m : Mails P). mail_at m other) view
