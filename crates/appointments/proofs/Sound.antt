-- A sound mail stays sound as parcels are posted and taken.
use Rattle.std.proofs.Common.{ℕ, ◌≡◌, ◌+◌, ◌≤◌, sym, subst, inl, inr, max, suc, List, [], ◌∷◌, ◌++◌, length, arith, length-append}
use Rattle.std.proofs.lemmas.Bool.{cases_lt}
use Rattle.ssf_model.specs.declared.event.Event.{Event}
use Rattle.ssf_model.specs.declared.event.Parcel.{Parcel}
use Rattle.ssf_model.specs.Scene.{Scene, time_of}
use Rattle.ssf_model.specs.Truth.{IsStretch, IsPromise, IsTrueParcel}
use Rattle.appointments.specs.Mails.{ChannelMail, posted_of}
use Rattle.appointments.specs.Posts.{IsSoundMail, posted_mail, taken_mail}

module _ {X E : Type 0} (s : Scene X E) (c : ℕ) where
  -- a stretch is as long as its numbers say
  stretch_end : (first end : ℕ) (ds : List E) → IsStretch s c first ds end → end ≡ first + length ds
  stretch_end first end [] is = omega arith
  stretch_end first end (d ∷ ds) is = let rest = stretch_end (suc first) end ds is.1 in omega arith

  stretch_append : (first middle end : ℕ) (xs ys : List E) → IsStretch s c first xs middle → IsStretch s c middle ys end → IsStretch s c first (xs ++ ys) end
  stretch_append first middle end [] ys front back = subst (λ n. IsStretch s c n ys end) (sym front) back
  stretch_append first middle end (x ∷ xs) ys front back = (front.0, stretch_append (suc first) middle end xs ys front.1 back)

  -- of two promises the greater one holds after the later number
  greater_promise : (a b m n : ℕ) → m ≤ n → IsPromise s c a m → IsPromise s c b n → IsPromise s c (max a b) n
  greater_promise a b m n le first second k d is below =
      elim (cases_lt (time_of s d) a) [
        | inl early ↦ let k_below = first k d is early in omega arith
        | inr late ↦ second k d is (omega arith)
      ]

  -- two true parcels, one after the other, are one
  pub joined : (first middle end a b : ℕ) (xs ys : List E) → IsTrueParcel s c first xs middle a → IsTrueParcel s c middle ys end b → IsTrueParcel s c first (xs ++ ys) end (max a b)
  joined first middle end a b xs ys front back =
      let on = stretch_end middle end ys back.events in
      record {
        events = stretch_append first middle end xs ys front.events back.events;
        least = λ appointed. let l = front.least appointed in let m = back.least appointed in omega arith;
        promise = λ appointed. greater_promise a b middle end (omega arith) (front.promise appointed) (back.promise appointed);
      }

module _ {X P : Type 0} (s : Scene X (Event P)) (c : ℕ) where
  pub post_keeps_sound : (end spare : ℕ) (parcel : Parcel P) (mail : ChannelMail P) → IsSoundMail s c mail → parcel.first ≡ posted_of mail
      → IsTrueParcel s c parcel.first parcel.events end parcel.promise → IsSoundMail s c (posted_mail parcel spare mail)
  post_keeps_sound end spare parcel mail sound follows true_parcel =
      let on = stretch_end s c parcel.first end parcel.events true_parcel.events in
      let all = length-append mail.events parcel.events in
      let to : end ≡ mail.taken + length (mail.events ++ parcel.events) = omega arith in
      let back = subst (λ n. IsTrueParcel s c n parcel.events end parcel.promise) follows true_parcel in
      subst (λ n. IsTrueParcel s c mail.taken (mail.events ++ parcel.events) n (max mail.appointment parcel.promise)) to
      (joined s c mail.taken (posted_of mail) end mail.appointment parcel.promise mail.events parcel.events sound back)

  pub take_keeps_sound : (mail : ChannelMail P) → IsSoundMail s c mail → IsSoundMail s c (taken_mail mail)
  take_keeps_sound mail sound =
      let same : posted_of mail ≡ posted_of mail + 0 = omega arith in
      record {
        events = same;
        least = sound.least;
        promise = λ appointed. subst (λ n. IsPromise s c mail.appointment n) same (sound.promise appointed);
      }
