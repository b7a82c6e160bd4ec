-- Parts of a run that lie in a list of values, as the rules see them.
use Rattle.std.proofs.Common.{◌≡◌, ℕ, zero, suc, ◌+◌, ◌<◌, ◌≤◌, List, [], ◌∷◌, ◌++◌, length, map, refl, sym, ap, ◌∙◌, subst, arith, Some, slice_get, slice_index}
use mathlib.Core.Option.{some, some-injective, none-ne-some}
use lib.ListN.{get_elem?}
use Rattle.ssf_model.specs.Reaction.{Reaction, Validity}
use Rattle.turn_table.specs.declared.tenant.Tenant.{Ghosts}
use Rattle.turn_table.specs.Rule.{AreHome}
use Rattle.barrier_window.specs.BarrierFields.{BarrierFields}
use Rattle.appointments.specs.Mails.{Mails}
use Rattle.timeline.specs.View.{TimelineOf}
use Rattle.sync_steps.specs.Between.{HasItsCrosses}
use Rattle.core_rules.specs.Cores.{CoreView, IsCoreOfRun}
use Rattle.core_rules.proofs.Lists.{map_length, one_of, none_some}
use Rattle.share_rules.specs.Places.{ShareOf, count_of, barrier_place, shares_of, counts_of}
use Rattle.share_rules.specs.Places.ShareOf.{timeline, mail, barrier}
use Rattle.share_rules.specs.Home.{IsSoundAt, Owes, Keeps, AreAtHome}
use Rattle.share_rules.proofs.Opens.{opens}
use Rattle.share_turns.specs.declared.share.Share.{Share}
use Rattle.share_turns.specs.declared.share.Share.TheVariants.{Timeline, Mail, Barrier}
use Rattle.share_turns.specs.Shares.{share_of, IsTimeline, IsMail, IsBarrier}
use Rattle.worker_pool.specs.Carried.{AreGathered}
use Rattle.worker_pool.specs.Laid.{of_mails, laid_out, AreLaid}

-- ---- lists

module _ {T : Type 0} where
  pub elem_of : (xs : List T) (p : ℕ) (x : T) → slice_get xs p ≡ Some x → get_elem? xs p ≡ some x
  elem_of [] p x h = absurd (none_some x h)
  elem_of (y ∷ ys) zero x h = ap some (one_of y x h)
  elem_of (y ∷ ys) (suc p) x h = elem_of ys p x h

module _ {T V : Type 0} (f : T → V) where
  pub elem_mapped : (xs : List T) (p : ℕ) (x : T) → get_elem? xs p ≡ some x → get_elem? (map f xs) p ≡ some (f x)
  elem_mapped [] p x h = absurd (none-ne-some x h)
  elem_mapped (y ∷ ys) zero x h = ap (λ z. some (f z)) (some-injective y x h)
  elem_mapped (y ∷ ys) (suc p) x h = elem_mapped ys p x h

  pub mapped_elem : (xs : List T) (p : ℕ) (v : V) → get_elem? (map f xs) p ≡ some v → (x : T) × (get_elem? xs p ≡ some x) × (f x ≡ v)
  mapped_elem [] p v h = absurd (none-ne-some v h)
  mapped_elem (y ∷ ys) zero v h = (y, refl, some-injective (f y) v h)
  mapped_elem (y ∷ ys) (suc p) v h = mapped_elem ys p v h

-- ---- what lies at home

-- by another name of the key
pub home_at : {T K : Type 0} (g : Ghosts T K) (k key : K) (values : List T) → k ≡ key → (f : ℕ → ℕ) × AreHome g k f values → (f : ℕ → ℕ) × AreHome g key f values
home_at g k key values same q = subst (λ x. (f : ℕ → ℕ) × AreHome g x f values) same q

-- ---- as the rules see them

module _ {B S P : Type 0} where
  mails_out : (mails : List (Mails P)) (b : BarrierFields) → map share_of (of_mails {B = B} {S = S} mails ++ Barrier b ∷ []) ≡ map mail mails ++ barrier b ∷ []
  mails_out [] b = refl
  mails_out (m ∷ ms) b = ap (λ (xs : List (ShareOf B S P)). mail m ∷ xs) (mails_out ms b)

  pub shares_out : (timelines : List (TimelineOf B S P)) (mails : List (Mails P)) (b : BarrierFields)
      → map share_of (laid_out timelines mails b) ≡ map timeline timelines ++ (map mail mails ++ barrier b ∷ [])
  shares_out [] mails b = mails_out mails b
  shares_out (t ∷ ts) mails b = ap (λ (xs : List (ShareOf B S P)). timeline t ∷ xs) (shares_out ts mails b)

module _ {B S P : Type 0} (valid : Validity S) (carried : P → Type 0) (r : Reaction S P) (key : CoreView B S P) (f : ℕ → ℕ) (values : List (Share B S P)) where
  pub seen_at_home : length values ≡ barrier_place key + 1
      → ((p : ℕ) (x : Share B S P) → get_elem? values p ≡ some x → IsSoundAt valid carried r key p (share_of x))
      → ((p : ℕ) (x : Share B S P) → get_elem? values p ≡ some x → Owes valid carried r key f p (share_of x))
      → Keeps valid carried r key f → AreAtHome valid carried r key f (map share_of values)
  seen_at_home long sound owed kept = record {
    places = map_length share_of values ∙ long;
    sound = λ p y at. (let q = mapped_elem share_of values p y at in subst (λ (z : ShareOf B S P). IsSoundAt valid carried r key p z) q.2 (sound p q.0 q.1));
    owed = λ p y at. (let q = mapped_elem share_of values p y at in subst (λ (z : ShareOf B S P). Owes valid carried r key f p z) q.2 (owed p q.0 q.1));
    kept = kept;
  }

  module _ (long : length values ≡ barrier_place key + 1) (sound : (p : ℕ) (x : Share B S P) → get_elem? values p ≡ some x → IsSoundAt valid carried r key p (share_of x)) where
    a_timeline : (p : ℕ) (x : Share B S P) → IsSoundAt valid carried r key p (share_of x) → p < count_of key → IsTimeline x
    a_timeline p (Timeline t) at early = tt
    a_timeline p (Mail m) at early = absurd (let is = at.2 in omega (arith, is, early))
    a_timeline p (Barrier b) at early = absurd (let is = at.0 in omega (arith, is, early))

    a_mail : (p : ℕ) (x : Share B S P) → IsSoundAt valid carried r key p (share_of x) → count_of key ≤ p → p < count_of key + count_of key → IsMail x
    a_mail p (Timeline t) at late early = absurd (let is = at.0 in omega (arith, is, late))
    a_mail p (Mail m) at late early = tt
    a_mail p (Barrier b) at late early = absurd (let is = at.0 in omega (arith, is, early))

    a_barrier : (p : ℕ) (x : Share B S P) → IsSoundAt valid carried r key p (share_of x) → p ≡ count_of key + count_of key → IsBarrier x
    a_barrier p (Timeline t) at here = absurd (let is = at.0 in omega (arith, is, here))
    a_barrier p (Mail m) at here = absurd (let less = at.1 in let is = at.2 in omega (arith, less, is, here))
    a_barrier p (Barrier b) at here = tt

    pub seen_laid : AreLaid (count_of key) values
    seen_laid = record {
      long = long;
      timelines = λ p x at early. a_timeline p x (sound p x (elem_of values p x at)) early;
      mails = λ p x at late early. a_mail p x (sound p x (elem_of values p x at)) late early;
      barrier = λ p x at here. a_barrier p x (sound p x (elem_of values p x at)) here;
    }

-- ---- out and home

module _ {B S P : Type 0} (valid : B → Validity S) (carried : B → P → Type 0) (reaction : B → Reaction S P) (core : CoreView B S P) where
  abbrev pub HomeBy : CoreView B S P → (ℕ → ℕ) → List (ShareOf B S P) → Type 0
  HomeBy key f shares = AreAtHome (valid key.behaviour) (carried key.behaviour) (reaction key.behaviour) key f shares

  module _ (run : IsCoreOfRun (valid core.behaviour) (carried core.behaviour) (reaction core.behaviour) core) where
    -- a mail for each timeline
    pub mails_long : length core.mails ≡ length core.timelines
    mails_long = run.sound.mails ∙ sym run.sound.timelines

    module _ (crosses : (i : ℕ) (t : TimelineOf B S P) → slice_get core.timelines i ≡ Some t → HasItsCrosses t) where
      pub here : HomeBy core (λ c. slice_index (counts_of core) c) (shares_of core)
      here = opens (valid core.behaviour) (carried core.behaviour) (reaction core.behaviour) core run crosses

      pub not_shared : AreGathered (valid core.behaviour) (carried core.behaviour) (reaction core.behaviour) core core
      not_shared = record {
        same = record { behaviour = refl; ends = refl; until = refl; budget = refl; before = refl; starts = refl };
        counts = λ c. slice_index (counts_of core) c;
        home = here;
      }

      pub laid_home : (key : CoreView B S P) → core ≡ key → (values : List (Share B S P)) → values ≡ laid_out core.timelines core.mails core.barrier → (counts : List ℕ) → counts ≡ counts_of core
          → HomeBy key (λ c. slice_index counts c) (map share_of values)
      laid_home key is values laid counts of =
          let shares : map share_of values ≡ shares_of core = ap (map share_of) laid ∙ shares_out core.timelines core.mails core.barrier in
          subst (λ (k : CoreView B S P). HomeBy k (λ c. slice_index counts c) (map share_of values)) is
          (subst (λ ns. HomeBy core (λ c. slice_index ns c) (map share_of values)) (sym of) (subst (λ xs. HomeBy core (λ c. slice_index (counts_of core) c) xs) (sym shares) here))

  -- the values that came back are the parts
  pub home_again : (key : CoreView B S P) → core ≡ key → (f : ℕ → ℕ) (values : List (Share B S P)) → HomeBy key f (map share_of values)
      → (after : CoreView B S P) → values ≡ laid_out after.timelines after.mails after.barrier → HomeBy core f (shares_of after)
  home_again key is f values home after laid =
      let shares : map share_of values ≡ shares_of after = ap (map share_of) laid ∙ shares_out after.timelines after.mails after.barrier in
      subst (λ xs. HomeBy core f xs) shares (subst (λ (k : CoreView B S P). HomeBy k f (map share_of values)) (sym is) home)
