-- A run in which no timeline has more events than the budget is the same under each cut that drops no round up to the
-- budget.
use Rattle.std.proofs.Common.{◌≡◌, ℕ, zero, suc, ◌≤◌, Bool, true, List, length, refl, sym, ap, ◌∙◌, subst, Option, Some, None, is_some}
use Rattle.event_order.specs.declared.key.Key.{Key}
use Rattle.event_order.specs.Machine.{option_list}
use Rattle.ssf_model.specs.declared.event.Event.{Event}
use Rattle.ssf_model.specs.declared.event.Entry.{Entry}
use Rattle.ssf_model.specs.declared.plan.Plan.{Plan}
use Rattle.ssf_model.specs.Reaction.{Reaction, Validity, KeepsValid, LatestTime}
use Rattle.ssf_model.specs.Deliver.{IsModest}
use Rattle.ssf_model.specs.Run.{States, Fits, run_event, run_events}
use Rattle.ssf_model.specs.Scene.{Scene, Net, scene_of}
use Rattle.ssf_model.specs.Truth.{AreFew, IsLeastFrom, IsWindow}
use Rattle.run_health.specs.Joined.{IsAligned, KeepsRounds}
use Rattle.run_health.proofs.OfFitting.{same_lists, same_told}
use Rattle.core_traces.specs.Records.{AreAllEntries}
use Rattle.core_traces.specs.Ends.{AreWindows}
use Rattle.core_traces.proofs.Lists.{same_parts}

module _ {E : Type 0} where
  one_listed : (o p : Option E) → option_list o ≡ option_list p → o ≡ p
  one_listed None None same = refl
  one_listed None (Some e) same = absurd (cc)
  one_listed (Some d) None same = absurd (cc)
  one_listed (Some d) (Some e) same = (let one : d ≡ e = cc in ap (λ (x : E). Some x) one)

module _ {B S P : Type 0} (r : Reaction S P) (valid : Validity S) (carried : P → Type 0) (law : KeepsValid valid carried r) (modest : IsModest valid carried r)
    (plan : Plan B S P) (until : ℕ) (in_time : until ≤ LatestTime) (fits : Fits valid carried plan) (kept other : Key → Bool) (line : ℕ → ℕ) (net : Net)
    (aligned : IsAligned plan line) (budget : ℕ) (few : AreFew (scene_of r plan until kept line net) budget) (here : KeepsRounds budget kept) (there : KeepsRounds budget other) where
  abbrev s : Scene (States B S P) (Event P)
  s = scene_of r plan until kept line net

  abbrev u : Scene (States B S P) (Event P)
  u = scene_of r plan until other line net

  lists : (n : ℕ) → run_events r plan until kept n ≡ run_events r plan until other n
  lists n = same_lists r valid carried law modest plan until in_time fits kept line aligned net other budget here there few n

  same_event : (n : ℕ) → run_event r plan until kept n ≡ run_event r plan until other n
  same_event n = one_listed (run_event r plan until kept n) (run_event r plan until other n)
      (same_parts (run_events r plan until kept n) (option_list (run_event r plan until kept n)) (run_events r plan until other n) (option_list (run_event r plan until other n)) (ap length (lists n)) (lists (suc n))).1

  pub same_whole : (es : List Entry) → AreAllEntries r plan until kept es → AreAllEntries r plan until other es
  same_whole es p = record {
    count = p.count;
    are = p.are ∙ same_told r valid carried law modest plan until in_time fits kept line aligned net other budget here there few p.count;
    each = λ k l. subst (λ (o : Option (Event P)). is_some o ≡ true) (same_event k) (p.each k l);
    no_more = sym (same_event p.count) ∙ p.no_more;
  }

  same_least : (v m : ℕ) → IsLeastFrom s v m → IsLeastFrom u v m
  same_least v m p = record {
    number = p.number;
    event = p.event;
    is = sym (same_event p.number) ∙ p.is;
    at = p.at;
    from = p.from;
    least = λ j e is late. p.least j e (same_event j ∙ is) late;
  }

  same_window : (k v x : ℕ) → IsWindow s k v x → IsWindow u k v x
  same_window zero v x w = w
  same_window (suc k) v x (a, m, before, least, is) = (a, m, same_window k a v before, same_least v m least, is)

  pub same_windows : (count last : ℕ) → AreWindows s count last → AreWindows u count last
  same_windows count last p = record {
    before = p.before;
    window = same_window count p.before last p.window;
    over = λ j e is. p.over j e (same_event j ∙ is);
  }
