-- What a timeline has pending at its moment, and what of it comes next.
use Rattle.std.proofs.Common.{◌≡◌, ℕ, zero, suc, ◌+◌, ◌<◌, ◌≤◌, ◌⊎◌, Bool, true, false, List, [], ◌∷◌, Some, None, refl, sym, ap, ◌∙◌, subst, inl, inr, arith}
use Rattle.std.specs.List.{filter}
use Rattle.event_order.specs.declared.key.Key.{Key}
use Rattle.event_order.specs.Order.{IsBefore}
use Rattle.event_order.specs.Pending.{Among, IsRising, IsApart, put_all}
use Rattle.event_order.specs.Run.{NoneBetween}
use Rattle.event_order.proofs.Order.{before_trans, before_irrefl, before_time}
use Rattle.event_order.proofs.Pending.{test_cases, put_all_rises, put_all_among, among_put_all_other, among_put_all_self, among_filter, filter_among, filter_apart}
use Rattle.event_order.proofs.Steps.{lt_or_ge, lt_or_same, difference}
use Rattle.event_order.proofs.Keys as keys
use Rattle.ssf_model.specs.Scene.{Scene, world_at, event_at, time_of}
use Rattle.ssf_model.specs.Truth.{is_on_line, IsNext, WasExecuted, IsKeptWrite, IsPromised, IsStanding}
use Rattle.sync_rules.specs.Bounds.{head_time}
use Rattle.sync_rules.specs.Shared.{IsShared}
use Rattle.sync_rules.specs.Steps.{stays}
use Rattle.sync_rules.proofs.Runs.{some_or_none, given, rises, one_number, one_event, times, arises_by, arisen, one_key, written_at_once, not_opened}

filter_rises : {T : Type 0} (key : T → Key) (p : T → Bool) (xs : List T) → IsRising key xs → IsRising key (filter p xs)
filter_rises key p [] r = r
filter_rises key p (x ∷ xs) r = elim (test_cases (p x)) [
  | inl t ↦ rw t ((λ y a. r.0 y (filter_among p y xs a).among), filter_rises key p xs r.1)
  | inr f ↦ rw f (filter_rises key p xs r.1)
]

-- ---- the first pending event

pub record HasHead {E : Type 0} (time : E → ℕ) (top : ℕ) (ps : List E) : Type 0 where
  pub head : E
  pub rest : List E
  pub is : ps ≡ head ∷ rest
  pub below : time head < top
  pub least : head_time time top ps ≡ time head

pub head_cases : {E : Type 0} (time : E → ℕ) (top : ℕ) (ps : List E) → (head_time time top ps ≡ top) ⊎ HasHead time top ps
head_cases time top [] = inl refl
head_cases time top (e ∷ es) = elim (lt_or_ge (time e) top) [
  | inl less ↦ inr (record { head = e; rest = es; is = refl; below = less; least = omega arith })
  | inr more ↦ inl (omega arith)
]

pub head_top : {E : Type 0} (time : E → ℕ) (top : ℕ) (ps : List E) → head_time time top ps ≤ top
head_top time top [] = omega arith
head_top time top (e ∷ es) = omega arith

module _ {X E : Type 0} (s : Scene X E) where
  pub head_least : (top : ℕ) (ps : List E) (d : E) → IsRising s.machine.key ps → Among d ps → head_time (time_of s) top ps ≤ time_of s d
  head_least top [] d r a = absurd a
  head_least top (e ∷ es) d r (inl same) = let one = ap (time_of s) same in omega arith
  head_least top (e ∷ es) d r (inr a) = let order = before_time (s.machine.key e) (s.machine.key d) (r.0 d a) in omega arith

  -- what is at most the bound and all pending times is at most the least of them
  pub head_above : (n top : ℕ) (ps : List E) → n ≤ top → ((d : E) → Among d ps → n ≤ time_of s d) → n ≤ head_time (time_of s) top ps
  head_above n top [] l all = l
  head_above n top (e ∷ es) l all = omega (arith, all e (inl refl))

module _ {X E : Type 0} (s : Scene X E) (sh : IsShared s) (i : ℕ) where
  -- ---- the first event of the timeline from some number on

  record FirstOwn (n p : ℕ) : Type 0 where
    number : ℕ
    event : E
    is : event_at s number ≡ Some event
    own : is_on_line s i event ≡ true
    from : n ≤ number
    upto : number ≤ p
    none : NoneBetween s.machine s.until s.kept s.opening (is_on_line s i) n number

  lift : (n p : ℕ) → ((e : E) → event_at s n ≡ Some e → is_on_line s i e ≡ false) → FirstOwn (suc n) p → FirstOwn n p
  lift n p other f = record {
    number = f.number;
    event = f.event;
    is = f.is;
    own = f.own;
    from = omega (arith, f.from);
    upto = f.upto;
    none = λ j e a b is. elim (lt_or_same n j a) [
      | inl later ↦ f.none j e later b is
      | inr same ↦ other e (subst (λ k. event_at s k ≡ Some e) (sym same) is)
    ];
  }

  first_own_at : (d n p : ℕ) (h : E) → p ≡ d + n → event_at s p ≡ Some h → is_on_line s i h ≡ true → FirstOwn n p
  first_own_at zero n p h sum is own = record {
    number = p;
    event = h;
    is = is;
    own = own;
    from = omega arith;
    upto = omega arith;
    none = λ j e a b at. absurd (omega arith);
  }
  first_own_at (suc d) n p h sum is own =
      let later = first_own_at d (suc n) p h (omega arith) is own in
      elim (some_or_none (event_at s n)) [
        | inr none ↦ lift n p (λ e at. absurd (let wrong : None ≡ Some e = sym none ∙ at in cc)) later
        | inl some ↦ elim (test_cases (is_on_line s i some.0)) [
          | inl t ↦ record {
            number = n;
            event = some.0;
            is = some.1;
            own = t;
            from = omega arith;
            upto = omega arith;
            none = λ j e a b at. absurd (omega arith);
          }
          | inr f ↦ lift n p (λ e at. subst (λ x. is_on_line s i x ≡ false) (one_event s sh n some.0 e some.1 at) f) later
        ]
      ]

  first_own : (n p : ℕ) (h : E) → n ≤ p → event_at s p ≡ Some h → is_on_line s i h ≡ true → FirstOwn n p
  first_own n p h l is own = let d = difference n p l in first_own_at d.0 n p h d.1 is own

  -- ---- the next event

  module _ (n : ℕ) (came : E → Type 0) (bound : ℕ) (promised : IsPromised s i bound came) where
    not_executed : (j : ℕ) (g : E) → event_at s j ≡ Some g → n ≤ j → WasExecuted s n g → ⊥
    not_executed j g is l done = let same = one_number s sh done.0 j g done.2 is in omega (arith, done.1)

    first_pending : (ps : List E) → IsStanding s i n came ps → (j : ℕ) (g : E) → event_at s j ≡ Some g → is_on_line s i g ≡ true → n ≤ j
        → NoneBetween s.machine s.until s.kept s.opening (is_on_line s i) n j → time_of s g < bound → Among g ps
    first_pending ps st j g is own l none early = elim (arises_by s sh j g is) [
      | inl opened ↦ st.opening g own opened (not_executed j g is l)
      | inr w ↦ elim (test_cases (is_on_line s i w.written.by)) [
        | inl t ↦ elim (lt_or_ge w.at n) [
          | inl before ↦ st.inside g w.at own w.written t before (not_executed j g is l)
          | inr after ↦ let other = none w.at w.written.by after w.before w.written.is in absurd (let wrong : true ≡ false = sym t ∙ other in cc)
        ]
        | inr f ↦ st.across g w.at own w.written f (promised g w.at own w.written f early) (not_executed j g is l)
      ]
    ]

    -- the first pending event, where it is in time and below the bound, is the next of the timeline
    pub head_is_next : (h : E) (rest : List E) → IsStanding s i n came (h ∷ rest) → time_of s h ≤ s.until → time_of s h < bound → IsNext s i n h
    head_is_next h rest st in_time below =
        let place = arisen s sh h (st.arises h (inl refl)) in_time in
        let ahead = st.ahead h place.0 (inl refl) place.1 in
        let f = first_own n place.0 h ahead place.1 (st.own h (inl refl)) in
        let order = times s sh f.number place.0 f.event h f.upto f.is place.1 in
        let pending = first_pending (h ∷ rest) st f.number f.event f.is f.own f.from f.none (omega arith) in
        elim (lt_or_same f.number place.0 f.upto) [
          | inl less ↦
              let first : IsBefore (s.machine.key f.event) (s.machine.key h) = rises s sh f.number place.0 f.event h less f.is place.1 in
              absurd (elim (let a : Among f.event (h ∷ rest) = pending in a) [
                | inl same ↦ before_irrefl (s.machine.key h) (subst (λ x. IsBefore (s.machine.key x) (s.machine.key h)) same first)
                | inr a ↦ before_irrefl (s.machine.key h) (before_trans (s.machine.key h) (s.machine.key f.event) (s.machine.key h) (st.rising.0 f.event a) first)
              ])
          | inr same ↦
              let d = difference n f.number f.from in
              let sum : place.0 ≡ d.0 + n = omega (arith, d.1, same) in
              record {
                wait = d.0;
                is = subst (λ k. event_at s k ≡ Some h) sum place.1;
                none = subst (λ k. NoneBetween s.machine s.until s.kept s.opening (is_on_line s i) n k) d.1 f.none;
              }
        ]

    -- no event that the timeline still executes is before its bound and all that it has pending
    pub none_early : (ps : List E) → IsStanding s i n came ps → (k : ℕ) (e : E) → n ≤ k → event_at s k ≡ Some e → is_on_line s i e ≡ true → head_time (time_of s) bound ps ≤ time_of s e
    none_early ps st k e l is own =
        let f = first_own n k e l is own in
        let order = times s sh f.number k f.event e f.upto f.is is in
        elim (lt_or_ge (time_of s f.event) bound) [
          | inl early ↦ omega (arith, order, head_least s bound ps f.event st.rising (first_pending ps st f.number f.event f.is f.own f.from f.none early))
          | inr late ↦ omega (arith, order, late, head_top (time_of s) bound ps)
        ]

  -- ---- after the next event

  module _ (n : ℕ) (came : E → Type 0) (h : E) (rest : List E) (st : IsStanding s i n came (h ∷ rest)) (q : IsNext s i n h) where
    abbrev p : ℕ
    p = q.wait + n

    abbrev its : List E
    its = s.machine.writes (world_at s p).state h

    later : (j : ℕ) (d : E) → event_at s j ≡ Some d → IsBefore (s.machine.key h) (s.machine.key d) → p < j
    later j d is order = keys.before_earlier s.machine s.until s.kept s.opening (given s sh) sh.lawful sh.opening p j h d q.is is order

    -- a write that stays
    record IsStaying (d : E) : Type 0 where
      among : Among d its
      kept : s.kept (s.machine.key d) ≡ true
      own : is_on_line s i d ≡ true

    staying : (d : E) → Among d (stays s i its) → IsStaying d
    staying d a =
        let one = filter_among (is_on_line s i) d _ a in
        let two = filter_among (λ x. s.kept (s.machine.key x)) d its one.among in
        record { among = two.among; kept = two.passes; own = one.passes }

    write_of : (d : E) → IsStaying d → IsKeptWrite s p d
    write_of d w = record { by = h; is = q.is; among = w.among; passes = w.kept }

    own_head : is_on_line s i h ≡ true
    own_head = st.own h (inl refl)

    from_before : (d : E) → (WasExecuted s (suc p) d → ⊥) → Among d (h ∷ rest) → Among d (put_all s.machine.key (stays s i its) rest)
    from_before d fresh (inl same) = absurd (fresh (p, omega arith, q.is ∙ ap (λ x. Some x) (sym same)))
    from_before d fresh (inr a) = among_put_all_other s.machine.key d (stays s i its) rest a

    before_then : (d : E) → (WasExecuted s (suc p) d → ⊥) → WasExecuted s n d → ⊥
    before_then d fresh done = fresh (done.0, omega (arith, done.1), done.2)

    split : (d : E) → Among d (put_all s.machine.key (stays s i its) rest) → IsStaying d ⊎ Among d rest
    split d a = elim (put_all_among s.machine.key d (stays s i its) rest a) [ inl w ↦ inl (staying d w) | inr b ↦ inr b ]

    writer : (k : ℕ) (d : E) → (w : IsKeptWrite s k d) → k ≡ p → w.by ≡ h
    writer k d w same = one_event s sh p w.by h (subst (λ j. event_at s j ≡ Some w.by) same w.is) q.is

    pub stands_after : IsStanding s i (suc p) came (put_all s.machine.key (stays s i its) rest)
    unfolding write_of
    stands_after = record {
      rising = put_all_rises s.machine.key (stays s i its) rest st.rising.1
          (filter_apart s.machine.key (is_on_line s i) _ (filter_apart s.machine.key (λ x. s.kept (s.machine.key x)) its (sh.lawful.apart (world_at s p).state h)))
          (λ x y a b e.
          let w = write_of x (staying x a) in
          let one = one_key s sh x y (inr (p, w)) (st.arises y (inr b)) e in
          let before = st.before x p (subst (λ z. Among z (h ∷ rest)) (sym one) (inr b)) w own_head in
          omega (arith, before));
      own = λ d a. elim (split d a) [ inl w ↦ w.own | inr b ↦ st.own d (inr b) ];
      arises = λ d a. elim (split d a) [ inl w ↦ inr (p, write_of d w) | inr b ↦ st.arises d (inr b) ];
      ahead = λ d j a is. elim (split d a) [
        | inl w ↦ later j d is (sh.lawful.rises (world_at s p).state h d w.among)
        | inr b ↦ later j d is (st.rising.0 d b)
      ];
      before = λ d k a w own. elim (split d a) [
        | inl stay ↦ let same = written_at_once s sh k p d w (write_of d stay) in omega (arith, same)
        | inr b ↦ omega (arith, st.before d k (inr b) w own)
      ];
      came_across = λ d k a w other. elim (split d a) [
        | inl stay ↦
            let same = writer k d w (written_at_once s sh k p d w (write_of d stay)) in
            absurd (let wrong : true ≡ false = sym own_head ∙ ap (is_on_line s i) (sym same) ∙ other in cc)
        | inr b ↦ st.came_across d k (inr b) w other
      ];
      opening = λ d own a fresh. from_before d fresh (st.opening d own a (before_then d fresh));
      inside = λ d k own w by l fresh. elim (lt_or_same k p (omega arith)) [
        | inl less ↦ elim (lt_or_ge k n) [
          | inl early ↦ from_before d fresh (st.inside d k own w by early (before_then d fresh))
          | inr late ↦ let other = q.none k w.by late less w.is in absurd (let wrong : true ≡ false = sym by ∙ other in cc)
        ]
        | inr same ↦
            let there : Among d its = subst (λ e. Among d (s.machine.writes (world_at s p).state e)) (writer k d w same)
            (subst (λ j. Among d (s.machine.writes (world_at s j).state w.by)) same w.among) in
            among_put_all_self s.machine.key d (stays s i its) rest
            (among_filter (is_on_line s i) d _ (among_filter (λ x. s.kept (s.machine.key x)) d its there w.passes) own)
      ];
      across = λ d k own w other c fresh. from_before d fresh (st.across d k own w other c (before_then d fresh));
    }

  -- ---- after events came from other timelines

  -- events that come to the timeline: they are written for it on other ones, did not come before, and are not executed
  pub record IsArrival (n : ℕ) (came came' : E → Type 0) (ds : List E) : Type 0 where
    pub own : (d : E) → Among d ds → is_on_line s i d ≡ true
    pub across : (d : E) → Among d ds → (k : ℕ) × (w : IsKeptWrite s k d) × (is_on_line s i w.by ≡ false)
    pub new : (d : E) → Among d ds → came d → ⊥
    pub fresh : (d : E) → Among d ds → WasExecuted s n d → ⊥
    pub apart : IsApart s.machine.key ds
    pub more : (d : E) → came d → came' d
    pub here : (d : E) → Among d ds → came' d
    pub only : (d : E) → came' d → came d ⊎ Among d ds

  pub stands_taken : (n : ℕ) (came came' : E → Type 0) (ds ps : List E) → IsStanding s i n came ps → IsArrival n came came' ds → IsStanding s i n came' (put_all s.machine.key ds ps)
  stands_taken n came came' ds ps st q = record {
    rising = put_all_rises s.machine.key ds ps st.rising q.apart
        (λ x y a b e.
        let w = q.across x a in
        let one = one_key s sh x y (inr (w.0, w.1)) (st.arises y b) e in
        q.new x a (st.came_across x w.0 (subst (λ z. Among z ps) (sym one) b) w.1 w.2));
    own = λ d a. elim (put_all_among s.machine.key d ds ps a) [ inl b ↦ q.own d b | inr b ↦ st.own d b ];
    arises = λ d a. elim (put_all_among s.machine.key d ds ps a) [ inl b ↦ (let w = q.across d b in inr (w.0, w.1)) | inr b ↦ st.arises d b ];
    ahead = λ d j a is. elim (put_all_among s.machine.key d ds ps a) [
      | inl b ↦ elim (lt_or_ge j n) [ inl less ↦ absurd (q.fresh d b (j, less, is)) | inr more ↦ more ]
      | inr b ↦ st.ahead d j b is
    ];
    before = λ d k a w own. elim (put_all_among s.machine.key d ds ps a) [
      | inl b ↦
          let v = q.across d b in
          let same = written_at_once s sh k v.0 d w v.1 in
          let one = one_event s sh v.0 w.by v.1.by (subst (λ j. event_at s j ≡ Some w.by) same w.is) v.1.is in
          absurd (let wrong : true ≡ false = sym own ∙ ap (is_on_line s i) one ∙ v.2 in cc)
      | inr b ↦ st.before d k b w own
    ];
    came_across = λ d k a w other. elim (put_all_among s.machine.key d ds ps a) [ inl b ↦ q.here d b | inr b ↦ q.more d (st.came_across d k b w other) ];
    opening = λ d own a fresh. among_put_all_other s.machine.key d ds ps (st.opening d own a fresh);
    inside = λ d k own w by l fresh. among_put_all_other s.machine.key d ds ps (st.inside d k own w by l fresh);
    across = λ d k own w other c fresh. elim (q.only d c) [
      | inl b ↦ among_put_all_other s.machine.key d ds ps (st.across d k own w other b fresh)
      | inr b ↦ among_put_all_self s.machine.key d ds ps b
    ];
  }

  -- ---- at the beginning

  pub stands_first : (came : E → Type 0) → ((d : E) → came d → ⊥) → IsStanding s i 0 came (filter (λ e. is_on_line s i e) s.opening.pending)
  stands_first came none = record {
    rising = filter_rises s.machine.key (is_on_line s i) s.opening.pending sh.opening.risen;
    own = λ d a. (filter_among (is_on_line s i) d s.opening.pending a).passes;
    arises = λ d a. inl (filter_among (is_on_line s i) d s.opening.pending a).among;
    ahead = λ d j a is. omega arith;
    before = λ d k a w own. absurd (not_opened s sh k d (filter_among (is_on_line s i) d s.opening.pending a).among w);
    came_across = λ d k a w other. absurd (not_opened s sh k d (filter_among (is_on_line s i) d s.opening.pending a).among w);
    opening = λ d own a fresh. among_filter (is_on_line s i) d s.opening.pending a own;
    inside = λ d k own w by l fresh. absurd (omega arith);
    across = λ d k own w other c fresh. absurd (none d c);
  }
