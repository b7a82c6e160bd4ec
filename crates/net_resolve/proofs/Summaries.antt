-- What the sessions of each host say of it.
use Rattle.std.proofs.Common.{◌≡◌, ℕ, ◌<◌, ◌≢◌, Bool, true, false, nat_eq, ◌||◌, ◌&&◌, List, [], ◌∷◌, length, get_or, replicate, refl, ap, sym, ◌∙◌, arith, eqb-true, get_or-set_same, get_or-set_other, length-set, subst}
use Rattle.std.proofs.lemmas.Bool.{eqb-false}
use Rattle.std.specs.Prelude.{if◌then◌else◌}
use Rattle.std.specs.List.{list_any}
use Rattle.std.specs.Option.{unwrap_or}
use Rattle.std.proofs.lemmas.List.{length-replicate, get_or-replicate}
use Rattle.sim_base.specs.declared.records.TcpConfig.{TcpConfig}
use Rattle.net_graph.specs.declared.list_keys.SessionKeys.{SessionKeys}
use Rattle.net_graph.specs.declared.list_keys.SessionKeys.TheVariants as keys
use Rattle.net_graph.specs.declared.seen.SessionSeen.{SessionSeen}
use Rattle.net_graph.specs.ListKeys.{default_tcp}
use Rattle.net_graph.specs.NetworkOf.{is_ospf_kind, tcp_or, is_ospf, tcp_in}
use Rattle.net_resolve.specs.declared.hosts.HostSummary.{HostSummary}
use Rattle.net_resolve.specs.Tables.{silent, with_session, told_one, told}

-- turns of the loop over sessions

pub told_turn : (whole summaries after : List HostSummary) (now ss : List SessionSeen) (s : SessionSeen) → whole ≡ told summaries now → now ≡ s ∷ ss → after ≡ told_one summaries s → whole ≡ told after ss
unfolding told
told_turn whole summaries after now ss s e is put = e ∙ (ap (told summaries) is ∙ ap (λ (t : List HostSummary). told t ss) (sym put))

pub told_end : (whole summaries : List HostSummary) (now : List SessionSeen) → whole ≡ told summaries now → now ≡ [] → summaries ≡ whole
unfolding told
told_end whole summaries now e is = sym (e ∙ ap (told summaries) is)

-- one session

or_false : (a : Bool) → a ≡ (a || false)
or_false true = refl
or_false false = refl

or_true : (a : Bool) → true ≡ (a || true)
or_true true = refl
or_true false = refl

or_more : (a b c : Bool) → ((a || b) || c) ≡ (a || (b || c))
or_more true b c = refl
or_more false b c = refl

said_ospf : (k : SessionKeys) (w : HostSummary) → (with_session k w).ospf ≡ (w.ospf || is_ospf_kind k)
said_ospf keys.Silent w = or_false w.ospf
said_ospf keys.Ospf w = or_true w.ospf
said_ospf (keys.Tcp settings) w = or_false w.ospf
said_ospf (keys.Client row) w = or_false w.ospf
said_ospf (keys.Server port) w = or_false w.ospf

said_tcp : (k : SessionKeys) (w : HostSummary) (d : TcpConfig) → unwrap_or (with_session k w).tcp d ≡ unwrap_or w.tcp (tcp_or k d)
said_tcp keys.Silent w d = refl
said_tcp keys.Ospf w d = refl
said_tcp (keys.Tcp settings) w d = refl
said_tcp (keys.Client row) w d = refl
said_tcp (keys.Server port) w d = refl

one_here : (summaries : List HostSummary) (s : SessionSeen) (h : ℕ) → h < length summaries → nat_eq s.host h ≡ true → get_or (told_one summaries s) h silent ≡ with_session s.keys (get_or summaries h silent)
one_here summaries s h lt here =
    let same : s.host ≡ h = eqb-true s.host h here in
    let w : HostSummary = with_session s.keys (get_or summaries s.host silent) in
    ap (λ (k : ℕ). get_or (told_one summaries s) k silent) (sym same)
    ∙ (get_or-set_same summaries s.host w silent (subst (λ (k : ℕ). k < length summaries) (sym same) lt)
    ∙ ap (λ (k : ℕ). with_session s.keys (get_or summaries k silent)) same)

one_other : (summaries : List HostSummary) (s : SessionSeen) (h : ℕ) → nat_eq s.host h ≡ false → get_or (told_one summaries s) h silent ≡ get_or summaries h silent
one_other summaries s h other =
    let ne : h ≢ s.host = λ e. eqb-false s.host h other (sym e) in
    get_or-set_other summaries s.host h (with_session s.keys (get_or summaries s.host silent)) silent ne

ospf_by : (summaries : List HostSummary) (s : SessionSeen) (h : ℕ) (b : Bool) → h < length summaries → nat_eq s.host h ≡ b → (get_or (told_one summaries s) h silent).ospf ≡ ((get_or summaries h silent).ospf || (b && is_ospf_kind s.keys))
ospf_by summaries s h true lt here = ap (λ (w : HostSummary). w.ospf) (one_here summaries s h lt here) ∙ said_ospf s.keys (get_or summaries h silent)
ospf_by summaries s h false lt other = ap (λ (w : HostSummary). w.ospf) (one_other summaries s h other) ∙ or_false (get_or summaries h silent).ospf

tcp_by : (summaries : List HostSummary) (s : SessionSeen) (h : ℕ) (d : TcpConfig) (b : Bool) → h < length summaries → nat_eq s.host h ≡ b →
    unwrap_or (get_or (told_one summaries s) h silent).tcp d ≡ unwrap_or (get_or summaries h silent).tcp (if b then tcp_or s.keys d else d)
tcp_by summaries s h d true lt here = ap (λ (w : HostSummary). unwrap_or w.tcp d) (one_here summaries s h lt here) ∙ said_tcp s.keys (get_or summaries h silent) d
tcp_by summaries s h d false lt other = ap (λ (w : HostSummary). unwrap_or w.tcp d) (one_other summaries s h other)

one_long : (summaries : List HostSummary) (s : SessionSeen) → length (told_one summaries s) ≡ length summaries
one_long summaries s = length-set summaries s.host (with_session s.keys (get_or summaries s.host silent))

-- all sessions

told_ospf : (summaries : List HostSummary) (ss : List SessionSeen) (h : ℕ) → h < length summaries → (get_or (told summaries ss) h silent).ospf ≡ ((get_or summaries h silent).ospf || list_any (is_ospf h) ss)
unfolding told
told_ospf summaries [] h lt = or_false (get_or summaries h silent).ospf
told_ospf summaries (s ∷ ss) h lt =
    let long : length (told_one summaries s) ≡ length summaries = one_long summaries s in
    told_ospf (told_one summaries s) ss h (omega (arith, long, lt))
    ∙ (ap (λ (b : Bool). b || list_any (is_ospf h) ss) (ospf_by summaries s h (nat_eq s.host h) lt refl)
    ∙ or_more (get_or summaries h silent).ospf (is_ospf h s) (list_any (is_ospf h) ss))

told_tcp : (f : ℕ) (summaries : List HostSummary) (ss : List SessionSeen) (h : ℕ) → h < length summaries → unwrap_or (get_or (told summaries ss) h silent).tcp (default_tcp f) ≡ unwrap_or (get_or summaries h silent).tcp (tcp_in f h ss)
unfolding told
told_tcp f summaries [] h lt = refl
told_tcp f summaries (s ∷ ss) h lt =
    let long : length (told_one summaries s) ≡ length summaries = one_long summaries s in
    told_tcp f (told_one summaries s) ss h (omega (arith, long, lt)) ∙ tcp_by summaries s h (tcp_in f h ss) (nat_eq s.host h) lt refl

none_said : (n h : ℕ) → h < n → get_or (replicate n silent) h silent ≡ silent
none_said n h lt = get_or-replicate n h silent silent lt

pub ospf_is : (n : ℕ) (summaries : List HostSummary) (ss : List SessionSeen) (h : ℕ) (w : HostSummary) → summaries ≡ told (replicate n silent) ss → h < n → w ≡ get_or summaries h silent → w.ospf ≡ list_any (is_ospf h) ss
ospf_is n summaries ss h w e lt is =
    let long : length (replicate n silent) ≡ n = length-replicate n silent in
    ap (λ (x : HostSummary). x.ospf) (is ∙ ap (λ (t : List HostSummary). get_or t h silent) e)
    ∙ (told_ospf (replicate n silent) ss h (omega (arith, long, lt)) ∙ ap (λ (x : HostSummary). x.ospf || list_any (is_ospf h) ss) (none_said n h lt))

pub tcp_is : (f n : ℕ) (summaries : List HostSummary) (ss : List SessionSeen) (h : ℕ) (w : HostSummary) → summaries ≡ told (replicate n silent) ss → h < n → w ≡ get_or summaries h silent → unwrap_or w.tcp (default_tcp f) ≡ tcp_in f h ss
tcp_is f n summaries ss h w e lt is =
    let long : length (replicate n silent) ≡ n = length-replicate n silent in
    ap (λ (x : HostSummary). unwrap_or x.tcp (default_tcp f)) (is ∙ ap (λ (t : List HostSummary). get_or t h silent) e)
    ∙ (told_tcp f (replicate n silent) ss h (omega (arith, long, lt)) ∙ ap (λ (x : HostSummary). unwrap_or x.tcp (tcp_in f h ss)) (none_said n h lt))
