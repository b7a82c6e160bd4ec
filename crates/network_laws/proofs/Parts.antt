-- Links, sessions and traffic that were met.
use Rattle.std.proofs.Common.{◌≡◌, ℕ, ◌+◌, ◌<◌, ◌≤◌, List, [], ◌∷◌, ◌++◌, length, ap, ◌∙◌, arith, length-append}
use Rattle.std.specs.Prelude.{All, sum_by}
use Rattle.std.proofs.lemmas.List.Sums.{sum_by_push}
use Rattle.std.proofs.lemmas.List.Elements.{All-push, All-weaker}
use Rattle.net_graph.specs.declared.list_keys.SessionKeys.{SessionKeys}
use Rattle.net_graph.specs.declared.seen.LinkSeen.{LinkSeen}
use Rattle.net_graph.specs.declared.seen.SessionSeen.{SessionSeen}
use Rattle.net_graph.specs.declared.seen.PatternSeen.{PatternSeen}
use Rattle.net_graph.specs.declared.seen.ServerSeen.{ServerSeen}
use Rattle.net_graph.specs.declared.seen.TrafficSeen.{TrafficSeen}
use Rattle.net_graph.specs.declared.seen.TrafficSeen.TheVariants as traffic
use Rattle.net_graph.specs.SeenRows.{session_in}
use Rattle.network_laws.proofs.Ranges.{IsLinkKeys, IsSessionKeys}
use Rattle.network_laws.proofs.Hosts.{IsLast, last_is}

-- links

abbrev pub downs_at : LinkSeen → ℕ
downs_at link = length link.keys.downs

pub record LinksMet (links : List LinkSeen) (downs : ℕ) : Type 0 where
  pub keys : All (λ (link : LinkSeen). IsLinkKeys link.keys) links
  pub count : sum_by downs_at links ≡ downs
  pub few : downs ≤ 64

pub met_keys : (links : List LinkSeen) (downs : ℕ) (link : LinkSeen) → LinksMet links downs → IsLinkKeys link.keys → (downs ≤ 64 → downs + downs_at link ≤ 64) → LinksMet (links ++ link ∷ []) (downs + downs_at link)
met_keys links downs link met keys few = record {
  keys = All-push (λ (l : LinkSeen). IsLinkKeys l.keys) links link met.keys keys;
  count = sum_by_push downs_at links link ∙ ap (λ (n : ℕ). n + downs_at link) met.count;
  few = few met.few;
}

-- sessions

pub record SessionsMet (frequency : ℕ) (sessions : List SessionSeen) (hosts : ℕ) : Type 0 where
  pub few : length sessions ≤ 262144
  pub within : All (λ (s : SessionSeen). s.host < hosts) sessions
  pub keys : All (λ (s : SessionSeen). IsSessionKeys frequency s.keys) sessions

pub sessions_grown : (frequency : ℕ) (sessions : List SessionSeen) (hosts more : ℕ) → hosts ≤ more → SessionsMet frequency sessions hosts → SessionsMet frequency sessions more
sessions_grown frequency sessions hosts more le met = record {
  few = met.few;
  within = All-weaker (λ (s : SessionSeen). s.host < hosts) (λ (s : SessionSeen). s.host < more) (λ s lt. omega arith) sessions met.within;
  keys = met.keys;
}

pub met_session : (frequency : ℕ) (sessions : List SessionSeen) (hosts : List (List ℕ)) (h : List ℕ) (keys : SessionKeys) → SessionsMet frequency sessions (length hosts) → IsLast h hosts → length sessions < 262144 → IsSessionKeys frequency keys →
    SessionsMet frequency (sessions ++ session_in hosts keys ∷ []) (length hosts)
met_session frequency sessions hosts h keys met last few is_keys =
    let longer : length (sessions ++ session_in hosts keys ∷ []) ≡ length sessions + 1 = length-append sessions (session_in hosts keys ∷ []) in
    record {
      few = omega arith;
      within = All-push (λ (s : SessionSeen). s.host < length hosts) sessions (session_in hosts keys) met.within (last_is h hosts last).0;
      keys = All-push (λ (s : SessionSeen). IsSessionKeys frequency s.keys) sessions (session_in hosts keys) met.keys is_keys;
    }

-- traffic

abbrev pub servers_in : TrafficSeen → ℕ
servers_in (traffic.Pattern p) = 0
servers_in (traffic.Server s) = 1

abbrev pub HasPort : TrafficSeen → Type 0
HasPort (traffic.Pattern p) = Unit {0}
HasPort (traffic.Server s) = 1 ≤ s.keys.port

-- a pattern comes first
abbrev pub IsHeaded : List TrafficSeen → Type 0
IsHeaded [] = Unit {0}
IsHeaded (traffic.Pattern p ∷ more) = Unit {0}
IsHeaded (traffic.Server s ∷ more) = ⊥

headed_push : (xs : List TrafficSeen) (x : TrafficSeen) → IsHeaded xs → 0 < length xs → IsHeaded (xs ++ x ∷ [])
headed_push [] x h lt = absurd (omega arith)
headed_push (traffic.Pattern p ∷ more) x h lt = tt
headed_push (traffic.Server s ∷ more) x h lt = absurd h

headed_pattern : (xs : List TrafficSeen) (p : PatternSeen) → IsHeaded xs → IsHeaded (xs ++ traffic.Pattern p ∷ [])
headed_pattern [] p h = tt
headed_pattern (traffic.Pattern q ∷ more) p h = tt
headed_pattern (traffic.Server s ∷ more) p h = absurd h

pub record TrafficMet (xs : List TrafficSeen) (servers : ℕ) : Type 0 where
  pub few : servers ≤ 65536
  pub count : sum_by servers_in xs ≡ servers
  pub ports : All HasPort xs
  pub headed : IsHeaded xs

pub met_pattern : (xs : List TrafficSeen) (servers : ℕ) (p : PatternSeen) → TrafficMet xs servers → TrafficMet (xs ++ traffic.Pattern p ∷ []) servers
met_pattern xs servers p met =
    let pushed : sum_by servers_in (xs ++ traffic.Pattern p ∷ []) ≡ sum_by servers_in xs + 0 = sum_by_push servers_in xs (traffic.Pattern p) in
    let count = met.count in
    record {
      few = met.few;
      count = omega arith;
      ports = All-push HasPort xs (traffic.Pattern p) met.ports tt;
      headed = headed_pattern xs p met.headed;
    }

pub met_server : (xs : List TrafficSeen) (servers : ℕ) (s : ServerSeen) → TrafficMet xs servers → 0 < length xs → servers < 65536 → 1 ≤ s.keys.port → TrafficMet (xs ++ traffic.Server s ∷ []) (servers + 1)
met_server xs servers s met some few port =
    let pushed : sum_by servers_in (xs ++ traffic.Server s ∷ []) ≡ sum_by servers_in xs + 1 = sum_by_push servers_in xs (traffic.Server s) in
    let count = met.count in
    record {
      few = omega arith;
      count = omega arith;
      ports = All-push HasPort xs (traffic.Server s) met.ports port;
      headed = headed_push xs (traffic.Server s) met.headed some;
    }
