-- What a host has before its first event.
use Rattle.std.proofs.Common.{◌≡◌, ◌∙◌, ℕ, suc, ◌+◌, ◌<◌, ◌≤◌, List, [], ◌∷◌, ◌++◌, length, map, drop, get_or, refl, sym, ap, subst, append_assoc, append-nil, arith}
use Rattle.std.proofs.lemmas.List.{length-replicate, at_drop_all}
use Rattle.sim_base.specs.declared.records.ClientRow.{ClientRow}
use Rattle.rand_pcg.specs.Lcg.{Lcg}
use Rattle.traffic.specs.Progress.{IsProgress, at_first}
use Rattle.traffic.specs.Starts.{drawn_start}
use Rattle.ssf_model.specs.Reaction.{Each, LongestDelay}
use Rattle.host_rules.specs.declared.rows.HostRows.{HostRows}
use Rattle.host_rules.specs.declared.rows.HostPort.{HostPort}
use Rattle.host_rules.specs.Hosts.{Stack, starts_from, idle_interface, first_stack}
use Rattle.host_rules.specs.Limits.{AreInterfaces, IsStack}
use Rattle.host_rules.proofs.Listing.{each_append}
use Rattle.host_sending.proofs.Looping.{ahead}
use Rattle.host_stack.specs.Keeping.{IsState}

-- Starts.
pub starts_length : (generator : Lcg) (clients : List ClientRow) → length (starts_from generator clients) ≡ length clients
starts_length generator [] = refl
starts_length generator (client ∷ clients) = ap suc (starts_length (drawn_start generator client.start client.window).1 clients)

-- the starts so far and those that are left make all
pub record StartLoop (generator : Lcg) (clients rest : List ClientRow) (starts : List ℕ) (stream : Lcg) : Type 0 where
  pub all : starts_from generator clients ≡ starts ++ starts_from stream rest
  pub early : Each (λ start. start ≤ LongestDelay) starts

pub starts_next : (generator : Lcg) (clients : List ClientRow) (i : ℕ) (client : ClientRow) (starts : List ℕ) (stream : Lcg) (start : ℕ) (stream' : Lcg) (starts' : List ℕ)
    → i < length clients → client ≡ get_or clients i client → start ≡ (drawn_start stream client.start client.window).0 → stream' ≡ (drawn_start stream client.start client.window).1
    → starts' ≡ starts ++ start ∷ [] → start ≤ LongestDelay → StartLoop generator clients (drop i clients) starts stream → StartLoop generator clients (drop (i + 1) clients) starts' stream'
starts_next generator clients i client starts stream start stream' starts' below at drawn moved pushed early loop =
    let rest = drop (i + 1) clients in
    let step : starts_from generator clients ≡ starts ++ ((drawn_start stream client.start client.window).0 ∷ starts_from (drawn_start stream client.start client.window).1 rest) =
    subst (λ (left : List ClientRow). starts_from generator clients ≡ starts ++ starts_from stream left) (ahead clients i client below at) loop.all in
    record {
      all = step ∙ ap (λ (s : ℕ). starts ++ (s ∷ starts_from (drawn_start stream client.start client.window).1 rest)) (sym drawn)
          ∙ ap (λ (g : Lcg). starts ++ (start ∷ starts_from g rest)) (sym moved)
          ∙ sym (append_assoc starts (start ∷ []) (starts_from stream' rest))
          ∙ ap (λ (ss : List ℕ). ss ++ starts_from stream' rest) (sym pushed);
      early = subst (λ (ss : List ℕ). Each (λ start. start ≤ LongestDelay) ss) (sym pushed) (each_append (λ start. start ≤ LongestDelay) starts (start ∷ []) loop.early (early, tt));
    }

pub starts_last : (generator : Lcg) (clients : List ClientRow) (i : ℕ) (starts : List ℕ) (stream : Lcg) → length clients ≤ i → StartLoop generator clients (drop i clients) starts stream
    → starts ≡ starts_from generator clients
starts_last generator clients i starts stream past loop =
    sym (loop.all ∙ ap (λ (ss : List ℕ). starts ++ ss) (at_drop_all (λ (left : List ClientRow). starts_from stream left) clients i past) ∙ append-nil starts)

-- What events change is in range.
idle_are : (frequency : ℕ) (ports : List HostPort) → AreInterfaces frequency ports (map (idle_interface frequency) ports)
idle_are frequency [] = tt
idle_are frequency (port ∷ ports) = (record { bitrate = refl; frequency_is = refl; buffer = refl; soon = omega arith }, idle_are frequency ports)

first_is_stack : (rows : HostRows) → IsProgress (at_first rows.clients rows.servers) → IsStack rows (first_stack rows)
unfolding at_first
first_is_stack rows progress = record {
  interfaces = idle_are rows.tcp.frequency rows.ports;
  servers = refl;
  progress = progress;
  given = length-replicate (length rows.clients) 0;
  left = length-replicate (length rows.clients) 0;
  opened = omega arith;
  entries = tt;
  order = tt;
  accepted = omega arith;
  few = omega arith;
}

pub first_state : (rows : HostRows) (starts : List ℕ) (stack : Stack) → Each (λ start. start ≤ LongestDelay) starts → length starts ≡ length rows.clients → stack ≡ first_stack rows → IsProgress stack.apps
    → IsState rows starts stack
first_state rows starts stack early count e progress = record {
  starts_early = early;
  starts_are = count;
  stack_is = subst (λ (s : Stack). IsStack rows s) (sym e) (first_is_stack rows (subst (λ (s : Stack). IsProgress s.apps) e progress));
}
