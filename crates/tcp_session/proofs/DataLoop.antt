-- Sending segments of data one by one.
use Rattle.std.proofs.Common.{◌≡◌, ℕ, suc, ◌+◌, ◌-◌, ◌<◌, List, ◌++◌, refl, sym, ◌∙◌, ap, arith, append_assoc}
use Rattle.tcp_rules.specs.declared.records.Act.{Act}
use Rattle.tcp_rules.specs.Clients.{ClientFields, data_sent}

-- with what is still to be sent, a client and its acts are what they come to in all
pub record IsDataLoop (count stop now : ℕ) (first : ClientFields) (before : List Act) (done : ℕ) (c : ClientFields) (said : List Act) : Type 0 where
  pub client : (data_sent (count - done) stop now c).after ≡ (data_sent count stop now first).after
  pub acts : said ++ (data_sent (count - done) stop now c).acts ≡ before ++ (data_sent count stop now first).acts

one_more : (rest count stop now : ℕ) (first : ClientFields) (before : List Act) (done : ℕ) (c : ClientFields) (acts : List Act)
    → count - done ≡ suc rest → count - (done + 1) ≡ rest → IsDataLoop count stop now first before done c acts
    → IsDataLoop count stop now first before (done + 1) (data_sent 1 stop now c).after (acts ++ (data_sent 1 stop now c).acts)
one_more rest count stop now first before done c acts here next loop = record {
  client =
      ap (λ n. (data_sent n stop now (data_sent 1 stop now c).after).after) next
      ∙ (ap (λ n. (data_sent n stop now c).after) (sym here) ∙ loop.client);
  acts =
      ap (λ n. (acts ++ (data_sent 1 stop now c).acts) ++ (data_sent n stop now (data_sent 1 stop now c).after).acts) next
      ∙ (append_assoc acts (data_sent 1 stop now c).acts (data_sent rest stop now (data_sent 1 stop now c).after).acts
      ∙ (ap (λ n. acts ++ (data_sent n stop now c).acts) (sym here) ∙ loop.acts));
}

pub data_loop_next : (count stop now : ℕ) (first : ClientFields) (before : List Act) (done : ℕ) (c : ClientFields) (acts : List Act)
    → done < count → IsDataLoop count stop now first before done c acts
    → IsDataLoop count stop now first before (done + 1) (data_sent 1 stop now c).after (acts ++ (data_sent 1 stop now c).acts)
data_loop_next count stop now first before done c acts more loop =
    let here : count - done ≡ suc (count - (done + 1)) = omega arith in
    one_more (count - (done + 1)) count stop now first before done c acts here refl loop
