use Rattle.std.proofs.Common.{◌≡◌, [], ◌∷◌, ◌++◌, length, codes, arith}
use Rattle.std.proofs.lemmas.Grind.{common_steps}
use Rattle.ssfnet_top.specs.Counts.{counted, hosts_of, routers_of, network_line}
use Rattle.ssfnet_top.proofs.CountLines.{line_made}
use Rattle.ssfnet_top.proofs.checking.network_line.Goals as goal

pub returns : goal.returns
unfolding network_line
returns c =
    let n = c.args.network.now in
    let e0 : c.new-line.result.items ≡ [] = c.new-line.ensures.items in
    let e1 : c.push_first.new.line.items ≡ c.new-line.result.items ++ counted (codes "nets") (length n.nets) = grind (arith, common_steps) in
    let e2 : c.push_next.new.line.items ≡ c.push_first.new.line.items ++ 32 ∷ counted (codes "hosts") (hosts_of n) = grind (arith, common_steps) in
    let e3 : c.push_next-2.new.line.items ≡ c.push_next.new.line.items ++ 32 ∷ counted (codes "routers") (routers_of n) = grind (arith, common_steps) in
    let e4 : c.push_next-3.new.line.items ≡ c.push_next-2.new.line.items ++ 32 ∷ counted (codes "interfaces") (length n.interfaces) = grind (arith, common_steps) in
    let e5 : c.push_next-4.new.line.items ≡ c.push_next-3.new.line.items ++ 32 ∷ counted (codes "links") (length n.links) = grind (arith, common_steps) in
    let e6 : c.push_next-5.new.line.items ≡ c.push_next-4.new.line.items ++ 32 ∷ counted (codes "sessions") (length n.sessions) = grind (arith, common_steps) in
    let e7 : c.push_next-6.new.line.items ≡ c.push_next-5.new.line.items ++ 32 ∷ counted (codes "patterns") (length n.servers) = grind (arith, common_steps) in
    let e8 : c.push_next-7.new.line.items ≡ c.push_next-6.new.line.items ++ 32 ∷ counted (codes "frequency") n.frequency = grind (arith, common_steps) in
    let e9 : c.push.new.self.items ≡ c.push_next-7.new.line.items ++ 10 ∷ [] = grind (arith, common_steps) in
    line_made (counted (codes "nets") (length n.nets)) (counted (codes "hosts") (hosts_of n)) (counted (codes "routers") (routers_of n))
    (counted (codes "interfaces") (length n.interfaces)) (counted (codes "links") (length n.links)) (counted (codes "sessions") (length n.sessions))
    (counted (codes "patterns") (length n.servers)) (counted (codes "frequency") n.frequency)
    c.new-line.result.items c.push_first.new.line.items c.push_next.new.line.items c.push_next-2.new.line.items c.push_next-3.new.line.items
    c.push_next-4.new.line.items c.push_next-5.new.line.items c.push_next-6.new.line.items c.push_next-7.new.line.items c.push.new.self.items
    e0 e1 e2 e3 e4 e5 e6 e7 e8 e9
