use Rattle.std.proofs.Common.{◌≡◌, ℕ, ◌+◌, ◌<◌, List, length, get_or, slice_index, Some, refl, ap, subst, sym, ◌∙◌, arith}
use Rattle.ip_blocks.specs.declared.layout.LinkSize.{LinkSize}
use Rattle.ip_blocks.specs.declared.layout.NetParent.{NetParent}
use Rattle.ip_blocks.specs.Apart.{no_link}
use Rattle.ip_blocks.specs.Blocks.{Part, exponent_of, parts_of}
use Rattle.ip_blocks.specs.Tree.{at}
use Rattle.ip_blocks.proofs.Layouts.{no_net, length-parts_from, net_at, link_at}
use Rattle.ip_blocks.proofs.Listing.{AreListed, listed_more, listed_all}
use Rattle.ip_blocks.proofs.members.members.Goals as goal

net_member : (links : List LinkSize) (nets : List NetParent) (i e : ℕ) → i < length nets → e ≡ (at (parts_of links nets) i).exponent → record { net = (get_or nets i no_net).parent; exponent = e; order = (get_or nets i no_net).order } ≡ at (parts_of links nets) i
net_member links nets i e lt h =
    ap (λ k. record { net = (get_or nets i no_net).parent; exponent = k; order = (get_or nets i no_net).order }) (h ∙ ap (λ (p : Part). p.exponent) (net_at links nets i lt))
    ∙ sym (net_at links nets i lt)

link_member : (links : List LinkSize) (nets : List NetParent) (k e : ℕ) → k < length links → e ≡ exponent_of ((get_or links k no_link).attachments + 2) → record { net = Some (get_or links k no_link).net; exponent = e; order = (get_or links k no_link).order } ≡ at (parts_of links nets) (length nets + k)
link_member links nets k e lt h =
    ap (λ x. record { net = Some (get_or links k no_link).net; exponent = x; order = (get_or links k no_link).order }) h
    ∙ sym (link_at links nets k lt)

pub loop-number-preserved : goal.loop-number-preserved
loop-number-preserved c =
    rw c.in_ok-push.ensures.items (listed_more c.loop-number.members.items (parts_of c.args.links.now c.args.nets.now) c.loop-number.number _ c.loop-number.invariant
    (net_member c.args.links.now c.args.nets.now c.loop-number.number (slice_index c.args.exponents.now c.loop-number.number) (omega arith) (c.requires.exponents.1 c.loop-number.number (omega arith))) refl)

pub loop-link-preserved : goal.loop-link-preserved
loop-link-preserved c =
    let links : List LinkSize = c.args.links.now in
    let nets : List NetParent = c.args.nets.now in
    let k : ℕ = c.loop-link.link-index in
    let next : length nets + k + 1 ≡ length nets + (k + 1) = omega arith in
    let number : c.len-number.result ≡ length nets + k = omega (arith, c.loop-link.invariant.0, c.loop-link.members.ok.0, c.len-number.ensures) in
    rw (c.in_ok-push-2.ensures.items, ← next)
    (listed_more c.loop-link.members.items (parts_of links nets) (length nets + k) _ c.loop-link.invariant
    (link_member links nets k c.link_exponent.result (omega arith) c.link_exponent.ensures) number)

pub returns-clause-parts : goal.returns-clause-parts
returns-clause-parts c =
    let links : List LinkSize = c.args.links.now in
    let nets : List NetParent = c.args.nets.now in
    let all : length nets + c.loop-link.link-index ≡ length (parts_of links nets) = omega (arith, length-parts_from links 0 nets) in
    (listed_all c.loop-link.members.items (parts_of links nets) (subst (AreListed c.loop-link.members.items (parts_of links nets)) all c.loop-link.invariant)).0
