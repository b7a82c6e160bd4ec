use Rattle.std.proofs.Common.{◌≡◌, ◌^◌, ◌≤◌, ◌<◌, ℕ, List, length, refl, ap, subst, ◌∙◌, inr}
use Rattle.std.proofs.lemmas.List.{length-map}
use Rattle.std.proofs.lemmas.Bool.{lt-ltb, le-ltb}
use Rattle.ip_blocks.specs.declared.layout.LinkSize.{LinkSize}
use Rattle.ip_blocks.specs.declared.layout.NetParent.{NetParent}
use Rattle.ip_blocks.specs.Blocks.{blocks_of, top_size}
use Rattle.ip_blocks.specs.Apart.{HasRoom}
use Rattle.net_graph.specs.Networks.{link_size, net_parent, link_sizes, net_parents}
use Rattle.net_layout.specs.Addresses.{network_blocks, addresses_needed}
use Rattle.net_layout.specs.Faults.{has_no_space}
use Rattle.net_layout.proofs.layout.network_blocks.Goals as goal

pub returns-in-Ok-clause-blocks : goal.returns-in-Ok-clause-blocks
unfolding network_blocks
returns-in-Ok-clause-blocks c =
    let links : c.as_slice.result.now ≡ link_sizes c.args.network.now = c.as_slice.ensures.value ∙ c.in_ok-links.ensures in
    let nets : c.as_slice-2.result.now ≡ net_parents c.args.network.now = c.as_slice-2.ensures.value ∙ c.in_ok-nets.ensures in
    record {
      are = c.in-Ok.ensures.blocks ∙ ap (λ (ls : List LinkSize). blocks_of ls c.as_slice-2.result.now) links ∙ ap (λ (ns : List NetParent). blocks_of (link_sizes c.args.network.now) ns) nets;
      nets = c.in-Ok.ensures.nets ∙ ap (λ (ns : List NetParent). length ns) nets ∙ length-map c.args.network.now.nets net_parent;
      links = c.in-Ok.ensures.links ∙ ap (λ (ls : List LinkSize). length ls) links ∙ length-map c.args.network.now.links link_size;
      room = subst (λ (ls : List LinkSize). HasRoom ls c.in-Ok.blocks) links c.in-Ok.ensures.laws.room;
    }

pub returns-in-Ok-clause-space : goal.returns-in-Ok-clause-space
unfolding has_no_space addresses_needed
returns-in-Ok-clause-space c =
    let links : c.as_slice.result.now ≡ link_sizes c.args.network.now = c.as_slice.ensures.value ∙ c.in_ok-links.ensures in
    let nets : c.as_slice-2.result.now ≡ net_parents c.args.network.now = c.as_slice-2.ensures.value ∙ c.in_ok-nets.ensures in
    let size : top_size c.as_slice.result.now c.as_slice-2.result.now ≡ top_size (link_sizes c.args.network.now) (net_parents c.args.network.now) =
    ap (λ (ls : List LinkSize). top_size ls c.as_slice-2.result.now) links ∙ ap (λ (ns : List NetParent). top_size (link_sizes c.args.network.now) ns) nets in
    let fits : top_size (link_sizes c.args.network.now) (net_parents c.args.network.now) ≤ 2 ^ 24 = subst (λ (n : ℕ). n ≤ 2 ^ 24) size c.in-Ok.ensures.fits in
    le-ltb (2 ^ 24) (top_size (link_sizes c.args.network.now) (net_parents c.args.network.now)) fits

pub returns-in-Err-NoSpace-clause-cause : goal.returns-in-Err-NoSpace-clause-cause
unfolding has_no_space addresses_needed
returns-in-Err-NoSpace-clause-cause c =
    let links : c.as_slice.result.now ≡ link_sizes c.args.network.now = c.as_slice.ensures.value ∙ c.in_ok-links.ensures in
    let nets : c.as_slice-2.result.now ≡ net_parents c.args.network.now = c.as_slice-2.ensures.value ∙ c.in_ok-nets.ensures in
    let size : top_size c.as_slice.result.now c.as_slice-2.result.now ≡ top_size (link_sizes c.args.network.now) (net_parents c.args.network.now) =
    ap (λ (ls : List LinkSize). top_size ls c.as_slice-2.result.now) links ∙ ap (λ (ns : List NetParent). top_size (link_sizes c.args.network.now) ns) nets in
    let above : 2 ^ 24 < top_size (link_sizes c.args.network.now) (net_parents c.args.network.now) = subst (λ (n : ℕ). 2 ^ 24 < n) size (c.in-Err-NoSpace.ensures.no_space c.in-Err-NoSpace.field-0-is) in
    inr (refl, lt-ltb (2 ^ 24) (top_size (link_sizes c.args.network.now) (net_parents c.args.network.now)) above)
