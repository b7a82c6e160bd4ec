-- From the keys of a ring to its plan.
use Rattle.std.proofs.Common.{◌≡◌, ℕ, ◌+◌, ◌≤◌, ◌⊎◌, Bool, true, false, cond, nat_lt, List, map, length, replicate, decimal, Some, None, Result, Ok, Err, IfOk, IfErr, refl, arith, ap, sym, subst, ◌∙◌}
use Rattle.std.specs.List.{All, list_any, range_with_len}
use Rattle.dml_tree.specs.declared.tree.Attribute.{Attribute}
use Rattle.net_graph.specs.declared.fault.ShapeFault.{ShapeFault}
use Rattle.net_graph.specs.declared.fault.ShapeFault.TheVariants.{Memory, TooManyChannels}
use Rattle.ssf_model.specs.declared.builder.BuildFault.TheVariants as refused
use Rattle.ssf_model.specs.declared.plan.Plan.{Plan}
use Rattle.ssf_model.specs.Drafts.{Draft, MostChannels, planned}
use Rattle.ring_model.specs.declared.ring.Ring.{Ring}
use Rattle.ring_model.specs.declared.ring.RingState.{RingState}
use Rattle.ring_model.specs.declared.ring.RingPayload.{RingPayload}
use Rattle.ring_model.specs.declared.ring.Hop.{Hop}
use Rattle.ring_model.specs.Rings.{ring_draft, with_hops, ring_refusal}
use Rattle.net_build.specs.declared.built.Built.{Built}
use Rattle.net_build.specs.RingModel.{Read, RingKeys, then_read, ring_of, built_of, build, is_long, ring_plan_of}
use Rattle.net_build.proofs.Rooms.{IsWithin, ring_room}

-- the keys of the ring of a tree were read
pub ring_found : (root : List Attribute) (keys : RingKeys) (tokens : List ℕ) (hops : List Hop) → ring_of root ≡ Ok keys → tokens ≡ keys.tokens → hops ≡ keys.hops →
    ring_plan_of root ≡ build (record { nodes = keys.nodes; tokens = tokens; hops = hops })
ring_found root keys tokens hops read t h =
    ap (λ (r : Read RingKeys). then_read r build) read
    ∙ (ap (λ (ts : List ℕ). build (record { nodes = keys.nodes; tokens = ts; hops = keys.hops })) (sym t)
    ∙ ap (λ (hs : List Hop). build (record { nodes = keys.nodes; tokens = tokens; hops = hs })) (sym h))

full : (b : Bool) → cond b (Some refused.TooManyChannels) None ≡ Some refused.TooManyChannels → b ≡ true
full true e = refl
full false e = cc

not_full : (b : Bool) → cond b (Some refused.TooManyChannels) None ≡ None → b ≡ false
not_full true e = cc
not_full false e = refl

-- there are too many nodes and hops
pub build_refused : (nodes : ℕ) (tokens : List ℕ) (hops : List Hop) → nodes ≤ 65536 → All (IsWithin nodes) hops → list_any is_long hops ≡ false → ring_refusal (record {}) nodes tokens hops ≡ Some refused.TooManyChannels →
    build (record { nodes = nodes; tokens = tokens; hops = hops }) ≡ Err TooManyChannels
build_refused nodes tokens hops few within short e =
    let much = full (nat_lt MostChannels (nodes + length hops)) (sym (ring_room (record {}) nodes tokens hops (omega arith) within short) ∙ e) in
    rw (short, much) refl

-- there are few enough of them
pub build_fits : (nodes : ℕ) (tokens : List ℕ) (hops : List Hop) → nodes ≤ 65536 → All (IsWithin nodes) hops → list_any is_long hops ≡ false → ring_refusal (record {}) nodes tokens hops ≡ None →
    build (record { nodes = nodes; tokens = tokens; hops = hops }) ≡ Ok (built_of (record { nodes = nodes; tokens = tokens; hops = hops }))
build_fits nodes tokens hops few within short e =
    let little = not_full (nat_lt MostChannels (nodes + length hops)) (sym (ring_room (record {}) nodes tokens hops (omega arith) within short) ∙ e) in
    rw (short, little) refl

-- what was built
pub same_built : (nodes : ℕ) (tokens : List ℕ) (hops : List Hop) (builder : Draft Ring RingState) (plan : Plan Ring RingState RingPayload) (names : List (List ℕ)) (nets : List ℕ) →
    builder ≡ with_hops (ring_draft (record {}) nodes tokens) hops → plan ≡ planned builder → names ≡ map decimal (range_with_len 0 nodes) → nets ≡ replicate nodes 0 →
    built_of (record { nodes = nodes; tokens = tokens; hops = hops }) ≡ record { plan = plan; names = record { names = names }; nets = nets }
same_built nodes tokens hops builder plan names nets b p n t =
    let whole : plan ≡ planned (with_hops (ring_draft (record {}) nodes tokens) hops) = p ∙ ap (λ (d : Draft Ring RingState). planned d) b in
    rw (whole, n, t) refl

-- what one definition says of a result, an equal one says too
pub passed_ok : (r : Result (Built Ring RingState RingPayload) ShapeFault) (a b : Read (Built Ring RingState RingPayload)) → a ≡ b → IfOk r (λ built. b ≡ Ok built) → IfOk r (λ built. a ≡ Ok built)
passed_ok r a b e h = subst (λ (x : Read (Built Ring RingState RingPayload)). IfOk r (λ built. x ≡ Ok built)) (sym e) h

pub passed_err : (r : Result (Built Ring RingState RingPayload) ShapeFault) (a b : Read (Built Ring RingState RingPayload)) → a ≡ b → IfErr r (λ fault. (fault ≡ Memory) ⊎ (b ≡ Err fault)) → IfErr r (λ fault. (fault ≡ Memory) ⊎ (a ≡ Err fault))
passed_err r a b e h = subst (λ (x : Read (Built Ring RingState RingPayload)). IfErr r (λ fault. (fault ≡ Memory) ⊎ (x ≡ Err fault))) (sym e) h
