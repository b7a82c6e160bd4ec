use Rattle.std.proofs.Common.{inl, inr, Some, Ok, ap, sym, ◌∙◌}
use Rattle.net_build.proofs.Plans.{build_refused, build_fits, same_built}
use Rattle.net_build.proofs.Runs.{ring_named}
use Rattle.net_build.proofs.ring.build_ring.Goals as goal

pub returns-in-Err-TooManyChannels-clause-cause : goal.returns-in-Err-TooManyChannels-clause-cause
returns-in-Err-TooManyChannels-clause-cause c =
    let refused = c.in-Err-TooManyChannels.field-0-is in
    elim c.in-Err-TooManyChannels.ensures.cause [
      | inl memory ↦ cc
      | inr fault ↦ inr (build_refused c.args.nodes c.args.tokens.now c.args.hops.now c.requires.nodes c.requires.hops (sym c.has_long_delay.ensures ∙ c.if-has_long_delay.false) (fault ∙ ap Some refused))
    ]

pub returns-clause-built : goal.returns-clause-built
returns-clause-built c =
    build_fits c.args.nodes c.args.tokens.now c.args.hops.now c.requires.nodes c.requires.hops (sym c.has_long_delay.ensures ∙ c.if-has_long_delay.false) c.in-Ok.ensures.made.0
    ∙ ap Ok (same_built c.args.nodes c.args.tokens.now c.args.hops.now c.in-Ok.builder c.in_ok-plan.plan c.in_ok-names.names.names c.in_ok-nets.nets
    c.in-Ok.ensures.made.1 c.in_ok-plan.ensures.plan c.in_ok-names.ensures c.in_ok-nets.ensures)

pub returns-clause-fits : goal.returns-clause-fits
returns-clause-fits c = c.in_ok-plan.ensures.fits

pub returns-clause-named : goal.returns-clause-named
returns-clause-named c =
    ring_named (record {}) c.args.nodes c.args.tokens.now c.args.hops.now c.in-Ok.builder c.in_ok-plan.plan c.in_ok-names.names.names
    c.in-Ok.ensures.made.1 c.in_ok-plan.ensures.plan c.in_ok-names.ensures
