use Rattle.std.proofs.Common.{sym, ◌∙◌}
use Rattle.ssf_model.proofs.Finding.{found_among, message_iff, no_message}
use Rattle.ssf_model.proofs.opening.is_message.Goals as goal

pub returns-in-Some : goal.returns-in-Some
returns-in-Some c =
    message_iff c.leads.result c.args.mappings.now c.args.entity c.args.key.now c.args.in_channel c.in-Some.mapping c.requires (sym c.mapping_on.ensures ∙ c.in-Some.is) c.leads.ensures

pub returns-in-None : goal.returns-in-None
returns-in-None c = (
  (λ h. absurd (cc)),
  (λ has. absurd (no_message c.args.mappings.now c.args.entity c.args.key.now c.args.in_channel c.requires (sym c.mapping_on.ensures ∙ c.in-None.is) has)),
)

pub leads-requires : goal.leads-requires
leads-requires c = (found_among c.args.key.now.channel c.args.mappings.now c.in-Some.mapping (sym c.mapping_on.ensures ∙ c.in-Some.is)).0
