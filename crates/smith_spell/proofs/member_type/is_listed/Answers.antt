use Rattle.smith_spell.proofs.ListedTypeLemmas.{offered_from_listed, listed_from_offered}
use Rattle.smith_spell.proofs.member_type.is_listed.Goals as goal

pub returns : goal.returns
returns c = (
  λ yes. listed_from_offered c.args.config.now c.args.ty (c.is_offered.ensures.0 yes),
  λ listed. c.is_offered.ensures.1 (offered_from_listed c.args.config.now c.args.ty listed),
)
