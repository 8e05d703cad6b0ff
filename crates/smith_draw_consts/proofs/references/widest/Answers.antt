use Rattle.smith_draw_consts.proofs.Common.{sym, ◌∙◌}
use Rattle.smith_draw_consts.proofs.references.widest.Goals as goal

pub is_below-requires-clause-upper : goal.is_below-requires-clause-upper
is_below-requires-clause-upper c = c.nullable-wider.ensures c.args.types.now.types

pub returns-then-is_below : goal.returns-then-is_below
returns-then-is_below c = (c.nullable-wider.ensures c.args.types.now.types, sym c.is_below.ensures ∙ c.if-is_below.true)
