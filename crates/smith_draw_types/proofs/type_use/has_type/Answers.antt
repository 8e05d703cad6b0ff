use Rattle.smith_draw_types.proofs.Common.{ap, length, nat_lt, ◌∙◌}
use Rattle.smith_draw_types.proofs.type_use.has_type.Goals as goal

pub returns : goal.returns
returns c = ap (λ n. nat_lt 0 n) (c.count_in.ensures ∙ ap length (c.types_of.ensures c.args.space.now.types))
