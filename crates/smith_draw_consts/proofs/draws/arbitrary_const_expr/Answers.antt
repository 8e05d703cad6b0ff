use Rattle.smith_draw_consts.specs.ConstScopes.{seen_by}
use Rattle.smith_draw_consts.proofs.draws.arbitrary_const_expr.Goals as goal

pub draw_const_expr-requires-clause-kept : goal.draw_const_expr-requires-clause-kept
draw_const_expr-requires-clause-kept c = c.new-kept.ensures (seen_by c.args.config.now c.args.spaces.now c.args.allow_defined)
