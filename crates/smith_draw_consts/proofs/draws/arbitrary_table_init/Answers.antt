use Rattle.smith_draw_consts.proofs.Common.{false}
use Rattle.smith_draw_consts.specs.ConstScopes.{seen_by}
use Rattle.smith_draw_consts.proofs.draws.arbitrary_table_init.Goals as goal

pub draw_table_init-requires-clause-kept : goal.draw_table_init-requires-clause-kept
draw_table_init-requires-clause-kept c = c.new-kept.ensures (seen_by c.args.config.now c.args.spaces.now false)
