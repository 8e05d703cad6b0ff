use Rattle.smith_draw_imports.proofs.Common.{arith}
use Rattle.smith_draw_imports.proofs.NoImportLemmas.{whole_takes}
use Rattle.smith_draw_imports.proofs.import_groups.draw_group_kind.Goals as goal

pub returns-then-third-eq1-clause-shorter : goal.returns-then-third-eq1-clause-shorter
returns-then-third-eq1-clause-shorter c = λ other. whole_takes c.args.u.now c.arbitrary-number.new.self c.arbitrary-number.result
    c.arbitrary-number.ensures.exact (omega (arith, c.if-third-eq0.false))

pub returns-clause-shorter : goal.returns-clause-shorter
returns-clause-shorter c = λ other. whole_takes c.args.u.now c.arbitrary-number.new.self c.arbitrary-number.result
    c.arbitrary-number.ensures.exact (omega (arith, c.if-third-eq0.false))
