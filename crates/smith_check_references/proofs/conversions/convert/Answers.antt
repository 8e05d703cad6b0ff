use Rattle.smith_check_references.proofs.Common.{bare, held, IsConverted}
use Rattle.smith_check_references.proofs.RowLemmas.{none_topped, none_fits, one_applied, pushed_one}
use Rattle.smith_check_references.proofs.conversions.convert.Goals as goal

pub returns-in_default-clause-ok : goal.returns-in_default-clause-ok
returns-in_default-clause-ok c =
    none_topped (bare c.args.scope.now) (IsConverted c.args.outer c.args.inner) (held c.args.operands.now) c.in_default.ensures

pub returns-in_default-conversion_of-clause-ok : goal.returns-in_default-conversion_of-clause-ok
returns-in_default-conversion_of-clause-ok c =
    none_fits (bare c.args.scope.now) (IsConverted c.args.outer c.args.inner) c.in-Some.top (held c.args.operands.now)
    (held c.pop.new.self) c.in-Some.ensures c.in_default-conversion_of.ensures

pub returns-clause-ok : goal.returns-clause-ok
returns-clause-ok c =
    let least = c.in-Some-conversion_of.ensures in
    one_applied (bare c.args.scope.now) (IsConverted c.args.outer c.args.inner) c.in-Some.top c.in-Some-conversion_of.given
    (held c.args.operands.now) (held c.pop.new.self) _ c.in-Some.ensures least
    (pushed_one (bare c.args.scope.now) c.pop.new.self.known.items _ c.in-Some-conversion_of.given c.pop.new.self.dead
    c.in-Some.ensures.valid least.valid c.in_ok-push.ensures.items)
