use Rattle.smith_instr.specs.declared.instr.Instr.TheVariants as instr
use Rattle.smith_check_references.proofs.Common.{bare, held, Ok}
use Rattle.smith_check_references.proofs.RowLemmas.{tried_one}
use Rattle.smith_instr.specs.declared.reference.ReferenceInstr.TheVariants as reference
use Rattle.std.specs.Prelude.{false, true}
use Rattle.smith_check_references.proofs.ChoiceLemmas.{is_null_row}
use Rattle.smith_check_references.proofs.RowLemmas.{none_topped, none_fits, one_applied, pushed_one}
use Rattle.smith_check_references.specs.Choices.{ReadsAny}
use Rattle.smith_check_references.proofs.references.ref_is_null.Goals as goal

pub returns-in_default-clause-ok : goal.returns-in_default-clause-ok
returns-in_default-clause-ok c = λ labels set.
    tried_one (bare c.args.scope.now) labels (instr.Reference reference.IsNull) set (ReadsAny (bare c.args.scope.now))
    (held c.args.operands.now) (held c.pop.new.self) (Ok false)
    (is_null_row (bare c.args.scope.now) labels set) (none_topped (bare c.args.scope.now) (ReadsAny (bare c.args.scope.now))
    (held c.args.operands.now) c.in_default.ensures)

pub returns-in_default-tested-clause-ok : goal.returns-in_default-tested-clause-ok
returns-in_default-tested-clause-ok c = λ labels set.
    tried_one (bare c.args.scope.now) labels (instr.Reference reference.IsNull) set (ReadsAny (bare c.args.scope.now))
    (held c.args.operands.now) (held c.pop.new.self) (Ok false)
    (is_null_row (bare c.args.scope.now) labels set) (none_fits (bare c.args.scope.now) (ReadsAny (bare c.args.scope.now)) c.in-Some.top
    (held c.args.operands.now) (held c.pop.new.self)
    c.in-Some.ensures (c.in_default-tested.ensures (bare c.args.scope.now) c.in-Some.ensures.top_valid))

pub returns-clause-ok : goal.returns-clause-ok
returns-clause-ok c = λ labels set.
    let least = c.in-Some-tested.ensures (bare c.args.scope.now) c.in-Some.ensures.top_valid in
    let given = c.in-Some-tested.given in
    tried_one (bare c.args.scope.now) labels (instr.Reference reference.IsNull) set (ReadsAny (bare c.args.scope.now))
    (held c.args.operands.now) _ (Ok true)
    (is_null_row (bare c.args.scope.now) labels set) (one_applied (bare c.args.scope.now) (ReadsAny (bare c.args.scope.now)) c.in-Some.top
    given (held c.args.operands.now) (held c.pop.new.self) _
    c.in-Some.ensures least
    (pushed_one (bare c.args.scope.now) c.pop.new.self.known.items _ given c.pop.new.self.dead c.in-Some.ensures.valid least.valid
    c.in_ok-push.ensures.items))
