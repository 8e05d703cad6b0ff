use Rattle.smith_check_instr.proofs.Common.{[], bare, false, held, one_in_range, tried_leaving, values, ◌∷◌}
use Rattle.smith_types.specs.Syntax.value_type.AbstractHeapType.TheVariants as abstract
use Rattle.smith_types.specs.Syntax.value_type.HeapType.TheVariants.{Abstract}
use Rattle.smith_instr.specs.Contexts.{nullable_to}
use Rattle.smith_instr.specs.declared.instr.Instr.TheVariants as instr
use Rattle.smith_check_instr.proofs.control.throw_ref.Goals as goal

pub leave_with-requires-clause-expected : goal.leave_with-requires-clause-expected
leave_with-requires-clause-expected c = one_in_range c.args.scope.now.types.now.types (nullable_to (Abstract false abstract.Exn)) tt

pub returns : goal.returns
returns c = λ labels set.
    tried_leaving (bare c.args.scope.now) labels instr.ThrowRef set (values (nullable_to (Abstract false abstract.Exn) ∷ []))
    c.leave_with.result (held c.args.operands.now) (held c.leave_with.new.self)
    (record { typed = λ os rs t. t; only = λ os rs t. t }) c.leave_with.ensures
