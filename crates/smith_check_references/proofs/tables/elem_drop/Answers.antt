use Rattle.smith_check_references.proofs.Common.{[], arith, bare, held, no_range, refl, tried_values}
use Rattle.smith_instr.specs.declared.instr.Instr.TheVariants as instr
use Rattle.smith_instr.specs.declared.table.TableInstr.TheVariants as table
use Rattle.smith_check_references.proofs.tables.elem_drop.Goals as goal

pub apply-requires-clause-expected : goal.apply-requires-clause-expected
apply-requires-clause-expected c = no_range c.args.scope.now.types.now.types

pub returns-clause-ok : goal.returns-clause-ok
returns-clause-ok c = λ labels set.
    tried_values (bare c.args.scope.now) labels (instr.Table (table.ElemDrop c.args.segment)) set [] [] [] [] (held c.args.operands.now) _
    c.apply.result
    (λ os rs t. t) (λ os rs t. t) (omega arith, (refl, refl)) (λ os rs t. t.1) refl refl c.apply.ensures.ok
