use Rattle.smith_check_references.proofs.Common.{[], ap, bare, created_reference, FieldType, held, I32, in_range, inr, refl, subst, To}
use Rattle.smith_check_references.proofs.Common.{ValType, value_of, ◌∷◌}
use Rattle.smith_instr.specs.declared.instr.Instr.TheVariants as instr
use Rattle.smith_instr.specs.declared.aggregate.AggregateInstr.TheVariants as aggregate
use Rattle.smith_check_references.proofs.RowLemmas.{tried_row}
use Rattle.smith_check_references.proofs.TableLemmas.{ranges_as}
use Rattle.smith_check_references.proofs.AggregateLemmas.{array_same, array_valid}
use Rattle.smith_check_references.proofs.arrays.array_new.Goals as goal

pub create-requires-clause-expected : goal.create-requires-clause-expected
create-requires-clause-expected c = ranges_as c.args.scope.now.types.now.types (c.unpack-value.result ∷ I32 ∷ [])
    (value_of c.in-Some.element ∷ I32 ∷ [])
    (ap (λ (v : ValType). v ∷ I32 ∷ []) c.unpack-value.ensures) (
      (in_range (bare c.args.scope.now) (value_of c.in-Some.element) (array_valid (bare c.args.scope.now) c.args.ty c.in-Some.element
          c.requires.scope c.in-Some.ensures)),
      (tt, tt),
    )

pub create-requires-clause-aggregate : goal.create-requires-clause-aggregate
create-requires-clause-aggregate c = inr (c.in-Some.element, c.in-Some.ensures)

pub returns-in_default-clause-ok : goal.returns-in_default-clause-ok
returns-in_default-clause-ok c = λ labels set before after covered s.
    let (these, those, has, is, also) = s.typed in
    c.in_default.ensures has.0 has.1

pub returns-clause-ok : goal.returns-clause-ok
returns-clause-ok c = λ labels set.
    tried_row (bare c.args.scope.now) labels (instr.Aggregate (aggregate.ArrayNew c.args.ty)) set (value_of c.in-Some.element ∷ I32 ∷ [])
    (created_reference (bare c.args.scope.now) c.args.ty ∷ []) (c.unpack-value.result ∷ I32 ∷ []) (held c.args.operands.now) _
    c.create.result
    (λ os rs t. t) (λ os rs t. t)
    (c.in-Some.element, c.in-Some.ensures, (refl, refl))
    (λ os rs t. let (other, at, fits) = t in
    subst (λ (e : FieldType). To os rs (value_of e ∷ I32 ∷ []) (created_reference (bare c.args.scope.now) c.args.ty ∷ []))
    (array_same c.args.scope.now.types.now.types c.args.ty other c.in-Some.element at c.in-Some.ensures) fits)
    (ap (λ (v : ValType). v ∷ I32 ∷ []) c.unpack-value.ensures) c.create.ensures.ok
