use Rattle.smith_check_references.proofs.Common.{[], bare, created_reference, false≢true, FieldType, held, I32, inr, IsElemOf, refl, subst}
use Rattle.smith_check_references.proofs.Common.{sym, To, ◌∙◌, ◌∷◌}
use Rattle.smith_instr.specs.declared.instr.Instr.TheVariants as instr
use Rattle.smith_instr.specs.declared.aggregate.AggregateInstr.TheVariants as aggregate
use Rattle.smith_check_references.proofs.RowLemmas.{tried_row}
use Rattle.smith_check_references.proofs.TableLemmas.{ranges_as}
use Rattle.smith_check_references.proofs.AggregateLemmas.{array_same, array_valid, elem_without, elem_within}
use Rattle.smith_check_references.proofs.arrays.array_new_elem.Goals as goal

pub create-requires-clause-expected : goal.create-requires-clause-expected
create-requires-clause-expected c = ranges_as c.args.scope.now.types.now.types (I32 ∷ I32 ∷ []) (I32 ∷ I32 ∷ [])
    refl (tt, (tt, tt))

pub create-requires-clause-aggregate : goal.create-requires-clause-aggregate
create-requires-clause-aggregate c = inr (c.in-Some.element, c.in-Some.ensures)

pub returns-in_default-clause-ok : goal.returns-in_default-clause-ok
returns-in_default-clause-ok c = λ labels set before after covered s.
    let (these, those, has, is, also) = s.typed in
    c.in_default.ensures has.0 has.1

pub is_elem_of-requires-clause-element : goal.is_elem_of-requires-clause-element
is_elem_of-requires-clause-element c = array_valid (bare c.args.scope.now) c.args.ty c.in-Some.element c.requires.scope c.in-Some.ensures

pub returns-then-not-is_elem_of-clause-ok : goal.returns-then-not-is_elem_of-clause-ok
returns-then-not-is_elem_of-clause-ok c = λ labels set before after covered s.
    let (these, those, has, is, also) = s.typed in
    let same = array_same c.args.scope.now.types.now.types c.args.ty has.0 c.in-Some.element has.1 c.in-Some.ensures in
    false≢true (sym c.if-not-is_elem_of.true ∙ c.is_elem_of.ensures.1
    (subst (λ (e : FieldType). IsElemOf (bare c.args.scope.now) c.args.segment e) same
    (elem_without (bare c.args.scope.now) labels c.args.segment has.0 has.2)))

pub returns-clause-ok : goal.returns-clause-ok
returns-clause-ok c = λ labels set.
    tried_row (bare c.args.scope.now) labels (instr.Aggregate (aggregate.ArrayNewElem c.args.ty c.args.segment)) set (I32 ∷ I32 ∷ [])
    (created_reference (bare c.args.scope.now) c.args.ty ∷ []) (I32 ∷ I32 ∷ []) (held c.args.operands.now) _ c.create.result
    (λ os rs t. t) (λ os rs t. t) (
      c.in-Some.element,
      c.in-Some.ensures,
      elem_within (bare c.args.scope.now) labels c.args.segment c.in-Some.element
          (c.is_elem_of.ensures.0 c.if-not-is_elem_of.false),
      (refl, refl),
    )
    (λ os rs t. let (other, at, of, fits) = t in
    subst (λ (e : FieldType). To os rs (I32 ∷ I32 ∷ []) (created_reference (bare c.args.scope.now) c.args.ty ∷ []))
    (array_same c.args.scope.now.types.now.types c.args.ty other c.in-Some.element at c.in-Some.ensures) fits)
    refl c.create.ensures.ok
