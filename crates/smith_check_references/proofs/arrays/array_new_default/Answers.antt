use Rattle.smith_check_references.proofs.Common.{[], ap, bare, created_reference, false≢true, FieldType, held, I32, inr, IsDefaultable}
use Rattle.smith_check_references.proofs.Common.{refl, subst, sym, To, value_of, ◌∙◌, ◌∷◌}
use Rattle.smith_instr.specs.declared.instr.Instr.TheVariants as instr
use Rattle.smith_instr.specs.declared.aggregate.AggregateInstr.TheVariants as aggregate
use Rattle.smith_check_references.proofs.RowLemmas.{tried_row}
use Rattle.smith_check_references.proofs.TableLemmas.{ranges_as}
use Rattle.smith_check_references.proofs.AggregateLemmas.{array_same}
use Rattle.smith_check_references.proofs.AggregateLemmas.{default_is}
use Rattle.smith_types.proofs.GroundedLemmas.{default_for}
use Rattle.smith_check_references.proofs.arrays.array_new_default.Goals as goal

pub create-requires-clause-expected : goal.create-requires-clause-expected
create-requires-clause-expected c = ranges_as c.args.scope.now.types.now.types (I32 ∷ []) (I32 ∷ [])
    refl (tt, tt)

pub create-requires-clause-aggregate : goal.create-requires-clause-aggregate
create-requires-clause-aggregate c = inr (c.in-Some.element, c.in-Some.ensures)

pub returns-in_default-clause-ok : goal.returns-in_default-clause-ok
returns-in_default-clause-ok c = λ labels set before after covered s.
    let (these, those, has, is, also) = s.typed in
    c.in_default.ensures has.0 has.1

pub returns-then-not-is_defaultable-clause-ok : goal.returns-then-not-is_defaultable-clause-ok
returns-then-not-is_defaultable-clause-ok c = λ labels set before after covered s.
    let (these, those, has, is, also) = s.typed in
    let same = array_same c.args.scope.now.types.now.types c.args.ty has.0 c.in-Some.element has.1 c.in-Some.ensures in
    false≢true (sym c.if-not-is_defaultable.true ∙ c.is_defaultable.ensures
    ∙ default_is c.unpack-value.result
    (subst IsDefaultable (ap (λ (e : FieldType). value_of e) same ∙ sym c.unpack-value.ensures) has.2))

pub returns-clause-ok : goal.returns-clause-ok
returns-clause-ok c = λ labels set.
    tried_row (bare c.args.scope.now) labels (instr.Aggregate (aggregate.ArrayNewDefault c.args.ty)) set (I32 ∷ [])
    (created_reference (bare c.args.scope.now) c.args.ty ∷ []) (I32 ∷ []) (held c.args.operands.now) _ c.create.result
    (λ os rs t. t) (λ os rs t. t) (
      c.in-Some.element,
      c.in-Some.ensures,
      subst IsDefaultable c.unpack-value.ensures
          (default_for c.unpack-value.result (sym c.is_defaultable.ensures ∙ c.if-not-is_defaultable.false)),
      (refl, refl),
    )
    (λ os rs t. let (other, at, default, fits) = t in
    subst (λ (e : FieldType). To os rs (I32 ∷ []) (created_reference (bare c.args.scope.now) c.args.ty ∷ []))
    (array_same c.args.scope.now.types.now.types c.args.ty other c.in-Some.element at c.in-Some.ensures) fits)
    refl c.create.ensures.ok
