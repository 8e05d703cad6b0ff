use Rattle.smith_check_references.proofs.Common.{[], ap, arith, bare, Concrete, false≢true, FieldType, held, I32, nullable_to, refl, subst}
use Rattle.smith_check_references.proofs.Common.{sym, To, tried_values, ValType, ◌∙◌, ◌∷◌}
use Rattle.smith_instr.specs.AggregateTypes.{IsOfBytes}
use Rattle.smith_instr.specs.declared.instr.Instr.TheVariants as instr
use Rattle.smith_instr.specs.declared.aggregate.AggregateInstr.TheVariants as aggregate
use Rattle.smith_check_references.proofs.TableLemmas.{ranges_as}
use Rattle.smith_check_references.proofs.AggregateLemmas.{array_same, array_inside}
use Rattle.smith_check_references.proofs.arrays.array_init_data.Goals as goal

pub apply-requires-clause-expected : goal.apply-requires-clause-expected
apply-requires-clause-expected c = ranges_as c.args.scope.now.types.now.types (c.nullable_at.result ∷ I32 ∷ I32 ∷ I32 ∷ [])
    (nullable_to (Concrete c.args.ty) ∷ I32 ∷ I32 ∷ I32 ∷ [])
    (ap (λ (v : ValType). v ∷ I32 ∷ I32 ∷ I32 ∷ []) c.nullable_at.ensures)
    ((array_inside c.args.scope.now.types.now.types c.args.ty c.in-Some.element c.in-Some.ensures.0), (tt, (tt, (tt, tt))))

pub returns-in_default-clause-ok : goal.returns-in_default-clause-ok
returns-in_default-clause-ok c = λ labels set before after covered s.
    let (these, those, has, is, also) = s.typed in
    c.in_default.ensures has.0 has.1 has.2

pub returns-then-not-is_of_bytes-clause-ok : goal.returns-then-not-is_of_bytes-clause-ok
returns-then-not-is_of_bytes-clause-ok c = λ labels set before after covered s.
    let (these, those, has, is, also) = s.typed in
    let same = array_same c.args.scope.now.types.now.types c.args.ty has.0 c.in-Some.element has.1 c.in-Some.ensures.0 in
    false≢true (sym c.if-not-is_of_bytes.true ∙ c.is_of_bytes.ensures.1
    (subst (λ (e : FieldType). IsOfBytes e.element_type) same has.3))

pub returns-clause-ok : goal.returns-clause-ok
returns-clause-ok c = λ labels set.
    tried_values (bare c.args.scope.now) labels (instr.Aggregate (aggregate.ArrayInitData c.args.ty c.args.segment)) set
    (nullable_to (Concrete c.args.ty) ∷ I32 ∷ I32 ∷ I32 ∷ [])
    ([]) (c.nullable_at.result ∷ I32 ∷ I32 ∷ I32 ∷ []) ([]) (held c.args.operands.now) _ c.apply.result
    (λ os rs t. t) (λ os rs t. t) (
      c.in-Some.element,
      c.in-Some.ensures.0,
      c.in-Some.ensures.1,
      c.is_of_bytes.ensures.0 c.if-not-is_of_bytes.false,
      omega arith,
      (refl, refl),
    )
    (λ os rs t. let (other, at, mutable, bytes, inside, fits) = t in
    subst (λ (e : FieldType). To os rs (nullable_to (Concrete c.args.ty) ∷ I32 ∷ I32 ∷ I32 ∷ []) ([]))
    (array_same c.args.scope.now.types.now.types c.args.ty other c.in-Some.element at c.in-Some.ensures.0) fits)
    (ap (λ (v : ValType). v ∷ I32 ∷ I32 ∷ I32 ∷ []) c.nullable_at.ensures) refl c.apply.ensures.ok
