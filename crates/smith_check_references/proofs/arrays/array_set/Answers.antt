use Rattle.smith_check_references.proofs.Common.{[], bare, Concrete, FieldType, held, I32, in_range, nullable_to, refl, subst, To}
use Rattle.smith_check_references.proofs.Common.{tried_values, value_of, ◌∷◌}
use Rattle.smith_instr.specs.declared.instr.Instr.TheVariants as instr
use Rattle.smith_instr.specs.declared.aggregate.AggregateInstr.TheVariants as aggregate
use Rattle.smith_check_references.proofs.TableLemmas.{ranges_as}
use Rattle.smith_check_references.proofs.AggregateLemmas.{array_same, array_valid, array_inside}
use Rattle.smith_check_references.proofs.arrays.array_set.Goals as goal

pub apply-requires-clause-expected : goal.apply-requires-clause-expected
apply-requires-clause-expected c = ranges_as c.args.scope.now.types.now.types (c.nullable_at.result ∷ I32 ∷ c.unpack-value.result ∷ [])
    (nullable_to (Concrete c.args.ty) ∷ I32 ∷ value_of c.in-Some.element ∷ [])
    (cc (c.nullable_at.ensures, c.unpack-value.ensures)) (
      (array_inside c.args.scope.now.types.now.types c.args.ty c.in-Some.element c.in-Some.ensures.0),
      (
        tt,
        (
          (in_range (bare c.args.scope.now) (value_of c.in-Some.element)
              (array_valid (bare c.args.scope.now) c.args.ty c.in-Some.element c.requires.scope c.in-Some.ensures.0)),
          tt,
        ),
      ),
    )

pub returns-in_default-clause-ok : goal.returns-in_default-clause-ok
returns-in_default-clause-ok c = λ labels set before after covered s.
    let (these, those, has, is, also) = s.typed in
    c.in_default.ensures has.0 has.1 has.2

pub returns-clause-ok : goal.returns-clause-ok
returns-clause-ok c = λ labels set.
    tried_values (bare c.args.scope.now) labels (instr.Aggregate (aggregate.ArraySet c.args.ty)) set
    (nullable_to (Concrete c.args.ty) ∷ I32 ∷ value_of c.in-Some.element ∷ [])
    ([]) (c.nullable_at.result ∷ I32 ∷ c.unpack-value.result ∷ []) ([]) (held c.args.operands.now) _ c.apply.result
    (λ os rs t. t) (λ os rs t. t)
    (c.in-Some.element, c.in-Some.ensures.0, c.in-Some.ensures.1, (refl, refl))
    (λ os rs t. let (other, at, mutable, fits) = t in
    subst (λ (e : FieldType). To os rs (nullable_to (Concrete c.args.ty) ∷ I32 ∷ value_of e ∷ []) ([]))
    (array_same c.args.scope.now.types.now.types c.args.ty other c.in-Some.element at c.in-Some.ensures.0) fits)
    (cc (c.nullable_at.ensures, c.unpack-value.ensures)) refl c.apply.ensures.ok
