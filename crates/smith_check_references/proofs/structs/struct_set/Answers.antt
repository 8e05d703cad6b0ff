use Rattle.smith_check_references.proofs.Common.{[], bare, Concrete, FieldType, held, in_range, nullable_to, refl, subst, To, tried_values}
use Rattle.smith_check_references.proofs.Common.{value_of, ◌∷◌}
use Rattle.smith_instr.specs.declared.instr.Instr.TheVariants as instr
use Rattle.smith_instr.specs.declared.aggregate.AggregateInstr.TheVariants as aggregate
use Rattle.smith_check_references.proofs.TableLemmas.{ranges_as}
use Rattle.smith_check_references.proofs.AggregateLemmas.{field_same, field_valid, field_inside, field_without, field_within}
use Rattle.smith_check_references.proofs.structs.struct_set.Goals as goal

pub apply-requires-clause-expected : goal.apply-requires-clause-expected
apply-requires-clause-expected c = ranges_as c.args.scope.now.types.now.types (c.nullable_at.result ∷ c.unpack-value.result ∷ [])
    (nullable_to (Concrete c.args.ty) ∷ value_of c.in-Some.field ∷ [])
    (cc (c.nullable_at.ensures, c.unpack-value.ensures)) (
      field_inside (bare c.args.scope.now) c.args.ty c.args.index c.in-Some.field
          c.in-Some.ensures.0,
      (
        in_range (bare c.args.scope.now) (value_of c.in-Some.field)
            (field_valid (bare c.args.scope.now) c.args.ty c.args.index c.in-Some.field c.requires.scope c.in-Some.ensures.0),
        tt,
      ),
    )

pub returns-in_default-clause-ok : goal.returns-in_default-clause-ok
returns-in_default-clause-ok c = λ labels set before after covered s.
    let (these, those, has, is, also) = s.typed in
    c.in_default.ensures has.0 (field_without (bare c.args.scope.now) labels c.args.ty c.args.index has.0 has.1) has.2

pub returns-clause-ok : goal.returns-clause-ok
returns-clause-ok c = λ labels set.
    tried_values (bare c.args.scope.now) labels (instr.Aggregate (aggregate.StructSet c.args.ty c.args.index)) set
    (nullable_to (Concrete c.args.ty) ∷ value_of c.in-Some.field ∷ [])
    ([]) (c.nullable_at.result ∷ c.unpack-value.result ∷ []) ([]) (held c.args.operands.now) _ c.apply.result
    (λ os rs t. t) (λ os rs t. t) (
      c.in-Some.field,
      field_within (bare c.args.scope.now) labels c.args.ty c.args.index c.in-Some.field c.in-Some.ensures.0,
      c.in-Some.ensures.1,
      (refl, refl),
    )
    (λ os rs t. let (other, at, mutable, fits) = t in
    subst (λ (f : FieldType). To os rs (nullable_to (Concrete c.args.ty) ∷ value_of f ∷ []) [])
    (field_same (bare c.args.scope.now) c.args.ty c.args.index other c.in-Some.field
    (field_without (bare c.args.scope.now) labels c.args.ty c.args.index other at) c.in-Some.ensures.0) fits)
    (cc (c.nullable_at.ensures, c.unpack-value.ensures)) refl c.apply.ensures.ok
