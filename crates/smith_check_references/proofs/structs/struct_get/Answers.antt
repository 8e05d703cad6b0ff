use Rattle.smith_check_references.proofs.Common.{[], ap, bare, Concrete, false≢true, FieldType, held, IsValid, nullable_to, one_valid, refl}
use Rattle.smith_check_references.proofs.Common.{subst, sym, To, tried_values, ValType, value_of, ◌∙◌, ◌∷◌}
use Rattle.smith_instr.specs.AggregateTypes.{IsReadBy}
use Rattle.smith_instr.specs.declared.instr.Instr.TheVariants as instr
use Rattle.smith_instr.specs.declared.aggregate.AggregateInstr.TheVariants as aggregate
use Rattle.smith_check_references.proofs.TableLemmas.{ranges_as}
use Rattle.smith_check_references.proofs.AggregateLemmas.{field_same, field_valid, field_inside, field_without, field_within}
use Rattle.smith_check_references.proofs.structs.struct_get.Goals as goal

pub apply-requires-clause-expected : goal.apply-requires-clause-expected
apply-requires-clause-expected c = ranges_as c.args.scope.now.types.now.types (c.nullable_at.result ∷ [])
    (nullable_to (Concrete c.args.ty) ∷ [])
    (ap (λ (v : ValType). v ∷ []) c.nullable_at.ensures) (
      field_inside (bare c.args.scope.now) c.args.ty c.args.index c.in-Some.field
          c.in-Some.ensures,
      tt,
    )

pub apply-requires-clause-valid : goal.apply-requires-clause-valid
apply-requires-clause-valid c = one_valid (bare c.args.scope.now) c.unpack-value.result
    (subst (λ v. IsValid (bare c.args.scope.now) v) (sym c.unpack-value.ensures)
    (field_valid (bare c.args.scope.now) c.args.ty c.args.index c.in-Some.field c.requires.scope c.in-Some.ensures))

pub returns-in_default-clause-ok : goal.returns-in_default-clause-ok
returns-in_default-clause-ok c = λ labels set before after covered s.
    let (these, those, has, is, also) = s.typed in
    c.in_default.ensures has.0 (field_without (bare c.args.scope.now) labels c.args.ty c.args.index has.0 has.1)

pub returns-then-not-is_read_by-clause-ok : goal.returns-then-not-is_read_by-clause-ok
returns-then-not-is_read_by-clause-ok c = λ labels set before after covered s.
    let (these, those, has, is, also) = s.typed in
    let same = field_same (bare c.args.scope.now) c.args.ty c.args.index has.0 c.in-Some.field
    (field_without (bare c.args.scope.now) labels c.args.ty c.args.index has.0 has.1) c.in-Some.ensures in
    false≢true (sym c.if-not-is_read_by.true ∙ c.is_read_by.ensures.1
    (subst (λ (f : FieldType). IsReadBy c.args.extension f.element_type) same has.2))

pub returns-clause-ok : goal.returns-clause-ok
returns-clause-ok c = λ labels set.
    tried_values (bare c.args.scope.now) labels (instr.Aggregate (aggregate.StructGet c.args.ty c.args.index c.args.extension)) set
    (nullable_to (Concrete c.args.ty) ∷ [])
    (value_of c.in-Some.field ∷ []) (c.nullable_at.result ∷ []) (c.unpack-value.result ∷ []) (held c.args.operands.now) _ c.apply.result
    (λ os rs t. t) (λ os rs t. t) (
      c.in-Some.field,
      field_within (bare c.args.scope.now) labels c.args.ty c.args.index c.in-Some.field c.in-Some.ensures,
      c.is_read_by.ensures.0 c.if-not-is_read_by.false,
      (refl, refl),
    )
    (λ os rs t. let (other, at, read, fits) = t in
    subst (λ (f : FieldType). To os rs (nullable_to (Concrete c.args.ty) ∷ []) (value_of f ∷ []))
    (field_same (bare c.args.scope.now) c.args.ty c.args.index other c.in-Some.field
    (field_without (bare c.args.scope.now) labels c.args.ty c.args.index other at) c.in-Some.ensures) fits)
    (ap (λ (v : ValType). v ∷ []) c.nullable_at.ensures) (ap (λ (v : ValType). v ∷ []) c.unpack-value.ensures) c.apply.ensures.ok
