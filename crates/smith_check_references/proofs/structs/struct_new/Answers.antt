use Rattle.smith_check_references.proofs.Common.{[], bare, created_reference, field_values, FieldType, held, inl, Ok, refl, subst, To}
use Rattle.smith_check_references.proofs.Common.{values, ◌∷◌}
use Rattle.smith_instr.specs.declared.instr.Instr.TheVariants as instr
use Rattle.smith_instr.specs.declared.aggregate.AggregateInstr.TheVariants as aggregate
use Rattle.smith_check_references.proofs.RowLemmas.{tried_row, unpopped, popped_given}
use Rattle.smith_check_references.proofs.AggregateLemmas.{struct_same, fields_in_range}
use Rattle.std.specs.Prelude.{false, List}
use Rattle.smith_check_references.proofs.structs.struct_new.Goals as goal

pub push_created-requires-clause-aggregate : goal.push_created-requires-clause-aggregate
push_created-requires-clause-aggregate c = inl (c.in-Some.fields.now, c.in-Some.ensures)

pub returns-in_default-clause-ok : goal.returns-in_default-clause-ok
returns-in_default-clause-ok c = λ labels set before after covered s.
    let (these, those, has, is, also) = s.typed in
    c.in_default.ensures has.0 has.1

pub pop_fields-requires-clause-expected : goal.pop_fields-requires-clause-expected
pop_fields-requires-clause-expected c = fields_in_range (bare c.args.scope.now) c.args.ty c.in-Some.fields.now c.requires.scope
    c.in-Some.ensures

pub returns-then-not-pop_fields-clause-ok : goal.returns-then-not-pop_fields-clause-ok
returns-then-not-pop_fields-clause-ok c = λ labels set.
    tried_row (bare c.args.scope.now) labels (instr.Aggregate (aggregate.StructNew c.args.ty)) set (field_values c.in-Some.fields.now)
    (created_reference (bare c.args.scope.now) c.args.ty ∷ []) (field_values c.in-Some.fields.now) (held c.args.operands.now)
    (held c.pop_fields.new.operands) (Ok false)
    (λ os rs t. t) (λ os rs t. t)
    (c.in-Some.fields.now, c.in-Some.ensures, (refl, refl))
    (λ os rs t. let (other, at, fits) = t in
    subst (λ (fs : List FieldType). To os rs (field_values fs) (created_reference (bare c.args.scope.now) c.args.ty ∷ []))
    (struct_same c.args.scope.now.types.now.types c.args.ty other c.in-Some.fields.now at c.in-Some.ensures) fits)
    refl
    (unpopped (bare c.args.scope.now) (values (field_values c.in-Some.fields.now))
    (values (created_reference (bare c.args.scope.now) c.args.ty ∷ [])) (held c.args.operands.now) c.if-not-pop_fields.ensures)

pub returns-clause-ok : goal.returns-clause-ok
returns-clause-ok c = λ labels set.
    tried_row (bare c.args.scope.now) labels (instr.Aggregate (aggregate.StructNew c.args.ty)) set (field_values c.in-Some.fields.now)
    (created_reference (bare c.args.scope.now) c.args.ty ∷ []) (field_values c.in-Some.fields.now) (held c.args.operands.now) _
    c.push_created.result
    (λ os rs t. t) (λ os rs t. t)
    (c.in-Some.fields.now, c.in-Some.ensures, (refl, refl))
    (λ os rs t. let (other, at, fits) = t in
    subst (λ (fs : List FieldType). To os rs (field_values fs) (created_reference (bare c.args.scope.now) c.args.ty ∷ []))
    (struct_same c.args.scope.now.types.now.types c.args.ty other c.in-Some.fields.now at c.in-Some.ensures) fits)
    refl
    (popped_given (bare c.args.scope.now) (values (field_values c.in-Some.fields.now)) (created_reference (bare c.args.scope.now) c.args.ty)
    (held c.args.operands.now)
    (held c.pop_fields.new.operands) _ c.push_created.result c.if-not-pop_fields.ensures c.push_created.ensures.ok)
