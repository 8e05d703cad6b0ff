use Rattle.smith_check_references.proofs.Common.{[], All, bare, created_reference, false≢true, field_values, FieldType, held, inl}
use Rattle.smith_check_references.proofs.Common.{IsDefaultable, no_range, refl, subst, sym, To, ◌∙◌, ◌∷◌}
use Rattle.smith_instr.specs.declared.instr.Instr.TheVariants as instr
use Rattle.smith_instr.specs.declared.aggregate.AggregateInstr.TheVariants as aggregate
use Rattle.smith_check_references.proofs.RowLemmas.{tried_row}
use Rattle.smith_check_references.proofs.AggregateLemmas.{struct_same}
use Rattle.std.specs.Prelude.{List}
use Rattle.smith_check_references.proofs.AggregateLemmas.{defaults_are, are_defaults}
use Rattle.smith_check_references.proofs.structs.struct_new_default.Goals as goal

pub create-requires-clause-aggregate : goal.create-requires-clause-aggregate
create-requires-clause-aggregate c = inl (c.in-Some.fields.now, c.in-Some.ensures)

pub create-requires-clause-expected : goal.create-requires-clause-expected
create-requires-clause-expected c = no_range c.args.scope.now.types.now.types

pub returns-in_default-clause-ok : goal.returns-in_default-clause-ok
returns-in_default-clause-ok c = λ labels set before after covered s.
    let (these, those, has, is, also) = s.typed in
    c.in_default.ensures has.0 has.1

pub returns-then-not-are_defaultable-clause-ok : goal.returns-then-not-are_defaultable-clause-ok
returns-then-not-are_defaultable-clause-ok c = λ labels set before after covered s.
    let (these, those, has, is, also) = s.typed in
    let same = struct_same c.args.scope.now.types.now.types c.args.ty has.0 c.in-Some.fields.now has.1 c.in-Some.ensures in
    false≢true (sym c.if-not-are_defaultable.true ∙ c.are_defaultable.ensures
    ∙ defaults_are c.in-Some.fields.now (subst (λ (fs : List FieldType). All IsDefaultable (field_values fs)) same has.2))

pub returns-clause-ok : goal.returns-clause-ok
returns-clause-ok c = λ labels set.
    tried_row (bare c.args.scope.now) labels (instr.Aggregate (aggregate.StructNewDefault c.args.ty)) set ([])
    (created_reference (bare c.args.scope.now) c.args.ty ∷ []) ([]) (held c.args.operands.now) _ c.create.result
    (λ os rs t. t) (λ os rs t. t) (
      c.in-Some.fields.now,
      c.in-Some.ensures,
      are_defaults c.in-Some.fields.now (sym c.are_defaultable.ensures ∙ c.if-not-are_defaultable.false),
      (refl, refl),
    )
    (λ os rs t. let (other, at, default, fits) = t in
    subst (λ (fs : List FieldType). To os rs [] (created_reference (bare c.args.scope.now) c.args.ty ∷ []))
    (struct_same c.args.scope.now.types.now.types c.args.ty other c.in-Some.fields.now at c.in-Some.ensures) fits)
    refl c.create.ensures.ok
