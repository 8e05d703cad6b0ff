use Rattle.smith_check_references.proofs.Common.{[], ap, bare, created_reference, FieldType, held, in_range, inr, IsValInRange, Ok, refl}
use Rattle.smith_check_references.proofs.Common.{replicate, subst, sym, To, ValType, value_of, values, ◌∷◌}
use Rattle.smith_instr.specs.declared.instr.Instr.TheVariants as instr
use Rattle.smith_instr.specs.declared.aggregate.AggregateInstr.TheVariants as aggregate
use Rattle.smith_check_references.proofs.RowLemmas.{tried_row, unpopped, popped_given}
use Rattle.smith_check_references.proofs.AggregateLemmas.{array_same, array_valid}
use Rattle.std.specs.Prelude.{false}
use Rattle.smith_check_references.proofs.arrays.array_new_fixed.Goals as goal

pub push_created-requires-clause-aggregate : goal.push_created-requires-clause-aggregate
push_created-requires-clause-aggregate c = inr (c.in-Some.element, c.in-Some.ensures)

pub returns-in_default-clause-ok : goal.returns-in_default-clause-ok
returns-in_default-clause-ok c = λ labels set before after covered s.
    let (these, those, has, is, also) = s.typed in
    c.in_default.ensures has.0 has.1

pub pop_copies-requires-clause-expected : goal.pop_copies-requires-clause-expected
pop_copies-requires-clause-expected c = subst (λ v. IsValInRange c.args.scope.now.types.now.types v) (sym c.unpack-value.ensures)
    (in_range (bare c.args.scope.now) (value_of c.in-Some.element) (array_valid (bare c.args.scope.now) c.args.ty c.in-Some.element
    c.requires.scope c.in-Some.ensures))

pub returns-then-not-pop_copies-clause-ok : goal.returns-then-not-pop_copies-clause-ok
returns-then-not-pop_copies-clause-ok c = λ labels set.
    tried_row (bare c.args.scope.now) labels (instr.Aggregate (aggregate.ArrayNewFixed c.args.ty c.args.size)) set
    (replicate c.args.size (value_of c.in-Some.element))
    (created_reference (bare c.args.scope.now) c.args.ty ∷ []) (replicate c.args.size c.unpack-value.result) (held c.args.operands.now)
    (held c.pop_copies.new.operands) (Ok false)
    (λ os rs t. t) (λ os rs t. t)
    (c.in-Some.element, c.in-Some.ensures, (refl, refl))
    (λ os rs t. let (other, at, fits) = t in
    subst (λ (e : FieldType). To os rs (replicate c.args.size (value_of e)) (created_reference (bare c.args.scope.now) c.args.ty ∷ []))
    (array_same c.args.scope.now.types.now.types c.args.ty other c.in-Some.element at c.in-Some.ensures) fits)
    (ap (λ (v : ValType). replicate c.args.size v) c.unpack-value.ensures)
    (unpopped (bare c.args.scope.now) (values (replicate c.args.size c.unpack-value.result))
    (values (created_reference (bare c.args.scope.now) c.args.ty ∷ [])) (held c.args.operands.now) c.if-not-pop_copies.ensures)

pub returns-clause-ok : goal.returns-clause-ok
returns-clause-ok c = λ labels set.
    tried_row (bare c.args.scope.now) labels (instr.Aggregate (aggregate.ArrayNewFixed c.args.ty c.args.size)) set
    (replicate c.args.size (value_of c.in-Some.element))
    (created_reference (bare c.args.scope.now) c.args.ty ∷ []) (replicate c.args.size c.unpack-value.result) (held c.args.operands.now) _
    c.push_created.result
    (λ os rs t. t) (λ os rs t. t)
    (c.in-Some.element, c.in-Some.ensures, (refl, refl))
    (λ os rs t. let (other, at, fits) = t in
    subst (λ (e : FieldType). To os rs (replicate c.args.size (value_of e)) (created_reference (bare c.args.scope.now) c.args.ty ∷ []))
    (array_same c.args.scope.now.types.now.types c.args.ty other c.in-Some.element at c.in-Some.ensures) fits)
    (ap (λ (v : ValType). replicate c.args.size v) c.unpack-value.ensures)
    (popped_given (bare c.args.scope.now) (values (replicate c.args.size c.unpack-value.result))
    (created_reference (bare c.args.scope.now) c.args.ty) (held c.args.operands.now)
    (held c.pop_copies.new.operands) _ c.push_created.result c.if-not-pop_copies.ensures c.push_created.ensures.ok)
