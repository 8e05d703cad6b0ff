use Rattle.smith_check_references.proofs.Common.{[], bare, Concrete, false≢true, FieldType, held, I32, nullable_to, refl, subst, sym}
use Rattle.smith_check_references.proofs.Common.{tried_values, ◌∙◌, ◌∷◌}
use Rattle.smith_instr.specs.declared.instr.Instr.TheVariants as instr
use Rattle.smith_instr.specs.declared.aggregate.AggregateInstr.TheVariants as aggregate
use Rattle.smith_check_references.proofs.TableLemmas.{ranges_as}
use Rattle.smith_check_references.proofs.AggregateLemmas.{array_same, element_in_range, array_inside}
use Rattle.smith_types.specs.Matching.{IsStorageMatch}
use Rattle.smith_check_references.proofs.arrays.array_copy.Goals as goal

pub apply-requires-clause-expected : goal.apply-requires-clause-expected
apply-requires-clause-expected c = ranges_as c.args.scope.now.types.now.types
    (c.nullable_at-target.result ∷ I32 ∷ c.nullable_at-source.result ∷ I32 ∷ I32 ∷ []) (nullable_to (Concrete c.args.to) ∷ I32 ∷ nullable_to
    (Concrete c.args.from) ∷ I32 ∷ I32 ∷ [])
    (cc (c.nullable_at-target.ensures, c.nullable_at-source.ensures)) (
      array_inside c.args.scope.now.types.now.types c.args.to c.in-Some.into c.in-Some.ensures.0,
      (tt, (array_inside c.args.scope.now.types.now.types c.args.from c.in-Some-array_at.out c.in-Some-array_at.ensures, (tt, (tt, tt)))),
    )

pub storage_matches-requires-clause-lower : goal.storage_matches-requires-clause-lower
storage_matches-requires-clause-lower c = element_in_range (bare c.args.scope.now) c.args.from c.in-Some-array_at.out c.requires.scope
    c.in-Some-array_at.ensures

pub storage_matches-requires-clause-upper : goal.storage_matches-requires-clause-upper
storage_matches-requires-clause-upper c = element_in_range (bare c.args.scope.now) c.args.to c.in-Some.into c.requires.scope
    c.in-Some.ensures.0

pub returns-in_default-clause-ok : goal.returns-in_default-clause-ok
returns-in_default-clause-ok c = λ labels set before after covered s.
    let (these, those, has, is, also) = s.typed in
    c.in_default.ensures has.0 has.2 has.4

pub returns-in_default-array_at-clause-ok : goal.returns-in_default-array_at-clause-ok
returns-in_default-array_at-clause-ok c = λ labels set before after covered s.
    let (these, those, has, is, also) = s.typed in
    c.in_default-array_at.ensures has.1 has.3

pub returns-then-not-storage_matches-clause-ok : goal.returns-then-not-storage_matches-clause-ok
returns-then-not-storage_matches-clause-ok c = λ labels set before after covered s.
    let (these, those, has, is, also) = s.typed in
    let target = array_same c.args.scope.now.types.now.types c.args.to has.0 c.in-Some.into has.2 c.in-Some.ensures.0 in
    let source = array_same c.args.scope.now.types.now.types c.args.from has.1 c.in-Some-array_at.out has.3 c.in-Some-array_at.ensures in
    false≢true (sym c.if-not-storage_matches.true ∙ c.storage_matches.ensures.1
    (subst (λ (e : FieldType). IsStorageMatch c.args.scope.now.types.now.types c.in-Some-array_at.out.element_type e.element_type) target
    (subst (λ (e : FieldType). IsStorageMatch c.args.scope.now.types.now.types e.element_type has.0.element_type) source has.5)))

pub returns-clause-ok : goal.returns-clause-ok
returns-clause-ok c = λ labels set.
    tried_values (bare c.args.scope.now) labels (instr.Aggregate (aggregate.ArrayCopy c.args.to c.args.from)) set
    (nullable_to (Concrete c.args.to) ∷ I32 ∷ nullable_to (Concrete c.args.from) ∷ I32 ∷ I32 ∷ [])
    [] (c.nullable_at-target.result ∷ I32 ∷ c.nullable_at-source.result ∷ I32 ∷ I32 ∷ []) [] (held c.args.operands.now) _ c.apply.result
    (λ os rs t. t) (λ os rs t. t) (
      c.in-Some.into,
      c.in-Some-array_at.out,
      c.in-Some.ensures.0,
      c.in-Some-array_at.ensures,
      c.in-Some.ensures.1,
      c.storage_matches.ensures.0 c.if-not-storage_matches.false,
      (refl, refl),
    )
    (λ os rs t. t.6)
    (cc (c.nullable_at-target.ensures, c.nullable_at-source.ensures)) refl c.apply.ensures.ok
