use Rattle.smith_check_references.proofs.Common.{[], bare, false≢true, held, no_range, nullable_to, refl, sym, ◌∙◌, ◌∷◌}
use Rattle.smith_instr.specs.declared.instr.Instr.TheVariants as instr
use Rattle.smith_check_references.proofs.RowLemmas.{tried_row}
use Rattle.smith_instr.specs.declared.reference.ReferenceInstr.TheVariants as reference
use Rattle.std.specs.Prelude.{true}
use Rattle.smith_check_references.proofs.OfferLemmas.{only_itself}
use Rattle.smith_check_references.proofs.references.ref_null.Goals as goal

pub give-requires-clause-expected : goal.give-requires-clause-expected
give-requires-clause-expected c = no_range c.args.scope.now.types.now.types

pub give-requires-clause-itself : goal.give-requires-clause-itself
give-requires-clause-itself c =
    only_itself (bare c.args.scope.now) (record { nullable = true; heap_type = c.args.heap_type })
    (c.is_ref_valid.ensures.valid.0 c.if-not-is_ref_valid.false)

pub returns-then-not-is_ref_valid-clause-ok : goal.returns-then-not-is_ref_valid-clause-ok
returns-then-not-is_ref_valid-clause-ok c = λ labels set before after covered s.
    let (these, those, has, is, also) = s.typed in
    false≢true (sym c.if-not-is_ref_valid.true ∙ c.is_ref_valid.ensures.valid.1
    (record { heap_type = has.0; nullable = λ n. absurd (false≢true (sym n)) }))

pub returns-clause-ok : goal.returns-clause-ok
returns-clause-ok c = λ labels set.
    tried_row (bare c.args.scope.now) labels (instr.Reference (reference.Null c.args.heap_type)) set [] (nullable_to c.args.heap_type ∷ [])
    [] (held c.args.operands.now) _
    c.give.result (λ os rs t. t) (λ os rs t. t)
    ((c.is_ref_valid.ensures.valid.0 c.if-not-is_ref_valid.false).heap_type, (refl, refl)) (λ os rs t. t.1) refl c.give.ensures.ok
