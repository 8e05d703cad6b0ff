use Rattle.smith_check_references.proofs.Common.{[], ap, bare, false≢true, heap_in_range, held, I32, nullable_to, one_valid, sym, ValType}
use Rattle.smith_check_references.proofs.Common.{values, ◌∙◌, ◌∷◌}
use Rattle.smith_instr.specs.declared.instr.Instr.TheVariants as instr
use Rattle.smith_check_references.proofs.RowLemmas.{as_applied}
use Rattle.smith_check_references.proofs.TableLemmas.{ranges_as}
use Rattle.smith_instr.specs.declared.reference.ReferenceInstr.TheVariants as reference
use Rattle.smith_check_references.proofs.HierarchyLemmas.{top_valid}
use Rattle.smith_check_references.proofs.CastLemmas.{test_widest}
use Rattle.smith_check_references.proofs.RowLemmas.{tried_widest}
use Rattle.smith_check_references.proofs.casts.ref_test.Goals as goal

pub widest-requires : goal.widest-requires
widest-requires c = heap_in_range (bare c.args.scope.now) c.args.to.heap_type
    (c.is_ref_valid.ensures.valid.0 c.if-not-is_ref_valid.false).heap_type

pub apply-requires-clause-expected : goal.apply-requires-clause-expected
apply-requires-clause-expected c =
    let valid = c.is_ref_valid.ensures.valid.0 c.if-not-is_ref_valid.false in
    let (top, of, is) = c.widest.ensures in
    ranges_as c.args.scope.now.types.now.types (c.widest.result ∷ []) (nullable_to top ∷ []) (ap (λ (v : ValType). v ∷ []) is) (
      heap_in_range (bare c.args.scope.now) top (top_valid (bare c.args.scope.now) c.args.to.heap_type top c.requires.scope of
          valid.heap_type),
      tt,
    )

pub returns-then-not-is_ref_valid-clause-ok : goal.returns-then-not-is_ref_valid-clause-ok
returns-then-not-is_ref_valid-clause-ok c = λ labels set before after covered s.
    let (these, those, has, is, also) = s.typed in
    false≢true (sym c.if-not-is_ref_valid.true ∙ c.is_ref_valid.ensures.valid.1 has.1)

pub apply-requires-clause-valid : goal.apply-requires-clause-valid
apply-requires-clause-valid c = one_valid (bare c.args.scope.now) I32 tt

pub returns-clause-ok : goal.returns-clause-ok
returns-clause-ok c = λ labels set.
    tried_widest (bare c.args.scope.now) labels (instr.Reference (reference.Test c.args.to)) set (values (c.widest.result ∷ []))
    (values (I32 ∷ []))
    (held c.args.operands.now) _ c.apply.result
    (test_widest (bare c.args.scope.now) labels set c.args.to c.widest.result c.requires.scope c.is_ref_valid.ensures.orderly
    (c.is_ref_valid.ensures.valid.0 c.if-not-is_ref_valid.false) c.widest.ensures)
    (as_applied (bare c.args.scope.now) (values (c.widest.result ∷ [])) (values (I32 ∷ [])) (held c.args.operands.now) _ c.apply.result
    c.apply.ensures.ok)
