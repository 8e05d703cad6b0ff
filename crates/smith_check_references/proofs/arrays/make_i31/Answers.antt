use Rattle.smith_check_references.proofs.Common.{[], Abstract, bare, false≢true, held, I32, reference_to, sym, values, ◌∙◌, ◌∷◌}
use Rattle.smith_types.specs.Syntax.value_type.AbstractHeapType.TheVariants as abstract
use Rattle.smith_check_operands.proofs.RangeLemmas.{one_in_range}
use Rattle.smith_check_references.proofs.RowLemmas.{unpopped, popped_given, ungiven}
use Rattle.smith_check_references.proofs.OfferLemmas.{without_heap}
use Rattle.smith_check_references.proofs.HierarchyLemmas.{i31_from_above}
use Rattle.smith_check_references.proofs.arrays.make_i31.Goals as goal

pub pop_all-requires-clause-expected : goal.pop_all-requires-clause-expected
pop_all-requires-clause-expected c = one_in_range c.args.scope.now.types.now.types I32 tt

pub push_reference-requires-clause-valid : goal.push_reference-requires-clause-valid
push_reference-requires-clause-valid c = (c.is_ref_valid.ensures.valid.0 c.if-not-is_ref_valid.false).heap_type

pub returns-then-not-is_ref_valid-clause-ok : goal.returns-then-not-is_ref_valid-clause-ok
returns-then-not-is_ref_valid-clause-ok c =
    ungiven (bare c.args.scope.now) (values (I32 ∷ [])) (reference_to (Abstract c.args.shared abstract.I31)) (held c.args.operands.now)
    (without_heap (bare c.args.scope.now) (Abstract c.args.shared abstract.I31)
    (λ other valid below. false≢true (sym c.if-not-is_ref_valid.true
    ∙ c.is_ref_valid.ensures.valid.1
    (record {
      heap_type = i31_from_above (bare c.args.scope.now) c.args.shared other valid below;
      nullable = λ n. absurd (false≢true (sym n));
    }))))

pub returns-then-not-pop_all-clause-ok : goal.returns-then-not-pop_all-clause-ok
returns-then-not-pop_all-clause-ok c =
    unpopped (bare c.args.scope.now) (values (I32 ∷ [])) (values (reference_to (Abstract c.args.shared abstract.I31) ∷ []))
    (held c.args.operands.now)
    c.if-not-pop_all.ensures

pub returns-clause-ok : goal.returns-clause-ok
returns-clause-ok c =
    popped_given (bare c.args.scope.now) (values (I32 ∷ [])) (reference_to (Abstract c.args.shared abstract.I31)) (held c.args.operands.now)
    (held c.pop_all.new.self) _ c.push_reference.result c.if-not-pop_all.ensures c.push_reference.ensures.ok
