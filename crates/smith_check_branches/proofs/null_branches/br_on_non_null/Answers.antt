use Rattle.smith_check_branches.proofs.Common.{[], all_in_range, ap, bare, held, label_of, labels_of, nullable_to, Ref, refl, reverse}
use Rattle.smith_check_branches.proofs.Common.{slice_get, Some, some_same, sym, tried_values, ◌++◌, ◌∙◌, ◌∷◌, ◌≡◌}
use Rattle.smith_instr.specs.declared.instr.Instr.TheVariants as instr
use Rattle.smith_check_branches.proofs.NonNullLemmas.{lower_valid, nullable_in_range, non_null_only}
use Rattle.smith_check_branches.proofs.null_branches.br_on_non_null.Goals as goal

pub apply_below-requires-clause-expected : goal.apply_below-requires-clause-expected
apply_below-requires-clause-expected c =
    all_in_range (bare c.args.scope.now) c.in-Some-split_reference.others.now
    (lower_valid (bare c.args.scope.now) (label_of c.args.shape.now ∷ labels_of (reverse c.args.outers.now)) c.args.index
    c.in-Some.taken.now c.in-Some-split_reference.others.now c.in-Some-split_reference.reference c.requires.labels c.in-Some.ensures
    c.in-Some-split_reference.ensures)

pub apply_below-requires-clause-expected_top : goal.apply_below-requires-clause-expected_top
apply_below-requires-clause-expected_top c =
    nullable_in_range (bare c.args.scope.now) (label_of c.args.shape.now ∷ labels_of (reverse c.args.outers.now)) c.args.index
    c.in-Some.taken.now c.in-Some-split_reference.others.now c.in-Some-split_reference.reference c.nullable_to-operand.result
    c.requires.labels c.in-Some.ensures c.in-Some-split_reference.ensures c.nullable_to-operand.ensures

pub apply_below-requires-clause-valid : goal.apply_below-requires-clause-valid
apply_below-requires-clause-valid c =
    lower_valid (bare c.args.scope.now) (label_of c.args.shape.now ∷ labels_of (reverse c.args.outers.now)) c.args.index
    c.in-Some.taken.now c.in-Some-split_reference.others.now c.in-Some-split_reference.reference c.requires.labels c.in-Some.ensures
    c.in-Some-split_reference.ensures

pub returns-in_default-split_reference-clause-ok : goal.returns-in_default-split_reference-clause-ok
returns-in_default-split_reference-clause-ok c = λ set before after covered s.
    let (these, those, has, is, also) = s.typed in
    let (others, reference, at, fits) = has in
    c.in_default-split_reference.ensures others reference
    (some_same c.in-Some.taken.now (others ++ Ref reference ∷ []) (sym c.in-Some.ensures ∙ at))

pub returns-clause-ok : goal.returns-clause-ok
returns-clause-ok c = λ set.
    let labels = label_of c.args.shape.now ∷ labels_of (reverse c.args.outers.now) in
    let others = c.in-Some-split_reference.others.now in
    let reference = c.in-Some-split_reference.reference in
    let operand = nullable_to reference.heap_type in
    let there : slice_get labels c.args.index ≡ Some (others ++ Ref reference ∷ []) =
    c.in-Some.ensures ∙ ap (λ ts. Some ts) c.in-Some-split_reference.ensures in
    tried_values (bare c.args.scope.now) labels (instr.BrOnNonNull c.args.index) set (others ++ operand ∷ []) others
    (others ++ c.nullable_to-operand.result ∷ []) others (held c.args.operands.now) _ c.apply_below.result (λ os rs t. t) (λ os rs t. t)
    (others, reference, there, (refl, refl))
    (λ os rs t. let (lower, other, at, fits) = t in
    non_null_only labels c.args.index others lower reference other os rs there at fits)
    (ap (λ v. others ++ v ∷ []) c.nullable_to-operand.ensures) refl c.apply_below.ensures.ok
