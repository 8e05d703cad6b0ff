use Rattle.smith_check_instr.proofs.Common.{[], all_at, all_in_range, AreValid, bare, held, I32, one_in_range, refl, some_same, subst, sym}
use Rattle.smith_check_instr.proofs.Common.{To, tried_values, ◌∙◌, ◌∷◌}
use Rattle.std.proofs.Common.{reverse, ◌++◌}
use Rattle.smith_instr.specs.declared.instr.Instr.TheVariants as instr
use Rattle.smith_check_operands.specs.Closes.{label_of, labels_of}
use Rattle.smith_check_instr.proofs.control.br_if.Goals as goal

pub apply_below-requires-clause-expected : goal.apply_below-requires-clause-expected
apply_below-requires-clause-expected c = all_in_range (bare c.args.scope.now) c.in-Some.taken.now
    (all_at (AreValid (bare c.args.scope.now)) (label_of c.args.shape.now ∷ labels_of (reverse c.args.outers.now)) c.args.index
    c.in-Some.taken.now c.requires.labels c.in-Some.ensures)

pub apply_below-requires-clause-expected_top : goal.apply_below-requires-clause-expected_top
apply_below-requires-clause-expected_top c = one_in_range c.args.scope.now.types.now.types I32 tt

pub apply_below-requires-clause-valid : goal.apply_below-requires-clause-valid
apply_below-requires-clause-valid c = all_at (AreValid (bare c.args.scope.now))
    (label_of c.args.shape.now ∷ labels_of (reverse c.args.outers.now)) c.args.index c.in-Some.taken.now c.requires.labels c.in-Some.ensures

pub returns-clause-ok : goal.returns-clause-ok
returns-clause-ok c = λ set.
    let labels = label_of c.args.shape.now ∷ labels_of (reverse c.args.outers.now) in
    let taken = c.in-Some.taken.now in
    tried_values (bare c.args.scope.now) labels (instr.BrIf c.args.index) set (taken ++ I32 ∷ []) taken (taken ++ I32 ∷ []) taken
    (held c.args.operands.now) _ c.apply_below.result (λ os rs t. t) (λ os rs t. t)
    (taken, c.in-Some.ensures, (refl, refl))
    (λ os rs t. let (other, at, fits) = t in subst (λ ts. To os rs (ts ++ I32 ∷ []) ts) (some_same other taken (sym at ∙ c.in-Some.ensures))
    fits)
    refl refl c.apply_below.ensures.ok
