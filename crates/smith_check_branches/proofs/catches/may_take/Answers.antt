use Rattle.smith_check_branches.proofs.Common.{All, all_at, all_in_range, AreValid, bare, false≢true, IsValInRange, label_of, labels_of}
use Rattle.smith_check_branches.proofs.Common.{length, reverse, subst, sym, ◌∙◌, ◌∷◌}
use Rattle.std.proofs.lemmas.List.Elements.{All-take, All-drop}
use Rattle.smith_check_branches.proofs.CatchLemmas.{not_taken_nowhere, not_taken_short, matched_parts, parts_matched, taken_at, taken_from}
use Rattle.smith_check_branches.proofs.catches.may_take.Goals as goal

pub returns-in_default : goal.returns-in_default
returns-in_default c = (
  λ h. absurd (false≢true h),
  λ t. absurd (not_taken_nowhere (bare c.args.scope.now) (label_of c.args.shape.now ∷ labels_of (reverse c.args.outers.now)) c.args.index
      c.args.lower.now c.args.upper.now c.in_default.ensures t),
)

pub returns-then-taken-lower : goal.returns-then-taken-lower
returns-then-taken-lower c = (
  λ h. absurd (false≢true h),
  λ t. absurd (not_taken_short (bare c.args.scope.now) (label_of c.args.shape.now ∷ labels_of (reverse c.args.outers.now)) c.args.index
      c.args.lower.now c.args.upper.now c.in-Some.taken.now c.in-Some.ensures c.if-taken-lower.true t),
)

pub values_fit-requires-clause-lower : goal.values_fit-requires-clause-lower
values_fit-requires-clause-lower c = c.requires.lower

pub values_fit-requires-then-values_fit-clause-lower : goal.values_fit-requires-then-values_fit-clause-lower
values_fit-requires-then-values_fit-clause-lower c = c.requires.upper

pub values_fit-requires-clause-upper : goal.values_fit-requires-clause-upper
values_fit-requires-clause-upper c =
    let types = c.args.scope.now.types.now.types in
    subst (λ ts. All (IsValInRange types) ts) (sym c.split_at.ensures.front)
    (All-take (IsValInRange types) (length c.args.lower.now) c.in-Some.taken.now
    (all_in_range (bare c.args.scope.now) c.in-Some.taken.now
    (all_at (AreValid (bare c.args.scope.now)) (label_of c.args.shape.now ∷ labels_of (reverse c.args.outers.now)) c.args.index
    c.in-Some.taken.now c.requires.labels c.in-Some.ensures)))

pub values_fit-requires-then-values_fit-clause-upper : goal.values_fit-requires-then-values_fit-clause-upper
values_fit-requires-then-values_fit-clause-upper c =
    let types = c.args.scope.now.types.now.types in
    subst (λ ts. All (IsValInRange types) ts) (sym c.split_at.ensures.back)
    (All-drop (IsValInRange types) (length c.args.lower.now) c.in-Some.taken.now
    (all_in_range (bare c.args.scope.now) c.in-Some.taken.now
    (all_at (AreValid (bare c.args.scope.now)) (label_of c.args.shape.now ∷ labels_of (reverse c.args.outers.now)) c.args.index
    c.in-Some.taken.now c.requires.labels c.in-Some.ensures)))

pub returns-then-values_fit : goal.returns-then-values_fit
returns-then-values_fit c =
    let context = bare c.args.scope.now in
    let labels = label_of c.args.shape.now ∷ labels_of (reverse c.args.outers.now) in
    let lower = c.args.lower.now in
    let upper = c.args.upper.now in
    let taken = c.in-Some.taken.now in
    let front = c.split_at.result.0.now in
    let back = c.split_at.result.1.now in (
      λ h. taken_at context labels c.args.index lower upper taken c.in-Some.ensures
          (matched_parts context.types lower upper taken front back c.split_at.ensures.front c.split_at.ensures.back
          (c.values_fit.ensures.0 c.if-values_fit.true) (c.values_fit-then-values_fit.ensures.0 h)),
      λ t. c.values_fit-then-values_fit.ensures.1
          (parts_matched context.types lower upper taken front back c.split_at.ensures.front c.split_at.ensures.back
          (taken_from context labels c.args.index lower upper taken c.in-Some.ensures t)).1,
    )

pub returns-else-values_fit : goal.returns-else-values_fit
returns-else-values_fit c =
    let context = bare c.args.scope.now in
    let labels = label_of c.args.shape.now ∷ labels_of (reverse c.args.outers.now) in
    let lower = c.args.lower.now in
    let upper = c.args.upper.now in
    let taken = c.in-Some.taken.now in
    let front = c.split_at.result.0.now in
    let back = c.split_at.result.1.now in (
      λ h. absurd (false≢true (sym c.if-values_fit.false ∙ h)),
      λ t. c.values_fit.ensures.1
          (parts_matched context.types lower upper taken front back c.split_at.ensures.front c.split_at.ensures.back
          (taken_from context labels c.args.index lower upper taken c.in-Some.ensures t)).0,
    )
