use Rattle.smith_check_branches.proofs.Common.{[], bare, false≢true, held, IsInRange, label_of, labels_of, Ref, refl, RefType, reverse}
use Rattle.smith_check_branches.proofs.Common.{subst, sym, To, tried_values, ◌++◌, ◌∙◌, ◌∷◌}
use Rattle.smith_instr.specs.InstrTypes.{difference}
use Rattle.smith_instr.specs.declared.instr.Instr.TheVariants as instr
use Rattle.smith_check_branches.specs.References.{TakesReference}
use Rattle.smith_check_branches.proofs.CastLemmas.{cast_at, cast_valid, cast_takes, others_same, others_valid, ref_in_range}
use Rattle.smith_check_branches.proofs.cast_branches.br_on_cast_fail.Goals as goal

pub returns-then-not-is_cast_valid-clause-ok : goal.returns-then-not-is_cast_valid-clause-ok
returns-then-not-is_cast_valid-clause-ok c = λ set before after covered s.
    let labels = label_of c.args.shape.now ∷ labels_of (reverse c.args.outers.now) in
    let (these, those, has, is, also) = s.typed in
    let (others, branches, fits) = has in
    false≢true (sym c.if-not-is_cast_valid.true
    ∙ c.is_cast_valid.ensures.1 (cast_valid (bare c.args.scope.now) labels c.args.cast (difference c.args.cast.from c.args.cast.to)
    others branches))

pub taken_below-requires-clause-reference : goal.taken_below-requires-clause-reference
taken_below-requires-clause-reference c =
    let context = bare c.args.scope.now in
    subst (λ (r : RefType). IsInRange context.types r.heap_type) (sym c.difference-branches.ensures)
    (ref_in_range context c.args.cast.from (c.is_cast_valid.ensures.0 c.if-not-is_cast_valid.false).from_valid)

pub returns-in_default-clause-ok : goal.returns-in_default-clause-ok
returns-in_default-clause-ok c = λ set before after covered s.
    let context = bare c.args.scope.now in
    let labels = label_of c.args.shape.now ∷ labels_of (reverse c.args.outers.now) in
    let (these, those, has, is, also) = s.typed in
    let (others, branches, fits) = has in
    c.in_default.ensures others (subst (λ r. TakesReference context labels c.args.cast.label r others) (sym c.difference-branches.ensures)
    (cast_takes context labels c.args.cast (difference c.args.cast.from c.args.cast.to) others branches))

pub replace_top-requires-clause-others : goal.replace_top-requires-clause-others
replace_top-requires-clause-others c =
    (others_valid (bare c.args.scope.now) (label_of c.args.shape.now ∷ labels_of (reverse c.args.outers.now)) c.args.cast.label
    c.difference-branches.result c.in-Some.others.now c.requires.labels c.in-Some.ensures).0

pub replace_top-requires-clause-top : goal.replace_top-requires-clause-top
replace_top-requires-clause-top c =
    ref_in_range (bare c.args.scope.now) c.args.cast.from (c.is_cast_valid.ensures.0 c.if-not-is_cast_valid.false).from_valid

pub replace_top-requires-clause-given : goal.replace_top-requires-clause-given
replace_top-requires-clause-given c = (
  (others_valid (bare c.args.scope.now) (label_of c.args.shape.now ∷ labels_of (reverse c.args.outers.now)) c.args.cast.label
      c.difference-branches.result c.in-Some.others.now c.requires.labels c.in-Some.ensures).1,
  (c.is_cast_valid.ensures.0 c.if-not-is_cast_valid.false).to_valid,
)

pub returns-clause-ok : goal.returns-clause-ok
returns-clause-ok c = λ set.
    let context = bare c.args.scope.now in
    let labels = label_of c.args.shape.now ∷ labels_of (reverse c.args.outers.now) in
    let cast = c.args.cast in
    let others = c.in-Some.others.now in
    let branches = difference cast.from cast.to in
    let valid = c.is_cast_valid.ensures.0 c.if-not-is_cast_valid.false in
    let takes : TakesReference context labels cast.label branches others =
    subst (λ r. TakesReference context labels cast.label r others) c.difference-branches.ensures c.in-Some.ensures in
    tried_values context labels (instr.BrOnCastFail cast) set (others ++ Ref cast.from ∷ []) (others ++ Ref cast.to ∷ [])
    (others ++ Ref cast.from ∷ []) (others ++ Ref cast.to ∷ []) (held c.args.operands.now) _ c.replace_top.result (λ os rs t. t)
    (λ os rs t. t) (others, cast_at context labels cast branches others valid takes, (refl, refl))
    (λ os rs t. let (lower, has, fits) = t in
    subst (λ ts. To os rs (ts ++ Ref cast.from ∷ []) (ts ++ Ref cast.to ∷ []))
    (others_same context labels cast.label branches lower others (cast_takes context labels cast branches lower has) takes) fits)
    refl refl c.replace_top.ensures.ok
