use Rattle.smith_check_branches.proofs.Common.{[], ap, bare, CountsAs, false≢true, held, IsValid, label_of, labels_of, Ref, refl, reverse}
use Rattle.smith_check_branches.proofs.Common.{subst, sym, To, tried_values, values, ◌++◌, ◌↔◌, ◌∙◌, ◌∷◌, ◌≡◌}
use Rattle.smith_instr.specs.InstrTypes.{difference}
use Rattle.smith_instr.specs.declared.instr.Instr.TheVariants as instr
use Rattle.smith_check_branches.specs.References.{least_valid}
use Rattle.smith_check_branches.proofs.CastLemmas.{cast_at, cast_valid, cast_takes, others_same, others_valid, least_counts, ref_in_range}
use Rattle.smith_check_branches.proofs.NullLemmas.{least_is_valid}
use Rattle.smith_check_branches.proofs.ResultLemmas.{applied_as}
use Rattle.smith_check_branches.proofs.cast_branches.br_on_cast.Goals as goal

pub returns-then-not-is_cast_valid-clause-ok : goal.returns-then-not-is_cast_valid-clause-ok
returns-then-not-is_cast_valid-clause-ok c = λ set before after covered s.
    let labels = label_of c.args.shape.now ∷ labels_of (reverse c.args.outers.now) in
    let (these, those, has, is, also) = s.typed in
    let (others, branches, fits) = has in
    false≢true (sym c.if-not-is_cast_valid.true
    ∙ c.is_cast_valid.ensures.1 (cast_valid (bare c.args.scope.now) labels c.args.cast c.args.cast.to others branches))

pub taken_below-requires-clause-reference : goal.taken_below-requires-clause-reference
taken_below-requires-clause-reference c =
    ref_in_range (bare c.args.scope.now) c.args.cast.to (c.is_cast_valid.ensures.0 c.if-not-is_cast_valid.false).to_valid

pub returns-in_default-clause-ok : goal.returns-in_default-clause-ok
returns-in_default-clause-ok c = λ set before after covered s.
    let labels = label_of c.args.shape.now ∷ labels_of (reverse c.args.outers.now) in
    let (these, those, has, is, also) = s.typed in
    let (others, branches, fits) = has in
    c.in_default.ensures others (cast_takes (bare c.args.scope.now) labels c.args.cast c.args.cast.to others branches)

pub replace_top-requires-clause-others : goal.replace_top-requires-clause-others
replace_top-requires-clause-others c =
    (others_valid (bare c.args.scope.now) (label_of c.args.shape.now ∷ labels_of (reverse c.args.outers.now)) c.args.cast.label
    c.args.cast.to c.in-Some.others.now c.requires.labels c.in-Some.ensures).0

pub replace_top-requires-clause-top : goal.replace_top-requires-clause-top
replace_top-requires-clause-top c =
    ref_in_range (bare c.args.scope.now) c.args.cast.from (c.is_cast_valid.ensures.0 c.if-not-is_cast_valid.false).from_valid

pub replace_top-requires-clause-given : goal.replace_top-requires-clause-given
replace_top-requires-clause-given c =
    let context = bare c.args.scope.now in
    let valid = c.is_cast_valid.ensures.0 c.if-not-is_cast_valid.false in
    let rest = difference c.args.cast.from c.args.cast.to in
    let on = (others_valid context (label_of c.args.shape.now ∷ labels_of (reverse c.args.outers.now)) c.args.cast.label
    c.args.cast.to c.in-Some.others.now c.requires.labels c.in-Some.ensures).1 in
    subst (λ r. IsValid context (Ref r)) (sym (c.least_valid-rest.ensures ∙ ap (λ r. least_valid context r) c.difference.ensures))
    (least_is_valid context rest on valid.from_valid.heap_type)

pub returns-clause-ok : goal.returns-clause-ok
returns-clause-ok c = λ set.
    let context = bare c.args.scope.now in
    let labels = label_of c.args.shape.now ∷ labels_of (reverse c.args.outers.now) in
    let cast = c.args.cast in
    let others = c.in-Some.others.now in
    let rest = difference cast.from cast.to in
    let valid = c.is_cast_valid.ensures.0 c.if-not-is_cast_valid.false in
    let made : c.least_valid-rest.result ≡ least_valid context rest =
    c.least_valid-rest.ensures ∙ ap (λ r. least_valid context r) c.difference.ensures in
    tried_values context labels (instr.BrOnCast cast) set (others ++ Ref cast.from ∷ []) (others ++ Ref rest ∷ [])
    (others ++ Ref cast.from ∷ []) (others ++ Ref rest ∷ []) (held c.args.operands.now) _ c.replace_top.result (λ os rs t. t) (λ os rs t. t)
    (others, cast_at context labels cast cast.to others valid c.in-Some.ensures, (refl, refl))
    (λ os rs t. let (lower, branches, fits) = t in
    subst (λ ts. To os rs (ts ++ Ref cast.from ∷ []) (ts ++ Ref rest ∷ []))
    (others_same context labels cast.label cast.to lower others (cast_takes context labels cast cast.to lower branches) c.in-Some.ensures)
    fits)
    refl refl
    (applied_as context (values (others ++ Ref cast.from ∷ [])) (values (others ++ Ref c.least_valid-rest.result ∷ []))
    (values (others ++ Ref rest ∷ [])) (held c.args.operands.now) _ c.replace_top.result
    (λ given. subst (λ r. CountsAs context (values (others ++ Ref r ∷ [])) given
    ↔ CountsAs context (values (others ++ Ref rest ∷ [])) given)
    (sym made) (least_counts context others rest given))
    c.replace_top.ensures.ok)
