use Rattle.smith_check_branches.proofs.Common.{[], ap, bare, false≢true, label_of, labels_of, none_not_some, Ref, reverse, slice_get, Some}
use Rattle.smith_check_branches.proofs.Common.{some_same, sym, ◌++◌, ◌∙◌, ◌∷◌}
use Rattle.smith_check_branches.proofs.CastLemmas.{arrives_not}
use Rattle.smith_check_branches.proofs.NonNullLemmas.{last_in_range}
use Rattle.smith_check_branches.proofs.cast_branches.taken_below.Goals as goal

pub returns-in_default : goal.returns-in_default
returns-in_default c = λ others t.
    none_not_some (others ++ Ref t.wanted ∷ [])
    (slice_get (label_of c.args.shape.now ∷ labels_of (reverse c.args.outers.now)) c.args.index) c.in_default.ensures t.taken

pub returns-in_default-split_reference : goal.returns-in_default-split_reference
returns-in_default-split_reference c = λ others t.
    c.in_default-split_reference.ensures others t.wanted
    (some_same c.in-Some.taken.now (others ++ Ref t.wanted ∷ []) (sym c.in-Some.ensures ∙ t.taken))

pub ref_type_is_sub_type-requires-clause-upper : goal.ref_type_is_sub_type-requires-clause-upper
ref_type_is_sub_type-requires-clause-upper c =
    last_in_range (bare c.args.scope.now) (label_of c.args.shape.now ∷ labels_of (reverse c.args.outers.now)) c.args.index
    c.in-Some.taken.now c.in-Some-split_reference.others.now c.in-Some-split_reference.wanted c.requires.labels c.in-Some.ensures
    c.in-Some-split_reference.ensures

pub returns-then-ref_type_is_sub_type : goal.returns-then-ref_type_is_sub_type
returns-then-ref_type_is_sub_type c = record {
  wanted = c.in-Some-split_reference.wanted;
  taken = c.in-Some.ensures ∙ ap (λ ts. Some ts) c.in-Some-split_reference.ensures;
  arrives = c.ref_type_is_sub_type.ensures.0 c.if-ref_type_is_sub_type.true;
}

pub returns-else-ref_type_is_sub_type : goal.returns-else-ref_type_is_sub_type
returns-else-ref_type_is_sub_type c = λ others t.
    arrives_not (bare c.args.scope.now) (label_of c.args.shape.now ∷ labels_of (reverse c.args.outers.now)) c.args.index c.args.reference
    c.in-Some.taken.now c.in-Some-split_reference.others.now others c.in-Some-split_reference.wanted c.in-Some.ensures
    c.in-Some-split_reference.ensures
    (λ below. false≢true (sym c.if-ref_type_is_sub_type.false ∙ c.ref_type_is_sub_type.ensures.1 below)) t
