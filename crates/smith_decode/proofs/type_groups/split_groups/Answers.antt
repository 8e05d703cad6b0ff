use Rattle.smith_decode.proofs.Common.{[], ap, append-nil, append_assoc, arith, length, nil_from_length, refl, sym, ◌∙◌, ◌∷◌, ◌≡◌}
use Rattle.std.specs.Vec.Iter.{into_iter_items}
use Rattle.smith_decode.specs.TypeGroups.{further_in, groups_further, groups_types, types_in}
use Rattle.smith_decode.proofs.TypeGroupLemmas.{both_same, one_more}
use Rattle.smith_decode.proofs.type_groups.split_groups.Goals as goal

pub loop-group-preserved : goal.loop-group-preserved
loop-group-preserved c =
    let at = c.loop-group in
    let x = c.in-Some.group in
    let steps : into_iter_items at.group-iterator ≡ x ∷ into_iter_items c.next.new.self = c.in-Some.ensures.steps.0 in
    let split = both_same c.in_ok-members.members c.in_ok-members.supertypes (types_in x) (further_in x) c.in_ok-members.ensures in
    record {
      yields = append_assoc at.yielded (x ∷ []) _ ∙ rw (← steps) at.invariant.yields;
      left = omega (arith, at.invariant.left, c.in-Some.ensures.steps.1, ap length steps);
      types = rw (c.in_ok-push.ensures.items, split.0) (one_more types_in at.types.items at.yielded x at.invariant.types);
      further = rw (c.in_ok-push-2.ensures.items, split.1) (one_more further_in at.further.items at.yielded x at.invariant.further);
    }

pub returns : goal.returns
returns c =
    let at = c.loop-group in
    let none = c.in-None.ensures.steps in
    let empty : into_iter_items at.group-iterator ≡ [] = nil_from_length _ (sym at.invariant.left ∙ none.0) in
    let all = sym (append-nil at.yielded) ∙ rw empty at at.invariant.yields ∙ c.into_iter-group-iterator.ensures.into_iter_gives.0
    ∙ c.into_vec-group-items.ensures in
    let types = c.from_vec.ensures ∙ at.invariant.types ∙ ap groups_types all in
    let further = c.from_vec-2.ensures ∙ at.invariant.further ∙ ap groups_further all in
    rw (types, further) refl
