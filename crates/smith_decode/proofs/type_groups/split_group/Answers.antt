use Rattle.smith_decode.proofs.Common.{[], ap, append-nil, append_assoc, arith, length, nil_from_length, refl, sym, ◌∙◌, ◌∷◌, ◌≡◌}
use Rattle.std.specs.Vec.Iter.{into_iter_items}
use Rattle.smith_binary_read.specs.declared.types.DeclaredType.{DeclaredType}
use Rattle.smith_decode.specs.TypeGroups.{further_in, types_in}
use Rattle.smith_decode.proofs.TypeGroupLemmas.{one_more}
use Rattle.smith_decode.proofs.type_groups.split_group.Goals as goal

pub loop-declared-preserved : goal.loop-declared-preserved
loop-declared-preserved c =
    let at = c.loop-declared in
    let x = c.in-Some.declared in
    let steps : into_iter_items at.declared-iterator ≡ x ∷ into_iter_items c.next.new.self = c.in-Some.ensures.steps.0 in
    record {
      yields = append_assoc at.yielded (x ∷ []) _ ∙ rw (← steps) at.invariant.yields;
      left = omega (arith, at.invariant.left, c.in-Some.ensures.steps.1, ap length steps);
      types = rw c.in_ok-push.ensures.items (one_more (λ (t : DeclaredType). t.sub_type) at.types.items at.yielded x at.invariant.types);
      further = rw c.in_ok-push-2.ensures.items (one_more (λ (t : DeclaredType). t.further_supertypes)
          at.further.items at.yielded x at.invariant.further);
    }

pub returns : goal.returns
returns c =
    let at = c.loop-declared in
    let none = c.in-None.ensures.steps in
    let empty : into_iter_items at.declared-iterator ≡ [] = nil_from_length _ (sym at.invariant.left ∙ none.0) in
    let all = sym (append-nil at.yielded) ∙ rw empty at at.invariant.yields ∙ c.into_iter-declared-iterator.ensures.into_iter_gives.0
    ∙ c.into_vec-declared-items.ensures in
    let types = c.from_vec.ensures ∙ at.invariant.types ∙ ap types_in all in
    let further = c.from_vec-2.ensures ∙ at.invariant.further ∙ ap further_in all in
    rw (types, further) refl
