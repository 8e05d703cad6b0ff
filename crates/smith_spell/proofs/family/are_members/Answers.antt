use Rattle.smith_spell.proofs.Common.{[], arith, drop, List, subst, SubType, ◌+◌, ◌↔◌, ◌∙◌}
use Rattle.std.proofs.lemmas.List.Folds.{length-flat_map-take}
use Rattle.smith_spell.specs.Decided.{AreMembersAfter, IsKnown}
use Rattle.smith_spell.proofs.GroupsWrittenLoop.{types_turn}
use Rattle.smith_spell.proofs.MemberLemmas.{all_types, groups_turn, group_among}
use Rattle.smith_spell.proofs.family.are_members.Goals as goal

pub known_after-requires-clause-room : goal.known_after-requires-clause-room
known_after-requires-clause-room c =
    let read = c.as_slice-group.ensures ∙ c.index-groups-place.is in
    let few = length-flat_map-take (λ (group : List SubType). group) c.args.groups.now c.loop-place.place c.index-groups-place.result
    c.loop-place-test.true in
    rw read (omega (arith, few, c.loop-place.invariant.known.counted, c.requires))

pub returns-in_default : goal.returns-in_default
returns-in_default c =
    let read = c.as_slice-group.ensures ∙ c.index-groups-place.is in (
      λ never. cc,
      λ whole. absurd
          (c.in_default.ensures (group_among c.args.config.now c.args.groups.now c.loop-place.place _ _ c.loop-place-test.true read
          (c.loop-place.invariant.same.1 whole))),
    )

pub loop-place-preserved : goal.loop-place-preserved
loop-place-preserved c =
    let groups = c.args.groups.now in
    let place = c.loop-place.place in
    let read = c.as_slice-group.ensures ∙ c.index-groups-place.is in
    let next = types_turn groups place _ _ c.loop-place-test.true read in
    let some = c.in-Some.ensures in
    let more = groups_turn c.args.config.now groups place _ _ _ c.loop-place-test.true read some.0 c.loop-place.invariant.same in
    record {
      known = subst (λ (types : List SubType). IsKnown types c.in-Some.after) next some.1;
      same = subst (λ (types : List SubType). AreMembersAfter c.args.config.now types (all_types (drop (place + 1) groups)) ↔
          AreMembersAfter c.args.config.now [] (all_types groups)) next more;
    }
