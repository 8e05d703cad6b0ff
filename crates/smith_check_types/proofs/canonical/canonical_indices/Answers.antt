use Rattle.std.proofs.Common.{◌∙◌, arith}
use Rattle.smith_check_types.proofs.CanonicalLemmas.{start_known, room_here, start_fits, canonical_turn, canonical_whole}
use Rattle.smith_check_types.proofs.canonical.canonical_indices.Goals as goal

pub loop-group-init : goal.loop-group-init
loop-group-init c = start_known c.new-indices.result.items c.new-starts.result c.new-indices.ensures.items c.new-starts.ensures.empty

pub add_group-requires : goal.add_group-requires
add_group-requires c =
    let few = room_here c.args.groups.now _ _ _ _ _ c.loop-group-test.true (c.as_slice.ensures ∙ c.group-item.is) c.loop-group.invariant
    c.requires.few in
    record { few = omega (arith, few, c.loop-group.indices.ok); known = start_fits _ _ _ _ c.loop-group.invariant few }

pub loop-group-preserved : goal.loop-group-preserved
loop-group-preserved c =
    canonical_turn c.args.groups.now _ _ _ _ _ _ _ c.loop-group-test.true (c.as_slice.ensures ∙ c.group-item.is) c.loop-group.invariant
    c.in_ok-add_group.ensures.added c.in_ok-add_group.ensures.starts

pub returns-clause-canonical : goal.returns-clause-canonical
returns-clause-canonical c = canonical_whole c.args.groups.now _ _ _ _ c.loop-group-test.false c.from_vec.ensures c.loop-group.invariant
