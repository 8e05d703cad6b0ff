use Rattle.smith_types.proofs.Common.{drop, flat_map, ◌≡◌}
use Rattle.smith_types.specs.EntitySpaces.{spaces_in, with_entities, entities_of}
use Rattle.smith_types.proofs.entity_spaces.push_groups.Given as goal

abbrev pub invariant-loop-group : goal.invariant-loop-group
invariant-loop-group l = with_entities (spaces_in l.spaces) (flat_map entities_of (drop l.group-index l.imports)) ≡ with_entities
    (spaces_in l.fn.spaces) (flat_map entities_of l.imports)
