use Rattle.smith_types.proofs.Common.{drop, ◌≡◌}
use Rattle.std.proofs.Common.{map}
use Rattle.smith_types.specs.EntitySpaces.{spaces_in, with_entities}
use Rattle.smith_types.proofs.entity_spaces.push_names.Given as goal

abbrev pub invariant-loop-name : goal.invariant-loop-name
invariant-loop-name l = with_entities (spaces_in l.spaces) (map (λ name. l.entity_type) (drop l._name-index l.names)) ≡ with_entities
    (spaces_in l.fn.spaces) (map (λ name. l.entity_type) l.names)
