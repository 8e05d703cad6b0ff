use Rattle.smith_types.proofs.Common.{drop, ◌≡◌}
use Rattle.std.proofs.Common.{map}
use Rattle.smith_syntax.specs.declared.imports.ImportItem.{ImportItem}
use Rattle.smith_types.specs.EntitySpaces.{spaces_in, with_entities}
use Rattle.smith_types.proofs.entity_spaces.push_items.Given as goal

abbrev pub invariant-loop-item : goal.invariant-loop-item
invariant-loop-item l = with_entities (spaces_in l.spaces) (map (λ (item : ImportItem). item.entity_type) (drop l.item-index l.items))
    ≡ with_entities (spaces_in l.fn.spaces) (map (λ (item : ImportItem). item.entity_type) l.items)
