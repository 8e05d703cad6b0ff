use Rattle.smith_draw_shape_imports.proofs.Common.{import_of, map, take, ◌++◌, ◌≡◌}
use Rattle.smith_types.specs.Syntax.imports.ImportItem.{ImportItem}
use Rattle.smith_draw_shape_imports.proofs.flat_imports.push_items.Given as goal

abbrev pub invariant-loop-item : goal.invariant-loop-item
invariant-loop-item l = l.flat ≡ l.fn.flat ++ map (λ (item : ImportItem). import_of l.from item.name item.entity_type)
    (take l.item-index l.items)
