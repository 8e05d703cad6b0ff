use Rattle.smith_draw_shape_imports.proofs.Common.{import_of, map, Single, take, ◌++◌, ◌≡◌}
use Rattle.smith_types.specs.Syntax.imports.ImportItem.{ImportItem}
use Rattle.smith_draw_shape_imports.proofs.module_shape.push_items.Given as goal

abbrev pub invariant-loop-item : goal.invariant-loop-item
invariant-loop-item l = l.groups ≡ l.fn.groups ++ map Single (map (λ (item : ImportItem). import_of l.module item.name item.entity_type)
    (take l.item-index l.items))
