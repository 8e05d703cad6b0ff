use Rattle.smith_draw_shape_imports.proofs.Common.{import_of, map, Single, take, ◌++◌, ◌≡◌}
use Rattle.smith_draw_shape_imports.proofs.module_shape.push_names.Given as goal

abbrev pub invariant-loop-name : goal.invariant-loop-name
invariant-loop-name l = l.groups ≡ l.fn.groups ++ map Single (map (λ name. import_of l.module name l.entity_type)
    (take l.name-index l.names))
