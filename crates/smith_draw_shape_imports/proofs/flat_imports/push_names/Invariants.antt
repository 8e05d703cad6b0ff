use Rattle.smith_draw_shape_imports.proofs.Common.{import_of, map, take, ◌++◌, ◌≡◌}
use Rattle.smith_draw_shape_imports.proofs.flat_imports.push_names.Given as goal

abbrev pub invariant-loop-name : goal.invariant-loop-name
invariant-loop-name l = l.flat ≡ l.fn.flat ++ map (λ name. import_of l.from name l.entity_type) (take l.name-index l.names)
