use Rattle.std.proofs.Common.{◌≡◌, map, take}
use Rattle.smith_shape.specs.ModuleShapes.{global_type}
use Rattle.smith_shape.proofs.definitions.global_types.Given as goal

abbrev pub invariant-loop-global : goal.invariant-loop-global
invariant-loop-global l = l.made ≡ map global_type (take l.global-index l.globals)
