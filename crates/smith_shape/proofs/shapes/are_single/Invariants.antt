use Rattle.std.proofs.Common.{◌≡◌, drop}
use Rattle.std.specs.List.{list_all}
use Rattle.smith_shape.specs.ModuleShapes.{is_single}
use Rattle.smith_shape.proofs.shapes.are_single.Given as goal

abbrev pub invariant-loop-group : goal.invariant-loop-group
invariant-loop-group l = list_all is_single (drop l.group-index l.groups) ≡ list_all is_single l.groups
