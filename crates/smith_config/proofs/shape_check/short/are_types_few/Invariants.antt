use Rattle.std.proofs.Common.{◌≡◌, ◌+◌, List, length, drop}
use Rattle.std.specs.List.{flat_map}
use Rattle.smith_types.specs.Syntax.composite_type.SubType.{SubType}
use Rattle.smith_config.specs.Shapes.{most_listed}
use Rattle.smith_config.proofs.shape_check.short.are_types_few.Given as goal

abbrev pub invariant-loop-group : goal.invariant-loop-group
invariant-loop-group l = length (flat_map (λ (group : List SubType). group) l.groups) + l.left
    ≡ length (flat_map (λ (group : List SubType). group) (drop l.group-index l.groups)) + most_listed
