use Rattle.std.proofs.Common.{◌≡◌, ◌+◌, length, drop}
use Rattle.smith_types.specs.Imports.{flattened}
use Rattle.smith_config.specs.Shapes.{most_listed}
use Rattle.smith_config.proofs.shape_check.short.are_imports_few.Given as goal

abbrev pub invariant-loop-group : goal.invariant-loop-group
invariant-loop-group l = length (flattened l.groups) + l.left ≡ length (flattened (drop l.group-index l.groups)) + most_listed
