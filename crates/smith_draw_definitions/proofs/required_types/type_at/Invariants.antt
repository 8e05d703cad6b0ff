use Rattle.smith_draw_definitions.proofs.Common.{drop, slice_get, ◌≡◌}
use Rattle.smith_types.specs.Groups.{space_of}
use Rattle.smith_draw_definitions.proofs.required_types.type_at.Given as goal

abbrev pub invariant-loop-group : goal.invariant-loop-group
invariant-loop-group l = slice_get (space_of (drop l.group-index l.groups)).types l.left ≡ slice_get (space_of l.groups).types l.index
