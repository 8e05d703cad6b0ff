use Rattle.std.proofs.Common.{◌≡◌, map, take}
use Rattle.smith_decode.specs.Modules.{tag_index}
use Rattle.smith_shape.proofs.definitions.tag_indices.Given as goal

abbrev pub invariant-loop-tag : goal.invariant-loop-tag
invariant-loop-tag l = l.made ≡ map tag_index (take l.tag-index l.tags)
