use Rattle.std.proofs.Common.{◌≡◌, map, take}
use Rattle.smith_decode.specs.Modules.{export_triple}
use Rattle.smith_shape.proofs.definitions.export_triples.Given as goal

abbrev pub invariant-loop-export : goal.invariant-loop-export
invariant-loop-export l = l.made ≡ map export_triple (take l.export-index l.exports)
