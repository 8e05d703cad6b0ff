use Rattle.smith_check.proofs.Common.{flat_map, take, ◌++◌, ◌≡◌}
use Rattle.smith_binary_read.specs.declared.exports.Export.{Export}
use Rattle.smith_check.specs.References.{exported_by}
use Rattle.smith_check.proofs.references.push_exported.Given as goal

abbrev pub invariant-loop-export : goal.invariant-loop-export
invariant-loop-export l = l.named ≡ l.fn.named ++ flat_map (λ (item : Export). exported_by item.kind item.index)
    (take l.export-index l.exports)
