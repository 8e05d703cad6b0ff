use Rattle.smith_program.proofs.Common.{flat_map, List, take, ℕ, ◌++◌, ◌≡◌}
use Rattle.smith_types.specs.Syntax.entity_type.ExportKind.{ExportKind}
use Rattle.smith_program.specs.References.{exported_by}
use Rattle.smith_program.proofs.references.push_exported.Given as goal

abbrev pub invariant-loop-export : goal.invariant-loop-export
invariant-loop-export l = l.named ≡ l.fn.named ++ flat_map (λ (export : List ℕ × ExportKind × ℕ). exported_by export.1 export.2)
    (take l.export-index l.exports)
