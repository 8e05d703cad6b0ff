use Rattle.std.proofs.Common.{◌≡◌, take}
use Rattle.smith_check_types.specs.TypeSections.{canonical_index}
use Rattle.smith_check_renamed.specs.RenamedInstructions.{renamed_body}
use Rattle.smith_check_renamed.proofs.kept.is_canonical_body.Given as goal

abbrev pub invariant-loop-instr : goal.invariant-loop-instr
invariant-loop-instr l = renamed_body (canonical_index l.indices) (take l.instr-index l.body) ≡ take l.instr-index l.body
