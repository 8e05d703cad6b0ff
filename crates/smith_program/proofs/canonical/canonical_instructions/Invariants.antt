use Rattle.smith_program.proofs.Common.{flat_map, take, ◌≡◌}
use Rattle.smith_program.specs.Canonical.{followed}
use Rattle.smith_program.proofs.canonical.canonical_instructions.Given as goal

abbrev pub invariant-loop-instr : goal.invariant-loop-instr
invariant-loop-instr l = l.made ≡ flat_map (followed l.vectors l.first) (take l.instr-index l.instructions)
