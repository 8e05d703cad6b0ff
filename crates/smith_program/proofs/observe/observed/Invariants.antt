use Rattle.smith_program.proofs.Common.{flat_map, take, ◌≡◌}
use Rattle.smith_program.specs.Observed.{after_mixes}
use Rattle.smith_program.proofs.observe.observed.Given as goal

abbrev pub invariant-loop-instr : goal.invariant-loop-instr
invariant-loop-instr l = l.made ≡ flat_map (after_mixes l.mixed) (take l.instr-index l.instructions)
