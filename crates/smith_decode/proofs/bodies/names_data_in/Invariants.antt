use Rattle.smith_decode.proofs.Common.{drop, list_any, ◌≡◌}
use Rattle.smith_instr.specs.Enabled.{names_data}
use Rattle.smith_decode.proofs.bodies.names_data_in.Given as goal

abbrev pub invariant-loop-instruction : goal.invariant-loop-instruction
invariant-loop-instruction l = list_any names_data (drop l.instruction-index l.body.instructions) ≡ list_any names_data l.body.instructions
