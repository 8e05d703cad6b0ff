use Rattle.smith_encode.proofs.Common.{drop, ◌≡◌}
use Rattle.std.proofs.Common.{reverse}
use Rattle.smith_encode.specs.Nesting.{are_closed, blocks_left, is_nested}
use Rattle.smith_encode.proofs.nesting.is_nested.Given as goal

abbrev pub invariant-loop-instruction : goal.invariant-loop-instruction
invariant-loop-instruction l =
    are_closed (blocks_left (drop l.instruction-index l.instructions) (reverse l.blocks.items)) ≡ is_nested l.instructions
