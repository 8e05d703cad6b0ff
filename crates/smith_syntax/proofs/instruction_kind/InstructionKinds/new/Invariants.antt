use Rattle.std.proofs.Common.{◌≡◌, take}
use Rattle.smith_syntax.specs.Instructions.{kinds_bits, union_of}
use Rattle.smith_syntax.proofs.instruction_kind.InstructionKinds.new.Given as goal

abbrev pub invariant-loop-kind : goal.invariant-loop-kind
invariant-loop-kind l = kinds_bits l.all ≡ union_of (take l.kind-index l.kinds)
