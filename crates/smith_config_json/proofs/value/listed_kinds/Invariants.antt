use Rattle.std.proofs.Common.{◌≤◌, List, Result, length}
use Rattle.json.specs.Token.{Token}
use Rattle.smith_types.specs.Syntax.Instructions.{no_kind}
use Rattle.smith_types.specs.Syntax.instruction_kind.InstructionKinds.{InstructionKinds}
use Rattle.smith_config_json.specs.Values.{AreListed}
use Rattle.smith_config_json.specs.declared.fault.Fault.{Fault}
use Rattle.smith_config_json.proofs.value.listed_kinds.Given as goal

-- the kinds of the rest, beside those so far, are the kinds of the list
abbrev pub invariant-loop-kind : goal.invariant-loop-kind
invariant-loop-kind l = record {
  listed : (v : Result InstructionKinds Fault) (rest : List Token) → AreListed l.all l.reader v rest
      → AreListed no_kind l.initial.reader v rest;
  shorter : length l.reader ≤ length l.initial.reader;
}

abbrev pub decreases-loop-kind : goal.decreases-loop-kind
decreases-loop-kind l = length l.reader
