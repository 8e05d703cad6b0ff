use Rattle.std.proofs.Common.{◌≡◌, List, length, take}
use Rattle.smith_syntax.specs.Instructions.{kinds_bits, union_of, IsNamed}
use Rattle.smith_syntax.specs.SplitTexts.{split_at_commas}
use Rattle.std.specs.List.{AllZip}
use Rattle.smith_syntax.specs.declared.instruction_kind.InstructionKind.{InstructionKind}
use Rattle.smith_syntax.proofs.instruction_kind.InstructionKindsFromStr.from_str.Given as goal

abbrev pub invariant-loop-part : goal.invariant-loop-part
invariant-loop-part l = record {
  count : l.place ≡ length l.yielded;
  named : (kinds : List InstructionKind) × AllZip IsNamed (take l.place (split_at_commas l.s)) kinds × (kinds_bits l.all ≡ union_of kinds);
}
