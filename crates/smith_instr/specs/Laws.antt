-- Laws of the rules of typing, and of the features that instructions need.
use Rattle.std.specs.Prelude.{List, ◌++◌, ◌≡◌, true, IsTrue}
use Rattle.smith_instr.specs.Common.{Features, ValType}
use Rattle.smith_types.specs.Syntax.instruction_kind.InstructionKinds.{InstructionKinds}
use Rattle.smith_instr.specs.Contexts.{BodyContext}
use Rattle.smith_instr.specs.Enabled.{IsEnabled, names_data}
use Rattle.smith_instr.specs.Sequences.{Stacked, stacked, CountsAs, AreTyped}
use Rattle.smith_instr.specs.declared.instr.Instr.{Instr}

-- if one sequence is typed from `before` to `between`, and another from `between` to `after`, then
-- the two in order are typed from `before` to `after`
abbrev pub SequencesCompose : Type 0
SequencesCompose =
    (context : BodyContext) (first second : List Instr) (before between after : Stacked)
    → AreTyped context first before between → AreTyped context second between after → AreTyped context (first ++ second) before after

-- a sequence that is typed from some values is also typed from values of subtypes
abbrev pub SequencesTakeValuesBelow : Type 0
SequencesTakeValuesBelow =
    (context : BodyContext) (sequence : List Instr) (before after : Stacked) (values : List ValType)
    → CountsAs context values before.stack → AreTyped context sequence before after → AreTyped context sequence (stacked values before.set)
    after

-- an instruction that names a data segment is enabled only with bulk memory, which permits a data
-- count section
abbrev pub NamedDataNeedsBulkMemory : Type 0
NamedDataNeedsBulkMemory =
    (features : Features) (kinds : InstructionKinds) (instruction : Instr)
    → IsTrue (names_data instruction) → IsEnabled features kinds instruction → features.bulk_memory ≡ true
