-- The rule that a fault breaks, as far as the fault determines it, and the number of each rule (own
-- rules).
use Rattle.std.specs.Prelude.{ℕ, List, nat_lt, if◌then◌else◌, Option, Some, None, length, slice_get}
use Rattle.smith_types.specs.Syntax.entity_type.ExportKind.{ExportKind}
use Rattle.smith_types.specs.Syntax.entity_type.ExportKind.TheVariants as export
use Rattle.smith_types.specs.Syntax.instruction_kind.InstructionKind.{InstructionKind}
use Rattle.smith_types.specs.Syntax.instruction_kind.InstructionKind.TheVariants as kind
use Rattle.smith_instr.specs.Enabled.{instr_kind}
use Rattle.smith_instr.specs.declared.instr.Instr.{Instr}
use Rattle.smith_instr.specs.declared.instr.Instr.TheVariants as instr
use Rattle.smith_validity.specs.Decided.{count_at}
use Rattle.smith_binary_read.specs.declared.exports.Export.{Export}
use Rattle.smith_decode.specs.Modules.{syntax_of}
use Rattle.smith_decode.specs.declared.bodies.Body.{Body}
use Rattle.smith_decode.specs.declared.modules.Module.{Module}
use Rattle.smith_check_module.specs.Contexts.{spaces_of}
use Rattle.smith_check_module.specs.declared.faults.Part.{Part}
use Rattle.smith_check_module.specs.declared.faults.Part.TheVariants as part
use Rattle.smith_check.specs.Supertypes.{is_single}
use Rattle.smith_check.specs.declared.judgement.Fault.{Fault}
use Rattle.smith_check.specs.declared.judgement.Fault.TheVariants as fault
use Rattle.smith_judge.specs.declared.rules.Rule.{Rule}
use Rattle.smith_judge.specs.declared.rules.Rule.TheVariants as rule

-- the rule of an instruction, by its kind; `else` and `end` have a rule of their own
abbrev pub kind_rule : InstructionKind → Rule
kind_rule kind.NumericInt = rule.NumericInstruction
kind_rule kind.Numeric = rule.NumericInstruction
kind_rule kind.VectorInt = rule.VectorInstruction
kind_rule kind.Vector = rule.VectorInstruction
kind_rule kind.Reference = rule.ReferenceInstruction
kind_rule kind.Parametric = rule.ParametricInstruction
kind_rule kind.Variable = rule.VariableInstruction
kind_rule kind.Table = rule.TableInstruction
kind_rule kind.MemoryInt = rule.MemoryInstruction
kind_rule kind.Memory = rule.MemoryInstruction
kind_rule kind.Control = rule.ControlInstruction
kind_rule kind.Aggregate = rule.AggregateInstruction

abbrev pub instr_rule : Instr → Rule
instr_rule instr.Else = rule.End
instr_rule instr.End = rule.End
instr_rule instruction = kind_rule (instr_kind instruction)

-- the rule of an instruction, or without one that of the last `end`
abbrev pub at_rule : Option Instr → Rule
at_rule (Some instruction) = instr_rule instruction
at_rule None = rule.End

-- the rule of the instruction at `index` of a body
abbrev pub body_rule : Option Body → ℕ → Rule
body_rule (Some body) index = at_rule (slice_get body.instructions index)
body_rule None index = rule.End

-- the number of entities of a kind that a module defines
abbrev pub defined_count : Module → ExportKind → ℕ
defined_count m export.Func = length m.functions
defined_count m export.Table = length m.tables
defined_count m export.Memory = length m.memories
defined_count m export.Global = length m.globals
defined_count m export.Tag = length m.tags

-- the rule that an invalid export breaks: the rule for its name, if its entity exists
abbrev pub export_rule : Module → Option Export → Rule
export_rule m (Some one) = if nat_lt one.index (count_at (spaces_of (syntax_of m)) one.kind) then rule.ExportName else rule.Export
export_rule m None = rule.Export

-- the rule that an invalid item of a part breaks
abbrev pub part_rule : Module → Part → ℕ → Rule
part_rule m part.Tags index = rule.Tag
part_rule m part.Functions index = rule.Function
part_rule m part.Tables index = rule.Table
part_rule m part.Memories index = rule.Memory
part_rule m part.Globals index = rule.Global
part_rule m part.TableInitials index = rule.TableInitial
part_rule m part.GlobalInitials index = rule.GlobalInitial
part_rule m part.Exports index = export_rule m (slice_get m.exports index)
part_rule m part.Start index = rule.Start
part_rule m part.Elements index = rule.Element
part_rule m part.Datas index = rule.Data

-- the rule that a wrong group of types breaks: that of the number of supertypes, if a type has several
abbrev pub types_rule : Option (List (List ℕ)) → Rule
types_rule (Some group) = if is_single group then rule.Types else rule.Supertypes
types_rule None = rule.Types

-- the rule that a fault breaks
abbrev pub fault_rule : Module → Fault → Rule
fault_rule m (fault.Types group) = types_rule (slice_get m.further_supertypes group)
fault_rule m (fault.Section item) = part_rule m item.part item.index
fault_rule m (fault.Local body run) = rule.Local
fault_rule m (fault.Body body instruction) = body_rule (slice_get m.bodies body) instruction

-- the number of a rule, which no other rule ever gets
abbrev pub rule_number : Rule → ℕ
rule_number rule.Types = 1
rule_number rule.Tag = 2
rule_number rule.Function = 3
rule_number rule.Table = 4
rule_number rule.Memory = 5
rule_number rule.Global = 6
rule_number rule.TableInitial = 7
rule_number rule.GlobalInitial = 8
rule_number rule.Export = 9
rule_number rule.ExportName = 10
rule_number rule.Start = 11
rule_number rule.Element = 12
rule_number rule.Data = 13
rule_number rule.Local = 14
rule_number rule.NumericInstruction = 15
rule_number rule.VectorInstruction = 16
rule_number rule.ReferenceInstruction = 17
rule_number rule.ParametricInstruction = 18
rule_number rule.VariableInstruction = 19
rule_number rule.TableInstruction = 20
rule_number rule.MemoryInstruction = 21
rule_number rule.AggregateInstruction = 22
rule_number rule.ControlInstruction = 23
rule_number rule.End = 24
rule_number rule.Supertypes = 25
