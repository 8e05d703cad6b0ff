-- A module with sinks.
use Rattle.std.specs.Prelude.{true, pos, [], ◌∷◌, codes}
use Rattle.smith_types.specs.Syntax.value_type.ValType.TheVariants.{I32, I64}
use Rattle.smith_types.specs.Syntax.const_instr.ConstInstr.TheVariants.{I32Const, I64Const}
use Rattle.smith_types.specs.Syntax.entity_type.ExportKind.TheVariants as kind
use Rattle.smith_module_rules.specs.Module.{ModuleParts}
use Rattle.smith_module_rules_examples.specs.ExampleParts.{global}
use Rattle.smith_module_rules_examples.specs.ExampleGiven.{without_gc}

-- a function with a parameter that is a number, and the sinks
abbrev pub sunk : ModuleParts
sunk = record without_gc {
  globals = global I32 true ∷ global I64 true ∷ global I64 true ∷ [];
  defined_globals = (0, I32Const (pos 0) ∷ []) ∷ (1, I64Const (pos 0) ∷ []) ∷ (2, I64Const (pos 0) ∷ []) ∷ [];
}

-- the same with exports of the sinks
abbrev pub shown : ModuleParts
shown = record sunk {
  exports = (codes "sink_i32", kind.Global, 0) ∷ (codes "sink_i64", kind.Global, 1) ∷ (codes "sink_i64_2", kind.Global, 2) ∷ [];
}
