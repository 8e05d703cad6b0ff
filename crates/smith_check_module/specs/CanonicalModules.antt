-- A module with canonical indices in place of its own type indices, so that equal types are one
-- type: the section Validation, Conventions, of the WebAssembly Core Specification 3.0. An index
-- above all types is unchanged.
use Rattle.std.specs.Prelude.{ℕ, map}
use Rattle.smith_check_module.specs.Common.{ConstInstr, EntitySpaces, GlobalType, renamed_val, TableType}
use Rattle.smith_types.specs.Syntax.const_instr.ConstInstr.TheVariants as instr
use Rattle.smith_check_types.specs.Renamed.{renamed_heap, renamed_ref}

-- a table type with each type index replaced by `name` (Structure, Table Types)
abbrev pub renamed_table : (ℕ → ℕ) → TableType → TableType
renamed_table name table = record table { element_type = renamed_ref name table.element_type }

-- a global type with each type index replaced by `name` (Structure, Global Types)
abbrev pub renamed_global : (ℕ → ℕ) → GlobalType → GlobalType
renamed_global name global = record global { val_type = renamed_val name global.val_type }

-- the index spaces with each type index replaced by `name` (Structure, Indices)
abbrev pub renamed_spaces : (ℕ → ℕ) → EntitySpaces → EntitySpaces
renamed_spaces name spaces = record {
  tags = map name spaces.tags;
  funcs = map name spaces.funcs;
  tables = map (renamed_table name) spaces.tables;
  memories = spaces.memories;
  globals = map (renamed_global name) spaces.globals;
}

-- an instruction of a constant expression with each type index replaced by `name` (Validation,
-- Constant Expressions)
abbrev pub renamed_const : (ℕ → ℕ) → ConstInstr → ConstInstr
renamed_const name (instr.RefNull heap) = instr.RefNull (renamed_heap name heap)
renamed_const name (instr.StructNew index) = instr.StructNew (name index)
renamed_const name (instr.StructNewDefault index) = instr.StructNewDefault (name index)
renamed_const name (instr.ArrayNew index) = instr.ArrayNew (name index)
renamed_const name (instr.ArrayNewDefault index) = instr.ArrayNewDefault (name index)
renamed_const name (instr.ArrayNewFixed index size) = instr.ArrayNewFixed (name index) size
renamed_const name instruction = instruction
