-- An encoder's modules, which have constant expressions, as modules of the decoder, which have any
-- expressions: the sections Structure, Modules and Expressions, of the WebAssembly Core
-- Specification 3.0.
use Rattle.std.specs.Prelude.{ℕ, List, [], map}
use Rattle.smith_types.specs.Syntax.const_instr.ConstInstr.{ConstInstr}
use Rattle.smith_types.specs.Syntax.const_instr.ConstInstr.TheVariants as constant
use Rattle.smith_decode.specs.Common.{GlobalType, Instr, TableType, ValType}
use Rattle.smith_binary_sections.specs.Data.{Data as ConstData, DataMode as ConstDataMode}
use Rattle.smith_binary_sections.specs.Elements.{Elem as ConstElem, Mode as ConstMode}
use Rattle.smith_binary_sections.specs.Modules.{Contents, IsModule}
use Rattle.smith_binary_sections.specs.Sections.{IsOptionalSection}
use Rattle.smith_instr.specs.declared.aggregate.AggregateInstr.TheVariants as aggregate
use Rattle.smith_instr.specs.declared.instr.Instr.TheVariants as instr
use Rattle.smith_instr.specs.declared.numeric.IntBinary.TheVariants.{Add, Sub, Mul}
use Rattle.smith_instr.specs.declared.numeric.NumericInstr.TheVariants.{I32Binary, I64Binary}
use Rattle.smith_instr.specs.declared.reference.ReferenceInstr.TheVariants as reference
use Rattle.smith_decode.specs.Data.{Data, DataMode}
use Rattle.smith_decode.specs.Elements.{Elem, Mode}
use Rattle.smith_decode.specs.Modules.{Syntax}

-- a constant instruction as an instruction (Structure, Expressions)
abbrev pub as_instr : ConstInstr → Instr
as_instr (constant.I32Const value) = instr.I32Const value
as_instr (constant.I64Const value) = instr.I64Const value
as_instr (constant.F32Const bits) = instr.F32Const bits
as_instr (constant.F64Const bits) = instr.F64Const bits
as_instr (constant.V128Const value) = instr.V128Const value
as_instr (constant.GlobalGet index) = instr.GlobalGet index
as_instr (constant.RefNull heap) = instr.Reference (reference.Null heap)
as_instr (constant.RefFunc index) = instr.Reference (reference.Func index)
as_instr constant.I32Add = instr.Numeric (I32Binary Add)
as_instr constant.I32Sub = instr.Numeric (I32Binary Sub)
as_instr constant.I32Mul = instr.Numeric (I32Binary Mul)
as_instr constant.I64Add = instr.Numeric (I64Binary Add)
as_instr constant.I64Sub = instr.Numeric (I64Binary Sub)
as_instr constant.I64Mul = instr.Numeric (I64Binary Mul)
as_instr constant.RefI31 = instr.Aggregate aggregate.RefI31
as_instr constant.RefI31Shared = instr.Aggregate aggregate.RefI31Shared
as_instr (constant.StructNew index) = instr.Aggregate (aggregate.StructNew index)
as_instr (constant.StructNewDefault index) = instr.Aggregate (aggregate.StructNewDefault index)
as_instr (constant.ArrayNew index) = instr.Aggregate (aggregate.ArrayNew index)
as_instr (constant.ArrayNewDefault index) = instr.Aggregate (aggregate.ArrayNewDefault index)
as_instr (constant.ArrayNewFixed index size) = instr.Aggregate (aggregate.ArrayNewFixed index size)
as_instr constant.AnyConvertExtern = instr.Aggregate aggregate.AnyConvertExtern
as_instr constant.ExternConvertAny = instr.Aggregate aggregate.ExternConvertAny

-- a constant expression as an expression (Structure, Expressions)
abbrev pub as_expr : List ConstInstr → List Instr
as_expr = map as_instr

-- the tables, globals and segments of an encoder's module (Structure, Modules)
abbrev pub as_table : TableType × List ConstInstr → TableType × List Instr
as_table table = (table.0, as_expr table.1)

abbrev pub as_global : GlobalType × List ConstInstr → GlobalType × List Instr
as_global global = (global.0, as_expr global.1)

abbrev pub as_mode : ConstMode → Mode
as_mode ConstMode.passive = Mode.passive
as_mode ConstMode.declared = Mode.declared
as_mode (ConstMode.active table offset) = Mode.active table (as_expr offset)

abbrev pub as_elem : ConstElem → Elem
as_elem e = record { ty = e.ty; items = map as_expr e.items; mode = as_mode e.mode }

abbrev pub as_data_mode : ConstDataMode → DataMode
as_data_mode ConstDataMode.passive = DataMode.passive
as_data_mode (ConstDataMode.active memory offset) = DataMode.active memory (as_expr offset)

abbrev pub as_data : ConstData → Data
as_data d = record { bytes = d.bytes; mode = as_data_mode d.mode }

-- an encoder's module with these bodies and without custom sections (Structure, Modules)
abbrev pub with_bodies : Contents → List (List ValType × List Instr) → Syntax
with_bodies m bodies = record {
  types = m.types;
  further_supertypes = map (map (λ t. [])) m.types;
  imports = m.imports;
  functions = m.functions;
  tables = map as_table m.tables;
  memories = m.memories;
  tags = m.tags;
  globals = map as_global m.globals;
  exports = m.exports;
  start = m.start;
  elems = map as_elem m.elems;
  bodies = bodies;
  datas = map as_data m.datas;
  customs = [];
}

-- an optional section is present (Sections)
abbrev pub IsPresent : {id : ℕ} {SaysNothing : Type 0} {Content : List ℕ → Type 0} {piece : List ℕ}
    → IsOptionalSection id SaysNothing Content piece → Type 0
IsPresent (IsOptionalSection.present section) = Unit {0}
IsPresent (IsOptionalSection.absent nothing empty) = ⊥

-- a module has a data count section (Data Count Section)
abbrev pub StatesCount : {m : Contents} {bytes : List ℕ} → IsModule m bytes → Type 0
StatesCount h =
    let tables = h.form.is_second.is_second.is_second.is_second in
    let exports = tables.is_second.is_second.is_second.is_second in
    IsPresent exports.is_second.is_second.is_second.is_first
