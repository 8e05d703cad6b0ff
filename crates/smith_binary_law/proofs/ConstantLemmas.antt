-- Constant expressions and what holds them, from the same with any instructions.
use Rattle.smith_binary_law.proofs.Common.{[], ap, Instr, List, map, refl, TableType, ◌∷◌, ◌≡◌}
use Rattle.smith_types.specs.Syntax.const_instr.ConstInstr.{ConstInstr}
use Rattle.smith_types.specs.Syntax.const_instr.ConstInstr.TheVariants as constant
use Rattle.smith_types.specs.Syntax.entity_type.GlobalType.{GlobalType}
use Rattle.smith_binary_sections.specs.Data.{Data as ConstData, DataMode as ConstDataMode}
use Rattle.smith_binary_sections.specs.Elements.{Elem as ConstElem, Mode as ConstMode}
use Rattle.smith_instr.specs.declared.aggregate.AggregateInstr.TheVariants as aggregate
use Rattle.smith_instr.specs.declared.instr.Instr.TheVariants as instr
use Rattle.smith_instr.specs.declared.numeric.IntBinary.TheVariants.{Add, Sub, Mul}
use Rattle.smith_instr.specs.declared.numeric.NumericInstr.TheVariants.{I32Binary, I64Binary}
use Rattle.smith_instr.specs.declared.reference.ReferenceInstr.TheVariants as reference
use Rattle.smith_decode.specs.Constants.{as_instr, as_expr, as_table, as_global, as_mode, as_elem, as_data_mode, as_data}
use Rattle.smith_decode.specs.Data.{Data, DataMode}
use Rattle.smith_decode.specs.Elements.{Elem, Mode}

-- the constant instruction that an instruction is, if it is one, else any
pub from_instr : Instr → ConstInstr
from_instr (instr.I32Const value) = constant.I32Const value
from_instr (instr.I64Const value) = constant.I64Const value
from_instr (instr.F32Const bits) = constant.F32Const bits
from_instr (instr.F64Const bits) = constant.F64Const bits
from_instr (instr.V128Const value) = constant.V128Const value
from_instr (instr.GlobalGet index) = constant.GlobalGet index
from_instr (instr.Reference (reference.Null heap)) = constant.RefNull heap
from_instr (instr.Reference (reference.Func index)) = constant.RefFunc index
from_instr (instr.Numeric (I32Binary Add)) = constant.I32Add
from_instr (instr.Numeric (I32Binary Sub)) = constant.I32Sub
from_instr (instr.Numeric (I32Binary Mul)) = constant.I32Mul
from_instr (instr.Numeric (I64Binary Add)) = constant.I64Add
from_instr (instr.Numeric (I64Binary Sub)) = constant.I64Sub
from_instr (instr.Numeric (I64Binary Mul)) = constant.I64Mul
from_instr (instr.Aggregate aggregate.RefI31) = constant.RefI31
from_instr (instr.Aggregate aggregate.RefI31Shared) = constant.RefI31Shared
from_instr (instr.Aggregate (aggregate.StructNew index)) = constant.StructNew index
from_instr (instr.Aggregate (aggregate.StructNewDefault index)) = constant.StructNewDefault index
from_instr (instr.Aggregate (aggregate.ArrayNew index)) = constant.ArrayNew index
from_instr (instr.Aggregate (aggregate.ArrayNewDefault index)) = constant.ArrayNewDefault index
from_instr (instr.Aggregate (aggregate.ArrayNewFixed index size)) = constant.ArrayNewFixed index size
from_instr (instr.Aggregate aggregate.AnyConvertExtern) = constant.AnyConvertExtern
from_instr (instr.Aggregate aggregate.ExternConvertAny) = constant.ExternConvertAny
from_instr _ = constant.RefI31

instr_again : (x : ConstInstr) → from_instr (as_instr x) ≡ x
unfolding from_instr
instr_again (constant.I32Const value) = refl
instr_again (constant.I64Const value) = refl
instr_again (constant.F32Const bits) = refl
instr_again (constant.F64Const bits) = refl
instr_again (constant.V128Const value) = refl
instr_again (constant.GlobalGet index) = refl
instr_again (constant.RefNull heap) = refl
instr_again (constant.RefFunc index) = refl
instr_again constant.I32Add = refl
instr_again constant.I32Sub = refl
instr_again constant.I32Mul = refl
instr_again constant.I64Add = refl
instr_again constant.I64Sub = refl
instr_again constant.I64Mul = refl
instr_again constant.RefI31 = refl
instr_again constant.RefI31Shared = refl
instr_again (constant.StructNew index) = refl
instr_again (constant.StructNewDefault index) = refl
instr_again (constant.ArrayNew index) = refl
instr_again (constant.ArrayNewDefault index) = refl
instr_again (constant.ArrayNewFixed index size) = refl
instr_again constant.AnyConvertExtern = refl
instr_again constant.ExternConvertAny = refl

-- lists
pub map_again : {A B : Type 0} (back : B → A) (view : A → B) → ((x : A) → back (view x) ≡ x) → (xs : List A) → map back (map view xs) ≡ xs
map_again back view again [] = refl
map_again back view again (x ∷ xs) = let first = again x in let rest = map_again back view again xs in cc

-- expressions
abbrev from_expr : List Instr → List ConstInstr
from_expr = map from_instr

expr_again : (e : List ConstInstr) → from_expr (as_expr e) ≡ e
expr_again = map_again from_instr as_instr instr_again

-- tables and globals
abbrev pub from_table : TableType × List Instr → TableType × List ConstInstr
from_table table = (table.0, from_expr table.1)

pub table_again : (table : TableType × List ConstInstr) → from_table (as_table table) ≡ table
table_again table = ap (λ (e : List ConstInstr). (table.0, e)) (expr_again table.1)

abbrev pub from_global : GlobalType × List Instr → GlobalType × List ConstInstr
from_global global = (global.0, from_expr global.1)

pub global_again : (global : GlobalType × List ConstInstr) → from_global (as_global global) ≡ global
global_again global = ap (λ (e : List ConstInstr). (global.0, e)) (expr_again global.1)

-- element segments
abbrev from_mode : Mode → ConstMode
from_mode Mode.passive = ConstMode.passive
from_mode Mode.declared = ConstMode.declared
from_mode (Mode.active table offset) = ConstMode.active table (from_expr offset)

mode_again : (mode : ConstMode) → from_mode (as_mode mode) ≡ mode
mode_again ConstMode.passive = refl
mode_again ConstMode.declared = refl
mode_again (ConstMode.active table offset) = ap (ConstMode.active table) (expr_again offset)

abbrev pub from_elem : Elem → ConstElem
from_elem e = record { ty = e.ty; items = map from_expr e.items; mode = from_mode e.mode }

pub elem_again : (e : ConstElem) → from_elem (as_elem e) ≡ e
elem_again e = rw (map_again from_expr as_expr expr_again e.items, mode_again e.mode) refl

-- data segments
abbrev from_data_mode : DataMode → ConstDataMode
from_data_mode DataMode.passive = ConstDataMode.passive
from_data_mode (DataMode.active memory offset) = ConstDataMode.active memory (from_expr offset)

data_mode_again : (mode : ConstDataMode) → from_data_mode (as_data_mode mode) ≡ mode
data_mode_again ConstDataMode.passive = refl
data_mode_again (ConstDataMode.active memory offset) = ap (ConstDataMode.active memory) (expr_again offset)

abbrev pub from_data : Data → ConstData
from_data d = record { bytes = d.bytes; mode = from_data_mode d.mode }

pub data_again : (d : ConstData) → from_data (as_data d) ≡ d
data_again d = ap (λ (mode : ConstDataMode). record { bytes = d.bytes; mode = mode }) (data_mode_again d.mode)
