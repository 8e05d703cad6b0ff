-- The shape of a module: the module without bodies, initialisers, segments and the start function.
-- The section Structure, Modules, of the WebAssembly Core Specification 3.0.
use Rattle.std.specs.Prelude.{◌≡◌, ◌==◌, ℕ, Bool, true, false, List, length, map, Err}
use Rattle.std.specs.List.{list_all}
use Rattle.smith_types.specs.Syntax.Features.{every_feature}
use Rattle.smith_types.specs.Syntax.entity_type.GlobalType.{GlobalType}
use Rattle.smith_types.specs.Syntax.entity_type.TableType.{TableType}
use Rattle.smith_instr.specs.declared.instr.Instr.{Instr}
use Rattle.smith_types.specs.Imports.{flattened}
use Rattle.smith_config.specs.declared.shape.Shape.{Shape}
use Rattle.smith_decode.specs.Modules.{Syntax, IsModuleBinary, tag_index, export_triple}
use Rattle.smith_decode.specs.ModuleReadings.{module_at}
use Rattle.smith_decode.specs.Results.{Locates}
use Rattle.smith_decode.specs.declared.definitions.GlobalDefinition.{GlobalDefinition}
use Rattle.smith_decode.specs.declared.definitions.TableDefinition.{TableDefinition}
use Rattle.smith_decode.specs.declared.error.DecodeError.{DecodeError}
use Rattle.smith_decode.specs.declared.modules.Module.{Module}
use Rattle.smith_shape.specs.declared.fault.ShapeFault.{ShapeFault}
use Rattle.smith_shape.specs.declared.fault.ShapeFault.TheVariants.{Binary, Supertypes}

-- the type of a table and of a global, without the initialiser
abbrev pub table_type : TableDefinition → TableType
table_type table = table.ty

abbrev pub global_type : GlobalDefinition → GlobalType
global_type global = global.ty

-- the shape of a decoded module, with the groups of its imports
abbrev pub shape_of : Module → Shape
shape_of m = record {
  groups = m.types;
  imports = m.imports;
  funcs = m.functions;
  tags = map tag_index m.tags;
  tables = map table_type m.tables;
  memories = m.memories;
  globals = map global_type m.globals;
  exports = map export_triple m.exports;
}

-- whether no type of a group has several supertypes, by those after the first
abbrev pub is_single : List (List ℕ) → Bool
is_single group = list_all (λ (further : List ℕ). length further == 0) group

-- the shape has the types, imports, types of definitions and exports of the module, in which no type
-- has several supertypes
pub record IsShapeOf (m : Syntax) (shape : Shape) : Type 0 where
  pub supertypes : list_all is_single m.further_supertypes ≡ true
  pub types : shape.groups ≡ m.types
  pub imports : flattened shape.imports ≡ m.imports
  pub funcs : shape.funcs ≡ m.functions
  pub tags : shape.tags ≡ m.tags
  pub tables : shape.tables ≡ map (λ (table : TableType × List Instr). table.0) m.tables
  pub memories : shape.memories ≡ m.memories
  pub globals : shape.globals ≡ map (λ (global : GlobalType × List Instr). global.0) m.globals
  pub exports : shape.exports ≡ m.exports

-- the bytes are a module, and this is its shape
pub record IsShapeBinary (bytes : List ℕ) (shape : Shape) : Type 0 where
  pub m : Syntax
  pub binary : IsModuleBinary m bytes
  pub of_module : IsShapeOf m shape

-- the bytes are a module in which a type has several supertypes
pub record HaveSeveralSupertypes (bytes : List ℕ) : Type 0 where
  pub m : Syntax
  pub binary : IsModuleBinary m bytes
  pub several : list_all is_single m.further_supertypes ≡ false

-- the error of bytes that are not a module: their fault and its offset, or lack of memory
abbrev pub IsUndecoded : List ℕ → DecodeError → Type 0
IsUndecoded bytes e = Locates every_feature (Err e) bytes (module_at bytes)

-- the fault of bytes without a shape: the decoder's, or that a type has several supertypes
abbrev pub IsUnshaped : List ℕ → ShapeFault → Type 0
IsUnshaped bytes (Binary e) = IsUndecoded bytes e
IsUnshaped bytes Supertypes = HaveSeveralSupertypes bytes
