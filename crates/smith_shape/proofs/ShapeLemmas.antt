-- The shape of a decoded module is that of its syntax.
use Rattle.std.proofs.Common.{◌≡◌, ℕ, List, sym, subst, refl, true, false}
use Rattle.std.specs.List.{list_all}
use Rattle.std.proofs.lemmas.Simd.{map-map}
use Rattle.smith_types.specs.Syntax.entity_type.GlobalType.{GlobalType}
use Rattle.smith_types.specs.Syntax.entity_type.TableType.{TableType}
use Rattle.smith_instr.specs.declared.instr.Instr.{Instr}
use Rattle.smith_config.specs.declared.shape.Shape.{Shape}
use Rattle.smith_decode.specs.Modules.{IsModuleBinary, global_pair, syntax_of, table_pair}
use Rattle.smith_decode.specs.declared.modules.Module.{Module}
use Rattle.smith_shape.specs.ModuleShapes.{HaveSeveralSupertypes, IsShapeBinary, IsShapeOf, is_single, shape_of}

shape_is : (m : Module) → list_all is_single m.further_supertypes ≡ true → IsShapeOf (syntax_of m) (shape_of m)
shape_is m single = record {
  supertypes = single;
  types = refl;
  imports = refl;
  funcs = refl;
  tags = refl;
  tables = sym (map-map (λ (table : TableType × List Instr). table.0) table_pair m.tables);
  memories = refl;
  globals = sym (map-map (λ (global : GlobalType × List Instr). global.0) global_pair m.globals);
  exports = refl;
}

pub shape_binary : (bytes : List ℕ) (m : Module) (shape : Shape) → IsModuleBinary (syntax_of m) bytes
    → list_all is_single m.further_supertypes ≡ true → shape ≡ shape_of m → IsShapeBinary bytes shape
shape_binary bytes m shape binary single is = record {
  m = syntax_of m;
  binary = binary;
  of_module = subst (IsShapeOf (syntax_of m)) (sym is) (shape_is m single);
}

pub several_supertypes : (bytes : List ℕ) (m : Module) → IsModuleBinary (syntax_of m) bytes
    → list_all is_single m.further_supertypes ≡ false → HaveSeveralSupertypes bytes
several_supertypes bytes m binary several = record { m = syntax_of m; binary = binary; several = several }
