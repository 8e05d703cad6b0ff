-- Further properties of a module: its names, types and sections. Rules of this project.
use Rattle.std.specs.Prelude.{◌≡◌, ℕ, ◌<◌, Bool, false, IsTrue, List, [], ◌∷◌, ◌++◌, Option, Some, None, map, length, All}
use Rattle.std.specs.List.{flat_map}
use Rattle.smith_types.specs.Floats.{IsNoFloat, GivesNoFloat}
use Rattle.smith_types.specs.HeldValues.{values_in}
use Rattle.smith_module_rules.specs.Common.{Config, ConstInstr, ElementSegment, FixesExports, flattened, Import, SubType}
use Rattle.smith_types.specs.ValidTypes.{values_of}
use Rattle.smith_types.specs.Exports.{AreDistinct}
use Rattle.smith_types.specs.Segments.{IsElementInside, IsDataInside}
use Rattle.smith_types.specs.Syntax.value_type.ValType.{ValType}
use Rattle.smith_types.specs.Syntax.value_type.ValType.TheVariants.{Ref}
use Rattle.smith_types.specs.Syntax.entity_type.GlobalType.{GlobalType}
use Rattle.smith_types.specs.Syntax.code.Code.{Code}
use Rattle.smith_config.specs.InUse.{FixesImports, HasNoShapes}
use Rattle.smith_config.specs.Granted.{IsGranted}
use Rattle.smith_module_rules.specs.ExportedItems.{AreAllExported}
use Rattle.smith_module_rules.specs.Held.{expressions_of}
use Rattle.smith_module_rules.specs.Module.{ModuleParts, module_context, module_spaces}
use Rattle.smith_module_rules.specs.Refusals.{HoldsNonNullable}

-- no two imports have the same pair of names
abbrev pub HasDistinctImports : ModuleParts → Type 0
HasDistinctImports m = AreDistinct {A = List ℕ × List ℕ} (map (λ (one : Import). (one.«module», one.name)) (flattened m.imports))

-- the initialiser of a table, if any
abbrev pub initial_of : Option (List ConstInstr) → List (List ConstInstr)
initial_of None = []
initial_of (Some expression) = expression ∷ []

-- the constant expressions of a module
abbrev pub module_expressions : ModuleParts → List (List ConstInstr)
module_expressions m =
    flat_map initial_of m.defined_tables
    ++ (map (λ (one : ℕ × List ConstInstr). one.1) m.defined_globals ++ flat_map
    (λ (segment : ElementSegment). expressions_of segment.items) m.elems)

-- the value types in the types, globals and locals of a module; tables and element segments have
-- only references
abbrev pub module_values : ModuleParts → List ValType
module_values m =
    flat_map (λ (t : SubType). values_of t.composite_type.inner) m.types
    ++ (map (λ (global : GlobalType). global.val_type) m.globals ++ flat_map (λ (body : Code). body.locals) m.code)

-- no type and no constant is a float
pub record HasNoFloats (m : ModuleParts) : Type 0 where
  pub values : All IsNoFloat (module_values m)
  pub constants : All (All GivesNoFloat) (module_expressions m)

-- each reference in types, tables, globals and element segments is nullable, or grounded with
-- `non_nullable_enabled`
pub record HoldsGranted (config : Config) (m : ModuleParts) : Type 0 where
  pub values : All (IsGranted config (module_context m)) (values_in m.types (module_spaces m))
  pub elems : All (λ (segment : ElementSegment). IsGranted config (module_context m) (Ref segment.ty)) m.elems

-- each reference type of a local is nullable, or grounded with `non_nullable_enabled`
abbrev pub HasGrantedLocals : Config → ModuleParts → Type 0
HasGrantedLocals config m = All (IsGranted config (module_context m)) (flat_map (λ (body : Code). body.locals) m.code)

-- each function, table, memory, global and tag is exported once, in this order and by index
abbrev pub ExportsEverything : ModuleParts → Type 0
ExportsEverything m = AreAllExported (module_spaces m) m.exports

-- the module has no start function
abbrev pub HasNoStart : ModuleParts → Type 0
HasNoStart m = m.start ≡ None

-- each active segment has a constant offset, and lies within the minimum size of its table or
-- memory
pub record IsInside (m : ModuleParts) : Type 0 where
  pub elems : All (IsElementInside m.tables) m.elems
  pub data_segments : All (IsDataInside m.memories) m.datas

-- the type section is written if there are types, and the import section if there are imports
pub record WritesSections (m : ModuleParts) : Type 0 where
  pub types : 0 < length m.types → IsTrue m.encodes_types
  pub imports : 0 < length m.imports → IsTrue m.encodes_imports

-- no global counts fuel; a drawn module has no counters, and a caller may add some later
abbrev pub HasNoCounter : ModuleParts → Type 0
HasNoCounter m = m.fuel_globals ≡ []

-- The properties of a drawn module that the configuration or the call requests. If the call
-- requests it, the names of imports are distinct, unless a shape fixes the imports. If the
-- configuration requests it, everything is exported, unless a shape fixes the exports; there are no
-- floats, unless there is a shape; there is no start function; and active segments are inside.
-- References are nullable or grounded, except outside of locals if a shape in use has a
-- non-nullable one. Sections with content are written, and there is no fuel counter.
pub record KeepsPromises (distinct : Bool) (config : Config) (m : ModuleParts) : Type 0 where
  pub names : IsTrue distinct → (FixesImports config → ⊥) → HasDistinctImports m
  pub no_floats : config.allow_floats ≡ false → HasNoShapes config → HasNoFloats m
  pub granted : (HoldsNonNullable config → ⊥) → HoldsGranted config m
  pub granted_locals : HasGrantedLocals config m
  pub everything : IsTrue config.export_everything → (FixesExports config → ⊥) → ExportsEverything m
  pub no_start : config.allow_start_export ≡ false → HasNoStart m
  pub inside : IsTrue config.disallow_traps → IsInside m
  pub sections : WritesSections m
  pub no_fuel : HasNoCounter m
