-- Accepted shapes add few items of each kind.
use Rattle.wasm_smith.proofs.Common.{[], AreShapesValid, arith, Config, Count, count_in, Export, ExportKind, HasRoom, IfSome, Import}
use Rattle.wasm_smith.proofs.Common.{imported_spaces, IsShapeValid, items_of_export_shape, items_of_exports, items_of_module_shape}
use Rattle.wasm_smith.proofs.Common.{items_of_shapes, length, List, None, Option, Shape, shape_for, shape_imports, Some, sum_by, ℕ, ◌+◌}
use Rattle.wasm_smith.proofs.Common.{◌^◌, ◌∷◌, ◌≤◌}
use Rattle.std.proofs.Common.{◌-◌}
use Rattle.std.proofs.lemmas.List.Sums.{sum_by-cons}
use Rattle.smith_bytes.specs.declared.error.Count.TheVariants as counts
use Rattle.smith_bytes.specs.declared.error.Which.TheVariants as which
use Rattle.smith_types.specs.Syntax.entity_type.ExportKind.TheVariants as kind
use Rattle.smith_config.specs.Shapes.{in_use, IsShort}
use Rattle.smith_module_rules.specs.Bounds.{items_of_available_imports}
use Rattle.smith_module_rules.specs.Bounds.{counts_as, where_given}
use Rattle.wasm_smith.proofs.FirstPartsLemmas.{imported_room}

-- an export is at most one item of a kind
one_counted : (count : Count) (of_kind : ExportKind) → counts_as count of_kind ≤ 1
one_counted counts.Tags kind.Tag = omega arith
one_counted counts.Funcs kind.Func = omega arith
one_counted counts.Tables kind.Table = omega arith
one_counted counts.Memories kind.Memory = omega arith
one_counted counts.Globals kind.Global = omega arith
one_counted counts.Types kind.Tag = omega arith
one_counted counts.Types kind.Func = omega arith
one_counted _ _ = omega arith

no_more_counted : (count : Count) (exports : List Export) → sum_by (λ (one : Export). counts_as count one.1) exports ≤ length exports
no_more_counted count [] = omega arith
no_more_counted count (one ∷ more) =
    let here = one_counted count one.1 in
    let later = no_more_counted count more in
    let whole = sum_by-cons (λ (each : Export). counts_as count each.1) one more in
    omega (arith, here, later, whole)

few_exported : (count : Count) (shape : Shape) → IsShort shape → items_of_exports count shape ≤ 2 ^ 29
few_exported count shape short = let here = no_more_counted count shape.exports in omega (arith, here, short.exports)

few_imported : (count : Count) (imports : List Import) → length imports ≤ 2 ^ 29 → count_in (imported_spaces imports) count ≤ 2 ^ 29
few_imported count imports short =
    let room : HasRoom (imported_spaces imports) (2 ^ 32 - 1 - 2 ^ 29) = imported_room imports (2 ^ 32 - 1 - 2 ^ 29)
    (omega (arith, short)) in
    elim count as (λ (of_kind : Count). count_in (imported_spaces imports) of_kind ≤ 2 ^ 29) [
      | counts.Tags ↦ omega (arith, room.tags)
      | counts.Funcs ↦ omega (arith, room.funcs)
      | counts.Tables ↦ omega (arith, room.tables)
      | counts.Memories ↦ omega (arith, room.memories)
      | counts.Globals ↦ omega (arith, room.globals)
      | _ ↦ omega arith
    ]

few_by_module : (count : Count) (shape : Shape) → IsShort shape → items_of_module_shape count shape ≤ 2 ^ 30
few_by_module counts.Types shape short = omega (arith, short.types)
few_by_module counts.Imports shape short = omega (arith, short.imports)
few_by_module count shape short =
    let offered = few_imported count (shape_imports shape) short.imports in
    let exported = few_exported count shape short in
    omega (arith, offered, exported)

few_by_imports : (count : Count) (shape : Shape) → IsShort shape → items_of_available_imports count shape ≤ 2 ^ 30
few_by_imports counts.Types shape short = omega (arith, short.types)
few_by_imports _ shape short = omega arith

few_given : (Holds : Shape → Type 0) (of_shape : Shape → ℕ) (most : ℕ) → ((shape : Shape) → Holds shape → of_shape shape ≤ most)
    → (given : Option Shape) → IfSome given Holds → where_given of_shape given ≤ most
few_given Holds of_shape most few (Some shape) h = few shape h
few_given Holds of_shape most few None h = omega arith

-- with a module shape no other shape adds an item
few_in_use : (config : Config) (count : Count) (available exports shaped : Option Shape) → let used =
    in_use (record { available_imports = available; exports = exports; module_shape = shaped }) in
    IfSome used.module_shape (IsShapeValid which.ModuleShape config)
    → IfSome used.available_imports (IsShapeValid which.AvailableImports config)
    → where_given (items_of_module_shape count) used.module_shape + where_given (items_of_available_imports count) used.available_imports
    ≤ 2 ^ 30
few_in_use config count available exports (Some shape) own offered = let few = few_by_module count shape own.short in omega (arith, few)
few_in_use config count available exports None own offered = let few = few_given (IsShapeValid which.AvailableImports config)
    (items_of_available_imports count) (2 ^ 30) (λ shape valid. few_by_imports count shape valid.short) available offered in
    omega (arith, few)

-- shapes may have few items past a maximum
pub few_items_of_shapes : (config : Config) → AreShapesValid config → (count : Count) → items_of_shapes config count ≤ 2 ^ 30
few_items_of_shapes config valid count = few_in_use config count config.available_imports config.exports config.module_shape
    (valid which.ModuleShape) (valid which.AvailableImports)

-- shapes add few items to a maximum
pub few_items_of_export_shape : (config : Config) → AreShapesValid config → (count : Count) → items_of_export_shape config count ≤ 2 ^ 29
few_items_of_export_shape config valid count = few_given (IsShapeValid which.Exports config) (items_of_exports count) (2 ^ 29)
    (λ shape short. few_exported count shape short.short) (shape_for config which.Exports) (valid which.Exports)
