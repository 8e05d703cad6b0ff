-- The shapes that a module begins with are kept by the later draws, and by the finished module.
use Rattle.wasm_smith.proofs.Common.{[], ap, Bool, Config, Count, EntityType, Export, IfSome, if◌then◌else◌, Import, inl, inr, List}
use Rattle.wasm_smith.proofs.Common.{maximum_of, refl, Shape, shape_imports, shape_spaces, shape_types, shapes_of, spaces_in, subst}
use Rattle.wasm_smith.proofs.Common.{SubType, suc, sym, ℕ, ◌++◌, ◌∙◌, ◌∷◌, ◌≡◌}
use Rattle.std.proofs.Common.{None, Option, Some}
use Rattle.std.specs.Prelude.{◌&&◌}
use Rattle.std.specs.List.{AllZip}
use Rattle.smith_bytes.specs.declared.error.Count.TheVariants as counts
use Rattle.smith_types.specs.Syntax.entity_type.EntityType.TheVariants as entity
use Rattle.smith_module_rules.specs.ShapeImports.{count_for, is_allowed, is_fitting, is_picked, taken_from}
use Rattle.wasm_smith.specs.FirstParts.{ModuleSoFar, module_so_far}
use Rattle.wasm_smith.specs.Build.{parts_of}
use Rattle.wasm_smith.specs.DrawnSteps.{BeginsWithTypes, IsBeyond, KeepsShapesSoFar, KeepsImportsSoFar, KeepsModuleSoFar}
use Rattle.smith_module_rules.specs.ShapesKept.{IsSameExport, IsSameType, KeepsAvailableImports, KeepsModuleShape, KeepsShapes}
use Rattle.wasm_smith.specs.declared.build.parts_so_far.PartsSoFar.{PartsSoFar}
use Rattle.wasm_smith.proofs.ExportsGrownLemmas.{same_exports_grown}
use Rattle.smith_draw_definitions.proofs.RequiredExportsLoop.{extends_both}

-- the configuration that a module returns
abbrev shown : Config → Config
shown config = record config { available_imports = None }

most_shown : (config : Config) (count : Count) → maximum_of (shown config) count ≡ maximum_of config count
most_shown config counts.Types = refl
most_shown config counts.Imports = refl
most_shown config counts.Tags = refl
most_shown config counts.Funcs = refl
most_shown config counts.Tables = refl
most_shown config counts.Memories = refl
most_shown config counts.Globals = refl
most_shown config counts.Exports = refl
most_shown config counts.ElementSegments = refl
most_shown config counts.Elements = refl
most_shown config counts.DataSegments = refl

allowed_shown : (config : Config) (added : EntityType) → is_allowed (shown config) added ≡ is_allowed config added
allowed_shown config (entity.Tag index) = refl
allowed_shown config (entity.Func index) = refl
allowed_shown config (entity.Table table) = refl
allowed_shown config (entity.Memory memory) = refl
allowed_shown config (entity.Global global) = refl

fitting_shown : (config : Config) (types : List SubType) (taken : List Import) (one : Import) → is_fitting (shown config) types taken one
    ≡ is_fitting config types taken one
unfolding is_fitting
fitting_shown config types taken one = rw (most_shown config (count_for one.entity_type), allowed_shown config one.entity_type) refl

-- the imports that are taken do not depend on the available imports of the configuration that a
-- module returns
taken_shown : (config : Config) (types : List SubType) (bytes : List ℕ) (place : ℕ) (taken imports : List Import)
    → taken_from (shown config) types bytes place taken imports ≡ taken_from config types bytes place taken imports
taken_shown config types bytes place taken [] = refl
taken_shown config types bytes place taken (one ∷ more) =
    let next = if is_picked bytes place && is_fitting config types taken one then taken ++ one ∷ [] else taken in
    ap (λ (fits : Bool). taken_from (shown config) types bytes (suc place) (if is_picked bytes place && fits then taken ++ one
    ∷ [] else taken) more) (fitting_shown config types taken one)
    ∙ taken_shown config types bytes (suc place) next more

types_beyond : {config : Config} {shape : Shape} {old new : ModuleSoFar} → IsBeyond config old new → BeginsWithTypes shape old
    → BeginsWithTypes shape new
types_beyond beyond h = record { types = extends_both h.types beyond.types; groups = extends_both h.groups beyond.groups }

-- a fact about a module shape, which is used if there is one
of_module_shape : (config : Config) (P : Shape → Type 0) (shape : Shape) → config.module_shape ≡ Some shape
    → IfSome (shapes_of config).module_shape P → P shape
of_module_shape config P shape given h = rw given at h

to_module_shape : (config : Config) (P : Shape → Type 0) (shape : Shape) → config.module_shape ≡ Some shape → P shape
    → IfSome (shapes_of config).module_shape P
to_module_shape config P shape given h = rw given h

-- a fact about available imports in use, and their shape
of_available : (config : Config) (P : Shape → Type 0) (shape : Shape) → config.module_shape ≡ None → config.available_imports ≡ Some shape
    → IfSome (shapes_of config).available_imports P → P shape
of_available config P shape none given h = rw (none, given) at h

to_available : (config : Config) (P : Shape → Type 0) (shape : Shape) → config.module_shape ≡ None → config.available_imports ≡ Some shape
    → P shape → IfSome (shapes_of config).available_imports P
to_available config P shape none given h = rw (none, given) h

kept_by : (config : Config) (bytes : List ℕ) (old new : ModuleSoFar) (of_module available : Option Shape) → config.module_shape ≡ of_module
    → config.available_imports ≡ available → IsBeyond config old new → KeepsShapesSoFar config bytes old → KeepsShapesSoFar config bytes new
kept_by config bytes old new (Some shape) available given also beyond kept =
    let was = of_module_shape config (λ each. KeepsModuleSoFar config each old) shape given kept.module_shape in
    record {
      module_shape = to_module_shape config (λ each. KeepsModuleSoFar config each new) shape given (record {
        types = types_beyond beyond was.types;
        imports = beyond.imports (inr (rw given refl)) ∙ was.imports;
        exports = rw (beyond.exports (rw given refl)) (same_exports_grown _ old.spaces new.spaces (shape_spaces shape) old.exports
            shape.exports beyond.spaces was.exports);
      });
      available_imports = rw given tt;
    }
kept_by config bytes old new None (Some shape) none given beyond kept =
    let was = of_available config (λ each. KeepsImportsSoFar config bytes each old) shape none given kept.available_imports in
    record {
      module_shape = rw none tt;
      available_imports = to_available config (λ each. KeepsImportsSoFar config bytes each new) shape none given
          (record { types = types_beyond beyond was.types; imports = rw (beyond.imports (inl (rw given refl))) was.imports });
    }
kept_by config bytes old new None None none free beyond kept = record { module_shape = rw none tt; available_imports = rw (none, free) tt }

-- later parts keep the shapes that a module begins with
pub kept_beyond : {config : Config} {bytes : List ℕ} {old new : ModuleSoFar} → IsBeyond config old new → KeepsShapesSoFar config bytes old
    → KeepsShapesSoFar config bytes new
kept_beyond {config = config} {bytes = bytes} {old = old} {new = new} beyond kept = kept_by config bytes old new config.module_shape
    config.available_imports refl refl beyond kept

shown_by : (config : Config) (bytes : List ℕ) (drawn : PartsSoFar) (of_module available : Option Shape) → config.module_shape ≡ of_module
    → config.available_imports ≡ available → KeepsShapesSoFar config bytes (module_so_far drawn)
    → IfSome (shapes_of config).exports
    (λ shape. AllZip (IsSameExport (IsSameType drawn.types.types (shape_types shape)) (spaces_in drawn.imported.spaces)
    (shape_spaces shape)) drawn.contents.exports shape.exports)
    → KeepsShapes config bytes (parts_of config drawn)
shown_by config bytes drawn (Some shape) available given also kept exports =
    let was = of_module_shape config (λ each. KeepsModuleSoFar config each (module_so_far drawn)) shape given kept.module_shape in
    record {
      module_shape = to_module_shape config (λ each. KeepsModuleShape each (parts_of config drawn)) shape given
          (record { types = record { types = was.types.types; groups = was.types.groups }; imports = was.imports; exports = was.exports });
      available_imports = rw given tt;
      exports = exports;
    }
shown_by config bytes drawn None (Some shape) none given kept exports =
    let was = of_available config (λ each. KeepsImportsSoFar config bytes each (module_so_far drawn)) shape none given
    kept.available_imports in
    record {
      module_shape = rw none tt;
      available_imports = to_available config (λ each. KeepsAvailableImports bytes each (parts_of config drawn)) shape none given (record {
        types = record { types = was.types.types; groups = was.types.groups };
        imports = was.imports ∙ sym (taken_shown config (shape_types shape) bytes 0 [] (shape_imports shape));
      });
      exports = exports;
    }
shown_by config bytes drawn None None none free kept exports = record {
  module_shape = rw none tt;
  available_imports = rw (none, free) tt;
  exports = exports;
}

-- the exports of a module are those of the shape for exports
abbrev AreExportsKept : Config → PartsSoFar → List Export → Type 0
AreExportsKept config drawn exports =
    IfSome (shapes_of config).exports
    (λ shape. AllZip (IsSameExport (IsSameType drawn.types.types (shape_types shape)) (spaces_in drawn.imported.spaces)
    (shape_spaces shape)) exports shape.exports)

-- a module made of drawn parts, with the exports that were made, keeps the shapes in use
pub shapes_kept : (config : Config) (bytes : List ℕ) (drawn : PartsSoFar) (made : List Export) → drawn.contents.exports ≡ made
    → KeepsShapesSoFar config bytes (record (module_so_far drawn) { exports = made }) → AreExportsKept config drawn made
    → KeepsShapes config bytes (parts_of config drawn)
shapes_kept config bytes drawn made same kept exports =
    shown_by config bytes drawn config.module_shape config.available_imports refl refl
    (subst (λ (all : List Export). KeepsShapesSoFar config bytes (record (module_so_far drawn) { exports = all })) (sym same) kept)
    (subst (AreExportsKept config drawn) (sym same) exports)
