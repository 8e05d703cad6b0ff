-- The refusals of imports, exports and contents.
use Rattle.wasm_smith.proofs.Common.{All, Config, Context, EntitySpaces, Err, Error, FixesExports, FixesImports, HasGroundedElements}
use Rattle.wasm_smith.proofs.Common.{HasNoShapes, HoldsNonNullable, IfErr, inl, inr, List, MayRefuse, MayRefuseExports, MayRefuseImports}
use Rattle.wasm_smith.proofs.Common.{None, Ok, Option, refl, Result, Shape, Some, subst, sym, TableType, ◌≡◌, ◌⊎◌}
use Rattle.smith_bytes.specs.declared.error.Error.TheVariants as errors
use Rattle.smith_bytes.specs.declared.error.Which.TheVariants as which
use Rattle.smith_draw_contents.specs.DrawnElements.{HasUngroundedElements, MayLackItem, MayRefuseElements}
use Rattle.smith_draw_contents.specs.Exported.{MayRunOut}
use Rattle.wasm_smith.proofs.NonNullableLemmas.{holds_or_not}
use Rattle.wasm_smith.specs.Contents.{MayRefuseContents}
use Rattle.wasm_smith.specs.DrawnSteps.{HoldsGrounded}
use Rattle.smith_module_rules.specs.Refusals.{HasShape, MayLackExports}

-- a configuration has no shapes, or a shape that is used
shapes_by : (config : Config) (of_module available exports : Option Shape) → config.module_shape ≡ of_module → config.available_imports
    ≡ available → config.exports ≡ exports → HasNoShapes config ⊎ HasShape config
shapes_by config (Some shape) available exports of_module free fixed = inr (which.ModuleShape, rw of_module refl)
shapes_by config None (Some shape) exports of_module free fixed = inr (which.AvailableImports, rw (of_module, free) refl)
shapes_by config None None (Some shape) of_module free fixed = inr (which.Exports, rw (of_module, fixed) refl)
shapes_by config None None None of_module free fixed = inl (record { available_imports = free; exports = fixed; module_shape = of_module })

pub has_shapes : (config : Config) → HasNoShapes config ⊎ HasShape config
has_shapes config = shapes_by config config.module_shape config.available_imports config.exports refl refl refl

lack_exports : (config : Config) → (HasNoShapes config → MayRunOut config) → MayLackExports config
lack_exports config short = elim (has_shapes config) [
  | inl none ↦ inr (short none)
  | inr some ↦ inl some
]

-- if no shape fixes them, exports are refused only as a module may be
pub exports_refuse : (config : Config) (e : Error) → (FixesExports config → ⊥) → MayRefuseExports config e → MayRefuse config e
exports_refuse config e free (inl (all, inl memory)) = subst (MayRefuse config) (sym memory) tt
exports_refuse config e free (inl (all, inr size)) = subst (MayRefuse config) (sym size) (all, free)
exports_refuse config e free (inr (some, inl memory)) = subst (MayRefuse config) (sym memory) tt
exports_refuse config e free (inr (some, inr (unmet, asked, short))) = subst (MayRefuse config) (sym unmet)
    ((free, some), (asked, lack_exports config short))

module _ (config : Config) (context : Context) (tables : List TableType) where
  -- element segments are refused only as contents may be
  pub elements_refuse : (e : Error) → MayRefuseElements config context tables e → MayRefuseContents config context tables e
  elements_refuse e (inl (inl (inl memory))) = subst (MayRefuseContents config context tables) (sym memory) tt
  elements_refuse e (inl (inl (inr (unmet, asked)))) = subst (MayRefuseContents config context tables) (sym unmet) (tt, (asked, tt))
  elements_refuse e (inl (inr (empty, lacking))) = subst (MayRefuseContents config context tables) (sym empty) lacking
  elements_refuse e (inr (unmet, asked, off)) = subst (MayRefuseContents config context tables) (sym unmet) (tt, (asked, off))

  -- no element is ungrounded if each table's elements are grounded
  pub none_lacks : All (HasGroundedElements config context) tables → HasUngroundedElements config context tables → ⊥
  none_lacks each (k, table, inside, is, lacks) = each k table inside (rw is lacks)

  -- contents are refused only as a module may be
  pub contents_refuse : {X : Type 0} (r : Result X Error) → (MayLackItem config context tables → HoldsNonNullable config)
      → IfErr r (MayRefuseContents config context tables) → IfErr r (MayRefuse config)
  contents_refuse (Ok made) lacks h = tt
  contents_refuse (Err errors.EmptyChoose) lacks h = lacks h
  contents_refuse (Err errors.Memory) lacks h = h
  contents_refuse (Err errors.NotEnoughData) lacks h = h
  contents_refuse (Err (errors.IncorrectFormat why)) lacks h = h
  contents_refuse (Err (errors.Config fault)) lacks h = h
  contents_refuse (Err (errors.Shape for_use fault)) lacks h = h

-- if there may be nothing to choose from, a shape in use holds a non-nullable reference
pub lacks_so : (config : Config) (context : Context) (spaces : EntitySpaces)
    → ((HoldsNonNullable config → ⊥) → HoldsGrounded config context spaces) → MayLackItem config context spaces.tables
    → HoldsNonNullable config
lacks_so config context spaces grounded lack = elim (holds_or_not config) [
  | inl holds ↦ holds
  | inr none ↦ let all = grounded none in
      elim lack [
        | inl field ↦ absurd (all.fields field)
        | inr table ↦ absurd
            (none_lacks config context spaces.tables all.element_types table)
      ]
]

-- if no shape fixes them, imports are refused only as a module may be
pub imports_refuse : (config : Config) (e : Error) → (FixesImports config → ⊥) → MayRefuseImports config e → MayRefuse config e
imports_refuse config e free (inl memory) = subst (MayRefuse config) (sym memory) tt
imports_refuse config e free (inr (unmet, some, lacks)) = subst (MayRefuse config) (sym unmet) (free, (some, lacks))
