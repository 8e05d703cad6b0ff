-- A module made of drawn parts keeps its bounds and meets its minimums.
use Rattle.wasm_smith.proofs.Common.{arith, Bool, Config, Count, EntitySpaces, Export, ExportKind, Exports, flattened, if◌then◌else◌, inl}
use Rattle.wasm_smith.proofs.Common.{inr, is_some, items_of_export_shape, items_of_shapes, List, max, maximum_of, minimum_of, module_spaces}
use Rattle.wasm_smith.proofs.Common.{ModuleParts, refl, Shape, spaces_in, SubType, sum_by, ℕ, ◌+◌, ◌≡◌, ◌≤◌}
use Rattle.std.proofs.Common.{None, Option, Some}
use Rattle.std.specs.Prelude.{◌||◌}
use Rattle.smith_bytes.specs.declared.error.Count.TheVariants as counts
use Rattle.smith_types.specs.Syntax.entity_type.ExportKind.TheVariants as kind
use Rattle.smith_module_rules.specs.Bounds.{count_of, KeepsBounds, MaximumApplies, MeetsMinimums, MinimumApplies}
use Rattle.smith_module_rules.specs.Bounds.{export_size, exports_size, imports_size}
use Rattle.wasm_smith.specs.FirstParts.{size_of_imports}
use Rattle.wasm_smith.specs.Build.{parts_of}
use Rattle.wasm_smith.specs.DrawnContents.{AreExportsMade}
use Rattle.wasm_smith.specs.DrawnParts.{IsDrawnFor}
use Rattle.smith_module_rules.specs.ExportedItems.{exported_size, item_size}
use Rattle.wasm_smith.specs.declared.build.parts_so_far.PartsSoFar.{PartsSoFar}
use Rattle.wasm_smith.proofs.MadeExportsLemmas.{exports_free}

-- an export has the size of its item
same_size : (m : ModuleParts) (of_kind : ExportKind) (index : ℕ) → export_size m of_kind index ≡ item_size m.types (module_spaces m) of_kind
    index
same_size m kind.Func index = refl
same_size m kind.Table index = refl
same_size m kind.Memory index = refl
same_size m kind.Global index = refl
same_size m kind.Tag index = refl

same_sizes : (m : ModuleParts) (exports : List Export) → sum_by (λ (one : Export). export_size m one.1 one.2 + 1) exports
    ≡ exported_size m.types (module_spaces m) exports
same_sizes m exports = λ i. sum_by (λ (one : Export). same_size m one.1 one.2 i + 1) exports

module _ (config : Config) (m : ModuleParts) where
  -- the size of exports is counted if they are drawn, and is 0 otherwise
  exports_counted : exports_size config m ≡ (if is_some config.module_shape || is_some config.exports then 0 else exported_size m.types
      (module_spaces m) m.exports)
  exports_counted = λ i. if is_some config.module_shape || is_some config.exports then 0 else same_sizes m m.exports i

-- the type size of exports in both cases
sized_so : (config : Config) (types : List SubType) (spaces : EntitySpaces) (size : ℕ) (made : Exports) (of_module exports : Option Shape)
    → config.module_shape ≡ of_module → config.exports ≡ exports → AreExportsMade config types spaces size made
    → made.type_size ≡ size + (if is_some of_module || is_some exports then 0 else exported_size types spaces made.exports)
sized_so config types spaces size made (Some shape) exports given also h = let fixed = h.fixed_size (inr (rw given refl)) in
    omega (arith, fixed)
sized_so config types spaces size made None (Some shape) none given h = let fixed = h.fixed_size (inl (rw given refl)) in
    omega (arith, fixed)
sized_so config types spaces size made None None none free h = h.type_size (λ fixes. exports_free config none free fixes)

pub made_size : (config : Config) (types : List SubType) (spaces : EntitySpaces) (size : ℕ) (made : Exports)
    → AreExportsMade config types spaces size made
    → made.type_size ≡ size + (if is_some config.module_shape || is_some config.exports then 0 else exported_size types spaces made.exports)
made_size config types spaces size made h = sized_so config types spaces size made config.module_shape config.exports refl refl h

module _ (distinct : Bool) (config : Config) (drawn : PartsSoFar) (h : IsDrawnFor distinct config drawn) where
  abbrev m : ModuleParts
  m = parts_of config drawn

  most : (count : Count) → MaximumApplies config count → count_of m count ≤ max (maximum_of config count) (items_of_shapes config count) +
      items_of_export_shape config count
  most counts.Types asked = h.whole.most_types
  most counts.Imports asked = omega (arith, h.whole.count, h.whole.most_imports)
  most counts.Tags asked = h.whole.most counts.Tags tt
  most counts.Funcs asked = h.whole.most counts.Funcs tt
  most counts.Tables asked = h.whole.most counts.Tables tt
  most counts.Memories asked = h.whole.most counts.Memories tt
  most counts.Globals asked = h.whole.most counts.Globals tt
  most counts.Exports asked = omega (arith, h.contents.exports.most asked.0 asked.1)
  most counts.ElementSegments asked = omega (arith, h.contents.segments.most_elems)
  most counts.Elements asked = omega (arith, h.contents.segments.most_items)
  most counts.DataSegments asked = omega (arith, h.contents.segments.most_data)

  least : (count : Count) → MinimumApplies config count → minimum_of config count ≤ count_of m count
  least counts.Types asked = h.least_types
  least counts.Imports asked = (h.free asked).least
  least counts.Tags asked = h.least counts.Tags tt
  least counts.Funcs asked = h.least counts.Funcs tt
  least counts.Tables asked = h.least counts.Tables tt
  least counts.Memories asked = h.least counts.Memories tt
  least counts.Globals asked = h.least counts.Globals tt
  least counts.Exports asked = h.contents.exports.least asked.0 asked.1
  least counts.ElementSegments asked = h.contents.segments.least_elems
  least counts.Elements asked = absurd asked
  least counts.DataSegments asked = h.contents.segments.least_data

  imports_counted : imports_size config m ≡ size_of_imports config drawn.types.types (flattened drawn.imported.groups)
  imports_counted = refl

  pub drawn_bounds : KeepsBounds config m
  drawn_bounds = record {
    most = most;
    tables = h.whole.tables;
    memories = h.whole.memories;
    type_size = let exports = made_size config drawn.types.types (spaces_in drawn.imported.spaces) drawn.imported.type_size _
        h.contents.exports in omega (arith, exports, h.whole.type_size, imports_counted, exports_counted config m);
    type_size_most = h.contents.exports.within;
  }

  pub drawn_minimums : MeetsMinimums config m
  drawn_minimums = record { least = least; elems = h.contents.segments.enough_items }
