-- The state after imports that no shape fixes are added.
use Rattle.wasm_smith.proofs.Common.{[], All, all_kept, ap, AreExportsValid-grown, AreSpacesGrown, arith, Bool, Config, Context}
use Rattle.wasm_smith.proofs.Common.{EntitySpaces, Err, Error, Extends, false, FixesImports, flattened, HasGroundedElements}
use Rattle.wasm_smith.proofs.Common.{HasGroundedValue, HoldsUngroundedField, IfErr, Imported, imported_spaces, inl, inr, is_memory, is_some}
use Rattle.wasm_smith.proofs.Common.{IsSanitized, IsSome, items_of_shapes, length, List, MayRefuseImports, None, Ok, OnOk, Option, Passes}
use Rattle.wasm_smith.proofs.Common.{refl, Result, Returns, ReturnsWhy, Shape, Some, spaces_in, subst, sym, then_with, Why, ◌∙◌, ◌≡◌}
use Rattle.std.specs.Prelude.{ℕ}
use Rattle.smith_bytes.specs.declared.error.Count.TheVariants as counts
use Rattle.smith_types.specs.Syntax.imports.Imports.{Imports}
use Rattle.smith_types.specs.Grown.{AreImportsGrown}
use Rattle.smith_types.specs.Floats.{HasNoFloatValue}
use Rattle.smith_config.specs.Granted.{AreTypesGranted}
use Rattle.smith_draw_imports.specs.Imported.{IsImported, MayImport}
use Rattle.smith_draw_imports.specs.Importing.{imports_at}
use Rattle.smith_draw_imports.specs.ImportedEntities.{import_scope}
use Rattle.smith_draw_types.proofs.FilledLemmas.{fields_imported}
use Rattle.smith_draw_imports.proofs.ImportsGrownLemmas.{ungrounded_imported}
use Rattle.wasm_smith.specs.Build.{imported_at}
use Rattle.wasm_smith.specs.DrawnContents.{in_full}
use Rattle.wasm_smith.specs.FirstParts.{ModuleSoFar, module_so_far}
use Rattle.wasm_smith.specs.DrawnSteps.{AreImportsDrawn, AreTypesDrawn, HoldsGrounded, IsBeyond, drawn_next}
use Rattle.wasm_smith.specs.declared.build.parts_so_far.PartsSoFar.{PartsSoFar}
use Rattle.smith_draw_definitions.proofs.DefinedGrowthLemmas.{none_float}
use Rattle.wasm_smith.proofs.FreelyImportedLemmas.{freely_stands}
use Rattle.wasm_smith.proofs.GrantedLaterLemmas.{types_later}
use Rattle.wasm_smith.proofs.ReasonLemmas.{changed_in_full, imports_choose}

-- there is no shape if the test for one is false
pub none_there : (given : Option Shape) → false ≡ is_some given → given ≡ None
none_there None h = refl
none_there (Some shape) h = absurd cc

-- without a module shape and available imports no shape fixes the imports
free_of : (config : Config) → config.available_imports ≡ None → config.module_shape ≡ None → FixesImports config → ⊥
free_of config free none (inl given) = let gone = subst (λ (one : Option Shape). IsSome one) free given in absurd cc
free_of config free none (inr given) = let gone = subst (λ (one : Option Shape). IsSome one) none given in absurd cc

-- every list extends the empty list
from_none : {A : Type 0} (none all : List A) → none ≡ [] → Extends none all
from_none none all empty = record { more = all; parts = rw empty refl }

grown_from_none : (none all : EntitySpaces) → none ≡ imported_spaces [] → AreSpacesGrown none all
grown_from_none none all empty = record {
  tags = from_none none.tags all.tags (ap (λ (spaces : EntitySpaces). spaces.tags) empty);
  funcs = from_none none.funcs all.funcs (ap (λ (spaces : EntitySpaces). spaces.funcs) empty);
  tables = from_none none.tables all.tables (ap (λ (spaces : EntitySpaces). spaces.tables) empty);
  memories = from_none none.memories all.memories (ap (λ (spaces : EntitySpaces). spaces.memories) empty);
  globals = from_none none.globals all.globals (ap (λ (spaces : EntitySpaces). spaces.globals) empty);
}

module _ (config : Config) (drawn : PartsSoFar) (passes : Passes config) (sanitized : IsSanitized config) (old : AreTypesDrawn config drawn)
    (free : config.available_imports ≡ None) (none : config.module_shape ≡ None) where
  -- imports may be drawn over the existing types
  pub may_import : MayImport config drawn.types
  may_import = record {
    passes = passes;
    sanitized = sanitized;
    free = free_of config free none;
    valid = old.may.so_far.stands.types;
    few = let brings : items_of_shapes config counts.Types ≡ 0 = rw (none, free) refl in
        omega (arith, brings, old.may.so_far.most_types, passes.few counts.Types);
    small = (old.free (free_of config free none)).small;
  }

  -- all functions are imported
  all_imported : (made : Imported) → (drawn_next config (record drawn { imported = made })).imported_funcs ≡ length made.spaces.funcs
  all_imported made = rw (old.free (free_of config free none)).nothing (omega arith)

  -- so the next draw has the context of the imports
  pub in_scope : (made : Imported) → import_scope config drawn.types.types (spaces_in made.spaces) ≡ drawn_next config
      (record drawn { imported = made })
  in_scope made = λ i. record (drawn_next config (record drawn { imported = made })) { imported_funcs = sym (all_imported made) i }

  module _ (distinct : Bool) (made : Imported) (so_far : IsImported config drawn.types.types distinct made) where
    grown : AreSpacesGrown (spaces_in drawn.imported.spaces) (spaces_in made.spaces)
    grown = grown_from_none (spaces_in drawn.imported.spaces) (spaces_in made.spaces) (old.free (free_of config free none)).imports.spaces

    -- grounded references stay grounded with the imports, among which all functions are
    grounded_later : HoldsGrounded config (drawn_next config drawn) (spaces_in drawn.imported.spaces)
        → HoldsGrounded config (drawn_next config (record drawn { imported = made })) (spaces_in made.spaces)
    grounded_later held =
        let alone = old.free (free_of config free none) in
        let later = drawn_next config (record drawn { imported = made }) in
        let none_yet : drawn.imported.spaces.funcs ≡ [] = ap (λ (spaces : EntitySpaces). spaces.funcs) alone.imports.spaces in
        let earlier : Context = record later { funcs = []; imported_funcs = 0 } in
        let growth : AreImportsGrown earlier later = record {
          features = refl;
          types = all_kept drawn.types.types;
          funcs = record { more = made.spaces.funcs; parts = refl };
          imported = refl;
          still_imported = all_imported made;
        } in
        let same : drawn_next config drawn ≡ earlier = rw (none_yet, alone.nothing) refl in
        record {
          fields = λ lacks. held.fields
              (subst (HoldsUngroundedField config) (sym same) (fields_imported config earlier later growth refl lacks));
          types = types_later config earlier later (ungrounded_imported config earlier later growth) drawn.types.types
              (subst (AreTypesGranted config) same held.types);
          element_types = subst (λ (context : Context). All (HasGroundedElements config context) made.spaces.tables) (in_scope made)
              (subst (λ (each : EntitySpaces). All (HasGroundedElements config (import_scope config drawn.types.types each)) each.tables)
              (sym so_far.counts.spaces) so_far.fit.grounded_tables);
          globals = subst (λ (context : Context). All (HasGroundedValue config context) made.spaces.globals) (in_scope made)
              (subst (λ (each : EntitySpaces). All (HasGroundedValue config (import_scope config drawn.types.types each)) each.globals)
              (sym so_far.counts.spaces) so_far.fit.grounded_globals);
        }

    -- more may be drawn over the parts with the imports
    pub imports_drawn : AreImportsDrawn config (record drawn { imported = made })
    imports_drawn =
        let alone = old.free (free_of config free none) in
        let fit = so_far.fit in
        let spaces = so_far.counts.spaces in
        record {
          may = record {
            so_far = freely_stands config distinct drawn made none free sanitized old.may.so_far alone.nothing so_far;
            few_values = old.may.few_values;
            grounded = λ never. grounded_later (old.may.grounded never);
            exports = AreExportsValid-grown (spaces_in drawn.imported.spaces) (spaces_in made.spaces) grown drawn.contents.exports
                old.may.exports;
            least_types = old.may.least_types;
          };
          small = λ shapeless. record { types = alone.small; imports = omega (arith, so_far.counts.type_size, fit.small, fit.most) };
          floats = λ calm shapeless. record {
            types = old.floats calm shapeless;
            defined = rw alone.nothing
                (none_float (spaces_in made.spaces) (subst (λ (each : EntitySpaces). All HasNoFloatValue each.globals) (sym spaces)
                (fit.floats calm)));
          };
        }

    -- the imports follow the parts before
    pub imports_beyond : IsBeyond config (module_so_far drawn) (module_so_far (record drawn { imported = made }))
    imports_beyond = record {
      types = all_kept drawn.types.types;
      groups = all_kept drawn.types.groups;
      imports = λ fixes. absurd (free_of config free none fixes);
      spaces = grown;
      exports = λ _. refl;
    }

-- the imports of a module are drawn if no shape fixes them
pub freely_imported : (distinct : Bool) (config : Config) (so_far : ModuleSoFar) (bytes : List ℕ) → config.module_shape ≡ None
    → config.available_imports ≡ None
    → imported_at distinct config so_far bytes
    ≡ then_with (λ groups. record so_far { groups = groups; spaces = imported_spaces (flattened groups) })
    (in_full (imports_at config so_far.types.types distinct bytes))
unfolding imported_at
freely_imported distinct config so_far bytes none free = rw (none, free) refl

-- the parts with the imports are those that the bytes produce, or the refusal is theirs
pub imports_read : {X : Type 0} (distinct : Bool) (config : Config) (drawn : PartsSoFar) (made : Imported) (bytes left : List ℕ)
    (result : Result X Error) → config.available_imports ≡ None → config.module_shape ≡ None
    → ReturnsWhy (λ _. (made.groups, left)) result (imports_at config drawn.types.types distinct bytes)
    → IfErr result (MayRefuseImports config) → OnOk result (IsImported config drawn.types.types distinct made)
    → Returns is_memory (λ _. (module_so_far (record drawn { imported = made }), left)) result
    (imported_at distinct config (module_so_far drawn) bytes)
imports_read distinct config drawn made bytes left (Ok x) free none given may so_far =
    let with_imports = λ (groups : List Imports). record (module_so_far drawn) {
      groups = groups;
      spaces = imported_spaces
          (flattened groups);
    } in
    freely_imported distinct config (module_so_far drawn) bytes none free
    ∙ (ap (λ (read : Result (List Imports × List ℕ) Why). then_with with_imports (in_full read)) given
    ∙ ap (λ (spaces : EntitySpaces). Ok (record (module_so_far drawn) { groups = made.groups; spaces = spaces }, left))
    (sym so_far.counts.spaces))
imports_read {X = X} distinct config drawn made bytes left (Err e) free none given may so_far =
    let with_imports = λ (groups : List Imports). record (module_so_far drawn) {
      groups = groups;
      spaces = imported_spaces
          (flattened groups);
    } in
    subst (λ (read : Result (ModuleSoFar × List ℕ) Error). Returns {X = X} is_memory
    (λ _. (module_so_far (record drawn { imported = made }), left)) (Err e) read)
    (sym (freely_imported distinct config (module_so_far drawn) bytes none free))
    (changed_in_full {X = X} with_imports (λ _. made.groups) left (Err e) (imports_at config drawn.types.types distinct bytes) given
    (imports_choose config e may))
