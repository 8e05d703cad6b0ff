-- The kept heap types that imported functions ground, as entities are imported.
use Rattle.smith_draw_imports.proofs.Common.{[], AreKeptGrounds, arith, Config, EntitySpaces, EntityType, false, length, List, refl}
use Rattle.smith_draw_imports.proofs.Common.{SubType, sym, ℕ, ◌++◌, ◌+◌, ◌∙◌, ◌∷◌, ◌≡◌}
use Rattle.std.proofs.lemmas.List.{length-append}
use Rattle.smith_types.specs.FuncGrounds.{IsFunctionAdded}
use Rattle.smith_types.specs.EntitySpaces.{with_entity}
use Rattle.smith_types.specs.Syntax.entity_type.EntityType.TheVariants as entity
use Rattle.smith_types.proofs.GroundGrowthLemmas.{import_pushes}
use Rattle.smith_draw_types.specs.declared.kept_grounds.KeptGrounds.{KeptGrounds}
use Rattle.smith_draw_imports.specs.ImportedEntities.{import_scope}

module _ (config : Config) (types : List SubType) (spaces : EntitySpaces) where
  -- an imported function pushes a reference that is not exact
  pub function_imported : (index : ℕ) → IsFunctionAdded (import_scope config types spaces)
      (import_scope config types (with_entity spaces (entity.Func index))) index false
  function_imported index =
      let longer : length (spaces.funcs ++ index ∷ []) ≡ length spaces.funcs + 1 = length-append spaces.funcs (index ∷ []) in record {
        types = refl;
        funcs = refl;
        same = λ function i before. import_pushes (import_scope config types (with_entity spaces (entity.Func index))) function i
            (omega (arith, before, longer)) ∙ sym (import_pushes (import_scope config types spaces) function i before);
        added = import_pushes (import_scope config types (with_entity spaces (entity.Func index))) (length spaces.funcs) index
            (omega (arith, longer));
      }

  -- another entity changes no function
  pub other_imported : (added : EntityType) (grounds : KeptGrounds) → ((index : ℕ) → added ≡ entity.Func index → ⊥)
      → AreKeptGrounds (import_scope config types spaces) grounds → AreKeptGrounds (import_scope config types (with_entity spaces added))
      grounds
  other_imported (entity.Func index) grounds other h = absurd (other index refl)
  other_imported (entity.Tag index) grounds other h = h
  other_imported (entity.Table table) grounds other h = h
  other_imported (entity.Memory memory) grounds other h = h
  other_imported (entity.Global global) grounds other h = h
