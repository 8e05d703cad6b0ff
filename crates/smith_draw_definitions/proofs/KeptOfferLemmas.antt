-- The kept globals and functions are correct for later initialisers.
use Rattle.smith_draw_definitions.proofs.Common.{[], All, All-weaker, AreKeptOffers, Bool, Config, EntitySpaces, EntityType, Extends}
use Rattle.smith_draw_definitions.proofs.Common.{features_of, GlobalType, GroupedTypes, IsFuncTypeIndex, IsGlobalValid, IsOrderly, List}
use Rattle.smith_draw_definitions.proofs.Common.{refl, SubType, with_entity, ◌++◌, ◌∷◌, ◌≡◌}
use Rattle.std.proofs.lemmas.Option.{IfSome_then}
use Rattle.smith_draw_consts.specs.KeptOffers.{AreItemsRead, IsEntry, IsKeptWays}
use Rattle.smith_draw_consts.specs.declared.kept_offers.KeptOffers.{KeptOffers}
use Rattle.smith_draw_consts.specs.declared.read_items.ReadItems.{ReadItems}
use Rattle.smith_draw_definitions.specs.Definitions.{InitialiserScope, global_scope}
use Rattle.smith_draw_definitions.specs.Required.{MayDefineMore, IsInitialised}
use Rattle.smith_draw_definitions.specs.RequiredExports.{scope_beside}
use Rattle.smith_draw_definitions.specs.declared.definitions.Definitions.{Definitions}
use Rattle.smith_draw_definitions.proofs.ExtensionLemmas.{all_kept}
use Rattle.smith_draw_definitions.proofs.KeptGrowthLemmas.{AreValidOver, HasMore, kept_grown}
use Rattle.smith_draw_definitions.proofs.RequiredExportLemmas.{still_imported}
use Rattle.smith_draw_definitions.proofs.StandsAfterLemmas.{spaces_grown}

-- the kept globals and functions stay correct with one more defined global
pub kept_pushed : (config : Config) (standing : InitialiserScope) (globals more : List GlobalType) (one : GlobalType) (kept : KeptOffers)
    → IsOrderly standing.types → All (IsFuncTypeIndex standing.types) standing.funcs
    → All (IsGlobalValid (features_of config) standing.types) globals → more ≡ globals ++ one ∷ []
    → AreKeptOffers (global_scope config standing globals) kept → AreKeptOffers (global_scope config standing more) kept
kept_pushed config standing globals more one kept orderly funcs valid longer =
    let sound : AreValidOver (global_scope config standing globals) = record { orderly = orderly; funcs = funcs; globals = valid } in
    let grown : HasMore (global_scope config standing globals) (global_scope config standing more) = record {
      features = refl;
      types = all_kept standing.types;
      funcs = all_kept standing.funcs;
      globals = record { more = one ∷ []; parts = longer };
      imported_funcs = refl;
    } in
    kept_grown (global_scope config standing globals) (global_scope config standing more) sound grown kept

-- they are correct for the initialisers of tables and of globals alike, since they do not depend on
-- the globals that an initialiser may read
pub kept_alike : (config : Config) (types : List SubType) (spaces : EntitySpaces) (defined : Definitions) (one other : Bool)
    (kept : KeptOffers) → AreKeptOffers (scope_beside config types spaces defined one) kept
    → AreKeptOffers (scope_beside config types spaces defined other) kept
kept_alike config types spaces defined one other kept all =
    let same : (classes : ReadItems) → AreItemsRead (scope_beside config types spaces defined one) classes
    → AreItemsRead (scope_beside config types spaces defined other) classes =
    λ classes read. record { globals = read.globals; funcs = read.funcs } in
    record {
      few = record { globals = all.few.globals; funcs = all.few.funcs };
      many = IfSome_then kept.many all.many
          (λ many are. record {
            items = same many.items are.items;
            entries = All-weaker (IsEntry (scope_beside config types spaces defined one) many.items)
                (IsEntry (scope_beside config types spaces defined other) many.items)
                (λ offer entry. record {
                  kept = record {
                    wanted = entry.kept.wanted;
                    globals_seen = entry.kept.globals_seen;
                    globals = entry.kept.globals;
                    funcs_seen = entry.kept.funcs_seen;
                    funcs = entry.kept.funcs;
                  };
                  globals = entry.globals;
                  funcs = entry.funcs;
                })
                many.kept.items are.entries;
          });
      types = IfSome_then kept.types all.types
          (λ each are.
          All-weaker (IsKeptWays (scope_beside config types spaces defined one))
          (IsKeptWays (scope_beside config types spaces defined other))
          (λ ways entry. record {
            wanted = entry.wanted;
            bare_structs = record { seen = entry.bare_structs.seen; counted = entry.bare_structs.counted };
            structs = record { seen = entry.structs.seen; counted = entry.structs.counted };
            arrays = record { seen = entry.arrays.seen; counted = entry.arrays.counted };
          })
          each.entries.items are);
    }

module _ (config : Config) (space : GroupedTypes) (spaces : EntitySpaces) (defined : Definitions) (allow : Bool)
    (may : MayDefineMore config space spaces defined 1) where
  sound : AreValidOver (scope_beside config space.types spaces defined allow)
  sound = record { orderly = may.valid.orderly; funcs = may.entities.funcs; globals = may.entities.globals }

  -- they stay correct with one more entity, which an export of a shape adds
  pub kept_beside : (later : EntitySpaces) (fuller : Definitions) (added : EntityType) (kept : KeptOffers)
      → IsInitialised config space.types spaces defined fuller added → later ≡ with_entity spaces added
      → AreKeptOffers (scope_beside config space.types spaces defined allow) kept
      → AreKeptOffers (scope_beside config space.types later fuller allow) kept
  kept_beside later fuller added kept initialised longer =
      let grown : HasMore (scope_beside config space.types spaces defined allow) (scope_beside config space.types later fuller allow) =
      record {
        features = refl;
        types = all_kept space.types;
        funcs = rw longer (spaces_grown spaces added).funcs;
        globals = rw longer (spaces_grown spaces added).globals;
        imported_funcs = still_imported config space.types spaces later defined fuller added longer initialised;
      } in
      kept_grown (scope_beside config space.types spaces defined allow) (scope_beside config space.types later fuller allow) sound grown
      kept

  -- they stay correct with the types that the export adds
  pub kept_over : (types : List SubType) (kept : KeptOffers) → Extends space.types types
      → AreKeptOffers (scope_beside config space.types spaces defined allow) kept
      → AreKeptOffers (scope_beside config types spaces defined allow) kept
  kept_over types kept longer =
      let grown : HasMore (scope_beside config space.types spaces defined allow) (scope_beside config types spaces defined allow) = record {
        features = refl;
        types = longer;
        funcs = all_kept spaces.funcs;
        globals = all_kept spaces.globals;
        imported_funcs = refl;
      } in
      kept_grown (scope_beside config space.types spaces defined allow) (scope_beside config types spaces defined allow) sound grown kept
