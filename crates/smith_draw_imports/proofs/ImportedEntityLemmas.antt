-- The entities that may be imported.
use Rattle.smith_draw_imports.proofs.Common.{[], All-cons, All-nil, arith, Bool, Config, EntitySpaces, EntityType, ExportKind, false}
use Rattle.smith_draw_imports.proofs.Common.{length, List, refl, subst, SubType, sym, true, ℕ, ◌<◌, ◌≡◌}
use Rattle.std.proofs.Common.{◌&&◌}
use Rattle.std.proofs.lemmas.Option.{slice_get_within}
use Rattle.std.specs.Prelude.{IsTrue, All}
use Rattle.std.specs.List.{AllByRecursion as ByRecursion}
use Rattle.std.proofs.lemmas.List.Elements.{All-from_recursion}
use Rattle.smith_types.specs.Entities.{IsTagValid, IsFuncTypeIndex, IsTableValid, IsMemoryValid, IsGlobalValid}
use Rattle.smith_types.specs.Imports.{global_of, table_of}
use Rattle.smith_types.specs.GroupedTypes.{GroupedTypes}
use Rattle.smith_types.specs.Syntax.entity_type.EntityType.TheVariants as entity
use Rattle.smith_types.specs.Syntax.entity_type.ExportKind.TheVariants as kind
use Rattle.smith_types.specs.Syntax.entity_type.GlobalType.{GlobalType}
use Rattle.smith_types.specs.Syntax.entity_type.MemoryType.{MemoryType}
use Rattle.smith_types.specs.Syntax.entity_type.TableType.{TableType}
use Rattle.smith_config.specs.Features.{features_of}
use Rattle.smith_config.specs.EntityBounds.{IsTableWithin, IsMemoryWithin}
use Rattle.smith_draw_types.specs.Choices.{enabled, chosen_at}
use Rattle.smith_draw_types.proofs.EnabledLemmas.{enabled_all}
use Rattle.smith_draw_types.proofs.SupertypeLemmas.{chosen_of}
use Rattle.smith_draw_imports.specs.Imported.{MayImport, IsEntityFit, IsFitBeside, MayImportKind}
use Rattle.smith_types.specs.Floats.{HasNoFloatValue}
use Rattle.smith_config.specs.Granted.{HasGroundedElements, HasGroundedValue}
use Rattle.smith_draw_types.proofs.FuncSizeLemmas.{small_at}
use Rattle.smith_draw_imports.specs.ImportedEntities.{import_scope, kind_rows}

kind_offered : (config : Config) (types : List SubType) (spaces : EntitySpaces) (bytes : List ℕ) (of_kind : ExportKind) (after : List ℕ)
    → 0 < length (enabled (kind_rows config types spaces)) → chosen_at kind.Memory (enabled (kind_rows config types spaces)) bytes
    ≡ (of_kind, after)
    → MayImportKind config types spaces of_kind
kind_offered config types spaces bytes of_kind after some chosen =
    let P = MayImportKind config types spaces in
    let rows : ByRecursion (λ (r : ExportKind × Bool). IsTrue r.1 → P r.0) (kind_rows config types spaces) =
    ((λ on. on), ((λ on. on), ((λ on. on), ((λ on. on), ((λ on. on), tt))))) in
    let each = enabled_all P (kind_rows config types spaces) (All-from_recursion (λ (r : ExportKind × Bool). IsTrue r.1 → P r.0)
    (kind_rows config types spaces) rows) in
    subst (λ (drawn : ExportKind × List ℕ). P drawn.0) chosen (chosen_of P kind.Memory (enabled (kind_rows config types spaces)) bytes some
    each)

-- the kind chosen from a table with the rows of the kinds may be imported
pub row_offered : (config : Config) (types : List SubType) (spaces : EntitySpaces) (table : List (ExportKind × Bool)) (bytes after : List ℕ)
    (of_kind : ExportKind) (count : ℕ) → table ≡ kind_rows config types spaces → count ≡ length (enabled table) → (count ≡ 0 → ⊥)
    → chosen_at kind.Memory (enabled table) bytes ≡ (of_kind, after) → MayImportKind config types spaces of_kind
row_offered config types spaces table bytes after of_kind count is size some chosen =
    let filled : 0 < length (enabled table) = omega arith in
    kind_offered config types spaces bytes of_kind after (subst (λ (t : List (ExportKind × Bool)). 0 < length (enabled t)) is filled)
    (subst (λ (t : List (ExportKind × Bool)). chosen_at kind.Memory (enabled t) bytes ≡ (of_kind, after)) is chosen)

pub first_holds : (a b : Bool) → (a && b) ≡ true → a ≡ true
first_holds true b both = refl
first_holds false b both = both

pub second_holds : (a b : Bool) → (a && b) ≡ true → b ≡ true
second_holds true b both = both
second_holds false b both = absurd cc

-- an entity other than a table and a global has no references to ground
pub fit_without_references : (config : Config) (types : List SubType) (spaces : EntitySpaces) (added : EntityType)
    → IsEntityFit config types added → table_of added ≡ [] → global_of added ≡ [] → IsFitBeside config types spaces added
fit_without_references config types spaces added fit no_table no_global =
    let Elements = HasGroundedElements config (import_scope config types spaces) in
    let Values = HasGroundedValue config (import_scope config types spaces) in
    record {
      entity = fit;
      grounded_tables = subst (All Elements) (sym no_table) (All-nil Elements);
      grounded_globals = subst (All Values)
          (sym no_global) (All-nil Values);
    }

module _ (config : Config) (space : GroupedTypes) (may : MayImport config space) where
  pub tag_fit : (index : ℕ) → IsTrue config.exceptions_enabled → IsTagValid space.types index
      → IsEntityFit config space.types (entity.Tag index)
  tag_fit index on valid = record {
    valid = record {
      tags = All-cons (IsTagValid space.types) index [] valid (All-nil (IsTagValid space.types));
      funcs = All-nil (IsFuncTypeIndex space.types);
      tables = All-nil (IsTableValid (features_of config) space.types);
      memories = All-nil (IsMemoryValid (features_of config));
      globals = All-nil (IsGlobalValid (features_of config) space.types);
    };
    tag = λ _. on;
    tables = All-nil (IsTableWithin config);
    memories = All-nil (IsMemoryWithin config);
    floats = λ off. All-nil HasNoFloatValue;
    small = omega arith;
    typed = tt;
  }

  pub func_fit : (index : ℕ) → IsFuncTypeIndex space.types index → IsEntityFit config space.types (entity.Func index)
  func_fit index (function, (t, at, is)) = record {
    valid = record {
      tags = All-nil (IsTagValid space.types);
      funcs = All-cons (IsFuncTypeIndex space.types) index [] (function, (t, at, is)) (All-nil (IsFuncTypeIndex space.types));
      tables = All-nil (IsTableValid (features_of config) space.types);
      memories = All-nil (IsMemoryValid (features_of config));
      globals = All-nil (IsGlobalValid (features_of config) space.types);
    };
    tag = λ some. absurd (omega arith);
    tables = All-nil (IsTableWithin config);
    memories = All-nil (IsMemoryWithin config);
    floats = λ off. All-nil HasNoFloatValue;
    small = small_at space.types may.small index t at;
    typed = slice_get_within space.types index t at;
  }

  pub global_fit : (global : GlobalType) → IsGlobalValid (features_of config) space.types global
      → (config.allow_floats ≡ false → HasNoFloatValue global) → IsEntityFit config space.types (entity.Global global)
  global_fit global valid floats = record {
    valid = record {
      tags = All-nil (IsTagValid space.types);
      funcs = All-nil (IsFuncTypeIndex space.types);
      tables = All-nil (IsTableValid (features_of config) space.types);
      memories = All-nil (IsMemoryValid (features_of config));
      globals = All-cons (IsGlobalValid (features_of config) space.types) global [] valid
          (All-nil (IsGlobalValid (features_of config) space.types));
    };
    tag = λ some. absurd (omega arith);
    tables = All-nil (IsTableWithin config);
    memories = All-nil (IsMemoryWithin config);
    floats = λ off. All-cons HasNoFloatValue global [] (floats off) (All-nil HasNoFloatValue);
    small = omega arith;
    typed = tt;
  }

  pub memory_fit : (memory : MemoryType) → IsMemoryValid (features_of config) memory → IsMemoryWithin config memory
      → IsEntityFit config space.types (entity.Memory memory)
  memory_fit memory valid within = record {
    valid = record {
      tags = All-nil (IsTagValid space.types);
      funcs = All-nil (IsFuncTypeIndex space.types);
      tables = All-nil (IsTableValid (features_of config) space.types);
      memories = All-cons (IsMemoryValid (features_of config)) memory [] valid (All-nil (IsMemoryValid (features_of config)));
      globals = All-nil (IsGlobalValid (features_of config) space.types);
    };
    tag = λ some. absurd (omega arith);
    tables = All-nil (IsTableWithin config);
    memories = All-cons (IsMemoryWithin config) memory [] within (All-nil (IsMemoryWithin config));
    floats = λ off. All-nil HasNoFloatValue;
    small = omega arith;
    typed = tt;
  }

  pub table_fit : (table : TableType) → IsTableValid (features_of config) space.types table → IsTableWithin config table
      → IsEntityFit config space.types (entity.Table table)
  table_fit table valid within = record {
    valid = record {
      tags = All-nil (IsTagValid space.types);
      funcs = All-nil (IsFuncTypeIndex space.types);
      tables = All-cons (IsTableValid (features_of config) space.types) table [] valid
          (All-nil (IsTableValid (features_of config) space.types));
      memories = All-nil (IsMemoryValid (features_of config));
      globals = All-nil (IsGlobalValid (features_of config) space.types);
    };
    tag = λ some. absurd (omega arith);
    tables = All-cons (IsTableWithin config) table [] within (All-nil (IsTableWithin config));
    memories = All-nil (IsMemoryWithin config);
    floats = λ off. All-nil HasNoFloatValue;
    small = omega arith;
    typed = tt;
  }
