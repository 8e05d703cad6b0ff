-- The parts of a module by which its items are judged.
use Rattle.std.specs.Prelude.{◌≡◌, ℕ, ◌+◌, ◌<◌, List, Some, length, slice_get}
use Rattle.smith_types.specs.Syntax.FeatureBits.{features_in}
use Rattle.smith_types.specs.Syntax.entity_type.ExportKind.{ExportKind}
use Rattle.smith_types.specs.EntitySpaces.{spaces_in}
use Rattle.smith_check_module.specs.Common.{GlobalType, imported_spaces, TableType}
use Rattle.smith_types.specs.ValidTypes.{AreTypesValid}
use Rattle.smith_decode.specs.declared.definitions.GlobalDefinition.{GlobalDefinition}
use Rattle.smith_decode.specs.declared.definitions.TableDefinition.{TableDefinition}
use Rattle.smith_decode.specs.Modules.{syntax_of}
use Rattle.smith_check_module.specs.ConstScopes.{context_of}
use Rattle.smith_check_module.specs.SectionFaults.{IsItemRight}
use Rattle.smith_check_module.specs.ValidModules.{AreEntitiesValid}
use Rattle.smith_check_module.specs.declared.faults.Part.{Part}
use Rattle.smith_check_module.specs.declared.faults.Part.TheVariants as part
use Rattle.smith_check_module.specs.declared.judge.Judge.{Judge}

-- no export before `index` has this name (Validation, Modules)
abbrev pub IsNameUnused : List (List ℕ × ExportKind × ℕ) → ℕ → List ℕ → Type 0
IsNameUnused exports index name = (earlier : ℕ) (other : List ℕ × ExportKind × ℕ) → earlier < index
    → slice_get exports earlier ≡ Some other → other.0 ≡ name → ⊥

-- `index` is the first export with the name of an earlier export, or the number of exports if names
-- are distinct
pub record IsFirstRepeated (exports : List (List ℕ × ExportKind × ℕ)) (index : ℕ) : Type 0 where
  pub before : (k : ℕ) (one : List ℕ × ExportKind × ℕ) → k < index → slice_get exports k ≡ Some one → IsNameUnused exports k one.0
  pub repeated : (one : List ℕ × ExportKind × ℕ) → slice_get exports index ≡ Some one → IsNameUnused exports index one.0 → ⊥

-- the item at this index of a part is valid
abbrev pub IsRight : Judge → Part → ℕ → Type 0
IsRight judge kind index =
    IsItemRight (context_of judge.scope) judge.scope.indices.now (spaces_in judge.spaces.now) (syntax_of judge.module.now) kind index

-- all items of a part are valid
abbrev pub AreRight : Judge → Part → Type 0
AreRight judge kind = (index : ℕ) → IsRight judge kind index

-- the number of items of a part
abbrev pub count_in : Judge → Part → ℕ
count_in judge part.Tags = length judge.spaces.now.tags
count_in judge part.Functions = length judge.spaces.now.funcs
count_in judge part.Tables = length judge.spaces.now.tables
count_in judge part.Memories = length judge.spaces.now.memories
count_in judge part.Globals = length judge.spaces.now.globals
count_in judge part.TableInitials = length judge.module.now.tables
count_in judge part.GlobalInitials = length judge.module.now.globals
count_in judge part.Exports = length judge.module.now.exports
count_in judge part.Start = 1
count_in judge part.Elements = length judge.module.now.elements
count_in judge part.Datas = length judge.module.now.datas

-- the items of a part refer to entities of index spaces
abbrev pub RefersToEntities : Part → Type 0
RefersToEntities part.Tags = ⊥
RefersToEntities part.Functions = ⊥
RefersToEntities part.Tables = ⊥
RefersToEntities part.Memories = ⊥
RefersToEntities part.Globals = ⊥
RefersToEntities _ = Unit {0}

-- all entities are valid (Validation, External Types)
abbrev pub AreJudgedValid : Judge → Type 0
AreJudgedValid judge = AreEntitiesValid (features_in judge.scope.features) judge.scope.types.now.types (spaces_in judge.spaces.now)

-- the parts of the judge belong to one module, and its types are valid
pub record IsJudge (judge : Judge) : Type 0 where
  pub types : AreTypesValid (features_in judge.scope.features) judge.scope.types.now
  pub funcs : judge.scope.funcs.now ≡ judge.spaces.now.funcs
  pub globals : judge.scope.globals.now ≡ judge.spaces.now.globals
  pub imported_globals : judge.scope.imported_globals ≡ length (imported_spaces (syntax_of judge.module.now).imports).globals
  pub counted : length judge.scope.globals.now ≡ judge.scope.imported_globals + length judge.module.now.globals
  pub repeated : IsFirstRepeated (syntax_of judge.module.now).exports judge.repeated

-- the type of a defined table, and of a defined global
abbrev pub table_type : TableDefinition → TableType
table_type table = table.ty

abbrev pub global_type : GlobalDefinition → GlobalType
global_type global = global.ty
