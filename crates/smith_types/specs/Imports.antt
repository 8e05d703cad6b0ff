-- Imports one by one, and the index spaces that start with them: the sections Structure, Imports,
-- and Validation, Imports, of the WebAssembly Core Specification 3.0. The compact imports proposal
-- defines groups of imports.
use Rattle.std.specs.Prelude.{◌≡◌, ℕ, ◌<◌, List, [], ◌∷◌, ◌++◌, map, length}
use Rattle.smith_types.specs.Common.{Compact1, Compact2, EntityType, Features, flat_map, GlobalType, ImportItem, Imports, MemoryType}
use Rattle.smith_types.specs.Common.{Single, TableType}
use Rattle.smith_types.specs.Flags.{IsImportsEnabled}
use Rattle.smith_syntax.specs.declared.entity_type.EntityType.TheVariants as entity
use Rattle.smith_syntax.specs.declared.imports.Import.{Import}

-- an import with these names and this type (Structure, Imports)
abbrev pub import_of : List ℕ → List ℕ → EntityType → Import
import_of from name entity_type = record { «module» = from; name = name; entity_type = entity_type }

-- the imports of a group, one by one (compact imports proposal)
abbrev pub imports_of : Imports → List Import
imports_of (Single imported) = imported ∷ []
imports_of (Compact1 from items) = map (λ (item : ImportItem). import_of from item.name item.entity_type) items
imports_of (Compact2 from entity_type names) = map (λ name. import_of from name entity_type) names

-- all imports, one by one and in order (Structure, Imports)
abbrev pub flattened : List Imports → List Import
flattened groups = flat_map imports_of groups

-- the type index of an imported tag, or nothing for another entity (Validation, Modules)
abbrev pub tag_of : EntityType → List ℕ
tag_of (entity.Tag index) = index ∷ []
tag_of _ = []

-- the type index of an imported function, or nothing for another entity (Validation, Modules)
abbrev pub func_of : EntityType → List ℕ
func_of (entity.Func index) = index ∷ []
func_of _ = []

-- the type of an imported table, or nothing for another entity (Validation, Modules)
abbrev pub table_of : EntityType → List TableType
table_of (entity.Table table) = table ∷ []
table_of _ = []

-- the type of an imported memory, or nothing for another entity (Validation, Modules)
abbrev pub memory_of : EntityType → List MemoryType
memory_of (entity.Memory memory) = memory ∷ []
memory_of _ = []

-- the type of an imported global, or nothing for another entity (Validation, Modules)
abbrev pub global_of : EntityType → List GlobalType
global_of (entity.Global global) = global ∷ []
global_of _ = []

-- the imported entities of one kind, in order (Validation, Modules)
abbrev pub imported : {A : Type 0} → (EntityType → List A) → List Import → List A
imported of_kind imports = flat_map (λ (one : Import). of_kind one.entity_type) imports

-- the index spaces except the type space (Structure, Indices); a tag and a function are given by
-- their type index
pub record EntitySpaces : Type 0 where
  pub tags : List ℕ
  pub funcs : List ℕ
  pub tables : List TableType
  pub memories : List MemoryType
  pub globals : List GlobalType

-- the index spaces of a module without definitions (Validation, Modules)
abbrev pub imported_spaces : List Import → EntitySpaces
imported_spaces imports = record {
  tags = imported tag_of imports;
  funcs = imported func_of imports;
  tables = imported table_of imports;
  memories = imported memory_of imports;
  globals = imported global_of imports;
}

-- an index space: the imports, then `count` definitions (Structure, Indices)
pub record Defines {A : Type 0} (imports : List A) (count : ℕ) (space : List A) : Type 0 where
  pub defined : List A
  pub count_is : length defined ≡ count
  pub parts : space ≡ imports ++ defined

-- a group of imports is enabled and not empty (own rules)
pub record IsImportsValid (features : Features) (group : Imports) : Type 0 where
  pub filled : 0 < length (imports_of group)
  pub enabled : IsImportsEnabled features group

-- the index spaces with one entity and no other (Structure, Indices)
abbrev pub entity_spaces : EntityType → EntitySpaces
entity_spaces one = record {
  tags = tag_of one;
  funcs = func_of one;
  tables = table_of one;
  memories = memory_of one;
  globals = global_of one;
}
