-- Index spaces that grow by one entity at a time.
use Rattle.std.specs.Prelude.{List, [], ◌∷◌, ◌++◌, map}
use Rattle.smith_types.specs.Imports.{EntitySpaces as EntityLists}
use Rattle.smith_types.specs.declared.entity_spaces.EntitySpaces.{EntitySpaces}
use Rattle.smith_types.specs.Common.{Compact1, Compact2, EntityType, ImportItem, Imports, Single}
use Rattle.smith_syntax.specs.declared.entity_type.EntityType.TheVariants as entity

-- the lists of the index spaces
abbrev pub spaces_in : EntitySpaces → EntityLists
spaces_in spaces = record {
  tags = spaces.tags;
  funcs = spaces.funcs;
  tables = spaces.tables;
  memories = spaces.memories;
  globals = spaces.globals;
}

-- the index spaces with one more entity
abbrev pub with_entity : EntityLists → EntityType → EntityLists
with_entity spaces (entity.Tag index) = record spaces { tags = spaces.tags ++ index ∷ [] }
with_entity spaces (entity.Func index) = record spaces { funcs = spaces.funcs ++ index ∷ [] }
with_entity spaces (entity.Table table) = record spaces { tables = spaces.tables ++ table ∷ [] }
with_entity spaces (entity.Memory memory) = record spaces { memories = spaces.memories ++ memory ∷ [] }
with_entity spaces (entity.Global global) = record spaces { globals = spaces.globals ++ global ∷ [] }

-- the index spaces with several more entities
abbrev pub with_entities : EntityLists → List EntityType → EntityLists
with_entities spaces [] = spaces
with_entities spaces (one ∷ more) = with_entities (with_entity spaces one) more

-- the entities of a group of imports
abbrev pub entities_of : Imports → List EntityType
entities_of (Single imported) = imported.entity_type ∷ []
entities_of (Compact1 from items) = map (λ (item : ImportItem). item.entity_type) items
entities_of (Compact2 from entity_type names) = map (λ name. entity_type) names
