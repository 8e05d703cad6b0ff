-- The parts after entities are defined after the existing ones are valid, and no more than shapes
-- and configuration allow.
use Rattle.wasm_smith.proofs.Common.{arith, Config, Count, count_in, Definitions, EntitySpaces, flattened, imported_spaces, inr, max}
use Rattle.wasm_smith.proofs.Common.{maximum_of, spaces_in, ◌≤◌}
use Rattle.smith_bytes.specs.declared.error.Count.TheVariants as counts
use Rattle.smith_types.specs.declared.entity_spaces.EntitySpaces.{EntitySpaces as Held}
use Rattle.smith_config.specs.EntityBounds.{IsTableWithin, IsMemoryWithin}
use Rattle.wasm_smith.specs.FirstParts.{IsMemoryKept, IsOfEntities, IsTableKept, StandsSoFar}
use Rattle.smith_draw_definitions.specs.Defined.{AreDefinedMore, AreFilled}
use Rattle.wasm_smith.specs.declared.build.parts_so_far.PartsSoFar.{PartsSoFar}
use Rattle.smith_draw_definitions.proofs.DefinedLemmas.{added_weaker, all_after}

-- each kind has at most its maximum number of items, or as many as before
no_more_than : (config : Config) (before spaces : EntitySpaces) → AreFilled config before spaces → (count : Count) → IsOfEntities count
    → count_in spaces count ≤ max (maximum_of config count) (count_in before count)
no_more_than config before spaces filled counts.Tags is = filled.tags.within
no_more_than config before spaces filled counts.Funcs is = filled.funcs.within
no_more_than config before spaces filled counts.Tables is = filled.tables.within
no_more_than config before spaces filled counts.Memories is = filled.memories.within
no_more_than config before spaces filled counts.Globals is = filled.globals.within
no_more_than config before spaces filled _ is = absurd is

-- with entities defined at the end, the parts stay valid and within the bounds
pub stands_defined : (config : Config) (drawn : PartsSoFar) (spaces : Held) (defined : Definitions) → StandsSoFar config drawn
    → AreDefinedMore config drawn.types (spaces_in drawn.imported.spaces) drawn.definitions (spaces_in spaces) defined
    → StandsSoFar config (record drawn { imported = record drawn.imported { spaces = spaces }; definitions = defined })
stands_defined config drawn spaces defined now made = record {
  groups = now.groups;
  count = now.count;
  stands = made.stands (imported_spaces (flattened drawn.imported.groups)) now.stands;
  most = λ count is. let before = now.most count is in let here = no_more_than config (spaces_in drawn.imported.spaces) (spaces_in spaces)
      made.filled count is in omega (arith, before, here);
  most_types = now.most_types;
  most_imports = now.most_imports;
  tables = all_after (IsTableKept config) now.tables (added_weaker (IsTableWithin config) (IsTableKept config) (λ table h. inr h)
      made.filled.each_table);
  memories = all_after (IsMemoryKept config) now.memories (added_weaker (IsMemoryWithin config) (IsMemoryKept config) (λ memory h. inr h)
      made.filled.each_memory);
  type_size = now.type_size;
  within = now.within;
}
