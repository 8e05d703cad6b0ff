-- The bytes that spell a module's types and functions, and the bytes that spell the rest of a
-- module with only globals and passive data. Rules of this project, for a sanitised configuration.
-- Lists may have several spellings.
use Rattle.std.specs.Prelude.{◌≡◌, ℕ, ◌≤◌, ◌==◌, false, if◌then◌else◌, ℤ, List, [], length}
use Rattle.smith_bytes.specs.Spelling.{SpellsAnyByte, SpellsNone, Where, Joined, Listed}
use Rattle.smith_types.specs.Syntax.composite_type.SubType.{SubType}
use Rattle.smith_config.specs.declared.config.Config.{Config}
use Rattle.smith_config.specs.Shapes.{space_of}
use Rattle.smith_draw_types.specs.Spelling.{SpellsGroups}
use Rattle.smith_draw_types.specs.SpelledParts.{SpellsNoTag, SpellsFuncs, SpellsGlobal, SpellsBytes, SpellsNoStart}

-- the spelling of a member: its types, no import, the flag of the import section, no tag, its
-- functions
unfoldable pub SpellsMember : Config → List (List SubType) → List ℕ → List ℕ → Type 0
SpellsMember config groups funcs =
    let types = (space_of groups).types in
    Joined (SpellsGroups config [] false groups)
    (Joined (SpellsNone config.max_imports) (Joined SpellsAnyByte (Joined (SpellsNoTag config types) (SpellsFuncs config types funcs))))

-- the spelling of no element segment, then passive data segments; without bulk memory, of no
-- segment
abbrev pub SpellsSegments : Config → List (List ℕ) → List ℕ → Type 0
SpellsSegments config passive =
    let most = λ (count : ℕ). if config.bulk_memory_enabled then count else 0 in
    Joined (SpellsNone (most config.max_element_segments)) (Listed SpellsBytes (most config.max_data_segments) passive)

-- numbers and byte lists may follow a member: there are at most as many numbers as globals and as
-- many lists as data segments, and no list without bulk memory
pub record IsRest (config : Config) (numbers : List ℤ) (passive : List (List ℕ)) : Type 0 where
  pub few_globals : length numbers ≤ config.max_globals
  pub few_segments : length passive ≤ config.max_data_segments
  pub bulk : config.bulk_memory_enabled ≡ false → passive ≡ []

-- the spelling of the rest of a module: no table, no memory, a global for each number, no export,
-- the flag of the type section, no start function, segments
unfoldable pub SpellsRest : Config → List (List SubType) → List ℕ → List ℤ → List (List ℕ) → List ℕ → Type 0
SpellsRest config groups funcs numbers passive =
    let types = (space_of groups).types in
    Joined (SpellsNone config.max_tables)
    (Joined (SpellsNone config.max_memories)
    (Joined (Listed (SpellsGlobal config) config.max_globals numbers)
    (Joined (SpellsNone config.max_exports)
    (Joined (Where (length types == 0) SpellsAnyByte)
    (Joined (SpellsNoStart config types funcs) (SpellsSegments config passive))))))
