-- The number of memories after the step that defines them, and the bytes that no memory takes.
use Rattle.smith_draw_definitions.proofs.Common.{[], Config, length, List, MemoryType, memtype_at, nat_lt, refl, SpellsEmpty, SpellsNone}
use Rattle.smith_draw_definitions.proofs.Common.{true, ℕ, ◌++◌, ◌<◌, ◌≡◌, ◌≤◌}
use Rattle.std.proofs.lemmas.Bool.{ltb-false}
use Rattle.smith_draw_definitions.specs.Defined.{IsFilled}
use Rattle.smith_draw_definitions.specs.Definitions.{memories_at}
use Rattle.smith_draw_definitions.proofs.DefinedLemmas.{several_so, defined_filled, defined_none}

pub memories_filled : (config : Config) (imported : List MemoryType) (bytes : List ℕ) → config.min_memories ≤ config.max_memories
    → IsFilled config.min_memories config.max_memories imported (memories_at config imported bytes).0
unfolding memories_at
memories_filled config imported bytes le = defined_filled (λ _. memtype_at config) config.min_memories config.max_memories imported bytes le

-- there are several only if several are allowed
pub memories_several : (config : Config) (imported memories : List MemoryType) → (1 < length imported → nat_lt 1 config.max_memories ≡ true)
    → IsFilled config.min_memories config.max_memories imported memories → 1 < length memories → nat_lt 1 config.max_memories ≡ true
memories_several config imported memories stood filled several =
    several_so (nat_lt 1 config.max_memories) config.max_memories (length imported) (length memories) (ltb-false 1 config.max_memories)
    filled.within stood several

pub no_memory_read : (config : Config) (imported memories : List MemoryType) (piece after : List ℕ) → config.min_memories ≡ 0
    → imported ≡ [] → SpellsEmpty (SpellsNone config.max_memories) memories piece → memories_at config imported (piece ++ after)
    ≡ (memories, after)
unfolding memories_at
no_memory_read config imported memories piece after none empty h =
    let drawn = defined_none (λ _. memtype_at config) config.min_memories config.max_memories (length imported) piece after none
    (rw empty refl) h.spelled in
    rw (drawn, empty, h.none) refl
