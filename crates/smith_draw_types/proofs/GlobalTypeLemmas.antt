-- Drawn global types are valid, contain no floats if floats are off, and are read from the bytes
-- that spell them.
use Rattle.smith_draw_types.proofs.Common.{[], ap, AreTypesValid, bool_read, Config, Context, false, features_of, GroupedTypes, IsNoFloat}
use Rattle.smith_draw_types.proofs.Common.{IsSanitized, IsShareable, IsTrue, IsValTypeValid, joined_parts, length, List, Ref, refl}
use Rattle.smith_draw_types.proofs.Common.{SpellsSuch, sym, true, ValType, ℕ, ◌++◌, ◌∙◌, ◌≡◌}
use Rattle.std.proofs.Common.{append-nil}
use Rattle.smith_bytes.specs.Takes.{Takes}
use Rattle.smith_bytes.proofs.SpelledLemmas.{takes_by}
use Rattle.smith_types.specs.Entities.{IsGlobalValid}
use Rattle.smith_types.specs.Syntax.value_type.ValType.TheVariants.{F32, F64, I32, I64, V128}
use Rattle.smith_types.specs.Syntax.entity_type.GlobalType.{GlobalType}
use Rattle.smith_draw_types.specs.Grounding.{over}
use Rattle.smith_draw_types.specs.GlobalTypes.{global_sharedness_at, global_type_at}
use Rattle.smith_draw_types.specs.SpelledGlobals.{mutable_i32, SpellsMutableI32}
use Rattle.smith_draw_types.specs.ValueTypes.{val_type_at}
use Rattle.smith_draw_types.specs.Spelling.{SpellsValType}
use Rattle.smith_draw_types.proofs.FloatLemmas.{val_type_no_float}
use Rattle.smith_draw_types.proofs.SharedHeapTypeLemmas.{sharing}
use Rattle.smith_draw_types.proofs.SpelledValueLemmas.{unshared_read, val_type_read}
use Rattle.smith_draw_types.proofs.ValueTypeLemmas.{sharedness_may, val_type_drawn}

global_sharing : (config : Config) (space : GroupedTypes) (value : ValType) (bytes : List ℕ) → AreTypesValid (features_of config) space
    → IsValTypeValid (features_of config) (length space.types) value → IsTrue (global_sharedness_at config space.types value bytes).0
    → IsTrue config.shared_everything_threads_enabled × IsShareable space.types value
global_sharing config space (Ref reference) bytes valid h on = sharing config space (length space.types) reference.heap_type valid
    h.1.heap_type on
global_sharing config space I32 bytes valid h on = (sharedness_may config false bytes (λ no. cc) on, tt)
global_sharing config space I64 bytes valid h on = (sharedness_may config false bytes (λ no. cc) on, tt)
global_sharing config space F32 bytes valid h on = (sharedness_may config false bytes (λ no. cc) on, tt)
global_sharing config space F64 bytes valid h on = (sharedness_may config false bytes (λ no. cc) on, tt)
global_sharing config space V128 bytes valid h on = (sharedness_may config false bytes (λ no. cc) on, tt)

-- over valid types
pub global_type_valid : (config : Config) (context : Context) (space : GroupedTypes) (bytes : List ℕ) → IsSanitized config
    → AreTypesValid (features_of config) space → IsGlobalValid (features_of config) space.types
    (global_type_at config (over context space.types) bytes).0
unfolding global_type_at
global_type_valid config context space bytes sanitized valid =
    let value = val_type_at config (over context space.types) false (length space.types) bytes in
    let drawn = val_type_drawn config (over context space.types) false (length space.types) bytes sanitized (λ no. cc) in
    record { value = drawn.valid; shared = global_sharing config space value.0 value.1 valid drawn.valid }

pub global_type_no_float : (config : Config) (context : Context) (bytes : List ℕ) → config.allow_floats ≡ false
    → IsNoFloat (global_type_at config context bytes).0.val_type
unfolding global_type_at
global_type_no_float config context bytes off = val_type_no_float config off context false (length context.types) bytes

mutable_i32_read : (config : Config) (context : Context) (piece after : List ℕ) → SpellsMutableI32 config piece
    → global_type_at config context (piece ++ after) ≡ (mutable_i32, after)
unfolding global_type_at SpellsValType
mutable_i32_read config context piece after h =
    let rest = h.is_second in
    let following = rest.first ++ (rest.second ++ after) in
    let class : SpellsValType config (length context.types) I32 h.first = record {
      first = h.first;
      second = [];
      is_first = record { place = 0; stands = refl; number = h.is_first };
      is_second = refl;
      whole = sym (append-nil h.first);
    } in
    rw (
      joined_parts h after,
      joined_parts rest after,
      val_type_read config context (length context.types) I32 h.first following tt class,
      unshared_read config rest.first (rest.second ++ after) rest.is_first,
      bool_read true rest.second after rest.is_second,
    ) refl

pub global_type_taken : (config : Config) (context : Context) (old : List ℕ) (drawn : GlobalType) (new : List ℕ)
    → global_type_at config context old ≡ (drawn, new)
    → Takes (SpellsSuch (λ (global : GlobalType). global ≡ mutable_i32) (λ _. SpellsMutableI32 config)) old drawn new
global_type_taken config context old drawn new made =
    takes_by (global_type_at config context) (λ global piece after h. mutable_i32_read config context piece after h.spelled
    ∙ sym (ap (λ (g : GlobalType). (g, after)) h.holds)) made
