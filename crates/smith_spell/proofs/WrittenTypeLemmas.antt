-- Value types, written by their parts.
use Rattle.smith_spell.proofs.Common.{[], Abstract, abstract_heap_types, AbstractHeapType, arith, Bool, Concrete, Config, enabled, false}
use Rattle.smith_spell.proofs.Common.{length, List, lt-ltb, nat_lt, refl, slice_get, slice_get_within, Some, SpellsNumber, SpellsPlace}
use Rattle.smith_spell.proofs.Common.{SpellsValType, true, ℕ, ◌-◌, ◌<◌, ◌∷◌, ◌≡◌, ◌≤◌}
use Rattle.std.specs.Prelude.{IsTrue}
use Rattle.smith_types.specs.Syntax.value_type.RefType.{RefType}
use Rattle.smith_types.specs.Syntax.value_type.ValType.{ValType}
use Rattle.smith_types.specs.Syntax.value_type.ValType.TheVariants as vals
use Rattle.smith_draw_types.specs.ValueTypes.{value_classes}
use Rattle.smith_draw_types.specs.Spelling.{SpellsConcrete, SpellsHeapType, SpellsNullable, SpellsRefType, SpellsUnshared}
use Rattle.smith_draw_types.specs.Spelling.{class_of, SpellsAfterClass}
use Rattle.smith_spell.specs.Written.{Writes}
use Rattle.smith_spell.proofs.WrittenLemmas.{nothing_written, joined_written, written_as}

-- the last of six rows of a table, if it is enabled
pub last_stands : {A : Type 0} (a b c d e f : A) (floats vectors references : Bool) → IsTrue references → let items =
    enabled ((a, true) ∷ (b, true) ∷ (c, floats) ∷ (d, floats) ∷ (e, vectors) ∷ (f, references) ∷ []) in
    slice_get items (length items - 1) ≡ Some f
last_stands a b c d e f true true true on = refl
last_stands a b c d e f true false true on = refl
last_stands a b c d e f false true true on = refl
last_stands a b c d e f false false true on = refl
last_stands a b c d e f floats vectors false on = cc

-- the place of an item is at most the last
pub place_within : {A : Type 0} (items : List A) (place : ℕ) (item : A) → slice_get items place ≡ Some item → place ≤ length items - 1
place_within items place item stands = omega (arith, slice_get_within items place item stands)

-- a number that is the place of an item
pub place_written : {A : Type 0} {items : List A} {item : A} {old new : List ℕ} (place : ℕ) → slice_get items place ≡ Some item
    → Writes (SpellsNumber place 0 (length items - 1)) old new → Writes (SpellsPlace items item) old new
place_written place stands = written_as (λ piece number. record { place = place; stands = stands; number = number })

-- an abstract heap type: that it is not concrete, that it is unshared, and its place
pub abstract_written : (config : Config) (limit : ℕ) (shared : Bool) (ty : AbstractHeapType) {old between later new : List ℕ}
    → shared ≡ false → Writes (SpellsConcrete config limit false) old between → Writes (SpellsUnshared config) between later
    → Writes (SpellsPlace (enabled (abstract_heap_types config)) ty) later new → Writes (SpellsHeapType config limit (Abstract shared ty))
    old new
abstract_written config limit shared ty unshared concrete sharing place = written_as (λ piece form. (unshared, form))
    (joined_written concrete (joined_written sharing place))

-- a concrete heap type: that it is concrete, and its index
pub index_written : (config : Config) (limit index : ℕ) {old between new : List ℕ} → IsTrue config.gc_enabled → index < limit
    → Writes (SpellsConcrete config limit true) old between → Writes (SpellsNumber index 0 (limit - 1)) between new
    → Writes (SpellsHeapType config limit (Concrete index)) old new
index_written config limit index on inside concrete number =
    let low : nat_lt index limit ≡ true = lt-ltb index limit inside in
    written_as (λ piece form. (rw (on, low) refl, form)) (joined_written concrete number)

-- a reference type: its heap type, then whether it is non-nullable
pub ref_type_written : (config : Config) (limit : ℕ) (reference : RefType) {old between new : List ℕ}
    → IsTrue config.reference_types_enabled → Writes (SpellsHeapType config limit reference.heap_type) old between
    → Writes (SpellsNullable config.non_nullable_enabled reference.nullable) between new → Writes (SpellsRefType config limit reference) old
    new
ref_type_written config limit reference on heap_type nullable = written_as (λ piece form. record { enabled = on; form = form })
    (joined_written heap_type nullable)

-- a value type that is a reference: its class, then the reference type
pub reference_written : (config : Config) (limit : ℕ) (reference : RefType) {old between new : List ℕ}
    → Writes (SpellsPlace (enabled (value_classes config)) (class_of (vals.Ref reference))) old between
    → Writes (SpellsRefType config limit reference) between new
    → Writes (SpellsValType config limit (vals.Ref reference)) old new
unfolding SpellsValType
reference_written config limit reference class following = joined_written class following

nothing_after : (config : Config) (limit : ℕ) (value : ValType) → ((reference : RefType) → value ≡ vals.Ref reference → ⊥)
    → SpellsAfterClass config limit value []
nothing_after config limit vals.I32 other = refl
nothing_after config limit vals.I64 other = refl
nothing_after config limit vals.F32 other = refl
nothing_after config limit vals.F64 other = refl
nothing_after config limit vals.V128 other = refl
nothing_after config limit (vals.Ref reference) other = absurd (other reference refl)

-- any other value type: its class alone
pub number_written : (config : Config) (limit : ℕ) (value : ValType) {old new : List ℕ}
    → ((reference : RefType) → value ≡ vals.Ref reference → ⊥) → Writes (SpellsPlace (enabled (value_classes config)) (class_of value)) old
    new
    → Writes (SpellsValType config limit value) old new
unfolding SpellsValType
number_written config limit value other class = joined_written class (nothing_written (nothing_after config limit value other))
