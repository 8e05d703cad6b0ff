-- Drawn value types are valid, over every list of types.
use Rattle.smith_draw_types.proofs.Common.{Abstract, AbstractHeapType, All-from_recursion, All-weaker, arith, Bool, bool_at, Concrete, cond}
use Rattle.smith_draw_types.proofs.Common.{Config, Context, false, features_of, HeapType, IsHeapTypeShared, IsHeapTypeValid, IsInRange}
use Rattle.smith_draw_types.proofs.Common.{IsSanitized, IsShareable, IsTrue, IsValInRange, IsValTypeValid, List, ltb-true, nat_lt, None}
use Rattle.smith_draw_types.proofs.Common.{not, Option, range_at, range_within, ratio_at, refl, RefType, slice_get, slice_get_within, Some}
use Rattle.smith_draw_types.proofs.Common.{subst, SubType, true, ValType, ℕ, ◌&&◌, ◌-◌, ◌<◌, ◌||◌, ◌≡◌}
use Rattle.std.specs.List.{All, AllByRecursion as ByRecursion}
use Rattle.smith_types.specs.Flags.{IsAbstractEnabled}
use Rattle.smith_types.specs.ValidTypes.{IsRefTypeValid}
use Rattle.smith_types.specs.Syntax.value_type.AbstractHeapType.TheVariants.{Func}
use Rattle.smith_draw_types.specs.declared.value_type.ValueClass.{ValueClass}
use Rattle.smith_draw_types.specs.declared.value_type.ValueClass.TheVariants.{I32, I64, F32, F64, V128, Reference}
use Rattle.smith_draw_types.specs.Choices.{enabled, chosen_at}
use Rattle.smith_draw_types.specs.Grounding.{is_grounded}
use Rattle.smith_draw_types.specs.ValueTypes.{value_classes, abstract_heap_types, sharedness_at, abstract_heap_type_at, index_wanted_at}
use Rattle.smith_draw_types.specs.ValueTypes.{kept_index, type_index_at, heap_type_of_at, heap_type_at, granted_at, ref_type_at}
use Rattle.smith_draw_types.specs.ValueTypes.{value_of_class_at, val_type_at}
use Rattle.smith_draw_types.proofs.EnabledLemmas.{enabled_all, chosen_is}

-- a property of every drawn value holds for this one
pub drawn_is : {A : Type 0} (P : A → Type 0) {x : A} {after : List ℕ} (drawn : A × List ℕ) → P drawn.0 → drawn ≡ (x, after) → P x
drawn_is {A = A} P drawn h e = subst (λ (r : A × List ℕ). P r.0) e h

-- a type that must be shared is permitted to be
abbrev pub MayShare : Config → Bool → Type 0
MayShare config must_share = IsTrue must_share → IsTrue config.shared_everything_threads_enabled

may_share : (must can : Bool) (drawn : Bool × List ℕ) (bytes : List ℕ) → (IsTrue must → IsTrue can)
    → IsTrue (cond must (true, bytes) (cond can drawn (false, bytes))).0 → IsTrue can
may_share true can drawn bytes may h = may refl
may_share false true drawn bytes may h = refl
may_share false false drawn bytes may h = h

-- a type drawn as shared is permitted to be
pub sharedness_may : (config : Config) (must_share : Bool) (bytes : List ℕ) → MayShare config must_share
    → MayShare config (sharedness_at config must_share bytes).0
unfolding sharedness_at
sharedness_may config must_share bytes may = may_share must_share config.shared_everything_threads_enabled (ratio_at 1 4 bytes) bytes may

must_be_shared : (must : Bool) (other : Bool × List ℕ) (bytes : List ℕ) → IsTrue must → IsTrue (cond must (true, bytes) other).0
must_be_shared true other bytes h = refl
must_be_shared false other bytes h = cc

-- a type that must be shared is shared
sharedness_must : (config : Config) (must_share : Bool) (bytes : List ℕ) → IsTrue must_share
    → IsTrue (sharedness_at config must_share bytes).0
unfolding sharedness_at
sharedness_must config must_share bytes must = must_be_shared must_share _ bytes must

-- the properties of a drawn heap type, given the configuration, the existing types and the limit
pub record IsHeapTypeDrawn (config : Config) (types : List SubType) (must_share : Bool) (limit : ℕ) (ty : HeapType) : Type 0 where
  pub valid : IsHeapTypeValid (features_of config) limit ty
  pub stands : IsInRange types ty
  pub shared : IsTrue must_share → IsHeapTypeShared types ty

abstract_enabled : (config : Config) (bytes : List ℕ) → IsAbstractEnabled (features_of config)
    (chosen_at Func (enabled (abstract_heap_types config)) bytes).0
abstract_enabled config bytes =
    let P = λ (ty : AbstractHeapType). IsAbstractEnabled (features_of config) ty in
    let gc = λ (on : IsTrue config.gc_enabled). on in
    let rows : ByRecursion (λ (row : AbstractHeapType × Bool). IsTrue row.1 → P row.0) (abstract_heap_types config) =
    ((λ _. tt), ((λ _. tt), ((λ on. on), (gc, (gc, (gc, (gc, (gc, (gc, (gc, (gc, tt))))))))))) in
    chosen_is P Func (enabled (abstract_heap_types config)) bytes
    (enabled_all P (abstract_heap_types config) (All-from_recursion (λ (row : AbstractHeapType × Bool). IsTrue row.1 → P row.0)
    (abstract_heap_types config) rows)) tt

abstract_heap_type_drawn : (config : Config) (types : List SubType) (must_share : Bool) (limit : ℕ) (bytes : List ℕ)
    → MayShare config must_share → IsHeapTypeDrawn config types must_share limit (abstract_heap_type_at config must_share bytes).0
unfolding abstract_heap_type_at
abstract_heap_type_drawn config types must_share limit bytes may = record {
  valid = (abstract_enabled config (sharedness_at config must_share bytes).1, sharedness_may config must_share bytes may);
  stands = tt;
  shared = sharedness_must config must_share bytes;
}

pub wanted_by : (gc some : Bool) (drawn : Bool × List ℕ) (bytes : List ℕ) → IsTrue (cond (gc && some) drawn (false, bytes)).0
    → IsTrue gc × IsTrue some
wanted_by true true drawn bytes h = (refl, refl)
wanted_by true false drawn bytes h = cc
wanted_by false some drawn bytes h = cc

-- an index is drawn only if there is one
index_wanted : (config : Config) (limit : ℕ) (bytes : List ℕ) → IsTrue (index_wanted_at config limit bytes).0 → IsTrue config.gc_enabled
    × (0 < limit)
index_wanted config limit bytes h =
    let (gc, some) = wanted_by config.gc_enabled (nat_lt 0 limit) (bool_at bytes) bytes h in
    (gc, ltb-true 0 limit some)

kept_where : (must on : Bool) (index i : ℕ) → cond (not must || on) (Some index) None ≡ Some i → (index ≡ i) × (IsTrue must → IsTrue on)
kept_where true true index i e = (cc, λ _. refl)
kept_where true false index i e = cc
kept_where false on index i e = (cc, λ no. cc)

kept : (config : Config) (types : List SubType) (must_share : Bool) (limit index i : ℕ) (at : Option SubType) → IsTrue config.gc_enabled
    → index < limit → slice_get types index ≡ at → kept_index must_share index at ≡ Some i → IsHeapTypeDrawn config types must_share limit
    (Concrete i)
kept config types must_share limit index i None gc below at e = cc
kept config types must_share limit index i (Some t) gc below at e =
    let (same, shared) = kept_where must_share t.composite_type.shared index i e in
    subst (λ (n : ℕ). IsHeapTypeDrawn config types must_share limit (Concrete n)) same
    (record { valid = (gc, below); stands = slice_get_within types index t at; shared = λ must. (t, at, shared must) })

kept_if : (config : Config) (types : List SubType) (must_share : Bool) (limit index i : ℕ) (wanted : Bool) (left after : List ℕ)
    → (IsTrue wanted → IsTrue config.gc_enabled × (index < limit))
    → (cond {A = Option ℕ × List ℕ} wanted (kept_index must_share index (slice_get types index), left) (None, after)).0 ≡ Some i
    → IsHeapTypeDrawn config types must_share limit (Concrete i)
kept_if config types must_share limit index i true left after may e = let (gc, below) = may refl in
    kept config types must_share limit index i (slice_get types index) gc below refl e
kept_if config types must_share limit index i false left after may e = cc

type_index_drawn : (config : Config) (types : List SubType) (must_share : Bool) (limit : ℕ) (bytes : List ℕ) (i : ℕ)
    → (type_index_at config types must_share limit bytes).0 ≡ Some i → IsHeapTypeDrawn config types must_share limit (Concrete i)
unfolding type_index_at
type_index_drawn config types must_share limit bytes i e =
    let wanted = index_wanted_at config limit bytes in
    let index = range_at 0 (limit - 1) wanted.1 in
    kept_if config types must_share limit index.0 i wanted.0 index.1 wanted.1
    (λ on.
    let (gc, some) = index_wanted config limit bytes on in
    let within = range_within 0 (limit - 1) wanted.1 (omega arith) in
    (gc, omega arith)) e

heap_type_of_drawn : (config : Config) (types : List SubType) (must_share : Bool) (limit : ℕ) (index : Option ℕ) (bytes : List ℕ)
    → MayShare config must_share → ((i : ℕ) → index ≡ Some i → IsHeapTypeDrawn config types must_share limit (Concrete i))
    → IsHeapTypeDrawn config types must_share limit (heap_type_of_at config must_share index bytes).0
heap_type_of_drawn config types must_share limit (Some i) bytes may drawn = drawn i refl
heap_type_of_drawn config types must_share limit None bytes may drawn = abstract_heap_type_drawn config types must_share limit bytes may

pub heap_type_drawn : (config : Config) (types : List SubType) (must_share : Bool) (limit : ℕ) (bytes : List ℕ) → MayShare config must_share
    → IsHeapTypeDrawn config types must_share limit (heap_type_at config types must_share limit bytes).0
unfolding heap_type_at
heap_type_drawn config types must_share limit bytes may =
    let index = type_index_at config types must_share limit bytes in
    heap_type_of_drawn config types must_share limit index.0 index.1 may (type_index_drawn config types must_share limit bytes)

-- the properties of a drawn reference type
pub record IsRefTypeDrawn (config : Config) (types : List SubType) (must_share : Bool) (limit : ℕ) (ty : RefType) : Type 0 where
  pub valid : IsRefTypeValid (features_of config) limit ty
  pub stands : IsInRange types ty.heap_type
  pub shared : IsTrue must_share → IsHeapTypeShared types ty.heap_type

granted_where : (on wanted grounded : Bool) (after bytes : List ℕ)
    → not (cond {A = Bool × List ℕ} on (wanted && grounded, after) (false, bytes)).0 ≡ false → IsTrue on × IsTrue grounded
granted_where true true true after bytes e = (refl, refl)
granted_where true true false after bytes e = cc
granted_where true false grounded after bytes e = cc
granted_where false wanted grounded after bytes e = cc

-- a reference is non-nullable only if `non_nullable_enabled` is on and its heap type is grounded
granted_only : (config : Config) (context : Context) (ty : HeapType) (bytes : List ℕ) → not (granted_at config context ty bytes).0 ≡ false
    → IsTrue config.non_nullable_enabled × IsTrue (is_grounded context ty)
unfolding granted_at
granted_only config context ty bytes e = granted_where config.non_nullable_enabled (bool_at bytes).0 (is_grounded context ty)
    (bool_at bytes).1 bytes e

of_heap_type : (config : Config) (types : List SubType) (must_share : Bool) (limit : ℕ) (nullable : Bool) (ty : HeapType)
    → (nullable ≡ false → IsTrue config.gc_enabled) → IsHeapTypeDrawn config types must_share limit ty
    → IsRefTypeDrawn config types must_share limit (record { nullable = nullable; heap_type = ty })
of_heap_type config types must_share limit nullable ty gc h = record {
  valid = record { heap_type = h.valid; nullable = gc };
  stands = h.stands;
  shared = h.shared;
}

-- nothing is shared without reference types
unshared : (config : Config) (must_share : Bool) → IsSanitized config → MayShare config must_share → config.reference_types_enabled ≡ false
    → IsTrue must_share → ⊥
unshared config must_share sanitized may off must =
    let on : config.reference_types_enabled ≡ true = sanitized.gc (sanitized.shared_gc (may must)) in
    cc

-- a reference to a drawn heap type, and whether it is nullable
granted_to : Config → Context → HeapType × List ℕ → RefType × List ℕ
granted_to config context ty = let granted = granted_at config context ty.0 ty.1 in
    (record { nullable = not granted.0; heap_type = ty.0 }, granted.1)

ref_by : (config : Config) (context : Context) (must_share : Bool) (limit : ℕ) (bytes : List ℕ) (on : Bool) → config.reference_types_enabled
    ≡ on → IsSanitized config → MayShare config must_share
    → IsRefTypeDrawn config context.types must_share limit
    (cond {A = RefType × List ℕ} on (granted_to config context (heap_type_at config context.types must_share limit bytes))
    (record { nullable = true; heap_type = Abstract false Func }, bytes)).0
unfolding granted_to
ref_by config context must_share limit bytes true e sanitized may =
    let ty = heap_type_at config context.types must_share limit bytes in
    of_heap_type config context.types must_share limit (not (granted_at config context ty.0 ty.1).0) ty.0
    (λ not_null. sanitized.non_nullable (granted_only config context ty.0 ty.1 not_null).0)
    (heap_type_drawn config context.types must_share limit bytes may)
ref_by config context must_share limit bytes false e sanitized may = record {
  valid = record { heap_type = (tt, λ no. cc); nullable = λ e. cc };
  stands = tt;
  shared = λ must. absurd (unshared config must_share sanitized may e must);
}

pub ref_type_drawn : (config : Config) (context : Context) (must_share : Bool) (limit : ℕ) (bytes : List ℕ) → IsSanitized config
    → MayShare config must_share → IsRefTypeDrawn config context.types must_share limit
    (ref_type_at config context must_share limit bytes).0
unfolding ref_type_at granted_to
ref_type_drawn config context must_share limit bytes sanitized may =
    ref_by config context must_share limit bytes config.reference_types_enabled refl sanitized may

granted_by : (config : Config) (context : Context) (ty : HeapType × List ℕ) (bytes : List ℕ) (on : Bool) → let drawn =
    (cond {A = RefType × List ℕ} on (granted_to config context ty) (record { nullable = true; heap_type = Abstract false Func }, bytes)).0
    in
    drawn.nullable ≡ false → IsTrue config.non_nullable_enabled × IsTrue (is_grounded context drawn.heap_type)
unfolding granted_to
granted_by config context ty bytes true e = granted_only config context ty.0 ty.1 e
granted_by config context ty bytes false e = cc

-- a drawn reference is non-nullable only if `non_nullable_enabled` is on and its heap type is
-- grounded
pub ref_type_granted : (config : Config) (context : Context) (must_share : Bool) (limit : ℕ) (bytes : List ℕ) → let drawn =
    (ref_type_at config context must_share limit bytes).0 in
    drawn.nullable ≡ false → IsTrue config.non_nullable_enabled × IsTrue (is_grounded context drawn.heap_type)
unfolding ref_type_at granted_to
ref_type_granted config context must_share limit bytes e =
    granted_by config context (heap_type_at config context.types must_share limit bytes) bytes config.reference_types_enabled e

-- the properties of a drawn value type
pub record IsValTypeDrawn (config : Config) (types : List SubType) (must_share : Bool) (limit : ℕ) (ty : ValType) : Type 0 where
  pub valid : IsValTypeValid (features_of config) limit ty
  pub stands : IsValInRange types ty
  pub shared : IsTrue must_share → IsShareable types ty

-- the features of a class of value types
IsClassEnabled : Config → ValueClass → Type 0
IsClassEnabled config V128 = IsTrue config.simd_enabled
IsClassEnabled config Reference = IsTrue config.reference_types_enabled
IsClassEnabled config _ = Unit {0}

of_class_drawn : (config : Config) (context : Context) (must_share : Bool) (limit : ℕ) (class : ValueClass) (bytes : List ℕ)
    → IsSanitized config → MayShare config must_share → IsClassEnabled config class
    → IsValTypeDrawn config context.types must_share limit (value_of_class_at config context must_share limit class bytes).0
unfolding IsClassEnabled
of_class_drawn config context must_share limit I32 bytes sanitized may h = record { valid = tt; stands = tt; shared = λ _. tt }
of_class_drawn config context must_share limit I64 bytes sanitized may h = record { valid = tt; stands = tt; shared = λ _. tt }
of_class_drawn config context must_share limit F32 bytes sanitized may h = record { valid = tt; stands = tt; shared = λ _. tt }
of_class_drawn config context must_share limit F64 bytes sanitized may h = record { valid = tt; stands = tt; shared = λ _. tt }
of_class_drawn config context must_share limit V128 bytes sanitized may h = record { valid = h; stands = tt; shared = λ _. tt }
of_class_drawn config context must_share limit Reference bytes sanitized may h =
    let drawn = ref_type_drawn config context must_share limit bytes sanitized may in
    record { valid = (h, drawn.valid); stands = drawn.stands; shared = drawn.shared }

class_enabled : (config : Config) (bytes : List ℕ) → IsClassEnabled config (chosen_at I32 (enabled (value_classes config)) bytes).0
unfolding IsClassEnabled
class_enabled config bytes =
    let P = λ (class : ValueClass). IsClassEnabled config class in
    let rows : ByRecursion (λ (row : ValueClass × Bool). IsTrue row.1 → P row.0) (value_classes config) =
    ((λ _. tt), ((λ _. tt), ((λ _. tt), ((λ _. tt), ((λ on. on), ((λ on. on), tt)))))) in
    chosen_is P I32 (enabled (value_classes config)) bytes
    (enabled_all P (value_classes config) (All-from_recursion (λ (row : ValueClass × Bool). IsTrue row.1 → P row.0)
    (value_classes config) rows)) tt

pub val_type_drawn : (config : Config) (context : Context) (must_share : Bool) (limit : ℕ) (bytes : List ℕ) → IsSanitized config
    → MayShare config must_share → IsValTypeDrawn config context.types must_share limit
    (val_type_at config context must_share limit bytes).0
unfolding val_type_at
val_type_drawn config context must_share limit bytes sanitized may =
    let class = chosen_at I32 (enabled (value_classes config)) bytes in
    of_class_drawn config context must_share limit class.0 class.1 sanitized may (class_enabled config bytes)

-- drawn value types are valid
pub values_valid : (config : Config) (types : List SubType) (must_share : Bool) (limit : ℕ) (values : List ValType)
    → All (IsValTypeDrawn config types must_share limit) values → All (IsValTypeValid (features_of config) limit) values
values_valid config types must_share limit values h = All-weaker (IsValTypeDrawn config types must_share limit)
    (IsValTypeValid (features_of config) limit) (λ v d. d.valid) values h

-- they are shared if they must be
pub values_shared : (config : Config) (types : List SubType) (must_share : Bool) (limit : ℕ) (values : List ValType) → IsTrue must_share
    → All (IsValTypeDrawn config types must_share limit) values → All (IsShareable types) values
values_shared config types must_share limit values must h = All-weaker (IsValTypeDrawn config types must_share limit) (IsShareable types)
    (λ v d. d.shared must) values h
