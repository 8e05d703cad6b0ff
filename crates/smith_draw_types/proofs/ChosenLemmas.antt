-- The item chosen among those offered.
use Rattle.smith_draw_types.proofs.Common.{[], Abstract, ap, arith, Bool, Concrete, cond, Config, Context, drop, Exact, false, filter}
use Rattle.smith_draw_types.proofs.Common.{get_or_from_slice_get, HeapType, length, List, lit<, range_at, range_within, refl, RefType}
use Rattle.smith_draw_types.proofs.Common.{rules, slice_get, slice_get-get_or, Some, subst, SubType, sym, true, ℕ, ◌+◌, ◌-◌, ◌<◌, ◌∙◌, ◌∷◌}
use Rattle.smith_draw_types.proofs.Common.{◌≡◌}
use Rattle.std.specs.Prelude.{not, slice_index_or, ◌||◌}
use Rattle.smith_types.specs.Syntax.value_type.AbstractHeapType.TheVariants as heap
use Rattle.smith_bytes.specs.Draws.{choose_at, digit_count}
use Rattle.smith_draw_types.specs.Choices.{chosen_at}
use Rattle.smith_draw_types.specs.Grounding.{is_grounded}
use Rattle.smith_draw_types.specs.Offered.{gc_subtypes, gc_supertypes, subtypes_offered, supertypes_offered}
use Rattle.smith_draw_types.specs.MatchingTypes.{first_and_passing, references_offered, matching_ref_type_at, matching_heap_type_at}
use Rattle.smith_draw_types.specs.MatchingTypes.{super_heap_type_at}

-- a single item is chosen without a draw
pub chosen_alone : {A : Type 0} (x : A) (bytes : List ℕ) → chosen_at x (x ∷ []) bytes ≡ (x, bytes)
unfolding chosen_at range_at digit_count
chosen_alone x bytes = refl

pub matching_without_gc : (config : Config) (types : List SubType) (ty : HeapType) (bytes : List ℕ) → config.gc_enabled ≡ false
    → matching_heap_type_at config types ty bytes ≡ (ty, bytes)
unfolding matching_heap_type_at subtypes_offered
matching_without_gc config types ty bytes off = rw off (chosen_alone ty bytes)

alone_by : (b : Bool) (test : HeapType → Bool) (ty : HeapType) (bytes : List ℕ)
    → chosen_at ty (cond b (ty ∷ []) (first_and_passing test (ty ∷ []))) bytes ≡ (ty, bytes)
alone_by true test ty bytes = chosen_alone ty bytes
alone_by false test ty bytes = chosen_alone ty bytes

pub references_without_gc : (config : Config) (context : Context) (ty : RefType) (bytes : List ℕ) → config.gc_enabled ≡ false
    → matching_ref_type_at config context ty bytes ≡ (ty, bytes)
unfolding matching_ref_type_at references_offered subtypes_offered
references_without_gc config context ty bytes off =
    rw off (ap (λ (drawn : HeapType × List ℕ). (record { nullable = ty.nullable; heap_type = drawn.0 }, drawn.1))
    (alone_by (ty.nullable || not config.non_nullable_enabled) (is_grounded context) ty.heap_type bytes))

pub super_without_gc : (config : Config) (types : List SubType) (ty : HeapType) (bytes : List ℕ) → config.gc_enabled ≡ false
    → super_heap_type_at config types ty bytes ≡ (ty, bytes)
unfolding super_heap_type_at supertypes_offered
super_without_gc config types ty bytes off = rw off (chosen_alone ty bytes)

-- the item at the drawn position is chosen
pub placed : {A : Type 0} (other : A) (items : List A) (bytes : List ℕ) (n place : ℕ) (x : A) (after : List ℕ) → n ≡ length items
    → range_at 0 (n - 1) bytes ≡ (place, after) → slice_get items place ≡ Some x → chosen_at other items bytes ≡ (x, after)
unfolding chosen_at
placed {A = A} other items bytes n place x after count drawn at =
    let same : range_at 0 (length items - 1) bytes ≡ (place, after) = ap (λ (m : ℕ). range_at 0 (m - 1) bytes) (sym count) ∙ drawn in
    ap (λ (r : ℕ × List ℕ). (slice_index_or items r.0 other, r.1)) same ∙ ap (λ (y : A). (y, after))
    (get_or_from_slice_get items place x other at)

pub matching_with_gc : (config : Config) (types : List SubType) (ty : HeapType) (bytes : List ℕ) → config.gc_enabled ≡ true
    → matching_heap_type_at config types ty bytes ≡ chosen_at ty (gc_subtypes config types ty) bytes
unfolding matching_heap_type_at subtypes_offered
matching_with_gc config types ty bytes on = rw on refl

pub super_with_gc : (config : Config) (types : List SubType) (ty : HeapType) (bytes : List ℕ) (n place : ℕ) (x : HeapType) (after : List ℕ)
    → config.gc_enabled ≡ true → n ≡ length (gc_supertypes types ty) → range_at 0 (n - 1) bytes ≡ (place, after)
    → slice_get (gc_supertypes types ty) place ≡ Some x
    → super_heap_type_at config types ty bytes ≡ (x, after)
unfolding super_heap_type_at supertypes_offered
super_with_gc config types ty bytes n place x after on count drawn at =
    rw on (placed ty (gc_supertypes types ty) bytes n place x after count drawn at)

-- the first subtype offered is the type itself
pub gc_first : (config : Config) (types : List SubType) (ty : HeapType) → gc_subtypes config types ty ≡ ty ∷ drop 1
    (gc_subtypes config types ty)
gc_first config types (Abstract s heap.Any) = refl
gc_first config types (Abstract s heap.Eq) = refl
gc_first config types (Abstract s heap.Struct) = refl
gc_first config types (Abstract s heap.Array) = refl
gc_first config types (Abstract s heap.I31) = refl
gc_first config types (Abstract s heap.None) = refl
gc_first config types (Abstract s heap.Func) = refl
gc_first config types (Abstract s heap.NoFunc) = refl
gc_first config types (Abstract s heap.Extern) = refl
gc_first config types (Abstract s heap.NoExtern) = refl
gc_first config types (Abstract s heap.Exn) = refl
gc_first config types (Abstract s heap.NoExn) = refl
gc_first config types (Concrete i) = refl
gc_first config types (Exact i) = refl

-- for a reference: all subtypes are offered if it is nullable or `non_nullable_enabled` is off;
-- otherwise the first and the grounded ones
pub all_are_offered : (config : Config) (context : Context) (ty : RefType) (bytes : List ℕ)
    → (ty.nullable || not config.non_nullable_enabled) ≡ true
    → chosen_at ty.heap_type (references_offered config context ty) bytes ≡ matching_heap_type_at config context.types ty.heap_type bytes
unfolding references_offered matching_heap_type_at
all_are_offered config context ty bytes all = rw all refl

pub grounded_are_offered : (config : Config) (context : Context) (ty : RefType) (bytes : List ℕ)
    → (ty.nullable || not config.non_nullable_enabled) ≡ false
    → chosen_at ty.heap_type (references_offered config context ty) bytes ≡ chosen_at ty.heap_type
    (first_and_passing (is_grounded context) (subtypes_offered config context.types ty.heap_type)) bytes
unfolding references_offered
grounded_are_offered config context ty bytes some = rw some refl

pub grounded_without_gc : (config : Config) (types : List SubType) (test : HeapType → Bool) (ty : HeapType) (bytes : List ℕ)
    → config.gc_enabled ≡ false → chosen_at ty (first_and_passing test (subtypes_offered config types ty)) bytes ≡ (ty, bytes)
unfolding subtypes_offered
grounded_without_gc config types test ty bytes off = rw off (chosen_alone ty bytes)

pub grounded_with_gc : (config : Config) (types : List SubType) (test : HeapType → Bool) (ty : HeapType) (bytes : List ℕ) (count place : ℕ)
    (x : HeapType) (after : List ℕ) → config.gc_enabled ≡ true → count ≡ length (filter test (drop 1 (gc_subtypes config types ty)))
    → range_at 0 count bytes ≡ (place, after) → slice_get (ty ∷ filter test (drop 1 (gc_subtypes config types ty))) place ≡ Some x
    → chosen_at ty (first_and_passing test (subtypes_offered config types ty)) bytes ≡ (x, after)
unfolding subtypes_offered
grounded_with_gc config types test ty bytes count place x after on many drawn at =
    let others = drop 1 (gc_subtypes config types ty) in
    let last : count ≡ count + 1 - 1 = omega arith in
    let longer : count + 1 ≡ length (ty ∷ filter test others) = omega arith in
    rw on
    (subst (λ (offered : List HeapType). chosen_at ty (first_and_passing test offered) bytes ≡ (x, after)) (sym (gc_first config types ty))
    (placed ty (ty ∷ filter test others) bytes (count + 1) place x after longer (subst (λ (n : ℕ). range_at 0 n bytes ≡ (place, after)) last
    drawn) at))

-- an item drawn from a non-empty list is the item at the drawn position
chosen_item : {A : Type 0} (other : A) (items : List A) (bytes : List ℕ) (x : A) (after : List ℕ) → 0 < length items
    → chosen_at other items bytes ≡ (x, after) → choose_at items bytes ≡ (Some x, after)
unfolding chosen_at choose_at
chosen_item {A = A} other items bytes x after some chosen =
    let place = range_at 0 (length items - 1) bytes in
    let inside : place.0 < length items = omega (arith, range_within 0 (length items - 1) bytes (omega arith)) in
    rw (slice_get-get_or items place.0 other inside) (ap (λ (r : A × List ℕ). (Some r.0, r.1)) chosen)

cond_some : {A : Type 0} (gc : Bool) (ty : A) (offered : List A) → 0 < length offered → 0 < length (cond gc offered (ty ∷ []))
cond_some true ty offered some = some
cond_some false ty offered some = lit< tt

pub gc_subtypes_some : (config : Config) (types : List SubType) (ty : HeapType) → 0 < length (gc_subtypes config types ty)
gc_subtypes_some config types ty = search rules

gc_supertypes_some : (types : List SubType) (ty : HeapType) → 0 < length (gc_supertypes types ty)
gc_supertypes_some types ty = search rules

pub matching_item : (config : Config) (types : List SubType) (ty : HeapType) (bytes : List ℕ) (x : HeapType) (after : List ℕ)
    → matching_heap_type_at config types ty bytes ≡ (x, after) → choose_at (subtypes_offered config types ty) bytes ≡ (Some x, after)
unfolding matching_heap_type_at subtypes_offered
matching_item config types ty bytes x after drawn =
    chosen_item ty (subtypes_offered config types ty) bytes x after (cond_some config.gc_enabled ty (gc_subtypes config types ty)
    (gc_subtypes_some config types ty)) drawn

pub super_item : (config : Config) (types : List SubType) (ty : HeapType) (bytes : List ℕ) (x : HeapType) (after : List ℕ)
    → super_heap_type_at config types ty bytes ≡ (x, after) → choose_at (supertypes_offered config types ty) bytes ≡ (Some x, after)
unfolding super_heap_type_at supertypes_offered
super_item config types ty bytes x after drawn =
    chosen_item ty (supertypes_offered config types ty) bytes x after (cond_some config.gc_enabled ty (gc_supertypes types ty)
    (gc_supertypes_some types ty)) drawn
