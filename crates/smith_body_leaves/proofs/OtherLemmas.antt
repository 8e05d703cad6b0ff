-- Items with the wanted property are offered.
use Rattle.smith_body_leaves.proofs.Common.{[], Abstract, AbstractHeapType, BodyContext, Bool, CompositeInnerType, Concrete}
use Rattle.smith_body_leaves.proofs.Common.{created_reference, Exact, F32, F64, false, field_values, FieldType, HeapType, I32, I64}
use Rattle.smith_body_leaves.proofs.Common.{if◌then◌else◌, is_created_struct, is_global_below, is_named, is_readable, is_reference}
use Rattle.smith_body_leaves.proofs.Common.{is_val_below, IsArrayAt, IsOrderly, IsValBelow, itself, List, offered, Option, Ref}
use Rattle.smith_body_leaves.proofs.Common.{reference_to_function, refl, slice_get, Some, struct_in, subst, SubType, suc, sym, true}
use Rattle.smith_body_leaves.proofs.Common.{unpacked, V128, ValType, zero, ℕ, ◌&&◌, ◌++◌, ◌<◌, ◌∷◌, ◌≡◌}
use Rattle.std.proofs.Common.{inl, inr, ◌⊎◌}
use Rattle.std.specs.Prelude.{All, nat_lt, ◌||◌}
use Rattle.std.specs.List.{AllByRecursion, Contains}
use Rattle.std.proofs.lemmas.Bool.{lt-ltb}
use Rattle.std.proofs.lemmas.List.Elements.{recursion_from_All}
use Rattle.std.proofs.lemmas.Option.{same_Some}
use Rattle.smith_types.specs.Expressions.{IsDefaultable, IsStructAt}
use Rattle.smith_types.specs.Grounded.{are_defaultable, is_defaultable}
use Rattle.smith_types.specs.Syntax.Kinds.{bottom_of}
use Rattle.smith_types.specs.Subtyping.{by_step, is_abstract_step, IsBelow, IsStep}
use Rattle.smith_types.specs.Syntax.composite_type.CompositeInnerType.TheVariants.{Array, Func, Struct}
use Rattle.smith_types.specs.Syntax.entity_type.GlobalType.{GlobalType}
use Rattle.smith_types.specs.Syntax.value_type.AbstractHeapType.TheVariants as abstract
use Rattle.smith_draw_types.proofs.BelowLemmas.{val_decides}
use Rattle.smith_instr.specs.Contexts.{IsLocalSet}
use Rattle.smith_body_nodes.specs.IndexedTypes.{is_creatable_in, struct_of}
use Rattle.smith_body_leaves.specs.FirstCreated.{is_created_empty}
use Rattle.smith_body_leaves.proofs.FirstLemmas.{array_offered, both_are}
use Rattle.smith_instr.proofs.AmongLemmas.{among_is}
use Rattle.smith_instr.specs.SetLocals.{is_among}
use Rattle.smith_body_nodes.specs.Offered.{has_default, is_global_below_at}
use Rattle.smith_body_nodes.specs.Offered.{is_readable_at, is_reference_at}

first_is : (a b : Bool) → a ≡ true → (a || b) ≡ true
first_is true b p = refl
first_is false b p = cc

second_is : (a b : Bool) → b ≡ true → (a || b) ≡ true
second_is true b q = refl
second_is false b q = q

pub below_is : (types : List SubType) (value wanted : ValType) → IsOrderly types → IsValBelow types value wanted
    → is_val_below types value wanted ≡ true
below_is types value wanted orderly below = (val_decides types orderly value wanted).1 below

-- a local that is set
default_is : (value : ValType) → IsDefaultable value → has_default value ≡ true
default_is (Ref reference) e = e
default_is I32 e = refl
default_is I64 e = refl
default_is F32 e = refl
default_is F64 e = refl
default_is V128 e = refl

ready_is : (context : BodyContext) (set : List ℕ) (index : ℕ) (value : ValType) → (index < context.params)
    ⊎ (IsDefaultable value ⊎ Contains set index) → ((nat_lt index context.params || has_default value) || is_among index set) ≡ true
ready_is context set index value (inl early) = first_is (nat_lt index context.params || has_default value) (is_among index set)
    (first_is (nat_lt index context.params) (has_default value) (lt-ltb index context.params early))
ready_is context set index value (inr (inl default)) = first_is (nat_lt index context.params || has_default value) (is_among index set)
    (second_is (nat_lt index context.params) (has_default value) (default_is value default))
ready_is context set index value (inr (inr among)) = second_is (nat_lt index context.params || has_default value) (is_among index set)
    (among_is index set among)

pub readable_is : (context : BodyContext) (set : List ℕ) (wanted : ValType) (index : ℕ) (value : ValType) → IsOrderly context.types
    → IsLocalSet context set index value → IsValBelow context.types value wanted → is_readable context set wanted index ≡ true
readable_is context set wanted index value orderly (at, ready) below =
    subst (λ (o : Option ValType). is_readable_at context set wanted index o ≡ true) (sym at)
    (both_are ((nat_lt index context.params || has_default value) || is_among index set) (is_val_below context.types value wanted)
    (ready_is context set index value ready) (below_is context.types value wanted orderly below))

-- a global
pub global_is : (context : BodyContext) (wanted : ValType) (index : ℕ) (global : GlobalType) → IsOrderly context.types
    → slice_get context.globals index ≡ Some global → IsValBelow context.types global.val_type wanted → is_global_below context wanted index
    ≡ true
global_is context wanted index global orderly at below =
    subst (λ (o : Option GlobalType). is_global_below_at context.types wanted o ≡ true) (sym at)
    (below_is context.types global.val_type wanted orderly below)

-- a function that may be named
pub reference_is : (context : BodyContext) (wanted : ValType) (place function index : ℕ) → IsOrderly context.types
    → slice_get context.references place ≡ Some function → slice_get context.funcs function ≡ Some index
    → IsValBelow context.types (reference_to_function context function index) wanted → is_reference context wanted place ≡ true
reference_is context wanted place function index orderly at there below =
    subst (λ (o : Option ℕ). is_named context wanted o ≡ true) (sym at)
    (subst (λ (o : Option ℕ). is_reference_at context wanted function o ≡ true) (sym there)
    (below_is context.types (reference_to_function context function index) wanted orderly below))

-- a struct of default values
field_default : (value : ValType) → IsDefaultable value → is_defaultable value ≡ true
field_default (Ref reference) e = e
field_default I32 e = refl
field_default I64 e = refl
field_default F32 e = refl
field_default F64 e = refl
field_default V128 e = refl

defaults_are : (fields : List FieldType) → AllByRecursion IsDefaultable (field_values fields) → are_defaultable fields ≡ true
defaults_are [] h = refl
defaults_are (field ∷ fields) (p, q) = both_are (is_defaultable (unpacked field.element_type)) (are_defaultable fields)
    (field_default (unpacked field.element_type) p) (defaults_are fields q)

pub struct_is : (context : BodyContext) (wanted : ValType) (ty : ℕ) (fields : List FieldType) → IsOrderly context.types
    → IsStructAt context.types ty fields → All IsDefaultable (field_values fields) → IsValBelow context.types (created_reference context ty)
    wanted
    → is_created_struct context wanted true ty ≡ true
struct_is context wanted ty fields orderly (t, at, is) defaults below =
    let can : are_defaultable fields ≡ true = defaults_are fields (recursion_from_All IsDefaultable (field_values fields) defaults) in
    let there : is_creatable_in true (struct_of t.composite_type.inner) ≡ true =
    subst (λ (x : CompositeInnerType). is_creatable_in true (struct_of x) ≡ true) (sym is) can in
    both_are (is_val_below context.types (created_reference context ty) wanted)
    (is_creatable_in true (struct_in (slice_get context.types ty))) (below_is context.types (created_reference context ty) wanted
    orderly below)
    (subst (λ (o : Option SubType). is_creatable_in true (struct_in o) ≡ true) (sym at) there)

-- an array without elements
pub array_is : (context : BodyContext) (wanted : ValType) (ty : ℕ) (element : FieldType) → IsOrderly context.types
    → IsArrayAt context.types ty element → IsValBelow context.types (created_reference context ty) wanted
    → is_created_empty context wanted ty ≡ true
array_is context wanted ty element orderly there below = array_offered context wanted ty element there
    (below_is context.types (created_reference context ty) wanted orderly below)

-- the first of the offered items passes the test
first_of_more : (test : ℕ → Bool) (xs : List ℕ) (b : Bool) (n index : ℕ) → test n ≡ b
    → ((other : ℕ) → slice_get xs 0 ≡ Some other → test other ≡ true) → slice_get (xs ++ (if b then n ∷ [] else [])) 0 ≡ Some index
    → test index ≡ true
first_of_more test [] true n index is before at = subst (λ (k : ℕ). test k ≡ true) (same_Some n index at) is
first_of_more test [] false n index is before at = cc
first_of_more test (x ∷ xs) b n index is before at = before index at

pub first_passes : (test : ℕ → Bool) (size index : ℕ) → slice_get (offered test size) 0 ≡ Some index → test index ≡ true
unfolding offered
first_passes test zero index at = cc
first_passes test (suc n) index at = first_of_more test (offered test n) (test n) n index refl (λ other at'. first_passes test n other at')
    at

-- nothing else is above all internal references, and nothing above all external ones
not_bottom : (i : CompositeInnerType) (a : AbstractHeapType) → (a ≡ abstract.Any) ⊎ (a ≡ abstract.Extern) → a ≡ bottom_of i → ⊥
not_bottom (Array x) a (inl is) bottom = cc
not_bottom (Array x) a (inr is) bottom = cc
not_bottom (Func f) a (inl is) bottom = cc
not_bottom (Func f) a (inr is) bottom = cc
not_bottom (Struct x) a (inl is) bottom = cc
not_bottom (Struct x) a (inr is) bottom = cc

any_step : (b : AbstractHeapType) → is_abstract_step abstract.Any b ≡ true → ⊥
any_step b is = cc

extern_step : (b : AbstractHeapType) → is_abstract_step abstract.Extern b ≡ true → ⊥
extern_step b is = cc

no_step : (types : List SubType) (shared : Bool) (a : AbstractHeapType) (b : HeapType) → (a ≡ abstract.Any) ⊎ (a ≡ abstract.Extern)
    → IsStep types (Abstract shared a) b → ⊥
no_step types shared a (Abstract other b) (inl is) (same, above) =
    any_step b (subst (λ (a : AbstractHeapType). is_abstract_step a b ≡ true) is above)
no_step types shared a (Abstract other b) (inr is) (same, above) =
    extern_step b (subst (λ (a : AbstractHeapType). is_abstract_step a b ≡ true) is above)
no_step types shared a (Concrete index) which (t, at, same, bottom) = not_bottom t.composite_type.inner a which bottom
no_step types shared a (Exact index) which (t, at, same, bottom) = not_bottom t.composite_type.inner a which bottom

top_alone : (types : List SubType) (shared : Bool) (a : AbstractHeapType) (h : HeapType) → (a ≡ abstract.Any) ⊎ (a ≡ abstract.Extern)
    → IsBelow types (Abstract shared a) h → h ≡ Abstract shared a
top_alone types shared a h which itself = refl
top_alone types shared a h which (by_step {b = b} step rest) = absurd (no_step types shared a b which step)

pub any_top : (types : List SubType) (shared : Bool) (h : HeapType) → IsBelow types (Abstract shared abstract.Any) h
    → h ≡ Abstract shared abstract.Any
any_top types shared h below = top_alone types shared abstract.Any h (inl refl) below

pub extern_top : (types : List SubType) (shared : Bool) (h : HeapType) → IsBelow types (Abstract shared abstract.Extern) h
    → h ≡ Abstract shared abstract.Extern
extern_top types shared h below = top_alone types shared abstract.Extern h (inr refl) below
