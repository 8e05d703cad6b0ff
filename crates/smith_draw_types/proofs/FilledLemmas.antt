-- Every drawn non-nullable reference is grounded. If this holds for the fields and elements of the
-- existing types, it holds for those of drawn types.
use Rattle.smith_draw_types.proofs.Common.{[], All, All-from_recursion, All-nil, All-weaker, append-nil, arith, Array, Bool}
use Rattle.smith_draw_types.proofs.Common.{CompositeInnerType, cond_both, Config, Context, false, FieldType, Func, GroupedTypes, grow_all}
use Rattle.smith_draw_types.proofs.Common.{HeapType, I16, I8, inl, inr, IsGrounded, IsOrderly, IsUngrounded, length, List, range_at}
use Rattle.smith_draw_types.proofs.Common.{recursion_from_All, refl, RefType, Some, StorageType, Struct, StructType, subst, SubType, suc}
use Rattle.smith_draw_types.proofs.Common.{sym, Val, ValType, zero, ℕ, ◌++◌, ◌+◌, ◌-◌, ◌∙◌, ◌∷◌, ◌≡◌}
use Rattle.std.specs.List.{Any, AllByRecursion as Each}
use Rattle.smith_types.specs.Expressions.{field_values, unpacked}
use Rattle.smith_types.specs.Grown.{IsContextGrown, AreImportsGrown}
use Rattle.smith_types.specs.Syntax.value_type.ValType.TheVariants as vals
use Rattle.smith_types.proofs.GroundGrowthLemmas.{context_grounded, imports_grounded}
use Rattle.smith_draw_types.specs.declared.value_type.ValueClass.{ValueClass}
use Rattle.smith_draw_types.specs.declared.value_type.ValueClass.TheVariants.{I32, I64, F32, F64, V128, Reference}
use Rattle.smith_draw_types.specs.Choices.{enabled, chosen_at}
use Rattle.smith_draw_types.specs.Grounding.{over}
use Rattle.smith_draw_types.specs.HeldFields.{HoldsUngroundedField}
use Rattle.smith_draw_types.specs.HeldFields.{fields_of}
use Rattle.smith_draw_types.specs.ValueTypes.{value_classes, sharedness_at, ref_type_at, value_of_class_at, val_type_at}
use Rattle.smith_draw_types.specs.FieldTypes.{storage_of_number_at, storage_type_at, field_type_at, fields_until_at}
use Rattle.smith_draw_types.specs.CompositeTypes.{struct_type_at, inner_of_number_at, inner_number_at, composite_type_at}
use Rattle.smith_draw_types.specs.MatchingTypes.{matching_ref_type_at, matching_val_type_at, matching_storage_type_at}
use Rattle.smith_draw_types.specs.MatchingTypes.{matching_field_type_at, matched_fields_at}
use Rattle.smith_draw_types.specs.MatchingComposites.{matching_struct_type_at, matching_inner_at, matching_composite_type_at}
use Rattle.smith_draw_types.specs.GlobalTypes.{global_type_at}
use Rattle.smith_draw_types.specs.SubTypes.{is_final_at, root_type_at, sub_type_below_at, sub_type_at}
use Rattle.smith_draw_types.specs.RecGroups.{types_at}
use Rattle.smith_draw_types.proofs.ValueTypeLemmas.{ref_type_granted}
use Rattle.smith_draw_types.proofs.GroundingLemmas.{grounded_if}
use Rattle.smith_draw_types.proofs.MatchingLemmas.{all_stay, matching_ref_nullable, matching_ref_granted}
use Rattle.smith_draw_types.proofs.KeptTypeLemmas.{sub_type_has, types_have}

-- a field that does not store an ungrounded non-nullable reference
abbrev pub IsFilledField : Config → Context → FieldType → Type 0
IsFilledField config context field = ¬ IsUngrounded config context (unpacked field.element_type)

-- a type whose fields, or whose element, store no such reference
abbrev pub HasFilledFields : Config → Context → SubType → Type 0
HasFilledFields config context t = All (IsFilledField config context) (fields_of t.composite_type.inner)

-- a drawn reference is non-nullable only if it is grounded
pub ref_type_filled : (config : Config) (context : Context) (orderly : IsOrderly context.types) (must_share : Bool) (limit : ℕ)
    (bytes : List ℕ) → ¬ IsUngrounded config context (vals.Ref (ref_type_at config context must_share limit bytes).0)
ref_type_filled config context orderly must_share limit bytes (not_null, none) =
    let (on, grounded) = ref_type_granted config context must_share limit bytes not_null in
    none on (grounded_if context (ref_type_at config context must_share limit bytes).0.heap_type orderly grounded)

-- a matching reference is non-nullable only if the other is, and then its heap type is that of the
-- other or a grounded one
pub matching_ref_ungrounded : (config : Config) (context : Context) (orderly : IsOrderly context.types) (r : RefType) (bytes : List ℕ)
    → IsUngrounded config context (vals.Ref (matching_ref_type_at config context r bytes).0) → IsUngrounded config context (vals.Ref r)
matching_ref_ungrounded config context orderly r bytes (not_null, none) =
    let drawn = (matching_ref_type_at config context r bytes).0 in
    let fixed : r.nullable ≡ false = sym (matching_ref_nullable config context r bytes) ∙ not_null in (
      fixed,
      λ on grounded. elim (matching_ref_granted config context r bytes on fixed) [
        | inl same ↦ none on (subst (IsGrounded context) (sym same) grounded)
        | inr kept ↦ none on (grounded_if context drawn.heap_type orderly kept)
      ],
    )

pub matching_value : (config : Config) (context : Context) (orderly : IsOrderly context.types) (ty : ValType) (bytes : List ℕ)
    → ¬ IsUngrounded config context ty → ¬ IsUngrounded config context (matching_val_type_at config context ty bytes).0
matching_value config context orderly vals.I32 bytes h = h
matching_value config context orderly vals.I64 bytes h = h
matching_value config context orderly vals.F32 bytes h = h
matching_value config context orderly vals.F64 bytes h = h
matching_value config context orderly vals.V128 bytes h = h
matching_value config context orderly (vals.Ref reference) bytes h =
    λ lacks. h (matching_ref_ungrounded config context orderly reference bytes lacks)

pub matching_storage : (config : Config) (context : Context) (orderly : IsOrderly context.types) (ty : StorageType) (bytes : List ℕ)
    → ¬ IsUngrounded config context (unpacked ty)
    → ¬ IsUngrounded config context (unpacked (matching_storage_type_at config context ty bytes).0)
matching_storage config context orderly I8 bytes h = h
matching_storage config context orderly I16 bytes h = h
matching_storage config context orderly (Val ty) bytes h = matching_value config context orderly ty bytes h

pub matching_field : (config : Config) (context : Context) (orderly : IsOrderly context.types) (field : FieldType) (bytes : List ℕ)
    → IsFilledField config context field → IsFilledField config context (matching_field_type_at config context field bytes).0
unfolding matching_field_type_at
matching_field config context orderly field bytes h =
    let drawn = matching_storage_type_at config context field.element_type bytes in
    cond_both (λ (r : FieldType × List ℕ). IsFilledField config context r.0) field.mutable (field, bytes)
    (record { element_type = drawn.0; mutable = false }, drawn.1)
    h (matching_storage config context orderly field.element_type bytes h)

value_of_class : (config : Config) (context : Context) (orderly : IsOrderly context.types) (must_share : Bool) (limit : ℕ)
    (class : ValueClass) (bytes : List ℕ) → ¬ IsUngrounded config context (value_of_class_at config context must_share limit class bytes).0
value_of_class config context orderly must_share limit I32 bytes never = never
value_of_class config context orderly must_share limit I64 bytes never = never
value_of_class config context orderly must_share limit F32 bytes never = never
value_of_class config context orderly must_share limit F64 bytes never = never
value_of_class config context orderly must_share limit V128 bytes never = never
value_of_class config context orderly must_share limit Reference bytes never = ref_type_filled config context orderly must_share limit bytes
    never

pub val_type_filled : (config : Config) (context : Context) (orderly : IsOrderly context.types) (must_share : Bool) (limit : ℕ)
    (bytes : List ℕ) → ¬ IsUngrounded config context (val_type_at config context must_share limit bytes).0
unfolding val_type_at
val_type_filled config context orderly must_share limit bytes =
    let class = chosen_at I32 (enabled (value_classes config)) bytes in
    value_of_class config context orderly must_share limit class.0 class.1

pub global_type_filled : (config : Config) (context : Context) (orderly : IsOrderly context.types) (bytes : List ℕ)
    → ¬ IsUngrounded config context (global_type_at config context bytes).0.val_type
unfolding global_type_at
global_type_filled config context orderly bytes = val_type_filled config context orderly false (length context.types) bytes

pub storage_of_number : (config : Config) (context : Context) (orderly : IsOrderly context.types) (must_share : Bool) (limit number : ℕ)
    (bytes : List ℕ) → ¬ IsUngrounded config context (unpacked (storage_of_number_at config context must_share limit number bytes).0)
storage_of_number config context orderly must_share limit zero bytes never = never
storage_of_number config context orderly must_share limit (suc zero) bytes never = never
storage_of_number config context orderly must_share limit (suc (suc number)) bytes never = val_type_filled config context orderly must_share
    limit bytes never

pub field_drawn : (config : Config) (context : Context) (orderly : IsOrderly context.types) (must_share : Bool) (limit : ℕ) (bytes : List ℕ)
    → IsFilledField config context (field_type_at config context must_share limit bytes).0
unfolding field_type_at storage_type_at
field_drawn config context orderly must_share limit bytes =
    let number = range_at 0 2 bytes in
    storage_of_number config context orderly must_share limit number.0 number.1

fields_drawn : (config : Config) (context : Context) (orderly : IsOrderly context.types) (must_share : Bool) (limit end : ℕ)
    (fields : List FieldType) (bytes : List ℕ) → All (IsFilledField config context) fields → All (IsFilledField config context)
    (fields_until_at config context must_share limit end fields bytes).0
unfolding fields_until_at
fields_drawn config context orderly must_share limit end fields bytes now =
    grow_all (IsFilledField config context) (λ _. field_type_at config context must_share limit)
    (λ _ after. field_drawn config context orderly must_share limit after) end (end - length fields) fields bytes now

pub struct_drawn : (config : Config) (context : Context) (orderly : IsOrderly context.types) (must_share : Bool) (limit : ℕ)
    (bytes : List ℕ) → All (IsFilledField config context) (struct_type_at config context must_share limit bytes).0.fields
unfolding struct_type_at
struct_drawn config context orderly must_share limit bytes =
    let count = range_at 0 20 bytes in
    fields_drawn config context orderly must_share limit count.0 [] count.1 (All-nil (IsFilledField config context))

inner_drawn : (config : Config) (context : Context) (orderly : IsOrderly context.types) (must_share : Bool) (limit number : ℕ)
    (bytes : List ℕ) → All (IsFilledField config context) (fields_of (inner_of_number_at config context must_share limit number bytes).0)
inner_drawn config context orderly must_share limit zero bytes = All-from_recursion (IsFilledField config context)
    ((field_type_at config context must_share limit bytes).0 ∷ []) (field_drawn config context orderly must_share limit bytes, tt)
inner_drawn config context orderly must_share limit (suc zero) bytes = All-nil (IsFilledField config context)
inner_drawn config context orderly must_share limit (suc (suc number)) bytes = struct_drawn config context orderly must_share limit bytes

root_drawn : (config : Config) (context : Context) (orderly : IsOrderly context.types) (limit : ℕ) (bytes : List ℕ)
    → (HasFilledFields config context) (root_type_at config context limit bytes).0
unfolding root_type_at composite_type_at
root_drawn config context orderly limit bytes =
    let is_final = is_final_at config bytes in
    let shared = sharedness_at config false is_final.1 in
    let number = inner_number_at config shared.1 in
    inner_drawn config context orderly shared.0 limit number.0 number.1

pub matching_struct : (config : Config) (context : Context) (orderly : IsOrderly context.types) (must_share : Bool) (limit : ℕ)
    (structure : StructType) (bytes : List ℕ) → All (IsFilledField config context) structure.fields → All (IsFilledField config context)
    (matching_struct_type_at config context must_share limit structure bytes).0.fields
unfolding matching_struct_type_at matched_fields_at
matching_struct config context orderly must_share limit structure bytes h =
    let extra = range_at 0 5 bytes in
    let matched = matched_fields_at config context structure.fields extra.1 in
    fields_drawn config context orderly must_share limit (length matched.0 + extra.0) matched.0 matched.1
    (all_stay (IsFilledField config context) (matching_field_type_at config context) (matching_field config context orderly)
    structure.fields extra.1 h)

matching_drawn : (config : Config) (context : Context) (orderly : IsOrderly context.types) (must_share : Bool) (limit : ℕ)
    (inner : CompositeInnerType) (bytes : List ℕ) → All (IsFilledField config context) (fields_of inner)
    → All (IsFilledField config context) (fields_of (matching_inner_at config context must_share limit inner bytes).0)
matching_drawn config context orderly must_share limit (Array array) bytes h =
    let element = recursion_from_All (IsFilledField config context) (array.0 ∷ []) h in
    All-from_recursion (IsFilledField config context) ((matching_field_type_at config context array.0 bytes).0 ∷ [])
    (matching_field config context orderly array.0 bytes element.0, tt)
matching_drawn config context orderly must_share limit (Func function) bytes h = All-nil (IsFilledField config context)
matching_drawn config context orderly must_share limit (Struct structure) bytes h = matching_struct config context orderly must_share limit
    structure bytes h

below_drawn : (config : Config) (context : Context) (orderly : IsOrderly context.types) (limit index : ℕ) (t : SubType) (bytes : List ℕ)
    → HasFilledFields config context t → HasFilledFields config context (sub_type_below_at config context limit index (Some t) bytes).0
unfolding matching_composite_type_at
below_drawn config context orderly limit index t bytes h = matching_drawn config context orderly t.composite_type.shared limit
    t.composite_type.inner bytes h

sub_type_filled : (config : Config) (context : Context) (orderly : IsOrderly context.types) (limit : ℕ) (bytes : List ℕ)
    → All (HasFilledFields config context) context.types → HasFilledFields config context (sub_type_at config context limit bytes).0
sub_type_filled config context orderly limit bytes all =
    sub_type_has config context limit (HasFilledFields config context) (root_drawn config context orderly limit)
    (below_drawn config context orderly limit) all bytes

-- if grounded heap types stay grounded, an ungrounded value was ungrounded before
ungrounded_where : (config : Config) (old new : Context) → ((ty : HeapType) → IsGrounded old ty → IsGrounded new ty) → (value : ValType)
    → IsUngrounded config new value → IsUngrounded config old value
ungrounded_where config old new stays (vals.Ref r) (not_null, none) = (not_null, λ on grounded. none on (stays r.heap_type grounded))
ungrounded_where config old new stays vals.I32 never = never
ungrounded_where config old new stays vals.I64 never = never
ungrounded_where config old new stays vals.F32 never = never
ungrounded_where config old new stays vals.F64 never = never
ungrounded_where config old new stays vals.V128 never = never

pub any_weaker : {A : Type 0} (P Q : A → Type 0) → ((x : A) → P x → Q x) → (xs : List A) → Any P xs → Any Q xs
any_weaker P Q f xs (k, x, inside, at, p) = (k, x, inside, at, f x p)

-- the same for fields of the same types
fields_where : (config : Config) (old new : Context) → ((ty : HeapType) → IsGrounded old ty → IsGrounded new ty) → new.types ≡ old.types
    → HoldsUngroundedField config new → HoldsUngroundedField config old
fields_where config old new stays same holds =
    let Held = λ (context : Context) (t : SubType). Any (IsUngrounded config context) (field_values (fields_of t.composite_type.inner)) in
    any_weaker (Held new) (Held old)
    (λ t h. any_weaker (IsUngrounded config new) (IsUngrounded config old) (ungrounded_where config old new stays)
    (field_values (fields_of t.composite_type.inner)) h)
    old.types (subst (Any (Held new)) same holds)

-- an ungrounded value of a grown context was ungrounded before
pub ungrounded_before : (config : Config) (old new : Context) → IsContextGrown old new → (value : ValType) → IsUngrounded config new value
    → IsUngrounded config old value
ungrounded_before config old new growth = ungrounded_where config old new (λ ty. context_grounded old new ty growth)

pub fields_before : (config : Config) (old new : Context) → IsContextGrown old new → new.types ≡ old.types → HoldsUngroundedField config new
    → HoldsUngroundedField config old
fields_before config old new growth = fields_where config old new (λ ty. context_grounded old new ty growth)

-- the same for fields as functions are imported
pub fields_imported : (config : Config) (old new : Context) → AreImportsGrown old new → new.types ≡ old.types
    → HoldsUngroundedField config new → HoldsUngroundedField config old
fields_imported config old new growth = fields_where config old new (λ ty. imports_grounded old new ty growth)

-- types are added
types_grown : (context : Context) (types more : List SubType) → IsContextGrown (over context types) (over context (types ++ more))
types_grown context types more = record {
  features = refl;
  types = record { more = more; parts = refl };
  funcs = record { more = []; parts = sym (append-nil context.funcs) };
  globals = record { more = []; parts = sym (append-nil context.globals) };
  imported_funcs = refl;
  imported_globals = refl;
  visible = omega arith;
}

pub later_ungrounded : (config : Config) (context : Context) (types more : List SubType) (value : ValType)
    → IsUngrounded config (over context (types ++ more)) value → IsUngrounded config (over context types) value
later_ungrounded config context types more value h = ungrounded_before config (over context types) (over context (types ++ more))
    (types_grown context types more) value h

later_filled : (config : Config) (context : Context) (types more : List SubType) (t : SubType)
    → HasFilledFields config (over context types) t → HasFilledFields config (over context (types ++ more)) t
later_filled config context types more t h =
    All-weaker (IsFilledField config (over context types)) (IsFilledField config (over context (types ++ more)))
    (λ field filled never. filled (later_ungrounded config context types more (unpacked field.element_type) never))
    (fields_of t.composite_type.inner) h

-- groups drawn after filled types are filled
types_filled : (config : Config) (context : Context) (space : GroupedTypes) (bytes : List ℕ) → IsOrderly space.types
    → All (HasFilledFields config (over context space.types)) space.types → let drawn = (types_at config context space bytes).0.types in
    All (HasFilledFields config (over context drawn)) drawn
types_filled config context space bytes orderly all =
    (types_have (λ types. HasFilledFields config (over context types)) (later_filled config context) config context
    (λ types limit after still. sub_type_filled config (over context types) still limit after) space bytes
    (record { orderly = orderly; each = all })).each

-- if no item has a property, each item lacks it, and conversely
pub none_each : {A : Type 0} (P : A → Type 0) (xs : List A) → ¬ Any P xs → Each (λ (x : A). ¬ P x) xs
none_each P [] none = tt
none_each P (x ∷ xs) none =
    ((λ p. none (0, x, omega arith, refl, p)), none_each P xs (λ any. none (suc any.0, any.1, omega (arith, any.2), any.3, any.4)))

pub each_none : {A : Type 0} (P : A → Type 0) (xs : List A) → Each (λ (x : A). ¬ P x) xs → ¬ Any P xs
each_none P [] each (k, y, inside, at, p) = omega (arith, inside)
each_none P (x ∷ xs) each (zero, y, inside, at, p) = each.0 (subst P (sym at) p)
each_none P (x ∷ xs) each (suc k, y, inside, at, p) = each_none P xs each.1 (k, y, omega (arith, inside), at, p)

-- the value types of fields together, and of each field
module _ (P : ValType → Type 0) where
  abbrev pub Held : SubType → Type 0
  Held t = Any P (field_values (fields_of t.composite_type.inner))

  abbrev pub Lacked : SubType → Type 0
  Lacked t = All (λ (field : FieldType). ¬ P (unpacked field.element_type)) (fields_of t.composite_type.inner)

  fields_apart : (fields : List FieldType) → Each (λ value. ¬ P value) (field_values fields)
      → Each (λ (field : FieldType). ¬ P (unpacked field.element_type)) fields
  fields_apart [] h = tt
  fields_apart (field ∷ fields) h = (h.0, fields_apart fields h.1)

  fields_joined : (fields : List FieldType) → Each (λ (field : FieldType). ¬ P (unpacked field.element_type)) fields
      → Each (λ value. ¬ P value) (field_values fields)
  fields_joined [] h = tt
  fields_joined (field ∷ fields) h = (h.0, fields_joined fields h.1)

  each_of : (types : List SubType) → Each (λ (t : SubType). ¬ Held t) types → Each Lacked types
  each_of [] h = tt
  each_of (t ∷ types) h =
      let fields = fields_of t.composite_type.inner in (
        All-from_recursion (λ (field : FieldType). ¬ P (unpacked field.element_type)) fields
            (fields_apart fields (none_each P (field_values fields) h.0)),
        each_of types h.1,
      )

  of_each : (types : List SubType) → Each Lacked types → Each (λ (t : SubType). ¬ Held t) types
  of_each [] h = tt
  of_each (t ∷ types) h =
      let fields = fields_of t.composite_type.inner in (
        each_none P (field_values fields)
            (fields_joined fields (recursion_from_All (λ (field : FieldType). ¬ P (unpacked field.element_type)) fields h.0)),
        of_each types h.1,
      )

  pub none_held : (types : List SubType) → ¬ Any Held types → All Lacked types
  none_held types none = All-from_recursion Lacked types (each_of types (none_each Held types none))

  pub held_none : (types : List SubType) → All Lacked types → ¬ Any Held types
  held_none types all = each_none Held types (of_each types (recursion_from_All Lacked types all))

-- if no existing field is ungrounded, no drawn field is
pub types_grounded : (config : Config) (context : Context) (space : GroupedTypes) (bytes : List ℕ) → IsOrderly space.types
    → ¬ HoldsUngroundedField config (over context space.types)
    → ¬ HoldsUngroundedField config (over context (types_at config context space bytes).0.types)
types_grounded config context space bytes orderly none =
    let drawn = (types_at config context space bytes).0.types in
    held_none (IsUngrounded config (over context drawn)) drawn (types_filled config context space bytes orderly
    (none_held (IsUngrounded config (over context space.types)) space.types none))
