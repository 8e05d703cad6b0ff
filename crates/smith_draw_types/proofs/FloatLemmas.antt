-- Without floats, no drawn type contains one if no existing type does.
use Rattle.smith_draw_types.proofs.Common.{[], All, All-append, All-from_recursion, All-nil, Array, Bool, CompositeInnerType, cond_both}
use Rattle.smith_draw_types.proofs.Common.{Config, Context, false, FieldType, Func, FuncType, get_or_from_slice_get, GroupedTypes, grow_all}
use Rattle.smith_draw_types.proofs.Common.{I16, I8, IsNoFloat, IsTrue, length, List, None, Option, range_at, recursion_from_All, refl}
use Rattle.smith_draw_types.proofs.Common.{slice_get, slice_get_within, Some, StorageType, Struct, StructType, subst, SubType, suc, Val}
use Rattle.smith_draw_types.proofs.Common.{ValType, values_of, values_of_storage, zero, ℕ, ◌+◌, ◌-◌, ◌≡◌}
use Rattle.std.specs.List.{AllByRecursion as Each}
use Rattle.smith_types.specs.Floats.{HasNoFloat}
use Rattle.smith_types.specs.Syntax.value_type.ValType.TheVariants as vals
use Rattle.smith_draw_types.specs.Grounding.{over}
use Rattle.smith_draw_types.specs.declared.value_type.ValueClass.{ValueClass}
use Rattle.smith_draw_types.specs.declared.value_type.ValueClass.TheVariants.{I32, I64, F32, F64, V128, Reference}
use Rattle.smith_draw_types.specs.Choices.{enabled, chosen_at}
use Rattle.smith_draw_types.specs.ValueTypes.{value_classes, sharedness_at, value_of_class_at, val_type_at}
use Rattle.smith_draw_types.specs.FieldTypes.{storage_of_number_at, storage_type_at, field_type_at, fields_until_at}
use Rattle.smith_draw_types.specs.CompositeTypes.{most_results, val_types_at, func_type_at, struct_type_at, inner_of_number_at}
use Rattle.smith_draw_types.specs.CompositeTypes.{inner_number_at, composite_type_at}
use Rattle.smith_draw_types.specs.MatchingTypes.{each_at, matching_val_type_at, matching_storage_type_at, matching_field_type_at}
use Rattle.smith_draw_types.specs.MatchingTypes.{matched_fields_at, super_val_type_at, matching_func_type_at}
use Rattle.smith_draw_types.specs.MatchingComposites.{matching_struct_type_at, matching_inner_at, matching_composite_type_at}
use Rattle.smith_draw_types.specs.SubTypes.{supertypes, is_final_at, root_type_at, sub_type_below_at, sub_type_of_at, supertype_wanted_at}
use Rattle.smith_draw_types.specs.SubTypes.{sub_type_at}
use Rattle.smith_draw_types.specs.RecGroups.{types_at}
use Rattle.smith_draw_types.proofs.EnabledLemmas.{enabled_all, chosen_is}
use Rattle.smith_draw_types.proofs.SharedLemmas.{each_join}
use Rattle.smith_draw_types.proofs.MatchingLemmas.{all_stay}
use Rattle.smith_draw_types.proofs.FieldTypeLemmas.{values_of_fields}
use Rattle.smith_draw_types.proofs.MatchingCompositeLemmas.{fields_of_values}
use Rattle.smith_draw_types.proofs.EachTypeLemmas.{types_keep}

-- a class of value types other than a float
IsNoFloatClass : ValueClass → Type 0
IsNoFloatClass F32 = ⊥
IsNoFloatClass F64 = ⊥
IsNoFloatClass _ = Unit {0}

-- a field that does not store a float
abbrev IsNoFloatField : FieldType → Type 0
IsNoFloatField field = All IsNoFloat (values_of_storage field.element_type)

-- an item of a list has a property that all items have
pub stands_in : {A : Type 0} (P : A → Type 0) (xs : List A) (i : ℕ) (x : A) → slice_get xs i ≡ Some x → All P xs → P x
stands_in P xs i x at each = subst P (get_or_from_slice_get xs i x x at) (each i x (slice_get_within xs i x at))

matching_value : (config : Config) (context : Context) (ty : ValType) (bytes : List ℕ) → IsNoFloat ty
    → IsNoFloat (matching_val_type_at config context ty bytes).0
matching_value config context vals.I32 bytes h = tt
matching_value config context vals.I64 bytes h = tt
matching_value config context vals.V128 bytes h = tt
matching_value config context (vals.Ref reference) bytes h = tt
matching_value config context vals.F32 bytes h = absurd h
matching_value config context vals.F64 bytes h = absurd h

super_value : (config : Config) (types : List SubType) (ty : ValType) (bytes : List ℕ) → IsNoFloat ty
    → IsNoFloat (super_val_type_at config types ty bytes).0
super_value config types vals.I32 bytes h = tt
super_value config types vals.I64 bytes h = tt
super_value config types vals.V128 bytes h = tt
super_value config types (vals.Ref reference) bytes h = tt
super_value config types vals.F32 bytes h = absurd h
super_value config types vals.F64 bytes h = absurd h

matching_storage : (config : Config) (context : Context) (ty : StorageType) (bytes : List ℕ) → Each IsNoFloat (values_of_storage ty)
    → Each IsNoFloat (values_of_storage (matching_storage_type_at config context ty bytes).0)
matching_storage config context I8 bytes h = tt
matching_storage config context I16 bytes h = tt
matching_storage config context (Val value) bytes h = (matching_value config context value bytes h.0, tt)

matching_field : (config : Config) (context : Context) (field : FieldType) (bytes : List ℕ) → IsNoFloatField field
    → IsNoFloatField (matching_field_type_at config context field bytes).0
unfolding matching_field_type_at
matching_field config context field bytes h =
    let drawn = matching_storage_type_at config context field.element_type bytes in
    cond_both (λ (r : FieldType × List ℕ). IsNoFloatField r.0) field.mutable (field, bytes)
    (record { element_type = drawn.0; mutable = false }, drawn.1)
    h (All-from_recursion IsNoFloat (values_of_storage drawn.0) (matching_storage config context field.element_type bytes
    (recursion_from_All IsNoFloat (values_of_storage field.element_type) h)))

matching_function : (config : Config) (context : Context) (function : FuncType) (bytes : List ℕ) → All IsNoFloat (values_of (Func function))
    → All IsNoFloat (values_of (Func (matching_func_type_at config context function bytes).0))
unfolding matching_func_type_at
matching_function config context function bytes h =
    let apart = (each_join IsNoFloat function.params function.results).0 (recursion_from_All IsNoFloat (values_of (Func function)) h) in
    let params = each_at (super_val_type_at config context.types) function.params bytes in
    let results = each_at (matching_val_type_at config context) function.results params.1 in
    All-append IsNoFloat params.0 results.0
    (all_stay IsNoFloat (super_val_type_at config context.types) (super_value config context.types) function.params bytes
    (All-from_recursion IsNoFloat function.params apart.0))
    (all_stay IsNoFloat (matching_val_type_at config context) (matching_value config context) function.results params.1
    (All-from_recursion IsNoFloat function.results apart.1))

module _ (config : Config) (off : config.allow_floats ≡ false) where
  class_chosen : (bytes : List ℕ) → IsNoFloatClass (chosen_at I32 (enabled (value_classes config)) bytes).0
  unfolding IsNoFloatClass
  class_chosen bytes =
      let rows : Each (λ (row : ValueClass × Bool). IsTrue row.1 → IsNoFloatClass row.0) (value_classes config) =
      ((λ _. tt), ((λ _. tt), ((λ on. cc), ((λ on. cc), ((λ _. tt), ((λ _. tt), tt)))))) in
      chosen_is IsNoFloatClass I32 (enabled (value_classes config)) bytes
      (enabled_all IsNoFloatClass (value_classes config) (All-from_recursion (λ (row : ValueClass × Bool). IsTrue row.1
      → IsNoFloatClass row.0) (value_classes config) rows)) tt

  value_of_class : (context : Context) (must_share : Bool) (limit : ℕ) (class : ValueClass) (bytes : List ℕ) → IsNoFloatClass class
      → IsNoFloat (value_of_class_at config context must_share limit class bytes).0
  unfolding IsNoFloatClass
  value_of_class context must_share limit I32 bytes h = tt
  value_of_class context must_share limit I64 bytes h = tt
  value_of_class context must_share limit V128 bytes h = tt
  value_of_class context must_share limit Reference bytes h = tt
  value_of_class context must_share limit F32 bytes h = absurd h
  value_of_class context must_share limit F64 bytes h = absurd h

  pub val_type_no_float : (context : Context) (must_share : Bool) (limit : ℕ) (bytes : List ℕ)
      → IsNoFloat (val_type_at config context must_share limit bytes).0
  unfolding val_type_at
  val_type_no_float context must_share limit bytes =
      let class = chosen_at I32 (enabled (value_classes config)) bytes in
      value_of_class context must_share limit class.0 class.1 (class_chosen bytes)

  storage_of_number : (context : Context) (must_share : Bool) (limit number : ℕ) (bytes : List ℕ)
      → Each IsNoFloat (values_of_storage (storage_of_number_at config context must_share limit number bytes).0)
  storage_of_number context must_share limit zero bytes = tt
  storage_of_number context must_share limit (suc zero) bytes = tt
  storage_of_number context must_share limit (suc (suc number)) bytes = (val_type_no_float context must_share limit bytes, tt)

  field_drawn : (context : Context) (must_share : Bool) (limit : ℕ) (bytes : List ℕ)
      → IsNoFloatField (field_type_at config context must_share limit bytes).0
  unfolding field_type_at storage_type_at
  field_drawn context must_share limit bytes =
      let number = range_at 0 2 bytes in
      let drawn = storage_of_number_at config context must_share limit number.0 number.1 in
      All-from_recursion IsNoFloat (values_of_storage drawn.0) (storage_of_number context must_share limit number.0 number.1)

  fields_drawn : (context : Context) (must_share : Bool) (limit end : ℕ) (fields : List FieldType) (bytes : List ℕ)
      → All IsNoFloatField fields → All IsNoFloatField (fields_until_at config context must_share limit end fields bytes).0
  unfolding fields_until_at
  fields_drawn context must_share limit end fields bytes now =
      grow_all IsNoFloatField (λ _. field_type_at config context must_share limit) (λ _ after. field_drawn context must_share limit after)
      end (end - length fields) fields bytes now

  of_fields : (fields : List FieldType) → All IsNoFloatField fields → All IsNoFloat (values_of (Struct (record { fields = fields })))
  of_fields fields h = values_of_fields IsNoFloat fields (recursion_from_All IsNoFloatField fields h)

  pub values_no_float : (context : Context) (must_share : Bool) (limit most : ℕ) (bytes : List ℕ)
      → All IsNoFloat (val_types_at config context must_share limit most bytes).0
  unfolding val_types_at
  values_no_float context must_share limit most bytes =
      grow_all IsNoFloat (λ _. val_type_at config context must_share limit) (λ _ after. val_type_no_float context must_share limit after) 0
      most [] bytes (All-nil IsNoFloat)

  function_drawn : (context : Context) (must_share : Bool) (limit : ℕ) (bytes : List ℕ)
      → All IsNoFloat (values_of (Func (func_type_at config context must_share limit bytes).0))
  unfolding func_type_at
  function_drawn context must_share limit bytes =
      let params = val_types_at config context must_share limit 20 bytes in
      let results = val_types_at config context must_share limit (most_results config) params.1 in
      All-append IsNoFloat params.0 results.0 (values_no_float context must_share limit 20 bytes)
      (values_no_float context must_share limit (most_results config) params.1)

  struct_drawn : (context : Context) (must_share : Bool) (limit : ℕ) (bytes : List ℕ)
      → All IsNoFloat (values_of (Struct (struct_type_at config context must_share limit bytes).0))
  unfolding struct_type_at
  struct_drawn context must_share limit bytes =
      let count = range_at 0 20 bytes in
      let fields = fields_until_at config context must_share limit count.0 [] count.1 in
      of_fields fields.0 (fields_drawn context must_share limit count.0 [] count.1 (All-nil IsNoFloatField))

  inner_drawn : (context : Context) (must_share : Bool) (limit number : ℕ) (bytes : List ℕ)
      → All IsNoFloat (values_of (inner_of_number_at config context must_share limit number bytes).0)
  inner_drawn context must_share limit zero bytes = field_drawn context must_share limit bytes
  inner_drawn context must_share limit (suc zero) bytes = function_drawn context must_share limit bytes
  inner_drawn context must_share limit (suc (suc number)) bytes = struct_drawn context must_share limit bytes

  root_drawn : (context : Context) (limit : ℕ) (bytes : List ℕ) → HasNoFloat (root_type_at config context limit bytes).0
  unfolding root_type_at composite_type_at
  root_drawn context limit bytes =
      let is_final = is_final_at config bytes in
      let shared = sharedness_at config false is_final.1 in
      let number = inner_number_at config shared.1 in
      inner_drawn context shared.0 limit number.0 number.1

  matching_structure : (context : Context) (must_share : Bool) (limit : ℕ) (structure : StructType) (bytes : List ℕ)
      → All IsNoFloat (values_of (Struct structure))
      → All IsNoFloat (values_of (Struct (matching_struct_type_at config context must_share limit structure bytes).0))
  unfolding matching_struct_type_at matched_fields_at
  matching_structure context must_share limit structure bytes h =
      let extra = range_at 0 5 bytes in
      let matched = matched_fields_at config context structure.fields extra.1 in
      let end = length matched.0 + extra.0 in
      let fields = fields_until_at config context must_share limit end matched.0 matched.1 in
      let before = fields_of_values IsNoFloat structure.fields (recursion_from_All IsNoFloat (values_of (Struct structure)) h) in
      let stay = all_stay IsNoFloatField (matching_field_type_at config context) (matching_field config context) structure.fields extra.1
      (All-from_recursion IsNoFloatField structure.fields before) in
      of_fields fields.0 (fields_drawn context must_share limit end matched.0 matched.1 stay)

  matching_drawn : (context : Context) (must_share : Bool) (limit : ℕ) (inner : CompositeInnerType) (bytes : List ℕ)
      → All IsNoFloat (values_of inner) → All IsNoFloat (values_of (matching_inner_at config context must_share limit inner bytes).0)
  matching_drawn context must_share limit (Array array) bytes h = matching_field config context array.0 bytes h
  matching_drawn context must_share limit (Func function) bytes h = matching_function config context function bytes h
  matching_drawn context must_share limit (Struct structure) bytes h = matching_structure context must_share limit structure bytes h

  below_drawn : (context : Context) (limit index : ℕ) (at : Option SubType) (bytes : List ℕ) → ((t : SubType) → at ≡ Some t → HasNoFloat t)
      → HasNoFloat (sub_type_below_at config context limit index at bytes).0
  unfolding matching_composite_type_at
  below_drawn context limit index None bytes h = root_drawn context limit bytes
  below_drawn context limit index (Some t) bytes h = matching_drawn context t.composite_type.shared limit t.composite_type.inner bytes
      (h t refl)

  pub sub_type_no_float : (context : Context) (limit : ℕ) (bytes : List ℕ) → All HasNoFloat context.types
      → HasNoFloat (sub_type_at config context limit bytes).0
  unfolding sub_type_at sub_type_of_at
  sub_type_no_float context limit bytes all =
      let wanted = supertype_wanted_at config (length (supertypes context.types)) bytes in
      let index = chosen_at 0 (supertypes context.types) wanted.1 in
      cond_both (λ (r : SubType × List ℕ). HasNoFloat r.0) wanted.0 (sub_type_of_at config context limit (supertypes context.types)
      wanted.1) (root_type_at config context limit wanted.1)
      (below_drawn context limit index.0 (slice_get context.types index.0) index.1
      (λ t at. stands_in HasNoFloat context.types index.0 t at all)) (root_drawn context limit wanted.1)

  pub types_no_float : (context : Context) (space : GroupedTypes) (bytes : List ℕ) → All HasNoFloat space.types
      → All HasNoFloat (types_at config context space bytes).0.types
  types_no_float context space bytes all = types_keep config context HasNoFloat (λ types. sub_type_no_float (over context types)) space
      bytes all
