-- Drawn function types have at most 20 parameters and 20 results, or as many as the function types
-- that they match.
use Rattle.smith_draw_types.proofs.Common.{[], All, All-weaker, arith, Array, Bool, CompositeInnerType, cond, Config, Context, false, Func}
use Rattle.smith_draw_types.proofs.Common.{FuncType, get_or_from_slice_get, GroupedTypes, grow_most, length, List, slice_get}
use Rattle.smith_draw_types.proofs.Common.{slice_get_within, Some, Struct, SubType, suc, true, zero, ℕ, ◌≡◌, ◌≤◌}
use Rattle.smith_types.specs.Syntax.composite_type.CompositeInnerType.TheVariants as inners
use Rattle.smith_types.specs.Sizes.{value_count, size_in}
use Rattle.smith_types.specs.Syntax.entity_type.EntityType.TheVariants as entity
use Rattle.smith_config.specs.Shapes.{IsInnerShort, IsShort, most_listed, shape_types}
use Rattle.smith_config.specs.declared.shape.Shape.{Shape}
use Rattle.smith_draw_types.specs.Grounding.{over}
use Rattle.smith_draw_types.specs.CompositeTypes.{val_types_at, most_results, func_type_at, inner_of_number_at, inner_number_at}
use Rattle.smith_draw_types.specs.CompositeTypes.{composite_type_at}
use Rattle.smith_draw_types.specs.FuncSizes.{IsFunctionWithin, IsInnerWithin, HasFewValues, IsSmallInner, IsSmall}
use Rattle.smith_draw_types.specs.MatchingTypes.{each_at, super_val_type_at, matching_val_type_at, matching_func_type_at}
use Rattle.smith_draw_types.specs.MatchingComposites.{matching_inner_at, matching_composite_type_at}
use Rattle.smith_draw_types.specs.RecGroups.{types_at}
use Rattle.smith_draw_types.specs.SubTypes.{is_final_at, root_type_at, sub_type_below_at, sub_type_at}
use Rattle.smith_draw_types.specs.ValueTypes.{sharedness_at, val_type_at}
use Rattle.smith_draw_types.proofs.EachTypeLemmas.{types_keep}
use Rattle.smith_draw_types.proofs.KeptTypeLemmas.{sub_type_has}
use Rattle.smith_draw_types.proofs.MatchingLemmas.{length-each_at}

values_few : (config : Config) (context : Context) (must_share : Bool) (limit most : ℕ) (bytes : List ℕ)
    → length (val_types_at config context must_share limit most bytes).0 ≤ most
unfolding val_types_at
values_few config context must_share limit most bytes = grow_most (λ _. val_type_at config context must_share limit) 0 most most [] bytes
    (omega arith)

results_few : (several : Bool) → cond several 20 1 ≤ 20
results_few true = omega arith
results_few false = omega arith

function_small : (config : Config) (context : Context) (must_share : Bool) (limit : ℕ) (bytes : List ℕ)
    → IsFunctionWithin 20 (func_type_at config context must_share limit bytes).0
unfolding func_type_at
function_small config context must_share limit bytes =
    let params = val_types_at config context must_share limit 20 bytes in
    let results = values_few config context must_share limit (most_results config) params.1 in
    let most = results_few config.multi_value_enabled in
    record { params = values_few config context must_share limit 20 bytes; results = omega arith }

number_small : (config : Config) (context : Context) (must_share : Bool) (limit number : ℕ) (bytes : List ℕ)
    → IsSmallInner (inner_of_number_at config context must_share limit number bytes).0
number_small config context must_share limit zero bytes = tt
number_small config context must_share limit (suc zero) bytes = function_small config context must_share limit bytes
number_small config context must_share limit (suc (suc number)) bytes = tt

root_small : (config : Config) (context : Context) (limit : ℕ) (bytes : List ℕ) → IsSmall (root_type_at config context limit bytes).0
unfolding root_type_at composite_type_at
root_small config context limit bytes =
    let is_final = is_final_at config bytes in
    let shared = sharedness_at config false is_final.1 in
    let number = inner_number_at config shared.1 in
    number_small config context shared.0 limit number.0 number.1

-- a bound of at least 20 that holds for the existing function types holds for those drawn over them
module _ (most : ℕ) (enough : 20 ≤ most) where
  small_within : (inner : CompositeInnerType) → IsSmallInner inner → IsInnerWithin most inner
  small_within (Array array) h = tt
  small_within (Func function) h = record { params = omega (arith, enough, h.params); results = omega (arith, enough, h.results) }
  small_within (Struct structure) h = tt

  root_within : (config : Config) (context : Context) (limit : ℕ) (bytes : List ℕ)
      → HasFewValues most (root_type_at config context limit bytes).0
  root_within config context limit bytes = small_within (root_type_at config context limit bytes).0.composite_type.inner
      (root_small config context limit bytes)

  matched_function_within : (config : Config) (context : Context) (function : FuncType) (bytes : List ℕ) → IsFunctionWithin most function
      → IsFunctionWithin most (matching_func_type_at config context function bytes).0
  unfolding matching_func_type_at
  matched_function_within config context function bytes h =
      let drawn = each_at (super_val_type_at config context.types) function.params bytes in
      let params = length-each_at (super_val_type_at config context.types) function.params bytes in
      let results = length-each_at (matching_val_type_at config context) function.results drawn.1 in
      record { params = omega (arith, h.params, params); results = omega (arith, h.results, results) }

  matched_within : (config : Config) (context : Context) (must_share : Bool) (limit : ℕ) (inner : CompositeInnerType) (bytes : List ℕ)
      → IsInnerWithin most inner → IsInnerWithin most (matching_inner_at config context must_share limit inner bytes).0
  matched_within config context must_share limit (Array array) bytes h = tt
  matched_within config context must_share limit (Func function) bytes h = matched_function_within config context function bytes h
  matched_within config context must_share limit (Struct structure) bytes h = tt

  below_within : (config : Config) (context : Context) (limit index : ℕ) (t : SubType) (bytes : List ℕ) → HasFewValues most t
      → HasFewValues most (sub_type_below_at config context limit index (Some t) bytes).0
  unfolding matching_composite_type_at
  below_within config context limit index t bytes h = matched_within config context t.composite_type.shared limit t.composite_type.inner
      bytes h

  sub_type_within : (config : Config) (context : Context) (limit : ℕ) (bytes : List ℕ) → All (HasFewValues most) context.types
      → HasFewValues most (sub_type_at config context limit bytes).0
  sub_type_within config context limit bytes all = sub_type_has config context limit (HasFewValues most) (root_within config context limit)
      (below_within config context limit) all bytes

  -- the same for a type space to which drawn groups are added
  pub types_within : (config : Config) (context : Context) (space : GroupedTypes) (bytes : List ℕ) → All (HasFewValues most) space.types
      → All (HasFewValues most) (types_at config context space bytes).0.types
  types_within config context space bytes all = types_keep config context (HasFewValues most)
      (λ types. sub_type_within config (over context types)) space bytes all

short_inner : (inner : CompositeInnerType) → IsInnerShort inner → IsInnerWithin most_listed inner
short_inner (inners.Func function) (params, results) = record { params = params; results = results }
short_inner (inners.Array array) short = tt
short_inner (inners.Struct structure) short = tt

-- the types of a shape have such a bound if its lists are short
pub shape_few : (shape : Shape) → IsShort shape → All (HasFewValues most_listed) (shape_types shape)
shape_few shape short = All-weaker (λ (t : SubType). IsInnerShort t.composite_type.inner) (HasFewValues most_listed)
    (λ t h. short_inner t.composite_type.inner h) (shape_types shape) short.inner

-- a small function type has at most 40 parameters and results
few_values : (inner : CompositeInnerType) → IsSmallInner inner → value_count inner ≤ 40
few_values (inners.Func function) small = let params = small.params in let results = small.results in omega (arith, params, results)
few_values (inners.Array array) small = omega arith
few_values (inners.Struct structure) small = omega arith

-- a function of a small type has a size of at most 41
pub small_at : (types : List SubType) → All IsSmall types → (index : ℕ) (t : SubType) → slice_get types index ≡ Some t
    → size_in types (entity.Func index) ≤ 41
small_at types all index t at =
    let small : IsSmall t = rw (get_or_from_slice_get types index t t at) at (all index t (slice_get_within types index t at)) in
    rw at (omega (arith, few_values t.composite_type.inner small))
