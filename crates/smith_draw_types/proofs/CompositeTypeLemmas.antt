-- Drawn function, struct and composite types are valid, over every list of types.
use Rattle.smith_draw_types.proofs.Common.{[], All-append, All-nil, All-weaker, arith, Bool, CompositeInnerType, CompositeType, cond}
use Rattle.smith_draw_types.proofs.Common.{Config, Context, false, features_of, FieldType, FuncType, grow_all, grow_most, IsFieldInRange}
use Rattle.smith_draw_types.proofs.Common.{IsFuncTypeValid, IsSanitized, IsTrue, IsValInRange, length, List, range_at, range_within}
use Rattle.smith_draw_types.proofs.Common.{recursion_from_All, refl, StructType, SubType, suc, true, ValType, values_of, values_of_storage}
use Rattle.smith_draw_types.proofs.Common.{zero, ℕ, ◌<◌, ◌≡◌, ◌≤◌}
use Rattle.std.specs.List.{All}
use Rattle.smith_types.specs.Flags.{IsInnerEnabled}
use Rattle.smith_types.specs.Matching.{IsInnerInRange}
use Rattle.smith_types.specs.Syntax.composite_type.CompositeInnerType.TheVariants as inners
use Rattle.smith_draw_types.specs.ValueTypes.{sharedness_at, val_type_at}
use Rattle.smith_draw_types.specs.FieldTypes.{field_type_at}
use Rattle.smith_draw_types.specs.CompositeTypes.{most_results, val_types_at, func_type_at, struct_type_at, inner_of_number_at}
use Rattle.smith_draw_types.specs.CompositeTypes.{inner_number_at, composite_type_at}
use Rattle.smith_draw_types.proofs.ValueTypeLemmas.{MayShare, sharedness_may, IsValTypeDrawn, val_type_drawn, values_valid}
use Rattle.smith_draw_types.proofs.FieldTypeLemmas.{IsFieldDrawn, field_type_drawn, fields_until_drawn, fields_until_most, values_of_fields}

-- drawn lists of value types
pub val_types_drawn : (config : Config) (context : Context) (must_share : Bool) (limit most : ℕ) (bytes : List ℕ) → IsSanitized config
    → MayShare config must_share
    → All (IsValTypeDrawn config context.types must_share limit) (val_types_at config context must_share limit most bytes).0
unfolding val_types_at
val_types_drawn config context must_share limit most bytes sanitized may =
    let P = λ (v : ValType). IsValTypeDrawn config context.types must_share limit v in
    grow_all P (λ _. val_type_at config context must_share limit) (λ _ after. val_type_drawn config context must_share limit after sanitized
    may) 0 most [] bytes (All-nil P)

results_few : (config : Config) (context : Context) (must_share : Bool) (limit : ℕ) (bytes : List ℕ)
    → length (val_types_at config context must_share limit (most_results config) bytes).0 ≤ most_results config
unfolding val_types_at
results_few config context must_share limit bytes = grow_most (λ _. val_type_at config context must_share limit) 0 (most_results config)
    (most_results config) [] bytes (omega arith)

several : (b : Bool) (n : ℕ) → n ≤ cond b 20 1 → 1 < n → IsTrue b
several true n le lt = refl
several false n le lt = absurd (omega arith)

-- the properties of a drawn function type
pub record IsFuncTypeDrawn (config : Config) (types : List SubType) (must_share : Bool) (limit : ℕ) (function : FuncType) : Type 0 where
  pub results_few : 1 < length function.results → IsTrue config.multi_value_enabled
  pub params : All (IsValTypeDrawn config types must_share limit) function.params
  pub results : All (IsValTypeDrawn config types must_share limit) function.results

pub func_type_drawn : (config : Config) (context : Context) (must_share : Bool) (limit : ℕ) (bytes : List ℕ) → IsSanitized config
    → MayShare config must_share
    → IsFuncTypeDrawn config context.types must_share limit (func_type_at config context must_share limit bytes).0
unfolding func_type_at
func_type_drawn config context must_share limit bytes sanitized may =
    let after = (val_types_at config context must_share limit 20 bytes).1 in
    record {
      results_few = several config.multi_value_enabled (length (val_types_at config context must_share limit (most_results config) after).0)
          (results_few config context must_share limit after);
      params = val_types_drawn config context must_share limit 20 bytes sanitized may;
      results = val_types_drawn config context must_share limit (most_results config) after sanitized may;
    }

pub func_type_valid : (config : Config) (types : List SubType) (must_share : Bool) (limit : ℕ) (function : FuncType)
    → IsFuncTypeDrawn config types must_share limit function → IsFuncTypeValid (features_of config) limit function
func_type_valid config types must_share limit function h = record {
  results = h.results_few;
  params_valid = values_valid config types must_share limit function.params h.params;
  results_valid = values_valid config types must_share limit function.results h.results;
}

-- the properties of a drawn struct type
pub record IsStructTypeDrawn (config : Config) (types : List SubType) (must_share : Bool) (limit : ℕ) (structure : StructType)
    : Type 0 where
  pub few : length structure.fields ≤ 20
  pub fields : All (IsFieldDrawn config types must_share limit) structure.fields

pub struct_type_drawn : (config : Config) (context : Context) (must_share : Bool) (limit : ℕ) (bytes : List ℕ) → IsSanitized config
    → MayShare config must_share
    → IsStructTypeDrawn config context.types must_share limit (struct_type_at config context must_share limit bytes).0
unfolding struct_type_at
struct_type_drawn config context must_share limit bytes sanitized may =
    let count = range_at 0 20 bytes in
    record {
      few = fields_until_most config context must_share limit count.0 20 [] count.1 (omega arith) (range_within 0 20 bytes (omega arith));
      fields = fields_until_drawn config context must_share limit count.0 [] count.1 sanitized may
          (All-nil (IsFieldDrawn config context.types must_share limit));
    }

-- the value types of drawn fields
pub field_values_drawn : (config : Config) (types : List SubType) (must_share : Bool) (limit : ℕ) (structure : StructType)
    → All (IsFieldDrawn config types must_share limit) structure.fields
    → All (IsValTypeDrawn config types must_share limit) (values_of (inners.Struct structure))
field_values_drawn config types must_share limit structure h =
    let P = λ (field : FieldType). All (IsValTypeDrawn config types must_share limit) (values_of_storage field.element_type) in
    values_of_fields (IsValTypeDrawn config types must_share limit) structure.fields
    (recursion_from_All P structure.fields (All-weaker (IsFieldDrawn config types must_share limit) P (λ field f. f.values) structure.fields
    h))

-- the properties of a drawn composite type, without its sharedness
pub record IsInnerDrawn (config : Config) (types : List SubType) (must_share : Bool) (limit : ℕ) (inner : CompositeInnerType) : Type 0 where
  pub enabled : IsInnerEnabled (features_of config) inner
  pub values : All (IsValTypeDrawn config types must_share limit) (values_of inner)
  pub stands : IsInnerInRange types inner

pub array_drawn : (config : Config) (types : List SubType) (must_share : Bool) (limit : ℕ) (field : FieldType) → IsTrue config.gc_enabled
    → IsFieldDrawn config types must_share limit field
    → IsInnerDrawn config types must_share limit (inners.Array (record { 0 = field }))
array_drawn config types must_share limit field gc h = record { enabled = gc; values = h.values; stands = h.stands }

pub func_drawn : (config : Config) (types : List SubType) (must_share : Bool) (limit : ℕ) (function : FuncType)
    → IsFuncTypeDrawn config types must_share limit function
    → IsInnerDrawn config types must_share limit (inners.Func function)
func_drawn config types must_share limit function h = record {
  enabled = h.results_few;
  values = All-append (IsValTypeDrawn config types must_share limit) function.params function.results h.params h.results;
  stands = record {
    params = All-weaker (IsValTypeDrawn config types must_share limit) (IsValInRange types) (λ v d. d.stands) function.params h.params;
    results = All-weaker (IsValTypeDrawn config types must_share limit) (IsValInRange types) (λ v d. d.stands) function.results h.results;
  };
}

pub struct_drawn : (config : Config) (types : List SubType) (must_share : Bool) (limit : ℕ) (structure : StructType)
    → IsTrue config.gc_enabled → All (IsFieldDrawn config types must_share limit) structure.fields
    → IsInnerDrawn config types must_share limit (inners.Struct structure)
struct_drawn config types must_share limit structure gc h = record {
  enabled = gc;
  values = field_values_drawn config types must_share limit structure h;
  stands = All-weaker (IsFieldDrawn config types must_share limit) (IsFieldInRange types) (λ field d. d.stands) structure.fields h;
}

inner_of_number_drawn : (config : Config) (context : Context) (must_share : Bool) (limit number : ℕ) (bytes : List ℕ) → IsSanitized config
    → MayShare config must_share → ((number ≡ 1 → ⊥) → IsTrue config.gc_enabled)
    → IsInnerDrawn config context.types must_share limit (inner_of_number_at config context must_share limit number bytes).0
inner_of_number_drawn config context must_share limit zero bytes sanitized may gc =
    array_drawn config context.types must_share limit (field_type_at config context must_share limit bytes).0 (gc (λ no. cc))
    (field_type_drawn config context must_share limit bytes sanitized may)
inner_of_number_drawn config context must_share limit (suc zero) bytes sanitized may gc =
    func_drawn config context.types must_share limit (func_type_at config context must_share limit bytes).0
    (func_type_drawn config context must_share limit bytes sanitized may)
inner_of_number_drawn config context must_share limit (suc (suc number)) bytes sanitized may gc =
    struct_drawn config context.types must_share limit (struct_type_at config context must_share limit bytes).0 (gc (λ no. omega arith))
    (struct_type_drawn config context must_share limit bytes sanitized may).fields

number_gc : (gc : Bool) (drawn : ℕ × List ℕ) (bytes : List ℕ) → ((cond gc drawn (1, bytes)).0 ≡ 1 → ⊥) → IsTrue gc
number_gc true drawn bytes other = refl
number_gc false drawn bytes other = absurd (other refl)

-- the properties of a drawn composite type
pub record IsCompositeDrawn (config : Config) (types : List SubType) (limit : ℕ) (composite : CompositeType) : Type 0 where
  pub shared : MayShare config composite.shared
  pub inner : IsInnerDrawn config types composite.shared limit composite.inner

pub composite_type_drawn : (config : Config) (context : Context) (limit : ℕ) (bytes : List ℕ) → IsSanitized config
    → IsCompositeDrawn config context.types limit (composite_type_at config context limit bytes).0
unfolding composite_type_at
composite_type_drawn config context limit bytes sanitized =
    let shared = sharedness_at config false bytes in
    let may = sharedness_may config false bytes (λ no. cc) in
    let number = inner_number_at config shared.1 in
    record {
      shared = may;
      inner = inner_of_number_drawn config context shared.0 limit number.0 number.1 sanitized may
          (number_gc config.gc_enabled (range_at 0 2 shared.1) shared.1);
    }
