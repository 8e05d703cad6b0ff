-- Types that ground a heap type, and types that do not, for the examples.
use Rattle.smith_types_examples.proofs.Common.{◌≡◌, ℕ, zero, suc, Bool, true, false, List, [], ◌∷◌, Some, None, IsTrue, refl, sym, ◌∙◌, inl}
use Rattle.smith_types_examples.proofs.Common.{inr, ap, arith, rules, lit<, slice_get, ◌&&◌, list_any, AbstractHeapType, Abstract, Concrete}
use Rattle.smith_types_examples.proofs.Common.{Exact, SubType, GroundKinds, IsOrderly, is_abstract_below, IsBelow, Features, IsGrounded}
use Rattle.smith_types_examples.proofs.Common.{is_ground, is_ground_of, kind_at, AreGroundKinds, Ref, Val, usual_features, open_type}
use Rattle.smith_types_examples.proofs.Common.{final_type, struct, empty_struct, constant, not_null, plain, context_of, same_Some}
use Rattle.smith_types_examples.proofs.Common.{below_alone, concrete_not_below_exact, grounded_is, abstract_grounded}
use Rattle.smith_types.specs.Syntax.value_type.AbstractHeapType.TheVariants as heap

-- the kinds of grounding structs among these types
abbrev kinds_of : List SubType → GroundKinds
kinds_of types = record { plain = list_any (is_ground_of false) types; shared = list_any (is_ground_of true) types }

kind_known : (types : List SubType) (is_shared : Bool) → kind_at (kinds_of types) is_shared ≡ list_any (is_ground_of is_shared) types
kind_known types true = refl
kind_known types false = refl

kinds_known : (types : List SubType) → AreGroundKinds types (kinds_of types)
kinds_known types = record { each = kind_known types }

module _ (features : Features) (types : List SubType) where
  pub above_a_struct : (s : Bool) (b : AbstractHeapType) → IsOrderly types → (kind_at (kinds_of types) s && is_abstract_below heap.Struct b)
      ≡ true → IsGrounded (context_of features types [] 0) (Abstract s b)
  above_a_struct s b orderly is =
      inl ((abstract_grounded types types (kinds_of types) features.custom_descriptors s b refl orderly (kinds_known types)).0 is)

  pub not_above_a_struct : (s : Bool) (b : AbstractHeapType) → IsOrderly types
      → (kind_at (kinds_of types) s && is_abstract_below heap.Struct b) ≡ false → ¬ IsGrounded (context_of features types [] 0)
      (Abstract s b)
  not_above_a_struct s b orderly off (inl h) =
      let on : IsTrue (kind_at (kinds_of types) s && is_abstract_below heap.Struct b) =
      (abstract_grounded types types (kinds_of types) features.custom_descriptors s b refl orderly (kinds_known types)).1 h in
      let never : true ≡ false = sym on ∙ off in
      cc never
  not_above_a_struct s b orderly off (inr (function, index, at, below)) = cc at

-- creation pushes no exact reference without custom descriptors
pub not_exact : ¬ IsGrounded (context_of usual_features (final_type empty_struct ∷ []) [] 0) (Exact 0)
not_exact (inl (index, g)) = concrete_not_below_exact (final_type empty_struct ∷ []) index 0 g.below
not_exact (inr (function, index, at, below)) = cc at

-- a struct type, and a subtype of it with a field without a default
abbrev closed_field : SubType
closed_field = open_type (Some 0) (struct (constant (Val (Ref (not_null (plain heap.Func)))) ∷ []))

abbrev lower_types : List SubType
lower_types = open_type None empty_struct ∷ closed_field ∷ []

lower_by : (index : ℕ) (t : SubType) → slice_get lower_types index ≡ Some t → is_ground t ≡ true → IsBelow lower_types (Concrete index)
    (Concrete 1) → ⊥
lower_by zero t at on below = below_alone lower_types (search rules) 0 1 closed_field (lit< tt) refl (λ same. omega (arith, same)) below
lower_by (suc zero) t at on below = let same : closed_field ≡ t = same_Some closed_field t at in let never : false ≡ true =
    ap is_ground same ∙ on in cc never
lower_by (suc (suc index)) t at on below = cc at

pub lower_not_grounded : ¬ IsGrounded (context_of usual_features lower_types [] 0) (Concrete 1)
lower_not_grounded (inl (index, g)) = let (t, at, on) = grounded_is lower_types false (Concrete 1) index g in lower_by index t at on g.below
lower_not_grounded (inr (function, index, at, below)) = cc at
