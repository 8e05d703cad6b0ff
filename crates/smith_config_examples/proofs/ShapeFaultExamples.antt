-- Lemmas for the examples of faulty shapes: types that are not valid.
use Rattle.smith_config_examples.proofs.Common.{◌≡◌, ◌<◌, true, false, List, [], ◌∷◌, Some, None, refl, sym, subst, arith, All-head}
use Rattle.smith_config_examples.proofs.Common.{same_Some, Features, IsAlike, IsTypeValid, IsGroupValid, AreTypesValid, IsShareable, Val}
use Rattle.smith_config_examples.proofs.Common.{SubType, open_type, final_type, shared_type, struct, empty_struct, plain_func, constant}
use Rattle.smith_config_examples.proofs.Common.{range, anyref, referring_type, referring_after, space_of}
use Rattle.smith_types.specs.Syntax.value_type.AbstractHeapType.TheVariants as heap

module _ (features : Features) where
  pub below_itself : ¬ AreTypesValid features (space_of ((open_type (Some 0) empty_struct ∷ []) ∷ []))
  below_itself valid = let less : 0 < 0 = (valid.orderly.under 0 0 (open_type (Some 0) empty_struct) refl refl).0 in omega (arith, less)

  pub below_another_kind : ¬ AreTypesValid features (space_of ((open_type None plain_func ∷ open_type (Some 0) empty_struct ∷ []) ∷ []))
  below_another_kind valid =
      let alike : IsAlike (open_type (Some 0) empty_struct) (open_type None plain_func) =
      (valid.orderly.under 1 0 (open_type (Some 0) empty_struct) refl refl).1 (open_type None plain_func) refl in
      let never : heap.Struct ≡ heap.Func = alike.kind in
      cc never

  pub below_a_final_type : ¬ AreTypesValid features (space_of ((final_type empty_struct ∷ open_type (Some 0) empty_struct ∷ []) ∷ []))
  below_a_final_type valid =
      let types : List SubType = final_type empty_struct ∷ open_type (Some 0) empty_struct ∷ [] in
      let group : IsGroupValid features types (range 0 2) = valid.groups 0 (range 0 2) (omega arith) in
      let second : IsTypeValid features types 2 (open_type (Some 0) empty_struct) = group.members 1 (open_type (Some 0) empty_struct)
      (omega arith) (omega arith) refl in
      let (supertype, at, h) = second.declared 0 refl in
      let same : final_type empty_struct ≡ supertype = same_Some (final_type empty_struct) supertype at in
      let never : true ≡ false = subst (λ (t : SubType). t.is_final ≡ false) (sym same) h.not_final in
      cc never

  pub reference_after_its_group : ¬ AreTypesValid features (space_of ((referring_type ∷ []) ∷ (final_type empty_struct ∷ []) ∷ []))
  reference_after_its_group valid = referring_after features (valid.groups 0 (range 0 1) (omega arith))

  pub shared_field_of_unshared : ¬ AreTypesValid features (space_of ((shared_type (struct (constant (Val anyref) ∷ [])) ∷ []) ∷ []))
  shared_field_of_unshared valid =
      let shared : SubType = shared_type (struct (constant (Val anyref) ∷ [])) in
      let group : IsGroupValid features (shared ∷ []) (range 0 1) = valid.groups 0 (range 0 1) (omega arith) in
      let first : IsTypeValid features (shared ∷ []) 1 shared = group.members 0 shared (omega arith) (omega arith) refl in
      let never : false ≡ true = All-head (IsShareable (shared ∷ [])) anyref [] (first.shareable refl) in
      cc never

-- a type that is not final requires garbage collection
pub not_final_without_gc : (features : Features) → features.gc ≡ false
    → ¬ AreTypesValid features (space_of ((open_type None plain_func ∷ []) ∷ []))
not_final_without_gc features off valid =
    let types : List SubType = open_type None plain_func ∷ [] in
    let group : IsGroupValid features types (range 0 1) = valid.groups 0 (range 0 1) (omega arith) in
    let first : IsTypeValid features types 1 (open_type None plain_func) = group.members 0 (open_type None plain_func) (omega arith)
    (omega arith) refl in
    let on : features.gc ≡ true = first.enabled.not_final refl in
    let never : false ≡ true = subst (λ b. b ≡ true) off on in
    cc never
