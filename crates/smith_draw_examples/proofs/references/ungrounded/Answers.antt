use Rattle.std.proofs.Common.{zero, suc, true, false, List, [], ◌∷◌, None, refl, ap, ◌∙◌, inl, inr, arith}
use Rattle.std.specs.List.{Any}
use Rattle.std.proofs.lemmas.Option.{same_Some}
use Rattle.smith_types.specs.Syntax.value_type.AbstractHeapType.TheVariants as heap
use Rattle.smith_types.specs.Syntax.value_type.HeapType.TheVariants.{Concrete}
use Rattle.smith_types.specs.Syntax.value_type.ValType.TheVariants.{Ref}
use Rattle.smith_types.specs.Syntax.composite_type.StorageType.TheVariants.{Val}
use Rattle.smith_types.specs.Syntax.composite_type.SubType.{SubType}
use Rattle.smith_types.specs.Expressions.{field_values}
use Rattle.smith_types.specs.Grounded.{IsGrounded}
use Rattle.smith_types.specs.Subtyping.{itself}
use Rattle.smith_types.specs.ExampleTypes.{open_type, final_type, struct_and_below, empty_struct, struct, array, constant, plain, not_null}
use Rattle.smith_types.proofs.GroundedLemmas.{grounded_at}
use Rattle.smith_config.specs.Config.{default_config}
use Rattle.smith_draw_types.specs.HeldFields.{fields_of}
use Rattle.smith_config.specs.Granted.{IsUngrounded}
use Rattle.smith_draw_consts.specs.ExampleConstExprs.{context_of_types}
use Rattle.smith_draw_types.proofs.FilledLemmas.{each_none}
use Rattle.smith_draw_examples.proofs.references.ungrounded.Goals as goal

pub returns-clause-to_a_struct : goal.returns-clause-to_a_struct
returns-clause-to_a_struct c =
    λ h. h.1 refl (inl (0, grounded_at struct_and_below false (Concrete 0) 0 (open_type None empty_struct) refl refl itself))

abbrev held_array : List SubType
held_array = final_type (array (constant (Val (Ref (not_null (plain heap.Func)))))) ∷ []

no_function : ¬ IsGrounded (context_of_types held_array) (plain heap.Func)
no_function (inl (zero, g)) =
    let (t, at, is) = g.struct in
    let never = ap (λ (t : SubType). t.composite_type.inner) (same_Some _ t at) ∙ is in
    cc never
no_function (inl (suc index, g)) =
    let (t, at, is) = g.struct in
    cc at
no_function (inr (function, index, at, below)) = cc at

pub returns-clause-in_an_element : goal.returns-clause-in_an_element
returns-clause-in_an_element c = (0, _, omega arith, refl, (0, _, omega arith, refl, (refl, λ on. no_function)))

-- an empty struct, and a struct of a reference to it
abbrev referring : List SubType
referring = final_type empty_struct ∷ final_type (struct (constant (Val (Ref (not_null (Concrete 0)))) ∷ [])) ∷ []

pub returns-clause-in_a_field_that_is_grounded : goal.returns-clause-in_a_field_that_is_grounded
returns-clause-in_a_field_that_is_grounded c =
    let IsLacking = IsUngrounded (record default_config { non_nullable_enabled = true }) (context_of_types referring) in
    each_none (λ (t : SubType). Any IsLacking (field_values (fields_of t.composite_type.inner))) referring (
      each_none IsLacking [] tt,
      (
        each_none IsLacking (Ref (not_null (Concrete 0)) ∷ [])
            ((λ h. h.1 refl (inl (0, grounded_at referring false (Concrete 0) 0 (final_type empty_struct) refl refl itself))), tt),
        tt,
      ),
    )
