-- A body that mixes its local into a sink, and one that doesn't.
use Rattle.smith_program_examples.proofs.Common.{[], Body, Code, FuncType, HasDefinedType, number, refl, subst, sym, ℕ, ◌∷◌, ◌≡◌}
use Rattle.std.proofs.Common.{slice_get, Some, suc, zero, ◌++◌}
use Rattle.std.proofs.lemmas.Option.{same_Some}
use Rattle.smith_types.specs.Syntax.value_type.ValType.TheVariants.{I32}
use Rattle.smith_program.specs.Observed.{AreObserved, mix, observed_body}
use Rattle.smith_program.specs.declared.program.Body.TheVariants as body
use Rattle.smith_program_examples.specs.ExamplePrograms.{constant, gives_number, narrow_function, with_local}
use Rattle.smith_program_examples.proofs.BodyExamples.{only_type, type_alone}

-- the body that is mixed
abbrev mixed : Body
mixed = body.Drawn (number 7 ∷ mix 3 0 I32)

mixed_at : (place : ℕ) (code : Code) (function : FuncType) (given : Body) → slice_get (with_local ∷ []) place ≡ Some code
    → HasDefinedType narrow_function place function → slice_get (constant 7 ∷ []) place ≡ Some given
    → slice_get (mixed ∷ []) place ≡ Some (observed_body 3 (function.params ++ code.locals) given)
mixed_at zero code function given at there was =
    let type_is : function ≡ gives_number = type_alone narrow_function 0 gives_number function only_type there in
    subst (λ (b : Body). slice_get (mixed ∷ []) 0 ≡ Some (observed_body 3 (function.params ++ code.locals) b))
    (same_Some (constant 7) given was)
    (subst (λ (c : Code). slice_get (mixed ∷ []) 0 ≡ Some (observed_body 3 (function.params ++ c.locals) (constant 7)))
    (same_Some with_local code at)
    (subst (λ (f : FuncType). slice_get (mixed ∷ []) 0 ≡ Some (observed_body 3 (f.params ++ with_local.locals) (constant 7))) (sym type_is)
    refl))
mixed_at (suc place) code function given at there was = cc at

pub local_mixed : AreObserved 3 (record narrow_function { code = with_local ∷ [] }) (constant 7 ∷ []) (mixed ∷ [])
local_mixed = record { each = refl; in_place = mixed_at }

pub local_unmixed : AreObserved 3 (record narrow_function { code = with_local ∷ [] }) (constant 7 ∷ []) (constant 7 ∷ []) → ⊥
local_unmixed observes =
    let same : constant 7 ≡ mixed =
    same_Some (constant 7) mixed (observes.in_place 0 with_local gives_number (constant 7) refl only_type refl) in
    cc same
