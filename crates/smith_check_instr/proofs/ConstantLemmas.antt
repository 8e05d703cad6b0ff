-- Constants of number types.
use Rattle.smith_check_instr.proofs.Common.{[], BodyContext, Bool, F32, F64, I32, I64, IsValid, List, refl, tried_values, V128, ValType}
use Rattle.smith_check_instr.proofs.Common.{values, ℕ, ◌∷◌}
use Rattle.std.specs.Prelude.{IfOk, MatchBool, Result}
use Rattle.smith_bytes.specs.declared.error.Error.{Error}
use Rattle.smith_types.specs.Syntax.value_type.ValType.TheVariants.{Ref}
use Rattle.smith_instr.specs.declared.instr.Instr.{Instr}
use Rattle.smith_instr.specs.declared.instr.Instr.TheVariants as instr
use Rattle.smith_check_operands.specs.Applies.{Applies, IsTried}
use Rattle.smith_check_operands.specs.Covers.{Held, PopsNothing}
use Rattle.smith_check_instr.specs.Constants.{IsConstantOf, IsNumber}

-- number types are valid
pub number_valid : (context : BodyContext) (ty : ValType) → IsNumber ty → IsValid context ty
number_valid context I32 is = tt
number_valid context I64 is = tt
number_valid context F32 is = tt
number_valid context F64 is = tt
number_valid context V128 is = absurd is
number_valid context (Ref reference) is = absurd is

-- an instruction that pushes a value of a number type is tried as its constants are
pub constant_tried : (context : BodyContext) (labels : List (List ValType)) (set : List ℕ) (ty : ValType) (x : Instr) (old new : Held)
    (r : Result Bool Error) → IsConstantOf ty x
    → IfOk r (λ there. MatchBool there (Applies context (values []) (values (ty ∷ [])) old new) (PopsNothing context (values []) old))
    → IfOk r (λ there. IsTried context labels x set there old new)
constant_tried context labels set I32 x old new r (value, is) applies =
    rw is (tried_values context labels (instr.I32Const value) set [] (I32 ∷ []) [] (I32 ∷ []) old new r (λ os rs t. t) (λ os rs t. t)
    (refl, refl) (λ os rs t. t) refl refl applies)
constant_tried context labels set I64 x old new r (value, is) applies =
    rw is (tried_values context labels (instr.I64Const value) set [] (I64 ∷ []) [] (I64 ∷ []) old new r (λ os rs t. t) (λ os rs t. t)
    (refl, refl) (λ os rs t. t) refl refl applies)
constant_tried context labels set F32 x old new r (value, is) applies =
    rw is (tried_values context labels (instr.F32Const value) set [] (F32 ∷ []) [] (F32 ∷ []) old new r (λ os rs t. t) (λ os rs t. t)
    (refl, refl) (λ os rs t. t) refl refl applies)
constant_tried context labels set F64 x old new r (value, is) applies =
    rw is (tried_values context labels (instr.F64Const value) set [] (F64 ∷ []) [] (F64 ∷ []) old new r (λ os rs t. t) (λ os rs t. t)
    (refl, refl) (λ os rs t. t) refl refl applies)
constant_tried context labels set V128 x old new r is applies = absurd is
constant_tried context labels set (Ref reference) x old new r is applies = absurd is
