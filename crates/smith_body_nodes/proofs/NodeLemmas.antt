-- Nodes that leave the values of their types.
use Rattle.smith_body_nodes.proofs.Common.{[], AllPass-from_list_all, ap, AreValid, arith, below_themselves, BodyContext, Bool, drop, F32}
use Rattle.smith_body_nodes.proofs.Common.{F64, false, get_or, I32, I64, IsOrderly, IsValBelow, IsValid, length, List, list_all, Ref, refl}
use Rattle.smith_body_nodes.proofs.Common.{same_Some, slice_get, Some, SubType, suc, true, V128, ValType, zero, ℕ, ◌+◌, ◌∷◌, ◌≡◌, ◌≤◌}
use Rattle.std.specs.List.{AllZip}
use Rattle.std.proofs.lemmas.List.Elements.{All-nil, All-append, All-push}
use Rattle.smith_types.specs.Entities.{IsFuncAt}
use Rattle.smith_types.specs.Syntax.composite_type.FuncType.{FuncType}
use Rattle.smith_instr.specs.Contexts.{address}
use Rattle.smith_instr.specs.declared.instr.Instr.TheVariants as instr
use Rattle.smith_body_nodes.specs.Scopes.{func_size, widest}
use Rattle.smith_body_nodes.specs.Nodes.{IsNode, node_of}
use Rattle.smith_body_nodes.specs.Offered.{is_first_below}
use Rattle.smith_body_nodes.proofs.OfferLemmas.{tested}

pub three_wide : (types : List SubType) → 3 ≤ widest types
unfolding widest
three_wide [] = omega arith
three_wide (t ∷ types) = let rest = three_wide types in omega arith

pub one_valid : (context : BodyContext) (value : ValType) → IsValid context value → AreValid context (value ∷ [])
one_valid context value valid = All-push (IsValid context) [] value (All-nil (IsValid context)) valid

pub no_valid : (context : BodyContext) → AreValid context []
no_valid context = All-nil (IsValid context)

pub more_valid : (context : BodyContext) (value : ValType) (values : List ValType) → IsValid context value → AreValid context values
    → AreValid context (value ∷ values)
more_valid context value values valid more = All-append (IsValid context) (value ∷ []) values (one_valid context value valid) more

-- a number type
unfoldable pub is_number : ValType → Bool
is_number I32 = true
is_number I64 = true
is_number F32 = true
is_number F64 = true
is_number _ = false

number_valid : (context : BodyContext) (value : ValType) → is_number value ≡ true → IsValid context value
unfolding is_number
number_valid context I32 is = tt
number_valid context I64 is = tt
number_valid context F32 is = tt
number_valid context F64 is = tt
number_valid context V128 is = cc
number_valid context (Ref reference) is = cc

pub numbers_valid : (context : BodyContext) (values : List ValType) → list_all is_number values ≡ true → AreValid context values
numbers_valid context values numbers = λ k d inside. number_valid context (get_or values k d)
    (AllPass-from_list_all is_number values numbers k d inside)

-- whether the first of some types is this number type
unfoldable pub begins : ValType → List ValType → Bool
begins I32 (I32 ∷ more) = true
begins I64 (I64 ∷ more) = true
begins F32 (F32 ∷ more) = true
begins F64 (F64 ∷ more) = true
begins _ _ = false

pub begins_with : (wanted : ValType) (values : List ValType) → begins wanted values ≡ true → values ≡ wanted ∷ drop 1 values
unfolding begins
begins_with I32 (I32 ∷ more) is = refl
begins_with I64 (I64 ∷ more) is = refl
begins_with F32 (F32 ∷ more) is = refl
begins_with F64 (F64 ∷ more) is = refl
begins_with _ _ is = cc

wide_at : (types : List SubType) (index : ℕ) (t : SubType) → slice_get types index ≡ Some t
    → func_size t.composite_type.inner ≤ widest types
unfolding widest
wide_at [] index t at = cc
wide_at (u ∷ types) zero t at = let same : func_size u.composite_type.inner ≡ func_size t.composite_type.inner =
    ap (λ (t : SubType). func_size t.composite_type.inner) (same_Some u t at) in omega arith
wide_at (u ∷ types) (suc index) t at = let rest = wide_at types index t at in omega arith

pub func_wide : (types : List SubType) (index : ℕ) (function : FuncType) → IsFuncAt types index function
    → length function.params + length function.results ≤ widest types
func_wide types index function (t, at, is) =
    let size : func_size t.composite_type.inner ≡ length function.params + length function.results = ap func_size is in
    let wide = wide_at types index t at in
    omega arith

-- the parameters of functions are valid
abbrev pub AreParamsValid : BodyContext → Type 0
AreParamsValid context = (index : ℕ) (function : FuncType) → IsFuncAt context.types index function → AreValid context function.params

-- the first of these values matches the wanted type
pub zip_length : {A B : Type 0} (R : A → B → Type 0) (xs : List A) (ys : List B) → AllZip R xs ys → length xs ≡ length ys
zip_length R [] [] zip = refl
zip_length R [] (y ∷ ys) zip = absurd zip
zip_length R (x ∷ xs) [] zip = absurd zip
zip_length R (x ∷ xs) (y ∷ ys) (first, more) = ap suc (zip_length R xs ys more)

pub first_below : (types : List SubType) → IsOrderly types → (wanted : ValType) (values : List ValType) → is_first_below types wanted values
    ≡ true → AllZip (IsValBelow types) values (wanted ∷ drop 1 values)
first_below types orderly wanted [] is = cc
first_below types orderly wanted (value ∷ more) is = (tested types orderly value wanted is, below_themselves types more)

pub address_valid : (context : BodyContext) (wide : Bool) → IsValid context (address wide)
address_valid context true = tt
address_valid context false = tt

-- `nop` and `unreachable` leave no value
pub nop_node : (context : BodyContext) (set : List ℕ) → IsNode context set [] (node_of [] instr.Nop 0)
nop_node context set = record {
  results = [];
  dropped = [];
  typed = λ more. (refl, refl);
  below = tt;
  given = no_valid context;
  spare = no_valid context;
  drops = refl;
  sets_local = refl;
  few = let many = three_wide context.types in omega arith;
  valid = no_valid context;
  inside = tt;
}

pub stop_node : (context : BodyContext) (set : List ℕ) → IsNode context set [] (node_of [] instr.Unreachable 0)
stop_node context set = record {
  results = [];
  dropped = [];
  typed = λ more. ([], refl, no_valid context);
  below = tt;
  given = no_valid context;
  spare = no_valid context;
  drops = refl;
  sets_local = refl;
  few = let many = three_wide context.types in omega arith;
  valid = no_valid context;
  inside = tt;
}
