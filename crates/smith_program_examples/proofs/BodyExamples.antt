-- Types of defined functions, and bodies at their places.
use Rattle.smith_program_examples.proofs.Common.{[], arith, Body, Code, FuncType, HasDefinedType, inl, Instr, length, List, number, refl}
use Rattle.smith_program_examples.proofs.Common.{subst, sym, trapping, ℕ, ◌∙◌, ◌∷◌, ◌≡◌}
use Rattle.std.proofs.Common.{inr, None, slice_get, Some, suc, zero}
use Rattle.std.proofs.lemmas.Option.{same_Some}
use Rattle.smith_types.specs.Entities.{IsFuncAt}
use Rattle.smith_types.specs.ExampleTypes.{final_type, giving}
use Rattle.smith_types.specs.Syntax.value_type.ValType.TheVariants.{I32}
use Rattle.smith_module_rules.specs.Module.{ModuleParts}
use Rattle.smith_instr.specs.Contexts.{labelled}
use Rattle.smith_instr.specs.Sequences.{IsBodyTyped, step}
use Rattle.smith_instr.specs.declared.instr.Instr.TheVariants as instr
use Rattle.smith_instr.proofs.SequenceLemmas.{one, finished}
use Rattle.smith_instr_examples.proofs.ManagedExamples.{func_alone}
use Rattle.smith_instr_examples.proofs.SequenceExamples.{is_plain, step_of, end_height, valid_one}
use Rattle.smith_program.specs.Bodies.{AreBodiesBy, AreBodiesOf, function_context, IsBodyAt, IsOfBody}
use Rattle.smith_program_examples.specs.ExamplePrograms.{after_an_import, narrow_function, gives_number, with_local}

-- a function type with the result i32, at the start of the types and after another
pub number_alone : IsFuncAt narrow_function.types 0 gives_number
number_alone = (final_type (giving (I32 ∷ [])), refl, refl)

pub number_second : IsFuncAt after_an_import.types 1 gives_number
number_second = (final_type (giving (I32 ∷ [])), refl, refl)

pub only_type : HasDefinedType narrow_function 0 gives_number
only_type = (0, refl, number_alone)

pub type_after_import : HasDefinedType after_an_import 0 gives_number
type_after_import = (1, refl, number_second)

pub none_after_last : (function : FuncType) → HasDefinedType after_an_import 1 function → ⊥
none_after_last function (index, at, there) = let never : None ≡ Some index = at in cc

-- a defined function has one type
pub type_alone : (m : ModuleParts) (place : ℕ) (known other : FuncType) → HasDefinedType m place known → HasDefinedType m place other
    → other ≡ known
type_alone m place known other (index, at, there) (found, here, within) =
    let same : found ≡ index = same_Some found index (sym here ∙ at) in
    func_alone m.types index known other there (subst (λ (i : ℕ). IsFuncAt m.types i other) same within)

-- a body is typed with the type of its function
pub typed_as : (m : ModuleParts) (place : ℕ) (code : Code) (instructions : List Instr) (function : FuncType)
    → HasDefinedType m place function → IsBodyAt m place code instructions
    → IsBodyTyped (function_context m function code.locals) instructions
typed_as m place code instructions function there body =
    subst (λ (f : FuncType). IsBodyTyped (function_context m f code.locals) instructions)
    (type_alone m place function body.function there body.there) body.typed

-- a number as the body of a function with the result i32
pub number_at : (m : ModuleParts) (place n : ℕ) → HasDefinedType m place gives_number → IsBodyAt m place trapping (number n ∷ [])
number_at m place n there =
    let context = labelled (function_context m gives_number []) (I32 ∷ []) in
    let valid = valid_one context I32 tt in
    record {
      function = gives_number;
      there = there;
      typed = record {
        set = [];
        typed = step (one context (number n) [] (I32 ∷ []) [] [] [] (refl, refl) valid refl)
            (finished context (I32 ∷ []) [] valid);
      };
    }

pub local_read : IsBodyAt narrow_function 0 with_local (instr.LocalGet 0 ∷ [])
local_read =
    let context = labelled (function_context narrow_function gives_number (I32 ∷ [])) (I32 ∷ []) in
    let valid = valid_one context I32 tt in
    record {
      function = gives_number;
      there = only_type;
      typed = record {
        set = [];
        typed = step (one context (instr.LocalGet 0) [] (I32 ∷ []) [] [] [] (I32, (refl, inr (inl tt)), (refl, refl)) valid refl)
            (finished context (I32 ∷ []) [] valid);
      };
    }

-- no instruction where a result is wanted
pub result_missing : (m : ModuleParts) (place : ℕ) (code : Code) → HasDefinedType m place gives_number → IsBodyAt m place code [] → ⊥
result_missing m place code there body =
    let end : ◌≡◌ {A = ℕ} 0 1 = end_height (typed_as m place code [] gives_number there body).typed in
    omega arith

pub local_missing : IsBodyAt narrow_function 0 trapping (instr.LocalGet 0 ∷ []) → ⊥
unfolding is_plain
local_missing body =
    let (between, first, rest) = step_of refl (typed_as narrow_function 0 trapping (instr.LocalGet 0 ∷ []) gives_number only_type
    body).typed in
    let (value, (at, set), is) = first.typed in
    let never : None ≡ Some value = at in
    cc

-- codes and bodies that have a property, place by place
abbrev pub Each : (ℕ → Code → Body → Type 0) → List Code → List Body → Type 0
Each Is [] bodies = Unit {0}
Each Is (code ∷ codes) [] = Unit {0}
Each Is (code ∷ codes) (given ∷ bodies) = Is 0 code given × Each (λ place. Is (suc place)) codes bodies

each_at : (Is : ℕ → Code → Body → Type 0) (codes : List Code) (bodies : List Body) → Each Is codes bodies
    → (place : ℕ) (code : Code) (given : Body) → slice_get codes place ≡ Some code → slice_get bodies place ≡ Some given
    → Is place code given
each_at Is [] bodies each place code given at there = cc at
each_at Is (first ∷ codes) [] each place code given at there = cc there
each_at Is (first ∷ codes) (top ∷ bodies) each zero code given at there =
    subst (Is 0 code) (same_Some top given there) (subst (λ (c : Code). Is 0 c top) (same_Some first code at) each.0)
each_at Is (first ∷ codes) (top ∷ bodies) each (suc place) code given at there = each_at (λ n. Is (suc n)) codes bodies each.1 place code
    given at there

pub bodies_by : (Is : ℕ → Code → List Instr → Type 0) (m : ModuleParts) (bodies : List Body) → length bodies ≡ length m.code
    → Each (λ place code. IsOfBody (Is place code) code) m.code bodies → AreBodiesBy Is m bodies
bodies_by Is m bodies same each = record {
  each = same;
  in_place = each_at (λ place code. IsOfBody (Is place code) code) m.code bodies
      each;
}

pub all_bodies : (m : ModuleParts) (bodies : List Body) → length bodies ≡ length m.code
    → Each (λ place code. IsOfBody (IsBodyAt m place code) code) m.code bodies → AreBodiesOf m bodies
all_bodies m bodies same each = bodies_by (IsBodyAt m) m bodies same each
