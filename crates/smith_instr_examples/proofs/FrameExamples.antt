-- What the bodies of blocks leave and take, from their parts.
use Rattle.smith_instr.specs.declared.control.BlockType.TheVariants as blocks
use Rattle.smith_instr.specs.declared.instr.Instr.TheVariants as instr
use Rattle.smith_instr_examples.proofs.Common.{Ref, funcref, IsValBelow, weakens, ◌≡◌, ℕ, List, [], ◌∷◌, length, refl, ap, ◌∙◌, arith}
use Rattle.smith_instr_examples.proofs.Common.{FuncType, ValType, I32, I64, BodyContext, Stacked, stacked, AreTyped, IsStep, Instr}
use Rattle.smith_instr_examples.proofs.Common.{function_of, number, wide_number}
use Rattle.smith_instr_examples.proofs.BlockExamples.{takes, takes_there, weakens_there}
use Rattle.smith_instr_examples.proofs.ManagedExamples.{func_alone}
use Rattle.smith_instr_examples.proofs.PartLemmas.{Parts, params_alone, and_a_condition}
use Rattle.smith_instr_examples.proofs.PassedLemmas.{passed, ending}
use Rattle.smith_instr_examples.proofs.SequenceExamples.{is_plain, step_of, end_of, height, one_left}

-- the context, inside blocks with these labels
abbrev inside : List (List ValType) → BodyContext
inside labels = record (function_of [] []) { labels = labels }

-- a wide number where another value is wanted
wide_end : {context : BodyContext} {results : List ValType} {set : List ℕ} {a : Stacked} (n : ℕ) (wanted : ValType)
    → (IsValBelow context.types I64 wanted → ⊥) → results ≡ wanted ∷ []
    → AreTyped context (wide_number n ∷ []) a (stacked results set) → ⊥
unfolding is_plain
wide_end n wanted apart is typed =
    let (between, first, rest) = step_of refl typed in
    apart (passed first.framed (ending (end_of rest)) I64 wanted [] first.typed.1 is)

-- a value is taken where there is none
none_taken : {context : BodyContext} {params : List ValType} {set : List ℕ} {b : Stacked} → length params ≡ 0
    → AreTyped context (instr.Drop ∷ []) (stacked params set) b → ⊥
unfolding is_plain
none_taken none typed =
    let (between, first, rest) = step_of refl typed in
    let (enough, high) = height first in
    let one : length first.operands ≡ 1 = ap length first.typed.1.0 in
    omega arith

module _ {labels : List (List ValType)} {label : List ValType → List ValType → List ValType} {needs : List ValType → List ValType}
    {rest : List Instr} {a b : Stacked} where
  pub wide_result : (n : ℕ) → Parts (inside labels) label needs (blocks.Value I32) (wide_number n ∷ []) rest a b → ⊥
  wide_result n parts = wide_end n I32 (λ never. never) parts.fits.2 parts.within

  pub wide_reference : (n : ℕ) → Parts (inside labels) label needs (blocks.Func 4) (instr.Drop ∷ wide_number n ∷ []) rest a b → ⊥
  unfolding is_plain
  wide_reference n parts =
      let (function, at, taken, given) = parts.fits in
      let (between, first, more) = step_of refl parts.within in
      wide_end n (Ref funcref) (λ never. never)
      (given ∙ ap (λ (f : FuncType). f.results) (func_alone (function_of [] []).types 4 weakens function (weakens_there [] []) at)) more

  pub one_more : Parts (inside labels) label needs blocks.Empty (number 1 ∷ []) rest a b → ⊥
  one_more parts = one_left (ap length parts.fits.0) (ap length parts.fits.1) parts.within

  pub below : Parts (inside labels) label needs blocks.Empty (instr.Drop ∷ []) rest a b → ⊥
  below parts = none_taken (ap length parts.fits.0) parts.within

module _ {labels : List (List ValType)} {label : List ValType → List ValType → List ValType} {inner rest : List Instr} {a b c : Stacked}
    (n : ℕ) (first : IsStep (inside labels) (wide_number n) a b) where
  pub wide_parameter : Parts (inside labels) label params_alone (blocks.Func 1) inner rest b c → ⊥
  wide_parameter parts =
      let (function, at, taken, given) = parts.fits in
      passed first.framed parts.framed I64 I32 [] first.typed.1
      (taken ∙ ap (λ (f : FuncType). f.params) (func_alone (function_of [] []).types 1 takes function (takes_there [] []) at))

  pub wide_condition : Parts (inside labels) label and_a_condition blocks.Empty inner rest b c → ⊥
  wide_condition parts = passed first.framed parts.framed I64 I32 parts.params first.typed.1 refl
