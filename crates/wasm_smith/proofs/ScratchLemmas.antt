-- A valid module stays valid with the scratch globals.
use Rattle.wasm_smith.proofs.Common.{[], All, All-cons, All-nil, arith, Bool, ConstInstr, Context, Err, Error, false, Features, IsConstExpr}
use Rattle.wasm_smith.proofs.Common.{IsTrue, IsValid, length, List, module_features, ModuleParts, Ok, pos, refl, Result, subst, sym, true}
use Rattle.wasm_smith.proofs.Common.{ValType, ℕ, ◌++◌, ◌+◌, ◌∷◌, ◌≡◌}
use Rattle.smith_types.specs.Expressions.{HasType}
use Rattle.smith_types.specs.Flags.{IsInstrEnabled}
use Rattle.smith_types.specs.Subtyping.{IsValBelow}
use Rattle.smith_types.specs.Syntax.value_type.ValType.TheVariants.{F32, F64, V128}
use Rattle.smith_types.specs.Syntax.const_instr.ConstInstr.TheVariants.{F32Const, F64Const, V128Const}
use Rattle.smith_types.proofs.ConstStepLemmas.{alone}
use Rattle.wasm_smith.specs.Scratch.{scratch, scratch_definitions, has_vectors, AddsScratch, AnswersScratch}
use Rattle.wasm_smith.specs.AddedGlobals.{added_definitions}
use Rattle.wasm_smith.proofs.AddedGlobalLemmas.{IsAddable, all_added_valid}

-- a type of the scratch globals with its initialiser
abbrev narrow : ValType × ConstInstr
narrow = (F32, F32Const 0)

abbrev wide : ValType × ConstInstr
wide = (F64, F64Const 0)

abbrev vector : ValType × ConstInstr
vector = (V128, V128Const (pos 0))

-- all of them, without vectors and with them
abbrev floats : List (ValType × ConstInstr)
floats = narrow ∷ wide ∷ []

abbrev all_zeros : List (ValType × ConstInstr)
all_zeros = narrow ∷ wide ∷ vector ∷ []

all_zeros_defined : (first : ℕ) → scratch_definitions true first ≡ added_definitions first all_zeros
all_zeros_defined first = let same : first + 2 ≡ first + 1 + 1 = omega arith in rw same refl

-- a constant of its type, alone, is an initialiser where it is enabled
constant_given : (context : Context) (value : ValType) (instruction : ConstInstr) → HasType context instruction [] value
    → IsValBelow context.types value value → IsInstrEnabled context.features context.imported_globals instruction
    → IsConstExpr context value (instruction ∷ [])
constant_given context value instruction typed below enabled =
    let P = IsInstrEnabled context.features context.imported_globals in
    alone context instruction value value typed below (All-cons P instruction [] enabled (All-nil P))

module _ (features : Features) (types : ℕ) where
  abbrev P : ValType × ConstInstr → Type 0
  P = IsAddable features types

  narrow_addable : P narrow
  narrow_addable = record { value = tt; given = λ context same. constant_given context F32 (F32Const 0) (refl, refl) tt tt }

  wide_addable : P wide
  wide_addable = record { value = tt; given = λ context same. constant_given context F64 (F64Const 0) (refl, refl) tt tt }

  floats_addable : All P floats
  floats_addable = All-cons P narrow (wide ∷ []) narrow_addable (All-cons P wide [] wide_addable (All-nil P))

  vector_addable : IsTrue features.simd → P vector
  vector_addable simd = record {
    value = simd;
    given = λ context same. constant_given context V128 (V128Const (pos 0)) (refl, refl) tt
        (subst (λ (features : Features). IsTrue features.simd) (sym same) simd);
  }

  all_addable : IsTrue features.simd → All P all_zeros
  all_addable simd =
      All-cons P narrow (wide ∷ vector ∷ []) narrow_addable
      (All-cons P wide (vector ∷ []) wide_addable (All-cons P vector [] (vector_addable simd) (All-nil P)))

-- a module with the scratch globals for vectors or without them, of which the first has this index
abbrev scratched : Bool → ℕ → ModuleParts → ModuleParts
scratched vectors first m = record m {
  globals = m.globals ++ scratch vectors;
  defined_globals = m.defined_globals ++ scratch_definitions vectors first;
}

scratched_valid : (vectors : Bool) (first : ℕ) (old new : ModuleParts) → has_vectors old ≡ vectors → first ≡ length old.globals
    → new ≡ scratched vectors first old → IsValid old → IsValid new
scratched_valid false first old after are next is valid =
    all_added_valid floats first (scratch_definitions false first) old after (floats_addable (module_features old) (length old.types))
    refl next is valid
scratched_valid true first old after are next is valid =
    all_added_valid all_zeros first (scratch_definitions true first) old after
    (all_addable (module_features old) (length old.types) are) (all_zeros_defined first) next is valid

pub adds_scratch_valid : (first : ℕ) (old new : ModuleParts) → AddsScratch first old new → IsValid old → IsValid new
adds_scratch_valid first old after adds valid = scratched_valid (has_vectors old) first old after refl adds.next adds.added valid

-- a valid module stays valid, whatever the result
pub scratch_answered_valid : (old new : ModuleParts) (result : Result ℕ Error) → AnswersScratch old new result → IsValid old → IsValid new
scratch_answered_valid old after (Ok first) adds valid = adds_scratch_valid first old after adds valid
scratch_answered_valid old after (Err error) (reason, kept) valid = subst IsValid (sym kept) valid
