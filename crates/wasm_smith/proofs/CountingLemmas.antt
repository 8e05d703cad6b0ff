-- A valid module stays valid with one more global, which counts fuel.
use Rattle.wasm_smith.proofs.Common.{[], All-append, All-cons, All-nil, arith, Err, Error, I32Const, IsCounterGlobal, IsValid, length}
use Rattle.wasm_smith.proofs.Common.{module_imports, ModuleParts, Ok, Result, subst, sym, ℕ, ◌++◌, ◌∷◌}
use Rattle.std.specs.Int.{cast_signed, w32}
use Rattle.std.specs.List.{All}
use Rattle.smith_types.proofs.ConstStepLemmas.{number_given}
use Rattle.smith_types.proofs.ListLemmas.{slice_get-last}
use Rattle.wasm_smith.specs.Termination.{counter, AddsCounter, AnswersCounter}
use Rattle.wasm_smith.proofs.AddedGlobalLemmas.{all_globals, defined_valid, still_counters}

-- a module with a counter of this index
abbrev counted : ℕ → ℕ → ModuleParts → ModuleParts
counted fuel index m = record m {
  globals = m.globals ++ counter ∷ [];
  defined_globals = m.defined_globals ++ (index, I32Const (cast_signed w32 fuel) ∷ []) ∷ [];
  fuel_globals = m.fuel_globals ++ index ∷ [];
}

counters_valid : (m : ModuleParts) → IsValid m
    → All (IsCounterGlobal (m.globals ++ counter ∷ []) (length (module_imports m).globals)) (m.fuel_globals ++ length m.globals ∷ [])
counters_valid m valid =
    let P = IsCounterGlobal (m.globals ++ counter ∷ []) (length (module_imports m).globals) in
    let known = all_globals m valid in
    All-append P m.fuel_globals (length m.globals ∷ []) (still_counters m counter valid)
    (All-cons P (length m.globals) [] (record { defined = omega (arith, known); stands = slice_get-last m.globals counter }) (All-nil P))

counted_valid : (fuel : ℕ) (m : ModuleParts) → IsValid m → IsValid (counted fuel (length m.globals) m)
counted_valid fuel m valid = defined_valid counter (I32Const (cast_signed w32 fuel) ∷ []) (m.fuel_globals ++ length m.globals ∷ []) m valid
    (number_given _ (cast_signed w32 fuel)) (record { value = tt; shared = λ never. cc }) (counters_valid m valid)

pub adds_valid : (fuel index : ℕ) (old new : ModuleParts) → AddsCounter fuel index old new → IsValid old → IsValid new
adds_valid fuel index old after adds valid = subst IsValid (sym adds.added) (subst (λ n. IsValid (counted fuel n old)) (sym adds.last)
    (counted_valid fuel old valid))

-- a valid module stays valid, whatever the result
pub answered_valid : (fuel : ℕ) (old new : ModuleParts) (result : Result ℕ Error) → AnswersCounter fuel old new result → IsValid old
    → IsValid new
answered_valid fuel old after (Ok index) (no_bytes, adds) valid = adds_valid fuel index old after adds valid
answered_valid fuel old after (Err error) (reason, kept) valid = subst IsValid (sym kept) valid
