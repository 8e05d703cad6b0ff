-- A valid module stays valid with the sinks.
use Rattle.wasm_smith.proofs.Common.{[], All, All-cons, All-nil, arith, ConstInstr, Context, Err, Error, Features, I32Const, IsConstExpr}
use Rattle.wasm_smith.proofs.Common.{IsValid, length, List, module_features, ModuleParts, Ok, pos, refl, Result, subst, sym, ValType, ℕ}
use Rattle.wasm_smith.proofs.Common.{◌+◌, ◌∷◌, ◌≡◌}
use Rattle.smith_types.specs.Flags.{IsInstrEnabled}
use Rattle.smith_types.specs.Syntax.value_type.ValType.TheVariants.{I32, I64}
use Rattle.smith_types.specs.Syntax.const_instr.ConstInstr.TheVariants.{I64Const}
use Rattle.smith_types.proofs.ConstStepLemmas.{alone, number_given}
use Rattle.wasm_smith.specs.Sinks.{sink_definitions, AddsSinks, AnswersSinks}
use Rattle.wasm_smith.specs.AddedGlobals.{added_definitions}
use Rattle.wasm_smith.proofs.AddedGlobalLemmas.{IsAddable, all_added_valid}

-- the types of the sinks, each with its initialiser
abbrev zeros : List (ValType × ConstInstr)
zeros = (I32, I32Const (pos 0)) ∷ (I64, I64Const (pos 0)) ∷ (I64, I64Const (pos 0)) ∷ []

zeros_defined : (first : ℕ) → sink_definitions first ≡ added_definitions first zeros
zeros_defined first = let same : first + 2 ≡ first + 1 + 1 = omega arith in rw same refl

wide_given : (context : Context) → IsConstExpr context I64 (I64Const (pos 0) ∷ [])
wide_given context = alone context (I64Const (pos 0)) I64 I64 (refl, refl) tt
    (All-cons (IsInstrEnabled context.features context.imported_globals) (I64Const (pos 0)) [] tt
    (All-nil (IsInstrEnabled context.features context.imported_globals)))

zeros_addable : (features : Features) (types : ℕ) → All (IsAddable features types) zeros
zeros_addable features types =
    let P = IsAddable features types in
    let zero : ValType × ConstInstr = (I32, I32Const (pos 0)) in
    let wide_zero : ValType × ConstInstr = (I64, I64Const (pos 0)) in
    let narrow : P zero = record { value = tt; given = λ context same. number_given context (pos 0) } in
    let wide : P wide_zero = record { value = tt; given = λ context same. wide_given context } in
    All-cons P zero (wide_zero ∷ wide_zero ∷ []) narrow
    (All-cons P wide_zero (wide_zero ∷ []) wide (All-cons P wide_zero [] wide (All-nil P)))

pub adds_sinks_valid : (first : ℕ) (old new : ModuleParts) → AddsSinks first old new → IsValid old → IsValid new
adds_sinks_valid first old after adds valid =
    all_added_valid zeros first (sink_definitions first) old after (zeros_addable (module_features old) (length old.types))
    (zeros_defined first) adds.next adds.added valid

-- a valid module stays valid, whatever the result
pub sinks_answered_valid : (old new : ModuleParts) (result : Result ℕ Error) → AnswersSinks old new result → IsValid old → IsValid new
sinks_answered_valid old after (Ok first) (no_bytes, adds) valid = adds_sinks_valid first old after adds valid
sinks_answered_valid old after (Err error) (reason, kept) valid = subst IsValid (sym kept) valid
