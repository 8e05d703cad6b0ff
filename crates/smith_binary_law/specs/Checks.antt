-- The checks of fuel counters as instructions: the section Binary Format, Instructions, of the
-- WebAssembly Core Specification 3.0.
use Rattle.std.specs.Prelude.{◌≡◌, ℕ, List, [], ◌∷◌, pos}
use Rattle.smith_binary.specs.Numbers.{IsSigned}
use Rattle.smith_binary.specs.Pieces.{IsByte, Joined}
use Rattle.smith_binary_sections.specs.Instructions.{IsIndex}

-- `global.get` and `global.set` (Variable Instructions)
abbrev pub IsGlobalGet : ℕ → List ℕ → Type 0
IsGlobalGet index = Joined (IsByte 0x23) (IsIndex index)

abbrev pub IsGlobalSet : ℕ → List ℕ → Type 0
IsGlobalSet index = Joined (IsByte 0x24) (IsIndex index)

-- `if` without parameters and results, with `unreachable` alone (Control Instructions)
abbrev pub IsTrapIf : List ℕ → Type 0
IsTrapIf = Joined (IsByte 0x04) (Joined (IsByte 0x40) (Joined (IsByte 0x00) (IsByte 0x0B)))

-- `i32.const 1` (Numeric Instructions)
abbrev pub IsOne : List ℕ → Type 0
IsOne = Joined (IsByte 0x41) (IsSigned 32 (pos 1))

-- the check of a fuel counter: `global.get`, `i32.eqz`, `if`; then `global.get`, `i32.const 1`,
-- `i32.sub`, `global.set`
abbrev pub IsCheck : ℕ → List ℕ → Type 0
IsCheck counter =
    Joined (IsGlobalGet counter)
    (Joined (IsByte 0x45) (Joined IsTrapIf (Joined (IsGlobalGet counter) (Joined IsOne (Joined (IsByte 0x6B) (IsGlobalSet counter))))))

-- the checks of all counters, the last counter first
abbrev pub IsChecks : List ℕ → List ℕ → Type 0
IsChecks [] piece = piece ≡ []
IsChecks (counter ∷ counters) piece = Joined (IsChecks counters) (IsCheck counter) piece

-- the expression of a body that is not raw bytes: the checks, `unreachable` and `end`
abbrev pub IsChecked : List ℕ → List ℕ → Type 0
IsChecked counters = Joined (IsChecks counters) (Joined (IsByte 0x00) (IsByte 0x0B))
