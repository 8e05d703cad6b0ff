-- Kinds of instructions, their sets as bits, and their names.
use Rattle.std.specs.Prelude.{Bool, ◌-◌, if◌then◌else◌, ◌≡◌, ℕ, ◌+◌, ◌^◌, List, [], ◌∷◌, take, codes, bit_or, fold, map, Result, Ok, Err}
use Rattle.std.specs.Prelude.{slice_get, Some}
use Rattle.std.specs.List.{AllZip}
use Rattle.smith_syntax.specs.SplitTexts.{split_at_commas}
use Rattle.std.specs.Char.{to_ascii_lowercase}
use Rattle.smith_syntax.specs.declared.instruction_kind.InstructionKind.{InstructionKind}
use Rattle.smith_syntax.specs.declared.instruction_kind.InstructionKind.TheVariants.{
  NumericInt,
  Numeric,
  VectorInt,
  Vector,
  Reference,
  Parametric,
  Variable,
  Table,
  MemoryInt,
  Memory,
  Control,
  Aggregate,
}
use Rattle.smith_syntax.specs.declared.instruction_kind.InstructionKinds.{InstructionKinds}
use Rattle.smith_syntax.specs.declared.instruction_kind.UnknownKind.{UnknownKind}

-- the bits of a kind: its own bit, and for a kind with floats also the bit of its counterpart
-- without floats
abbrev pub kind_bits : InstructionKind → ℕ
kind_bits NumericInt = 2 ^ 0
kind_bits Numeric = 2 ^ 1 + 2 ^ 0
kind_bits VectorInt = 2 ^ 2
kind_bits Vector = 2 ^ 3 + 2 ^ 2
kind_bits Reference = 2 ^ 4
kind_bits Parametric = 2 ^ 5
kind_bits Variable = 2 ^ 6
kind_bits Table = 2 ^ 7
kind_bits MemoryInt = 2 ^ 8
kind_bits Memory = 2 ^ 9 + 2 ^ 8
kind_bits Control = 2 ^ 10
kind_bits Aggregate = 2 ^ 11

-- the bits that only kinds with floats have: one each for Numeric, Vector and Memory
abbrev pub float_bits : ℕ
float_bits = 2 ^ 1 + 2 ^ 3 + 2 ^ 9

-- the bits of a set of kinds
abbrev pub kinds_bits : InstructionKinds → ℕ
kinds_bits kinds = kinds.0

-- the set of all kinds, and the empty set
abbrev pub every_kind : InstructionKinds
every_kind = record { 0 = 2 ^ 12 - 1 }

abbrev pub no_kind : InstructionKinds
no_kind = record { 0 = 0 }

-- the set, with `kind` added if `wanted` is true
unfoldable pub with_kind : InstructionKinds → Bool → InstructionKind → InstructionKinds
with_kind kinds wanted kind = record { 0 = if wanted then bit_or kinds.0 (kind_bits kind) else kinds.0 }

-- the bits of several kinds
abbrev pub union_of : List InstructionKind → ℕ
union_of kinds = fold (λ bits kind. bit_or bits (kind_bits kind)) 0 kinds

-- the name of a kind
abbrev pub instruction_kind_name : InstructionKind → List ℕ
instruction_kind_name NumericInt = codes "numeric_non_float"
instruction_kind_name Numeric = codes "numeric"
instruction_kind_name VectorInt = codes "vector_non_float"
instruction_kind_name Vector = codes "vector"
instruction_kind_name Reference = codes "reference"
instruction_kind_name Parametric = codes "parametric"
instruction_kind_name Variable = codes "variable"
instruction_kind_name Table = codes "table"
instruction_kind_name MemoryInt = codes "memory_non_float"
instruction_kind_name Memory = codes "memory"
instruction_kind_name Control = codes "control"
instruction_kind_name Aggregate = codes "aggregate"

-- the flag of each kind
abbrev pub kind_table : List (List ℕ × ℕ)
kind_table =
    (codes "NUMERIC_INT", 1) ∷
    (codes "NUMERIC", 3) ∷
    (codes "VECTOR_INT", 4) ∷
    (codes "VECTOR", 12) ∷
    (codes "REFERENCE", 16) ∷
    (codes "PARAMETRIC", 32) ∷
    (codes "VARIABLE", 64) ∷
    (codes "TABLE", 128) ∷
    (codes "MEMORY_INT", 256) ∷
    (codes "MEMORY", 768) ∷
    (codes "CONTROL", 1024) ∷
    (codes "AGGREGATE", 2048) ∷
    []

-- the text is the name of the kind, ignoring case
abbrev pub IsNamed : List ℕ → InstructionKind → Type 0
IsNamed text kind = map to_ascii_lowercase text ≡ instruction_kind_name kind

-- the result of parsing a kind: the kind that the text names, or an error if the text names none
abbrev pub IsReadKind : List ℕ → Result InstructionKind UnknownKind → Type 0
IsReadKind text (Ok kind) = IsNamed text kind
IsReadKind text (Err e) = ((kind : InstructionKind) → ¬ IsNamed text kind) × (e.part ≡ 0)

-- the part at `place` names no kind, and each part before it names a kind
pub record IsFirstUnknown (parts : List (List ℕ)) (place : ℕ) : Type 0 where
  pub text : List ℕ
  pub there : slice_get parts place ≡ Some text
  pub unknown : (kind : InstructionKind) → ¬ IsNamed text kind
  pub kinds : List InstructionKind
  pub before : AllZip IsNamed (take place parts) kinds

-- the result of parsing a set: the kinds that the parts of the text name, or the position of the
-- first part that names no kind
abbrev pub AreReadKinds : List ℕ → Result InstructionKinds UnknownKind → Type 0
AreReadKinds text (Ok all) = (kinds : List InstructionKind) × AllZip IsNamed (split_at_commas text) kinds
    × (kinds_bits all ≡ union_of kinds)
AreReadKinds text (Err e) = IsFirstUnknown (split_at_commas text) e.part
