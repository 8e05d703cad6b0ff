-- Aggregate instructions: the section Binary Format, Instructions, Aggregate Instructions, of the
-- WebAssembly Core Specification 3.0. The shared i31 follows the shared-everything-threads
-- proposal.
use Rattle.std.specs.Prelude.{ℕ, ◌+◌, List}
use Rattle.smith_binary_instr.specs.Common.{any, IsIndexIn, IsPrefixedIn, Joined, Spelling}
use Rattle.smith_instr.specs.declared.aggregate.AggregateInstr.{AggregateInstr}
use Rattle.smith_instr.specs.declared.aggregate.AggregateInstr.TheVariants as aggregate
use Rattle.smith_instr.specs.declared.aggregate.Extension.{Extension}
use Rattle.smith_instr.specs.declared.aggregate.Extension.TheVariants as extension

-- the number of a `get` instruction: `first` for an unpacked field, `first + 1` for one extended by
-- its sign, `first + 2` for one extended by zeros (Aggregate Instructions)
abbrev pub get_number : ℕ → Extension → ℕ
get_number first extension.Unpacked = first
get_number first extension.Signed = first + 1
get_number first extension.Unsigned = first + 2

-- the prefix 0xFB, a number and two indices (Aggregate Instructions)
abbrev pub IsOnTwoIn : Spelling → ℕ → ℕ → ℕ → List ℕ → Type 0
IsOnTwoIn spelling number first second = Joined (IsPrefixedIn spelling 0xFB number)
    (Joined (IsIndexIn spelling first) (IsIndexIn spelling second))

abbrev pub IsOnTwo : ℕ → ℕ → ℕ → List ℕ → Type 0
IsOnTwo = IsOnTwoIn any

-- the prefix 0xFB, a number and one index (Aggregate Instructions)
abbrev pub IsOnIn : Spelling → ℕ → ℕ → List ℕ → Type 0
IsOnIn spelling number index = Joined (IsPrefixedIn spelling 0xFB number) (IsIndexIn spelling index)

abbrev pub IsOn : ℕ → ℕ → List ℕ → Type 0
IsOn = IsOnIn any

-- an aggregate instruction (Aggregate Instructions)
abbrev pub IsAggregateIn : Spelling → AggregateInstr → List ℕ → Type 0
IsAggregateIn spelling (aggregate.StructNew ty) piece = IsOnIn spelling 0 ty piece
IsAggregateIn spelling (aggregate.StructNewDefault ty) piece = IsOnIn spelling 1 ty piece
IsAggregateIn spelling (aggregate.StructGet ty field extended) piece = IsOnTwoIn spelling (get_number 2 extended) ty field piece
IsAggregateIn spelling (aggregate.StructSet ty field) piece = IsOnTwoIn spelling 5 ty field piece
IsAggregateIn spelling (aggregate.ArrayNew ty) piece = IsOnIn spelling 6 ty piece
IsAggregateIn spelling (aggregate.ArrayNewDefault ty) piece = IsOnIn spelling 7 ty piece
IsAggregateIn spelling (aggregate.ArrayNewFixed ty size) piece = IsOnTwoIn spelling 8 ty size piece
IsAggregateIn spelling (aggregate.ArrayNewData ty segment) piece = IsOnTwoIn spelling 9 ty segment piece
IsAggregateIn spelling (aggregate.ArrayNewElem ty segment) piece = IsOnTwoIn spelling 10 ty segment piece
IsAggregateIn spelling (aggregate.ArrayGet ty extended) piece = IsOnIn spelling (get_number 11 extended) ty piece
IsAggregateIn spelling (aggregate.ArraySet ty) piece = IsOnIn spelling 14 ty piece
IsAggregateIn spelling aggregate.ArrayLen piece = IsPrefixedIn spelling 0xFB 15 piece
IsAggregateIn spelling (aggregate.ArrayFill ty) piece = IsOnIn spelling 16 ty piece
IsAggregateIn spelling (aggregate.ArrayCopy to from) piece = IsOnTwoIn spelling 17 to from piece
IsAggregateIn spelling (aggregate.ArrayInitData ty segment) piece = IsOnTwoIn spelling 18 ty segment piece
IsAggregateIn spelling (aggregate.ArrayInitElem ty segment) piece = IsOnTwoIn spelling 19 ty segment piece
IsAggregateIn spelling aggregate.AnyConvertExtern piece = IsPrefixedIn spelling 0xFB 26 piece
IsAggregateIn spelling aggregate.ExternConvertAny piece = IsPrefixedIn spelling 0xFB 27 piece
IsAggregateIn spelling aggregate.RefI31 piece = IsPrefixedIn spelling 0xFB 28 piece
IsAggregateIn spelling aggregate.I31GetS piece = IsPrefixedIn spelling 0xFB 29 piece
IsAggregateIn spelling aggregate.I31GetU piece = IsPrefixedIn spelling 0xFB 30 piece
IsAggregateIn spelling aggregate.RefI31Shared piece = IsPrefixedIn spelling 0xFE 114 piece

abbrev pub IsAggregate : AggregateInstr → List ℕ → Type 0
IsAggregate = IsAggregateIn any
