-- Globals that are added after all others, each given by its type and its initialiser. Rules of
-- this project.
use Rattle.std.specs.Prelude.{ℕ, ◌+◌, List, [], ◌∷◌, map}
use Rattle.smith_types.specs.Syntax.value_type.ValType.{ValType}
use Rattle.wasm_smith.specs.Common.{ConstInstr, GlobalType}
use Rattle.wasm_smith.specs.Sinks.{sink}

-- the types of the globals, which are mutable and unshared
abbrev pub added_types : List (ValType × ConstInstr) → List GlobalType
added_types added = map (λ (one : ValType × ConstInstr). sink one.0) added

-- the definitions of the globals from this index on
abbrev pub added_definitions : ℕ → List (ValType × ConstInstr) → List (ℕ × List ConstInstr)
added_definitions first [] = []
added_definitions first (one ∷ rest) = (first, one.1 ∷ []) ∷ added_definitions (first + 1) rest
