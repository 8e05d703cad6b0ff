-- Globals that are added to a module, the scratch globals: one for each type of floats and, if there
-- are vectors, one for vectors. Bodies can keep a value in them for a moment. Rules of this project.
use Rattle.std.specs.Prelude.{◌≡◌, ℕ, pos, ◌+◌, Bool, List, [], ◌∷◌, ◌++◌, length, Result, Ok, Err, if◌then◌else◌}
use Rattle.wasm_smith.specs.Common.{ConstInstr, Error, GlobalType, Memory, ModuleParts}
use Rattle.smith_types.specs.Syntax.value_type.ValType.TheVariants.{F32, F64, V128}
use Rattle.smith_types.specs.Syntax.const_instr.ConstInstr.TheVariants.{F32Const, F64Const, V128Const}
use Rattle.smith_module_rules.specs.Module.{module_features}
use Rattle.wasm_smith.specs.Sinks.{sink}

-- the types of the scratch globals, if there are vectors or not
abbrev pub scratch : Bool → List GlobalType
scratch vectors = sink F32 ∷ sink F64 ∷ (if vectors then sink V128 ∷ [] else [])

-- the definitions of the scratch globals from this index on, which are 0 at first
abbrev pub scratch_definitions : Bool → ℕ → List (ℕ × List ConstInstr)
scratch_definitions vectors first =
    (first, F32Const 0 ∷ []) ∷ (first + 1, F64Const 0 ∷ []) ∷ (if vectors then (first + 2, V128Const (pos 0) ∷ []) ∷ [] else [])

-- a module may have vectors
abbrev pub has_vectors : ModuleParts → Bool
has_vectors m = (module_features m).simd

-- `new` is `old` with the scratch globals after its globals, and nothing else; the first of them has
-- this index
pub record AddsScratch (first : ℕ) (old new : ModuleParts) : Type 0 where
  pub next : first ≡ length old.globals
  pub added : new ≡ record old {
    globals = old.globals ++ scratch (has_vectors old);
    defined_globals = old.defined_globals ++ scratch_definitions (has_vectors old) first;
  }

-- the result: the index of the first scratch global; or lack of memory, with the module unchanged
abbrev pub AnswersScratch : ModuleParts → ModuleParts → Result ℕ Error → Type 0
AnswersScratch old new (Ok first) = AddsScratch first old new
AnswersScratch old new (Err error) = (error ≡ Memory) × (new ≡ old)
