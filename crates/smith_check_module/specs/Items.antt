-- Items of element segments, one by one: the section Validation, Element Segments, of the WebAssembly
-- Core Specification 3.0.
use Rattle.std.specs.Prelude.{◌≡◌, ℕ, ◌⊎◌, IsTrue, List, [], ◌∷◌}
use Rattle.smith_types.specs.Syntax.value_type.RefType.{RefType}
use Rattle.smith_check_module.specs.Common.{Context, Instr, Ref}
use Rattle.smith_instr.specs.declared.instr.Instr.TheVariants.{Reference}
use Rattle.smith_instr.specs.declared.reference.ReferenceInstr.TheVariants.{Func}
use Rattle.smith_types.specs.Segments.{IsItem}
use Rattle.smith_check_module.specs.ValidModules.{IsConstant}

-- an item is a `ref.func` of a function whose reference has the segment's type
abbrev pub IsFunction : Context → RefType → List Instr → Type 0
IsFunction context ty item = (function : ℕ) × (item ≡ Reference (Func function) ∷ []) × IsItem context ty function

-- an item is such a `ref.func`, or a constant expression of the segment's type, which requires
-- reference types (own rule)
abbrev pub IsItemValid : Context → List ℕ → RefType → List Instr → Type 0
IsItemValid context indices ty item =
    IsFunction context ty item ⊎ (IsTrue context.features.reference_types × IsConstant context indices (Ref ty) item)
