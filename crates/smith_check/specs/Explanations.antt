-- Why an instruction of a module is refused. Rules of this project.
use Rattle.std.specs.Prelude.{◌≡◌, ℕ, List, length}
use Rattle.smith_check.specs.Common.{Features, FuncType, imported_spaces, Instr, Syntax, syntax_of, ValType}
use Rattle.smith_types.specs.EntitySpaces.{spaces_in}
use Rattle.smith_decode.specs.declared.modules.Module.{Module}
use Rattle.smith_explain.specs.Causes.{IsExplanation}
use Rattle.smith_explain.specs.declared.explanation.Explanation.{Explanation}
use Rattle.smith_check_types.specs.declared.check.CheckedTypes.{CheckedTypes}
use Rattle.smith_check_module.specs.Contexts.{spaces_in as spaces_of_module}
use Rattle.smith_check.specs.Faults.{AreTypesRight}
use Rattle.smith_check.specs.References.{references_of}
use Rattle.smith_check.specs.ValidPrograms.{IsFunctionAt, context_of_function, element_types}
use Rattle.smith_check.specs.declared.judge.Parts.{Parts}

-- the parts of a module by which its functions are judged
pub record ArePartsOf (types : CheckedTypes) (m : Module) (parts : Parts) : Type 0 where
  pub spaces : spaces_in parts.spaces ≡ spaces_of_module types.indices (syntax_of m)
  pub imported : parts.imported_funcs ≡ length (imported_spaces (syntax_of m).imports).funcs
  pub elems : parts.elems ≡ element_types types.indices (syntax_of m).elems
  pub references : parts.references ≡ references_of (syntax_of m)

-- an explanation of the instruction at an index of the body at a place, by canonical indices
-- (Validation, Functions)
pub record IsBodyExplained (features : Features) (indices : List ℕ) (m : Syntax) (place at : ℕ) (explanation : Explanation) : Type 0 where
  pub function : FuncType
  pub locals : List ValType
  pub body : List Instr
  pub there : IsFunctionAt indices m place function locals body
  pub explained : IsExplanation (context_of_function features indices m function locals) body at explanation

abbrev pub IsExplained : Features → Syntax → ℕ → ℕ → Explanation → Type 0
IsExplained features m place at explanation =
    (indices : List ℕ) × AreTypesRight features indices m × IsBodyExplained features indices m place at explanation
