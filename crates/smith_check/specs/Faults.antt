-- The result of checking a module: it is valid, it has a first fault, or it is not judged. The
-- order of faults is a rule of this project: types, then the other sections, then the bodies in
-- order.
use Rattle.std.specs.Prelude.{◌≡◌, ◌⊎◌, ℕ, ◌+◌, ◌^◌, ◌<◌, ◌≤◌, List, ◌++◌, Some, length, take, slice_get}
use Rattle.smith_check.specs.Common.{AreSectionsValid, Features, FuncType, Instr, Syntax, syntax_of, ValType}
use Rattle.smith_types.specs.Groups.{space_of}
use Rattle.smith_decode.specs.declared.bodies.Body.{Body}
use Rattle.smith_decode.specs.declared.modules.Module.{Module}
use Rattle.smith_check_types.specs.Canonical.{AreCanonical}
use Rattle.smith_check_types.specs.TypeSections.{IsTypeSectionValid}
use Rattle.smith_check_body.specs.Verdicts.{IsRefused}
use Rattle.smith_check_module.specs.Contexts.{types_in}
use Rattle.smith_check_module.specs.SectionFaults.{IsFirstFault as IsFirstSectionFault}
use Rattle.smith_check.specs.Locals.{IsFirstWrongRun}
use Rattle.smith_check.specs.Supertypes.{HaveOneSupertype}
use Rattle.smith_check.specs.ValidPrograms.{AreValuesValid, IsFunctionAt, IsFunctionValid, IsValidProgram, context_of_function}
use Rattle.smith_check.specs.declared.judgement.Fault.{Fault}
use Rattle.smith_check.specs.declared.judgement.Fault.TheVariants as fault
use Rattle.smith_check.specs.declared.judgement.Judgement.{Judgement}
use Rattle.smith_check.specs.declared.judgement.Judgement.TheVariants as judgement
use Rattle.smith_check.specs.declared.judgement.Unjudged.{Unjudged}
use Rattle.smith_check.specs.declared.judgement.Unjudged.TheVariants as unjudged

-- the first `count` groups of types are valid (Validation, Types)
pub record AreGroupsRight (features : Features) (m : Syntax) (count : ℕ) : Type 0 where
  pub supertypes : HaveOneSupertype (take count m.further_supertypes)
  pub valid : IsTypeSectionValid features (take count m.types)

-- the first `group` groups of types are valid, and one more is not (Validation, Types)
pub record AreTypesWrong (features : Features) (m : Syntax) (group : ℕ) : Type 0 where
  pub before : AreGroupsRight features m group
  pub wrong : AreGroupsRight features m (group + 1) → ⊥

-- the types of a module are valid, and have these canonical indices (Validation, Types)
pub record AreTypesRight (features : Features) (indices : List ℕ) (m : Syntax) : Type 0 where
  pub supertypes : HaveOneSupertype m.further_supertypes
  pub canonical : AreCanonical m.types indices
  pub valid : IsTypeSectionValid features m.types

-- the types, the other sections and each function before `place` are valid (Validation, Modules)
pub record IsRightBefore (features : Features) (indices : List ℕ) (m : Syntax) (place : ℕ) : Type 0 where
  pub types : AreTypesRight features indices m
  pub sections : AreSectionsValid features indices m
  pub functions : (earlier : ℕ) → earlier < place → IsFunctionValid features indices m earlier

-- `run` is the first run of locals of the body that is not valid (Validation, Locals)
pub record IsLocalFault (features : Features) (indices : List ℕ) (m : Module) (body run : ℕ) : Type 0 where
  pub code : Body
  pub there : slice_get m.bodies body ≡ Some code
  pub first : IsFirstWrongRun features (length (types_in indices (syntax_of m))) indices code.locals run

-- the function at `place` has valid locals, and its body is not typed because of this instruction
-- (Validation, Functions)
pub record IsBodyRefused (features : Features) (indices : List ℕ) (m : Syntax) (place instruction : ℕ) : Type 0 where
  pub function : FuncType
  pub locals : List ValType
  pub body : List Instr
  pub there : IsFunctionAt indices m place function locals body
  pub locals_valid : AreValuesValid features indices m locals
  pub refused : IsRefused (context_of_function features indices m function locals) body instruction

-- at `place`, a body has no function type, or a function type has no body (Binary Format, Modules)
abbrev pub IsUnpaired : Syntax → ℕ → Type 0
IsUnpaired m place =
    ((place ≡ length m.functions) × (place < length m.bodies)) ⊎ ((place ≡ length m.bodies) × (place < length m.functions))

-- the body at `place` is not typed because of this instruction, or it or its type is missing
abbrev pub IsBodyFault : Features → List ℕ → Syntax → ℕ → ℕ → Type 0
IsBodyFault features indices m place instruction =
    IsBodyRefused features indices m place instruction ⊎ ((instruction ≡ 0) × IsUnpaired m place)

-- the fault is the first fault of the module (own rule)
abbrev pub IsFirstFault : Features → Module → Fault → Type 0
IsFirstFault features m (fault.Types group) = AreTypesWrong features (syntax_of m) group
IsFirstFault features m (fault.Section item) =
    (indices : List ℕ) × AreTypesRight features indices (syntax_of m) × IsFirstSectionFault features indices (syntax_of m) item
IsFirstFault features m (fault.Local body run) =
    (indices : List ℕ) × IsRightBefore features indices (syntax_of m) body × IsLocalFault features indices m body run
IsFirstFault features m (fault.Body body instruction) =
    (indices : List ℕ) × IsRightBefore features indices (syntax_of m) body × IsBodyFault features indices (syntax_of m) body instruction

-- the maximum number of locals of a function that is judged, parameters included (own rule)
abbrev pub most_locals : ℕ
most_locals = 50000

-- everything before the function at `place` is valid, and the function has more than `most_locals`
-- locals (own rule)
pub record HasManyLocals (features : Features) (m : Syntax) (place : ℕ) : Type 0 where
  pub indices : List ℕ
  pub before : IsRightBefore features indices m place
  pub function : FuncType
  pub locals : List ValType
  pub body : List Instr
  pub there : IsFunctionAt indices m place function locals body
  pub many : most_locals < length (function.params ++ locals)

-- the reason why a module is not judged: its types are too many for their indices, or a function
-- has too many locals (own rule)
abbrev pub IsUnjudged : Features → Syntax → Unjudged → Type 0
IsUnjudged features m unjudged.Types = 2 ^ 32 ≤ length (space_of m.types).types + 1
IsUnjudged features m (unjudged.Locals body) = HasManyLocals features m body

-- a judgement is correct (Validation, Modules); the order of faults and what is not judged are own
-- rules
abbrev pub IsJudgement : Features → Module → Judgement → Type 0
IsJudgement features m judgement.Valid = IsValidProgram features (syntax_of m)
IsJudgement features m (judgement.Invalid fault) = (IsValidProgram features (syntax_of m) → ⊥) × IsFirstFault features m fault
IsJudgement features m (judgement.NotJudged why) = IsUnjudged features (syntax_of m) why
