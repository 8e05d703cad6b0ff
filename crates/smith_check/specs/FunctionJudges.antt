-- The parts of a module by which its functions are judged.
use Rattle.std.specs.Prelude.{◌≡◌, ℕ, ◌<◌, List, [], Some, length, map, slice_get}
use Rattle.smith_types.specs.Syntax.FeatureBits.{features_in}
use Rattle.smith_check.specs.Common.{AreSectionsValid, canonical_index, FuncType, imported_spaces, Instr, renamed_val, syntax_of, ValType}
use Rattle.smith_types.specs.Entities.{IsFuncAt}
use Rattle.smith_types.specs.EntitySpaces.{spaces_in}
use Rattle.smith_instr.specs.Contexts.{BodyContext}
use Rattle.smith_decode.specs.BodyReadings.{body_view}
use Rattle.smith_decode.specs.declared.bodies.Body.{Body}
use Rattle.smith_check_types.specs.CheckedTypes.{AreChecked}
use Rattle.smith_check_renamed.specs.RenamedInstructions.{renamed_body}
use Rattle.smith_check_module.specs.Contexts.{spaces_in as spaces_of_module}
use Rattle.smith_check.specs.References.{references_of}
use Rattle.smith_check.specs.Supertypes.{HaveOneSupertype}
use Rattle.smith_check.specs.ValidPrograms.{AreValuesValid, IsFunctionValid, context_of_function, element_types}
use Rattle.smith_check.specs.declared.functions.FunctionJudge.{FunctionJudge}

-- the parts of the judge belong to one module, whose types and other sections are valid
pub record IsFunctionJudge (judge : FunctionJudge) : Type 0 where
  pub supertypes : HaveOneSupertype judge.module.now.further_supertypes
  pub types : AreChecked (features_in judge.features) judge.module.now.types judge.types.now
  pub sections : AreSectionsValid (features_in judge.features) judge.types.now.indices (syntax_of judge.module.now)
  pub spaces : spaces_in judge.spaces.now ≡ spaces_of_module judge.types.now.indices (syntax_of judge.module.now)
  pub imported : judge.imported_funcs ≡ length (imported_spaces (syntax_of judge.module.now).imports).funcs
  pub elems : judge.elems.now ≡ element_types judge.types.now.indices (syntax_of judge.module.now).elems
  pub references : judge.references.now ≡ references_of (syntax_of judge.module.now)

-- the function at `place` is valid
abbrev pub IsRightAt : FunctionJudge → ℕ → Type 0
IsRightAt judge place = IsFunctionValid (features_in judge.features) judge.types.now.indices (syntax_of judge.module.now) place

-- each function before `place` is valid
pub record AreRightBefore (judge : FunctionJudge) (place : ℕ) : Type 0 where
  pub each : (earlier : ℕ) → earlier < place → IsRightAt judge earlier

-- the function at `place` has this type
pub record HasTypeAt (judge : FunctionJudge) (place : ℕ) (function : FuncType) : Type 0 where
  pub index : ℕ
  pub there : slice_get judge.module.now.functions place ≡ Some index
  pub typed : IsFuncAt judge.types.now.space.types (canonical_index judge.types.now.indices index) function

-- the types of a body's locals, by canonical indices
abbrev pub locals_in : FunctionJudge → Body → List ValType
locals_in judge body = map (renamed_val (canonical_index judge.types.now.indices)) (body_view body).0

-- the instructions of a body, by canonical indices
abbrev pub body_in : FunctionJudge → Body → List Instr
body_in judge body = renamed_body (canonical_index judge.types.now.indices) body.instructions

-- the context of a body, by canonical indices
abbrev pub context_in : FunctionJudge → FuncType → Body → BodyContext
context_in judge function body =
    context_of_function (features_in judge.features) judge.types.now.indices (syntax_of judge.module.now) function (locals_in judge body)

-- the locals of a body are valid
abbrev pub AreLocalsRight : FunctionJudge → Body → Type 0
AreLocalsRight judge body =
    AreValuesValid (features_in judge.features) judge.types.now.indices (syntax_of judge.module.now) (locals_in judge body)

-- the function at `place` has this type and this body
pub record HasPartsAt (judge : FunctionJudge) (place : ℕ) (function : FuncType) (body : Body) : Type 0 where
  pub typed : HasTypeAt judge place function
  pub held : slice_get judge.module.now.bodies place ≡ Some body

-- a context has the parts of a judge, those of a function and these locals
pub record IsContextOf (judge : FunctionJudge) (function : FuncType) (these : List ValType) (context : BodyContext) : Type 0 where
  pub features : context.features ≡ features_in judge.features
  pub types : context.types ≡ judge.types.now.space.types
  pub funcs : context.funcs ≡ judge.spaces.now.funcs
  pub imported : context.imported_funcs ≡ judge.imported_funcs
  pub tables : context.tables ≡ judge.spaces.now.tables
  pub memories : context.memories ≡ judge.spaces.now.memories
  pub globals : context.globals ≡ judge.spaces.now.globals
  pub tags : context.tags ≡ judge.spaces.now.tags
  pub elems : context.elems ≡ judge.elems.now
  pub datas : context.datas ≡ length judge.module.now.datas
  pub references : context.references ≡ judge.references.now
  pub locals : context.locals ≡ these
  pub params : context.params ≡ length function.params
  pub labels : context.labels ≡ []
  pub results : context.results ≡ function.results
