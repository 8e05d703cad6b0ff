-- Bodies of the functions of a module: the section Validation, Functions, of the WebAssembly Core
-- Specification 3.0.
use Rattle.std.specs.Prelude.{◌≡◌, ℕ, ◌+◌, ◌*◌, ◌<◌, ◌≤◌, Some, List, [], ◌++◌, map, length, slice_get, All, IsTrue}
use Rattle.smith_types.specs.Entities.{IsFuncAt}
use Rattle.smith_types.specs.Syntax.code.Code.{Code}
use Rattle.smith_types.specs.Syntax.composite_type.FuncType.{FuncType}
use Rattle.smith_types.specs.Syntax.segments.ElementSegment.{ElementSegment}
use Rattle.smith_types.specs.Syntax.value_type.ValType.{ValType}
use Rattle.smith_module_rules.specs.Held.{IsRaw}
use Rattle.smith_module_rules.specs.Module.{ModuleParts, module_features, module_imports}
use Rattle.smith_instr.specs.Contexts.{BodyContext}
use Rattle.smith_instr.specs.Enabled.{IsEnabled}
use Rattle.smith_instr.specs.Sequences.{IsBodyTyped}
use Rattle.smith_instr.specs.declared.instr.Instr.{Instr}
use Rattle.smith_body_nodes.specs.Scopes.{kinds_of_bodies, most}
use Rattle.smith_body_nodes.specs.Traps.{IsTrapless}
use Rattle.smith_body_leaves.specs.Leaves.{longest_leaf}
use Rattle.smith_body.specs.Stops.{HasNeededStops}
use Rattle.smith_program.specs.References.{references_of}
use Rattle.smith_program.specs.declared.program.Body.{Body}
use Rattle.smith_program.specs.declared.program.Body.TheVariants as body

-- the context of a function of this type, whose locals are its parameters followed by `locals`
-- (Validation, Functions)
abbrev pub function_context : ModuleParts → FuncType → List ValType → BodyContext
function_context m function locals = record {
  features = module_features m;
  types = m.types;
  funcs = m.funcs;
  imported_funcs = length (module_imports m).funcs;
  tables = m.tables;
  memories = m.memories;
  globals = m.globals;
  tags = m.tags;
  elems = map (λ (segment : ElementSegment). segment.ty) m.elems;
  datas = length m.datas;
  references = references_of m;
  locals = function.params ++ locals;
  params = length function.params;
  labels = [];
  results = function.results;
}

-- the defined function at `place`, counted after the imported functions, has this type (Structure,
-- Indices)
abbrev pub HasDefinedType : ModuleParts → ℕ → FuncType → Type 0
HasDefinedType m place function =
    (index : ℕ) × (slice_get m.funcs (length (module_imports m).funcs + place) ≡ Some index) × IsFuncAt m.types index function

-- `instructions` are a valid body, without its last `end`, of the defined function at `place`
-- (Validation, Functions)
pub record IsBodyAt (m : ModuleParts) (place : ℕ) (code : Code) (instructions : List Instr) : Type 0 where
  pub function : FuncType
  pub there : HasDefinedType m place function
  pub typed : IsBodyTyped (function_context m function code.locals) instructions

-- `instructions` are such a body. They are enabled, and no longer than the budget of a body allows.
-- With `disallow_traps`, only `unreachable` may trap. Unless the budget is 0, each operand has
-- exactly its type, and with `disallow_traps` an `unreachable` gives only a value that no other
-- instructions give without a budget (own rules).
pub record IsDrawnAt (m : ModuleParts) (place : ℕ) (code : Code) (instructions : List Instr) : Type 0 where
  pub body : IsBodyAt m place code instructions
  pub enabled : All (IsEnabled (module_features m) (kinds_of_bodies m.config)) instructions
  pub trapless : IsTrue m.config.disallow_traps → All IsTrapless instructions
  pub needed : 0 < m.config.max_instructions → HasNeededStops m.config (function_context m body.function code.locals) instructions
  pub short : length instructions ≤ 1 + longest_leaf m.config m.types *
      (length body.function.results + most m.types * m.config.max_instructions)

-- the instructions of a body have the property `Is`; a body of raw bytes is kept as it is (own
-- rule)
abbrev pub IsOfBody : (List Instr → Type 0) → Code → Body → Type 0
IsOfBody Is code body.Raw = IsRaw code.instructions
IsOfBody Is code (body.Drawn instructions) = (¬ IsRaw code.instructions) × Is instructions

-- each defined function of the module has a body, whose instructions have the property `Is`
-- (Validation, Functions)
pub record AreBodiesBy (Is : ℕ → Code → List Instr → Type 0) (m : ModuleParts) (bodies : List Body) : Type 0 where
  pub each : length bodies ≡ length m.code
  pub in_place : (place : ℕ) (code : Code) (body : Body) → slice_get m.code place ≡ Some code → slice_get bodies place ≡ Some body
      → IsOfBody (Is place code) code body

-- each defined function of the module has a valid body (Validation, Functions)
abbrev pub AreBodiesOf : ModuleParts → List Body → Type 0
AreBodiesOf m bodies = AreBodiesBy (IsBodyAt m) m bodies

-- each defined function of the module has a drawn body (own rule)
abbrev pub AreDrawnBodies : ModuleParts → List Body → Type 0
AreDrawnBodies m bodies = AreBodiesBy (IsDrawnAt m) m bodies
