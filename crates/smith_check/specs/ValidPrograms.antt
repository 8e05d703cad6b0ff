-- Whether a module is valid: the sections Validation, Modules, and Validation, Functions, of the
-- WebAssembly Core Specification 3.0. Types are compared by canonical indices, so that equal types
-- are one type. The conditions on features, sharedness and exact types are rules of this project.
-- The features of a body's instructions are not checked here, because the decoder checks them.
use Rattle.std.specs.Prelude.{◌≡◌, ℕ, ◌<◌, List, [], ◌++◌, Some, length, map, slice_get, All}
use Rattle.smith_check.specs.Common.{AreSectionsValid, canonical_index, Features, FuncType, imported_spaces, Instr, renamed_val, Syntax}
use Rattle.smith_check.specs.Common.{ValType}
use Rattle.smith_types.specs.Syntax.value_type.RefType.{RefType}
use Rattle.smith_types.specs.Entities.{IsFuncAt}
use Rattle.smith_types.specs.Groups.{space_of}
use Rattle.smith_types.specs.ValidTypes.{AreTypesValid, IsValTypeValid}
use Rattle.smith_instr.specs.Contexts.{BodyContext}
use Rattle.smith_decode.specs.Elements.{Elem}
use Rattle.smith_check_rules.specs.Sequences.{IsBodyTyped}
use Rattle.smith_check_types.specs.Canonical.{AreCanonical}
use Rattle.smith_check_types.specs.Renamed.{renamed_ref}
use Rattle.smith_check_types.specs.TypeSections.{AreGroupsInScope, canonical_groups}
use Rattle.smith_check_renamed.specs.RenamedInstructions.{renamed_body}
use Rattle.smith_check_module.specs.Contexts.{spaces_in, types_in}
use Rattle.smith_check.specs.References.{references_of}
use Rattle.smith_check.specs.Supertypes.{HaveOneSupertype}

-- the types of the element segments, by canonical indices (Validation, Modules)
abbrev pub element_types : List ℕ → List Elem → List RefType
element_types indices segments = map (λ (segment : Elem). renamed_ref (canonical_index indices) segment.ty) segments

-- the context of a function of this type, whose locals are its parameters followed by `locals`, by
-- canonical indices (Validation, Functions; Modules)
abbrev pub context_of_function : Features → List ℕ → Syntax → FuncType → List ValType → BodyContext
context_of_function features indices m function locals = record {
  features = features;
  types = types_in indices m;
  funcs = (spaces_in indices m).funcs;
  imported_funcs = length (imported_spaces m.imports).funcs;
  tables = (spaces_in indices m).tables;
  memories = (spaces_in indices m).memories;
  globals = (spaces_in indices m).globals;
  tags = (spaces_in indices m).tags;
  elems = element_types indices m.elems;
  datas = length m.datas;
  references = references_of m;
  locals = function.params ++ locals;
  params = length function.params;
  labels = [];
  results = function.results;
}

-- the defined function at `place` has this type, these locals and this body, by canonical indices
-- (Structure, Functions)
pub record IsFunctionAt (indices : List ℕ) (m : Syntax) (place : ℕ) (function : FuncType) (locals : List ValType)
    (body : List Instr) : Type 0 where
  pub index : ℕ
  pub typed_by : slice_get m.functions place ≡ Some index
  pub typed : IsFuncAt (types_in indices m) (canonical_index indices index) function
  pub code : List ValType × List Instr
  pub held : slice_get m.bodies place ≡ Some code
  pub locals_are : locals ≡ map (renamed_val (canonical_index indices)) code.0
  pub body_is : body ≡ renamed_body (canonical_index indices) code.1

-- value types are valid over the types of a module (Validation, Value Types)
abbrev pub AreValuesValid : Features → List ℕ → Syntax → List ValType → Type 0
AreValuesValid features indices m values = All (IsValTypeValid features (length (types_in indices m))) values

-- the defined function at `place` is valid: its locals are valid, and its body is typed in its
-- context (Validation, Functions)
pub record IsFunctionValid (features : Features) (indices : List ℕ) (m : Syntax) (place : ℕ) : Type 0 where
  pub function : FuncType
  pub locals : List ValType
  pub body : List Instr
  pub there : IsFunctionAt indices m place function locals body
  pub locals_valid : AreValuesValid features indices m locals
  pub body_typed : IsBodyTyped (context_of_function features indices m function locals) body

-- a module is valid, with the bodies of its functions (Validation, Modules)
pub record IsValidProgram (features : Features) (m : Syntax) : Type 0 where
  pub supertypes : HaveOneSupertype m.further_supertypes
  pub scope : AreGroupsInScope 0 m.types
  pub indices : List ℕ
  pub canonical : AreCanonical m.types indices
  pub types : AreTypesValid features (space_of (canonical_groups indices m.types))
  pub sections : AreSectionsValid features indices m
  pub bodies : length m.functions ≡ length m.bodies
  pub functions : (place : ℕ) → place < length m.functions → IsFunctionValid features indices m place
