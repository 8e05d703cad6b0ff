-- Laws of values that need no budget.
use Rattle.std.specs.Prelude.{◌≡◌, ℕ, zero, suc, ◌-◌, ◌^◌, ◌<◌, Bool, true, IsTrue, List, [], ◌∷◌, Option, Some, None, Any}
use Rattle.smith_config.specs.declared.config.Config.{Config}
use Rattle.smith_types.specs.Types.{IsOrderly}
use Rattle.smith_types.specs.Syntax.value_type.HeapType.{HeapType}
use Rattle.smith_types.specs.Syntax.value_type.ValType.{ValType}
use Rattle.smith_types.specs.Syntax.value_type.ValType.TheVariants.{I32}
use Rattle.smith_instr.specs.Contexts.{BodyContext}
use Rattle.smith_instr.specs.declared.aggregate.AggregateInstr.TheVariants as aggregate
use Rattle.smith_instr.specs.declared.instr.Instr.{Instr}
use Rattle.smith_instr.specs.declared.instr.Instr.TheVariants as instr
use Rattle.smith_instr.specs.declared.reference.ReferenceInstr.TheVariants as reference
use Rattle.smith_body_nodes.specs.Scopes.{is_permitted}
use Rattle.smith_body_leaves.specs.DrawnLeaves.{leaf_at}
use Rattle.smith_body_leaves.specs.Leaves.{IsLeaf, IsTaking, named_type, searches_on}

-- a constant of a number or a vector
abbrev pub IsNumber : Instr → Type 0
IsNumber (instr.I32Const value) = Unit {0}
IsNumber (instr.I64Const value) = Unit {0}
IsNumber (instr.F32Const bits) = Unit {0}
IsNumber (instr.F64Const bits) = Unit {0}
IsNumber (instr.V128Const bits) = Unit {0}
IsNumber _ = ⊥

-- an index that an item of a list may have: a list has at most 2^32 - 1 items (Structure, Lists)
abbrev pub IsIndex : ℕ → Type 0
IsIndex index = index < 2 ^ 32 - 1

-- an instruction that is permitted and produces a value that matches the wanted type, without
-- operands
abbrev pub IsOther : Config → BodyContext → List ℕ → ValType → Instr → Type 0
IsOther config context set wanted instruction =
    (is_permitted context.features config instruction ≡ true) × IsLeaf context set wanted instruction

-- an instruction that is permitted, takes values of these types, and produces a value that matches
-- the wanted type
abbrev pub IsOtherTaking : Config → BodyContext → List ℕ → List ValType → (wanted : ValType) → Instr → Type 0
IsOtherTaking config context set operands wanted instruction =
    (is_permitted context.features config instruction ≡ true) × IsTaking context set operands wanted instruction

-- an instruction that is permitted, takes a value of one type, and produces a value that matches
-- the wanted type
abbrev pub IsOtherOver : Config → BodyContext → List ℕ → (operand wanted : ValType) → Instr → Type 0
IsOtherOver config context set operand wanted instruction = IsOtherTaking config context set (operand ∷ []) wanted instruction

-- the creation of an i31
abbrev pub IsI31Creation : Instr → Type 0
IsI31Creation (instr.Aggregate aggregate.RefI31) = Unit {0}
IsI31Creation (instr.Aggregate aggregate.RefI31Shared) = Unit {0}
IsI31Creation _ = ⊥

-- a conversion between internal and external references
abbrev pub IsConversion : Instr → Type 0
IsConversion (instr.Aggregate aggregate.AnyConvertExtern) = Unit {0}
IsConversion (instr.Aggregate aggregate.ExternConvertAny) = Unit {0}
IsConversion _ = ⊥

-- no permitted instruction produces a value that matches the wanted type: no read of a local or a
-- global, no reference to a function, no constant, no null, no struct of default values, and no
-- array without elements
pub record HasNoSingle (config : Config) (context : BodyContext) (set : List ℕ) (wanted : ValType) : Type 0 where
  pub no_local : (index : ℕ) → IsIndex index → ¬ IsOther config context set wanted (instr.LocalGet index)
  pub no_global : (index : ℕ) → IsIndex index → ¬ IsOther config context set wanted (instr.GlobalGet index)
  pub no_function : (function : ℕ) → ¬ IsOther config context set wanted (instr.Reference (reference.Func function))
  pub no_number : (instruction : Instr) → IsNumber instruction → ¬ IsOther config context set wanted instruction
  pub no_null : (heap_type : HeapType) → ¬ IsOther config context set wanted (instr.Reference (reference.Null heap_type))
  pub no_struct : (ty : ℕ) → IsIndex ty → ¬ IsOther config context set wanted (instr.Aggregate (aggregate.StructNewDefault ty))
  pub no_array : (ty : ℕ) → IsIndex ty → ¬ IsOther config context set wanted (instr.Aggregate (aggregate.ArrayNewFixed ty 0))

-- a struct type that is tried: the type that is named, or if none is, any type, but only if `search`
-- is set
abbrev pub IsTriedBy : (search : Bool) → Option ℕ → ℕ → Type 0
IsTriedBy search (Some named) ty = named ≡ ty
IsTriedBy search None ty = IsTrue search × IsIndex ty

abbrev pub IsTried : (search : Bool) → ValType → ℕ → Type 0
IsTried search wanted ty = IsTriedBy search (named_type wanted) ty

-- no permitted instruction produces a value that matches the wanted type from one operand: no
-- creation of an i31 whose operand has a value of one instruction, no conversion whose operand has a
-- value, and no creation of a struct of one field, of a type that is tried, whose field has a value;
-- after a search of the struct types, none is made for this field
pub record HasNoUnary (config : Config) (context : BodyContext) (set : List ℕ) (search : Bool) (HasNone : Bool → ValType → Type 0)
    (wanted : ValType) : Type 0 where
  pub no_i31 : (creation : Instr) → IsI31Creation creation → IsOtherOver config context set I32 wanted creation
      → HasNoSingle config context set I32
  pub no_conversion : (operand : ValType) (conversion : Instr) → IsConversion conversion
      → IsOtherOver config context set operand wanted conversion → HasNone search operand
  pub no_struct : (ty : ℕ) (operand : ValType) → IsTried search wanted ty → IsOtherOver config context set operand wanted
      (instr.Aggregate (aggregate.StructNew ty)) → HasNone (searches_on search (named_type wanted)) operand

-- no value of the wanted type consists of a single instruction, and then at most this number of such
-- instructions with one operand
abbrev pub HasNoValue : Config → BodyContext → List ℕ → ℕ → (search : Bool) → ValType → Type 0
HasNoValue config context set zero search wanted = HasNoSingle config context set wanted
HasNoValue config context set (suc more) search wanted =
    HasNoSingle config context set wanted × HasNoUnary config context set search (HasNoValue config context set more) wanted

-- no value of the wanted type consists of a single instruction and at most two such instructions
-- with one operand, nor of a permitted creation of a struct and a single instruction for each operand
pub record HasNoOther (config : Config) (context : BodyContext) (set : List ℕ) (wanted : ValType) : Type 0 where
  pub none : HasNoValue config context set 2 true wanted
  pub none_created : (ty : ℕ) (operands : List ValType) → IsTried true wanted ty → IsOtherTaking config context set operands wanted
      (instr.Aggregate (aggregate.StructNew ty)) → Any (HasNoSingle config context set) operands

-- with `disallow_traps`, a value is produced by `unreachable` only if no other such instructions
-- produce one
abbrev pub TrapsOnlyForNoOther : Type 0
TrapsOnlyForNoOther =
    (config : Config) (context : BodyContext) (set : List ℕ) (wanted : ValType) (bytes : List ℕ)
    → IsOrderly context.types → config.disallow_traps ≡ true → (leaf_at config context set wanted bytes).0 ≡ instr.Unreachable ∷ []
    → HasNoOther config context set wanted
