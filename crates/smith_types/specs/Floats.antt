-- Types without floats. Rules of this project.
use Rattle.std.specs.Prelude.{All}
use Rattle.smith_types.specs.Common.{ConstInstr, F32, F64, GlobalType, SubType, ValType}
use Rattle.smith_types.specs.ValidTypes.{values_of}
use Rattle.smith_syntax.specs.declared.const_instr.ConstInstr.TheVariants.{F32Const, F64Const}

-- a value type is not a float
abbrev pub IsNoFloat : ValType → Type 0
IsNoFloat F32 = ⊥
IsNoFloat F64 = ⊥
IsNoFloat _ = Unit {0}

-- a type has no floats among its parameters, results and fields
abbrev pub HasNoFloat : SubType → Type 0
HasNoFloat t = All IsNoFloat (values_of t.composite_type.inner)

-- an instruction is not a float constant
abbrev pub GivesNoFloat : ConstInstr → Type 0
GivesNoFloat (F32Const bits) = ⊥
GivesNoFloat (F64Const bits) = ⊥
GivesNoFloat _ = Unit {0}

-- the value of a global is not a float
abbrev pub HasNoFloatValue : GlobalType → Type 0
HasNoFloatValue global = IsNoFloat global.val_type
