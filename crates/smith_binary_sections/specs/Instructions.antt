-- Constant instructions: the section Binary Format, Instructions, of the WebAssembly Core
-- Specification 3.0. The shared i31 follows the shared-everything-threads proposal.
use Rattle.std.specs.Prelude.{ℕ, List, [], ◌∷◌}
use Rattle.smith_binary_sections.specs.Common.{any, ConstInstr, IsByte, IsUnsignedIn, Joined, Spelling}
use Rattle.smith_binary.specs.Spelling.{IsSignedIn}
use Rattle.smith_binary.specs.Numbers.{IsLittleEndian, IsVector}
use Rattle.smith_binary.specs.Pieces.{Each}
use Rattle.smith_types.specs.Syntax.const_instr.ConstInstr.TheVariants as instr
use Rattle.smith_types.specs.Syntax.segments.Offset.{Offset}
use Rattle.smith_types.specs.Syntax.segments.Offset.TheVariants as offset
use Rattle.smith_binary_sections.specs.Types.{IsHeapTypeIn}

-- an index (Binary Format, Modules, Indices)
abbrev pub IsIndexIn : Spelling → ℕ → List ℕ → Type 0
IsIndexIn spelling = IsUnsignedIn spelling 32

-- an index in any spelling (Binary Format, Modules, Indices)
abbrev pub IsIndex : ℕ → List ℕ → Type 0
IsIndex = IsIndexIn any

-- the opcode of an instruction with a prefix: the prefix, then a number (Instructions)
abbrev pub IsPrefixedIn : Spelling → ℕ → ℕ → List ℕ → Type 0
IsPrefixedIn spelling prefix number = Joined (IsByte prefix) (IsUnsignedIn spelling 32 number)

abbrev pub IsPrefixed : ℕ → ℕ → List ℕ → Type 0
IsPrefixed = IsPrefixedIn any

-- a constant instruction (Numeric, Vector, Variable, Reference, and Aggregate Instructions)
abbrev pub IsInstrIn : Spelling → ConstInstr → List ℕ → Type 0
IsInstrIn spelling (instr.I32Const value) piece = Joined (IsByte 0x41) (IsSignedIn spelling 32 value) piece
IsInstrIn spelling (instr.I64Const value) piece = Joined (IsByte 0x42) (IsSignedIn spelling 64 value) piece
IsInstrIn spelling (instr.F32Const bits) piece = Joined (IsByte 0x43) (IsLittleEndian 4 bits) piece
IsInstrIn spelling (instr.F64Const bits) piece = Joined (IsByte 0x44) (IsLittleEndian 8 bits) piece
IsInstrIn spelling (instr.V128Const value) piece = Joined (IsPrefixedIn spelling 0xFD 12) (IsVector value) piece
IsInstrIn spelling (instr.GlobalGet index) piece = Joined (IsByte 0x23) (IsIndexIn spelling index) piece
IsInstrIn spelling (instr.RefNull heap) piece = Joined (IsByte 0xD0) (IsHeapTypeIn spelling heap) piece
IsInstrIn spelling (instr.RefFunc index) piece = Joined (IsByte 0xD2) (IsIndexIn spelling index) piece
IsInstrIn spelling instr.I32Add piece = IsByte 0x6A piece
IsInstrIn spelling instr.I32Sub piece = IsByte 0x6B piece
IsInstrIn spelling instr.I32Mul piece = IsByte 0x6C piece
IsInstrIn spelling instr.I64Add piece = IsByte 0x7C piece
IsInstrIn spelling instr.I64Sub piece = IsByte 0x7D piece
IsInstrIn spelling instr.I64Mul piece = IsByte 0x7E piece
IsInstrIn spelling instr.RefI31 piece = IsPrefixedIn spelling 0xFB 28 piece
IsInstrIn spelling instr.RefI31Shared piece = IsPrefixedIn spelling 0xFE 114 piece
IsInstrIn spelling (instr.StructNew index) piece = Joined (IsPrefixedIn spelling 0xFB 0) (IsIndexIn spelling index) piece
IsInstrIn spelling (instr.StructNewDefault index) piece = Joined (IsPrefixedIn spelling 0xFB 1) (IsIndexIn spelling index) piece
IsInstrIn spelling (instr.ArrayNew index) piece = Joined (IsPrefixedIn spelling 0xFB 6) (IsIndexIn spelling index) piece
IsInstrIn spelling (instr.ArrayNewDefault index) piece = Joined (IsPrefixedIn spelling 0xFB 7) (IsIndexIn spelling index) piece
IsInstrIn spelling (instr.ArrayNewFixed index size) piece = Joined (IsPrefixedIn spelling 0xFB 8)
    (Joined (IsIndexIn spelling index) (IsUnsignedIn spelling 32 size)) piece
IsInstrIn spelling instr.AnyConvertExtern piece = IsPrefixedIn spelling 0xFB 26 piece
IsInstrIn spelling instr.ExternConvertAny piece = IsPrefixedIn spelling 0xFB 27 piece

abbrev pub IsInstr : ConstInstr → List ℕ → Type 0
IsInstr = IsInstrIn any

-- an expression: instructions, then `end` (Expressions)
abbrev pub IsExpressionIn : Spelling → List ConstInstr → List ℕ → Type 0
IsExpressionIn spelling instructions = Joined (Each (IsInstrIn spelling) instructions) (IsByte 0x0B)

abbrev pub IsExpression : List ConstInstr → List ℕ → Type 0
IsExpression = IsExpressionIn any

-- the offset of an active segment as an expression (Structure, Element Segments and Data Segments)
abbrev pub offset_of : Offset → List ConstInstr
offset_of (offset.Const32 value) = instr.I32Const value ∷ []
offset_of (offset.Const64 value) = instr.I64Const value ∷ []
offset_of (offset.Global index) = instr.GlobalGet index ∷ []
