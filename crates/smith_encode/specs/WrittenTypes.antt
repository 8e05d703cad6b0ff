-- Types as they are written, with all of their supertypes: the section Binary Format, Types, Recursive
-- Types, of the WebAssembly Core Specification 3.0.
use Rattle.std.specs.Prelude.{ℕ, List, [], ◌∷◌, ◌++◌, option_to_list}
use Rattle.smith_binary.specs.Numbers.{IsUnsigned}
use Rattle.smith_binary.specs.Pieces.{IsByte, IsList, Joined}
use Rattle.smith_types.specs.Syntax.composite_type.SubType.{SubType}
use Rattle.smith_binary_sections.specs.Types.{final_byte, IsCompositeType, IsSubTypeWritten}
use Rattle.smith_binary_read.specs.declared.types.DeclaredType.{DeclaredType}

-- a type in its full form, with these supertypes (Recursive Types)
abbrev pub HasSupertypes : List ℕ → SubType → List ℕ → Type 0
HasSupertypes supertypes t =
    Joined (IsByte (final_byte t.is_final)) (Joined (IsList (IsUnsigned 32) supertypes) (IsCompositeType t.composite_type))

-- a type as it is written: in its full form if it has several supertypes (own rule)
abbrev pub IsWrittenWith : List ℕ → SubType → List ℕ → Type 0
IsWrittenWith [] t = IsSubTypeWritten t
IsWrittenWith (next ∷ further) t = HasSupertypes (option_to_list t.supertype ++ (next ∷ further)) t

abbrev pub IsDeclaredWritten : DeclaredType → List ℕ → Type 0
IsDeclaredWritten declared = IsWrittenWith declared.further_supertypes declared.sub_type

-- a recursive group as it is written: its type alone if it has exactly one (own rule)
abbrev pub IsDeclaredGroupWritten : List DeclaredType → List ℕ → Type 0
IsDeclaredGroupWritten (declared ∷ []) = IsDeclaredWritten declared
IsDeclaredGroupWritten group = Joined (IsByte 0x4E) (IsList IsDeclaredWritten group)
