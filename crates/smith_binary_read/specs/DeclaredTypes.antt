-- Types as bytes declare them, with any number of supertypes: the section Binary Format, Types,
-- Recursive Types, of the WebAssembly Core Specification 3.0. That a type has at most one supertype
-- is a rule of validation (Validation, Types, Sub Types).
use Rattle.std.specs.Prelude.{◌≡◌, ℕ, true, List, [], ◌∷◌, ◌++◌, Option, None, option_to_list}
use Rattle.smith_binary.specs.Numbers.{IsUnsigned}
use Rattle.smith_binary.specs.Pieces.{IsByte, Joined, IsList}
use Rattle.smith_types.specs.Syntax.composite_type.SubType.{SubType}
use Rattle.smith_binary_sections.specs.Types.{final_byte, IsCompositeType}
use Rattle.smith_binary_read.specs.declared.types.DeclaredType.{DeclaredType}

-- a subtype with these supertypes after its first
abbrev pub with_further : SubType → List ℕ → DeclaredType
with_further t further = record { sub_type = t; further_supertypes = further }

-- a list of supertypes, of which `further` are after the first
pub record AreSupertypes (first : Option ℕ) (further : List ℕ) (piece : List ℕ) : Type 0 where
  pub none : first ≡ None → further ≡ []
  pub form : IsList (IsUnsigned 32) (option_to_list first ++ further) piece

-- a declared type: a byte for its finality, its supertypes and its composite type; or, if it is
-- final and has no supertype, the composite type alone
pub data IsDeclaredType (declared : DeclaredType) (piece : List ℕ) : Type 0 where
  full : Joined (IsByte (final_byte declared.sub_type.is_final))
      (Joined (AreSupertypes declared.sub_type.supertype declared.further_supertypes)
      (IsCompositeType declared.sub_type.composite_type)) piece → IsDeclaredType declared piece
  short : declared.sub_type.is_final ≡ true → declared.sub_type.supertype ≡ None → declared.further_supertypes ≡ []
      → IsCompositeType declared.sub_type.composite_type piece → IsDeclaredType declared piece

-- a recursive group: a list of declared types, or one declared type alone
pub data IsDeclaredGroup (group : List DeclaredType) (piece : List ℕ) : Type 0 where
  full : Joined (IsByte 0x4E) (IsList IsDeclaredType group) piece → IsDeclaredGroup group piece
  short : (t : DeclaredType) → group ≡ t ∷ [] → IsDeclaredType t piece → IsDeclaredGroup group piece
