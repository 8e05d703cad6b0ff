-- Sections: the section Binary Format, Modules, Sections, of the WebAssembly Core Specification
-- 3.0.
use Rattle.std.specs.Prelude.{◌≡◌, ℕ, Bool, true, false, List, []}
use Rattle.smith_binary_sections.specs.Common.{any, Is, IsList, Spelling}
use Rattle.smith_binary.specs.Pieces.{IsSection, IsSectionIn}

-- a section, which may be absent if `SaysNothing` holds (Sections)
pub data IsOptionalSection (id : ℕ) (SaysNothing : Type 0) (Content : List ℕ → Type 0) (piece : List ℕ) : Type 0 where
  present : IsSection id Content piece → IsOptionalSection id SaysNothing Content piece
  absent : SaysNothing → piece ≡ [] → IsOptionalSection id SaysNothing Content piece

-- the section of a list, which may be absent if the list is empty (Sections)
abbrev pub IsListSection : {A : Type 0} → ℕ → (A → List ℕ → Type 0) → List A → List ℕ → Type 0
IsListSection id Item xs = IsOptionalSection id (xs ≡ []) (IsList Item xs)

-- a section if the flag is true, and else no byte (Sections)
abbrev pub IsSectionIfIn : Spelling → Bool → ℕ → (List ℕ → Type 0) → List ℕ → Type 0
IsSectionIfIn spelling true id Content = IsSectionIn spelling id Content
IsSectionIfIn spelling false id Content = Is []

abbrev pub IsSectionIf : Bool → ℕ → (List ℕ → Type 0) → List ℕ → Type 0
IsSectionIf = IsSectionIfIn any
