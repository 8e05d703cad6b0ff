-- Files without their custom sections: the section Binary Format, Modules, Custom Section, of the
-- WebAssembly Core Specification 3.0.
use Rattle.std.specs.Prelude.{◌≡◌, ◌≢◌, ℕ, List, []}
use Rattle.std.specs.List.{concat}
use Rattle.smith_binary.specs.Pieces.{Is, Joined, Each, IsName, IsSection}
use Rattle.smith_binary_sections.specs.Modules.{IsPreamble}
use Rattle.smith_custom_sections.specs.CustomSections.{IsAny}

-- the content of a custom section: a name, then any bytes (Custom Section)
pub record IsNamed (content : List ℕ) : Type 0 where
  pub name : List ℕ
  pub form : Joined (IsName name) IsAny content

-- a section without custom sections: no byte if it is custom, and else all its bytes
pub data IsLeftOf (left piece : List ℕ) : Type 0 where
  custom : IsSection 0 IsNamed piece → left ≡ [] → IsLeftOf left piece
  other : (id : ℕ) → id ≢ 0 → IsSection id IsAny piece → left ≡ piece → IsLeftOf left piece

-- a file, and the file without its custom sections (Modules)
pub record IsWithoutCustoms (bytes file : List ℕ) : Type 0 where
  pub left : List (List ℕ)
  pub sections : Joined IsPreamble (Each IsLeftOf left) bytes
  pub others : Joined IsPreamble (Is (concat left)) file
