-- Custom sections among the sections of a file: the section Binary Format, Modules, Sections and
-- Custom Section, of the WebAssembly Core Specification 3.0.
use Rattle.std.specs.Prelude.{◌≡◌, ◌≢◌, ℕ, suc, ◌==◌, ◌&&◌, ◌||◌, Bool, true, false, nat_lt, List, [], ◌∷◌, ◌++◌, ◌⊎◌}
use Rattle.smith_binary.specs.Pieces.{Is, Joined, Each, IsName, IsNameIn, IsSection}
use Rattle.smith_binary.specs.Spelling.{Spelling}
use Rattle.smith_binary_sections.specs.Long.{IsLongContent, IsLongText}
use Rattle.smith_binary_sections.specs.Modules.{IsPreamble}
use Rattle.smith_binary_sections.specs.Sections.{IsSectionIfIn}
use Rattle.smith_custom_sections.specs.declared.custom_section.CustomSection.{CustomSection}

-- the content of a custom section: its name, then its bytes (Custom Section)
abbrev pub IsContentIn : Spelling → CustomSection → List ℕ → Type 0
IsContentIn spelling custom = Joined (IsNameIn spelling custom.name) (Is custom.bytes)

-- whether a custom section comes directly before the section at `place`, or at the end, after the
-- last section (own rule)
abbrev pub is_due : Bool → ℕ → CustomSection → Bool
is_due at_end place custom = (custom.place == place) || (at_end && nat_lt place custom.place)

-- the custom sections that come at a place, in order (own rule)
abbrev pub AreDueIn : Spelling → List CustomSection → Bool → ℕ → List ℕ → Type 0
AreDueIn spelling customs at_end place = Each (λ (custom : CustomSection). IsSectionIfIn spelling (is_due at_end place custom) 0
    (IsContentIn spelling custom)) customs

-- the sections of a file from a place on, with custom sections before, between and after them (Modules)
unfoldable pub AreWovenIn : Spelling → List CustomSection → ℕ → List (List ℕ) → List ℕ → Type 0
AreWovenIn spelling customs place [] = AreDueIn spelling customs true place
AreWovenIn spelling customs place (section ∷ sections) =
    Joined (AreDueIn spelling customs false place) (Joined (Is section) (AreWovenIn spelling customs (suc place) sections))

-- any bytes (Custom Section)
abbrev pub IsAny : List ℕ → Type 0
IsAny content = Unit {0}

-- a section that is not custom (Sections)
pub record IsPlainSection (section piece : List ℕ) : Type 0 where
  pub is : piece ≡ section
  pub id : ℕ
  pub not_custom : id ≢ 0
  pub form : IsSection id IsAny piece

-- a file without custom sections: the preamble, then these sections (Modules)
abbrev pub IsPlainFile : List (List ℕ) → List ℕ → Type 0
IsPlainFile sections = Joined IsPreamble (Each IsPlainSection sections)

-- a file that has no custom sections
abbrev pub IsPlain : List ℕ → Type 0
IsPlain file = (sections : List (List ℕ)) × IsPlainFile sections file

-- the bytes are a section that is not custom, then the rest (Modules)
pub record StartsWith (section rest bytes : List ℕ) : Type 0 where
  pub plain : IsPlainSection section section
  pub whole : bytes ≡ section ++ rest

-- a file, and the file with custom sections among its sections
pub record IsWithCustomsIn (spelling : Spelling) (customs : List CustomSection) (file bytes : List ℕ) : Type 0 where
  pub sections : List (List ℕ)
  pub plain : IsPlainFile sections file
  pub woven : Joined IsPreamble (AreWovenIn spelling customs 0 sections) bytes

-- a custom section is too long for the format
abbrev pub IsLongCustom : CustomSection → Type 0
IsLongCustom custom = IsLongText custom.name ⊎ IsLongContent (Joined (IsName custom.name) (Is custom.bytes))
