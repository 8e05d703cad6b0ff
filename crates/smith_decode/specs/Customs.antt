-- Custom sections, and the sections between them: the section Binary Format, Modules, Sections and
-- Custom Section, of the WebAssembly Core Specification 3.0.
use Rattle.std.specs.Prelude.{◌≡◌, ℕ, ◌<◌, Option, Some, None, List, [], ◌∷◌}
use Rattle.smith_decode.specs.Common.{Joined}
use Rattle.smith_binary.specs.Pieces.{Each, Is, IsName, IsSection}
use Rattle.smith_binary_sections.specs.Sections.{IsOptionalSection}
use Rattle.smith_decode.specs.declared.customs.Custom.{Custom}

-- any bytes (Custom Section)
abbrev pub IsAny : List ℕ → Type 0
IsAny bytes = Unit {0}

-- the content of a custom section: a name, then any bytes (Custom Section)
pub record IsNamed (content : List ℕ) : Type 0 where
  pub name : List ℕ
  pub form : Joined (IsName name) IsAny content

-- a custom section, which has no meaning for a module (Custom Section)
abbrev pub IsCustom : Unit {0} → List ℕ → Type 0
IsCustom nothing = IsSection 0 IsNamed

-- any number of custom sections (Modules)
pub record AreCustoms (piece : List ℕ) : Type 0 where
  pub all : List (Unit {0})
  pub form : Each IsCustom all piece

-- custom sections, then a section, which may be absent if `SaysNothing` holds, then more (Modules)
abbrev pub IsThen : ℕ → Type 0 → (List ℕ → Type 0) → (List ℕ → Type 0) → List ℕ → Type 0
IsThen id SaysNothing Content More = Joined AreCustoms (Joined (IsOptionalSection id SaysNothing Content) More)

-- a section with any identifier and any content (Sections)
abbrev pub IsAnySection : ℕ × List ℕ → List ℕ → Type 0
IsAnySection section piece = (section.0 < 256) × IsSection section.0 (Is section.1) piece

-- the content of a custom section: its name, then any bytes; `after` is the identifier of the last
-- section before it that is not custom (Custom Section)
abbrev pub IsCustomAfter : Option ℕ → Custom → List ℕ → Type 0
IsCustomAfter after custom content = (custom.after ≡ after) × Joined (IsName custom.name) (Is custom.bytes) content

-- the section is custom, and is the first of `customs`, or is not custom; `Rest` holds of the
-- sections after it
pub data IsNext (after : Option ℕ) (section : ℕ × List ℕ) (customs : List Custom) (Rest : Option ℕ → List Custom → Type 0) : Type 0 where
  custom : (one : Custom) (more : List Custom) → section.0 ≡ 0 → IsCustomAfter after one section.1 → customs ≡ one ∷ more
      → Rest after more → IsNext after section customs Rest
  other : (section.0 ≡ 0 → ⊥) → Rest (Some section.0) customs → IsNext after section customs Rest

-- `customs` are the custom sections among `sections`, which follow the section `after`
abbrev pub AreAmong : Option ℕ → List (ℕ × List ℕ) → List Custom → Type 0
AreAmong after [] customs = customs ≡ []
AreAmong after (section ∷ sections) customs = IsNext after section customs (λ next more. AreAmong next sections more)

-- `customs` are the custom sections of a module, whose sections are `piece` (Modules)
abbrev pub HasCustoms : List Custom → List ℕ → Type 0
HasCustoms customs piece = (sections : List (ℕ × List ℕ)) × Each IsAnySection sections piece × AreAmong None sections customs
