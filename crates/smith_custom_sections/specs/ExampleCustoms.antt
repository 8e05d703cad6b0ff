-- Custom sections and files of examples.
use Rattle.std.specs.Prelude.{ℕ, List, ◌∷◌}
use Rattle.smith_custom_sections.specs.declared.custom_section.CustomSection.{CustomSection}

abbrev pub custom : ℕ → List ℕ → List ℕ → CustomSection
custom place name bytes = record { place = place; name = name; bytes = bytes }

-- the preamble, then these bytes
abbrev pub after_preamble : List ℕ → List ℕ
after_preamble bytes = 0x00 ∷ 0x61 ∷ 0x73 ∷ 0x6D ∷ 0x01 ∷ 0x00 ∷ 0x00 ∷ 0x00 ∷ bytes
