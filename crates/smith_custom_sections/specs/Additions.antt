-- Files to which custom sections are added.
use Rattle.std.specs.Prelude.{ℕ, List}
use Rattle.smith_binary.specs.Spelling.Spelling.{any, written}
use Rattle.smith_custom_sections.specs.declared.custom_section.CustomSection.{CustomSection}
use Rattle.smith_custom_sections.specs.CustomSections.{IsWithCustomsIn}
use Rattle.smith_custom_sections.specs.WithoutCustoms.{IsWithoutCustoms}

-- the bytes are the file with custom sections among its sections, whose sizes and lengths have at
-- least `least` bytes; without custom sections they are the file
pub record IsAdded (least : ℕ) (customs : List CustomSection) (file bytes : List ℕ) : Type 0 where
  pub inserted : IsWithCustomsIn any customs file bytes
  pub spelling : IsWithCustomsIn (written least) customs file bytes
  pub without : IsWithoutCustoms bytes file
