-- Readings of definitions of tags: the section Binary Format, Modules, Tag Section, of the WebAssembly
-- Core Specification 3.0.
use Rattle.std.specs.Prelude.{ℕ, List}
use Rattle.smith_binary_sections.specs.Entities.{IsTagType}
use Rattle.smith_binary_read.specs.declared.tags.TagDefinition.{TagDefinition}
use Rattle.smith_binary_read.specs.Readings.{Reading, mapped_at}
use Rattle.smith_binary_read.specs.EntityReadings.{tag_type_at}

-- a tag (Tag Section)
abbrev pub IsTagDefinition : TagDefinition → List ℕ → Type 0
IsTagDefinition tag = IsTagType tag.0

-- a tag with this type index
abbrev pub tag_of : ℕ → TagDefinition
tag_of index = record { 0 = index }

-- reads a tag (Tag Section)
unfoldable pub tag_at : List ℕ → Reading TagDefinition
tag_at bytes = mapped_at tag_of tag_type_at bytes
