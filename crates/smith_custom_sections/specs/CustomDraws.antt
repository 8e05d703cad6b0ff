-- Drawn custom sections. Rules of this project.
use Rattle.std.specs.Prelude.{ℕ, ◌+◌, ◌≤◌, ◌==◌, min, Bool, true, false, List, [], ◌∷◌, length, take, drop, codes, if◌then◌else◌}
use Rattle.smith_bytes.specs.Draws.{len_at, range_at}
use Rattle.smith_bytes.specs.Growth.{grow_at}
use Rattle.smith_bytes.specs.Names.{text_at}
use Rattle.smith_custom_sections.specs.declared.custom_section.CustomSection.{CustomSection}

-- bytes of a drawn length, at most a thousand
unfoldable pub bytes_at : List ℕ → List ℕ × List ℕ
bytes_at bytes =
    let size = len_at bytes in
    let n = min size.0 1000 in
    (take n size.1, drop n size.1)

-- a subsection of function names: its number, its size, and a map of one index to one name (Appendix,
-- Custom Sections, Function Names)
abbrev pub function_name : ℕ → List ℕ → List ℕ
function_name index name = 1 ∷ (length name + 3) ∷ 1 ∷ index ∷ length name ∷ name

-- such a subsection with a drawn index and a drawn name
unfoldable pub function_name_at : List ℕ → List ℕ × List ℕ
function_name_at bytes =
    let index = range_at 0 9 bytes in
    let name = text_at 100 index.1 in
    (function_name index.0 name.0, name.1)

-- a name section: a subsection of function names, or any bytes
unfoldable pub name_section_at : ℕ → Bool → List ℕ → CustomSection × List ℕ
name_section_at place is_formed bytes =
    let content = if is_formed then function_name_at bytes else bytes_at bytes in
    (record { place = place; name = codes "name"; bytes = content.0 }, content.1)

-- a custom section with any name and any bytes
unfoldable pub plain_section_at : ℕ → List ℕ → CustomSection × List ℕ
plain_section_at place bytes =
    let name = text_at 100 bytes in
    let content = bytes_at name.1 in
    (record { place = place; name = name.0; bytes = content.0 }, content.1)

-- a custom section: its place, its kind and its content
unfoldable pub custom_section_at : List ℕ → CustomSection × List ℕ
custom_section_at bytes =
    let place = range_at 0 13 bytes in
    let kind = range_at 0 7 place.1 in
    if kind.0 == 6 then name_section_at place.0 false kind.1
    else if kind.0 == 7 then name_section_at place.0 true kind.1
    else plain_section_at place.0 kind.1

-- at most eight custom sections
unfoldable pub custom_sections_at : List ℕ → List CustomSection × List ℕ
custom_sections_at bytes = grow_at (λ made. custom_section_at) 0 8 [] bytes

-- a custom section of few bytes
pub record IsShort (custom : CustomSection) : Type 0 where
  pub name : length custom.name ≤ 100
  pub bytes : length custom.bytes ≤ 1000
