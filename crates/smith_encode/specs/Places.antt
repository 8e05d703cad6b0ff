-- Places of custom sections: the section Binary Format, Modules, Custom Section, of the WebAssembly
-- Core Specification 3.0. A place is a pair of the last section before it that is not custom and
-- the custom sections after it.
use Rattle.std.specs.Prelude.{◌≡◌, ℕ, ◌==◌, if◌then◌else◌, Bool, true, false, Option, Some, None, List, [], ◌∷◌, ◌++◌, Any}
use Rattle.smith_binary.specs.Pieces.{Each, Output}
use Rattle.smith_binary_sections.specs.Sections.{IsOptionalSection}
use Rattle.smith_decode.specs.declared.customs.Custom.{Custom}
use Rattle.smith_decode.specs.Customs.{AreCustoms, IsAnySection, AreAmong}
use Rattle.smith_encode.specs.TooLong.{IsLongCustom}

-- whether two sections are the same
abbrev pub is_same_section : Option ℕ → Option ℕ → Bool
is_same_section None None = true
is_same_section None (Some other) = false
is_same_section (Some id) None = false
is_same_section (Some id) (Some other) = id == other

-- custom sections without those at the front that follow this section
abbrev pub skipped : Option ℕ → List Custom → List Custom
skipped after [] = []
skipped after (custom ∷ customs) = if is_same_section custom.after after then skipped after customs else (custom ∷ customs)

-- custom sections without those at the front that follow these sections, in order
abbrev pub left_after : List ℕ → List Custom → List Custom
left_after [] customs = customs
left_after (id ∷ ids) customs = left_after ids (skipped (Some id) customs)

-- whether the first custom section follows this section
abbrev pub is_due : ℕ → List Custom → Bool
is_due id [] = false
is_due id (custom ∷ customs) = is_same_section custom.after (Some id)

-- the place after a section, if it is written
abbrev pub next_place : Bool → ℕ → Option ℕ × List Custom → Option ℕ × List Custom
next_place true id place = (Some id, place.1)
next_place false id place = place

-- `customs` are the custom sections of a piece, which follows this section
abbrev pub HasCustomsAfter : Option ℕ → List Custom → List ℕ → Type 0
HasCustomsAfter after customs piece = (sections : List (ℕ × List ℕ)) × Each IsAnySection sections piece × AreAmong after sections customs

-- a piece leads from one place to another, past these sections
pub record Leads (ids : List ℕ) (old new : Option ℕ × List Custom) (piece : List ℕ) : Type 0 where
  pub placed : (tail : List ℕ) → HasCustomsAfter new.0 new.1 tail → HasCustomsAfter old.0 old.1 (piece ++ tail)
  pub order : (more : List ℕ) → left_after (ids ++ more) (skipped old.0 old.1) ≡ left_after more (skipped new.0 new.1)
  pub rest : Any IsLongCustom new.1 → Any IsLongCustom old.1

-- custom sections were written
pub record WritesCustoms (old new : Option ℕ × List Custom) (before after : Output) : Type 0 where
  pub piece : List ℕ
  pub spelled : AreCustoms piece
  pub leads : Leads [] old new piece
  pub whole : after.bytes ≡ before.bytes ++ piece

-- custom sections were written, then a section, unless it says nothing
pub record WritesNext (id : ℕ) (SaysNothing : Type 0) (Content : List ℕ → Type 0) (old new : Option ℕ × List Custom)
    (before after : Output) : Type 0 where
  pub customs : List ℕ
  pub section : List ℕ
  pub are_customs : AreCustoms customs
  pub is_section : IsOptionalSection id SaysNothing Content section
  pub leads : Leads (id ∷ []) old new (customs ++ section)
  pub whole : after.bytes ≡ before.bytes ++ (customs ++ section)

-- with each `Tail` after it, the piece that was written is a `Whole`
pub record WritesBefore (ids : List ℕ) (Tail Whole : List ℕ → Type 0) (old new : Option ℕ × List Custom)
    (before after : Output) : Type 0 where
  pub piece : List ℕ
  pub spelled : (tail : List ℕ) → Tail tail → Whole (piece ++ tail)
  pub leads : Leads ids old new piece
  pub whole : after.bytes ≡ before.bytes ++ piece
