-- Sections at the front of bytes.
use Rattle.std.proofs.Common.{◌≡◌, ℕ, ◌≤◌, List, [], ◌∷◌, ◌++◌, length, refl, sym, ap, subst, ◌∙◌, arith, append_assoc, length-append}
use Rattle.smith_binary.specs.Pieces.{Each, IsSection}
use Rattle.smith_binary.specs.Unambiguous.{IsUnambiguousWhole, Same}
use Rattle.smith_binary.proofs.UnambiguousLemmas.{same_front, same_head, section_is_unambiguous}
use Rattle.smith_custom_sections.specs.CustomSections.{IsAny, IsPlainSection}
use Rattle.smith_decode.specs.Customs.{IsCustom, AreCustoms}

-- a section of any content
pub of_any : {Content : List ℕ → Type 0} {id : ℕ} {piece : List ℕ} → IsSection id Content piece → IsSection id IsAny piece
of_any h = record {
  first = h.first;
  second = h.second;
  is_first = h.is_first;
  is_second = record { content = h.is_second.content; is_content = tt; form = h.is_second.form };
  whole = h.whole;
}

nothing_whole : IsUnambiguousWhole (λ (nothing : Unit {0}). IsAny)
nothing_whole = record { one = λ x y piece h k. refl }

-- two sections at the front of the same bytes
pub record AreSame (id other_id : ℕ) (piece other rest other_rest : List ℕ) : Type 0 where
  pub ids : id ≡ other_id
  pub pieces : piece ≡ other
  pub rests : rest ≡ other_rest

-- the first byte of a section is its identifier
pub from_id : {Content : List ℕ → Type 0} {id : ℕ} {piece : List ℕ} (rest : List ℕ) → (h : IsSection id Content piece)
    → piece ++ rest ≡ id ∷ (h.second ++ rest)
from_id rest h = ap (λ (p : List ℕ). p ++ rest) (h.whole ∙ ap (λ (p : List ℕ). p ++ h.second) h.is_first)

pub same_section : {Content Other : List ℕ → Type 0} (id other_id : ℕ) (piece other rest other_rest : List ℕ) → IsSection id Content piece
    → IsSection other_id Other other → piece ++ rest ≡ other ++ other_rest → AreSame id other_id piece other rest other_rest
same_section id other_id piece other rest other_rest h k whole =
    let ids : id ≡ other_id = same_head (sym (from_id rest h) ∙ whole ∙ from_id other_rest k) in
    let other_any : IsSection id IsAny other = subst (λ (i : ℕ). IsSection i IsAny other) (sym ids) (of_any k) in
    let one : Same tt tt rest other_rest =
    (section_is_unambiguous {A = Unit {0}} {P = λ nothing. IsAny} id nothing_whole).one tt tt piece other rest other_rest
    (of_any h) other_any whole in
    let lengths = ap length whole in
    let long : length piece ≡ length other =
    omega (arith, lengths, length-append piece rest, length-append other other_rest, ap length one.after) in
    record { ids = ids; pieces = (same_front piece other rest other_rest long whole).item; rests = one.after }

-- a section has bytes
pub section_long : {Content : List ℕ → Type 0} {id : ℕ} {piece : List ℕ} → IsSection id Content piece → 1 ≤ length piece
section_long h = rw (h.whole, h.is_first) (omega arith)

-- bytes that begin with a section that is not custom begin with no custom section
each_none : (all : List (Unit {0})) (sections : List (List ℕ)) (first rest bytes : List ℕ) → Each IsPlainSection sections bytes
    → Each IsCustom all first
    → bytes ≡ first ++ rest → first ≡ []
unfolding Each
each_none [] sections first rest bytes plain h whole = h
each_none (one ∷ all) [] first rest bytes plain h whole =
    let some = section_long h.is_first in
    let long = ap length h.whole ∙ length-append h.first h.second in
    let none = ap length (sym plain ∙ whole) ∙ length-append first rest in
    absurd (omega (arith, some, long, none))
each_none (one ∷ all) (section ∷ sections) first rest bytes plain h whole =
    let custom = h.is_first in
    let ids : 0 ≡ plain.is_first.id =
    same_head (sym (from_id (h.second ++ rest) custom) ∙ sym (append_assoc h.first h.second rest)
    ∙ ap (λ (p : List ℕ). p ++ rest) (sym h.whole) ∙ sym whole ∙ plain.whole ∙ from_id plain.second plain.is_first.form) in
    absurd (plain.is_first.not_custom (sym ids))

pub none_before : (sections : List (List ℕ)) {bytes : List ℕ} (first rest : List ℕ) → Each IsPlainSection sections bytes → AreCustoms first
    → bytes ≡ first ++ rest → first ≡ []
none_before sections {bytes = bytes} first rest plain h whole = each_none h.all sections first rest bytes plain h.form whole
