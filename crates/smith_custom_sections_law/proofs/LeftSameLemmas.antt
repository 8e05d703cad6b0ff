-- What is left of a file without its custom sections is one file.
use Rattle.std.proofs.Common.{◌≡◌, ℕ, ◌≤◌, List, [], ◌∷◌, ◌++◌, length, refl, sym, ap, subst, ◌∙◌, arith, length-append}
use Rattle.std.specs.List.{concat}
use Rattle.smith_binary.specs.Pieces.{Is, Joined, Each}
use Rattle.smith_binary_sections.specs.Modules.{IsPreamble}
use Rattle.smith_custom_sections.specs.WithoutCustoms.{IsLeftOf, IsWithoutCustoms}
use Rattle.smith_custom_sections_law.proofs.FrontLemmas.{same_section, section_long}
use Rattle.smith_custom_sections_law.proofs.AmongLemmas.{after_preamble}

-- a section has bytes
left_long : {left piece : List ℕ} → IsLeftOf left piece → 1 ≤ length piece
left_long (IsLeftOf.custom h none) = section_long h
left_long (IsLeftOf.other id own h same) = section_long h

-- the same is left of sections at the front of the same bytes
record AreLeftSame (left other rest other_rest : List ℕ) : Type 0 where
  pub lefts : left ≡ other
  pub rests : rest ≡ other_rest

left_same : {left other : List ℕ} (piece other_piece rest other_rest : List ℕ) → IsLeftOf left piece → IsLeftOf other other_piece
    → piece ++ rest ≡ other_piece ++ other_rest → AreLeftSame left other rest other_rest
left_same p q rest other_rest (IsLeftOf.custom h none) (IsLeftOf.custom k nothing) whole =
    let same = same_section 0 0 p q rest other_rest h k whole in
    record { lefts = none ∙ sym nothing; rests = same.rests }
left_same p q rest other_rest (IsLeftOf.custom h none) (IsLeftOf.other id own k is) whole =
    let same = same_section 0 id p q rest other_rest h k whole in
    absurd (own (sym same.ids))
left_same p q rest other_rest (IsLeftOf.other id own h is) (IsLeftOf.custom k none) whole =
    let same = same_section id 0 p q rest other_rest h k whole in
    absurd (own same.ids)
left_same p q rest other_rest (IsLeftOf.other id own h is) (IsLeftOf.other other_id other_own k other_is) whole =
    let same = same_section id other_id p q rest other_rest h k whole in
    record { lefts = is ∙ same.pieces ∙ sym other_is; rests = same.rests }

-- no bytes are no section
never_empty : {left : List ℕ} (first second piece : List ℕ) → IsLeftOf left first → piece ≡ [] → piece ≡ first ++ second → ⊥
never_empty first second piece h none whole =
    omega (arith, left_long h, ap length (sym none ∙ whole) ∙ length-append first second)

all_same : (lefts others : List (List ℕ)) (piece : List ℕ) → Each IsLeftOf lefts piece → Each IsLeftOf others piece → lefts ≡ others
unfolding Each
all_same [] [] piece h k = refl
all_same [] (other ∷ others) piece h k = absurd (never_empty k.first k.second piece k.is_first h k.whole)
all_same (left ∷ lefts) [] piece h k = absurd (never_empty h.first h.second piece h.is_first k h.whole)
all_same (left ∷ lefts) (other ∷ others) piece h k =
    let same = left_same h.first k.first h.second k.second h.is_first k.is_first (sym h.whole ∙ k.whole) in
    let more = all_same lefts others h.second h.is_second (subst (Each IsLeftOf others) (sym same.rests) k.is_second) in
    ap (λ (one : List ℕ). one ∷ lefts) same.lefts ∙ ap (λ (rest : List (List ℕ)). other ∷ rest) more

-- the bytes of a file
file_is : {bytes file : List ℕ} → Joined IsPreamble (Is bytes) file
    → file ≡ (0x00 ∷ 0x61 ∷ 0x73 ∷ 0x6D ∷ 0x01 ∷ 0x00 ∷ 0x00 ∷ 0x00 ∷ []) ++ bytes
file_is h =
    h.whole ∙ ap (λ (first : List ℕ). first ++ h.second) h.is_first
    ∙ ap (λ (second : List ℕ). (0x00 ∷ 0x61 ∷ 0x73 ∷ 0x6D ∷ 0x01 ∷ 0x00 ∷ 0x00 ∷ 0x00 ∷ []) ++ second) h.is_second

pub one_file : (bytes file other : List ℕ) → IsWithoutCustoms bytes file → IsWithoutCustoms bytes other → file ≡ other
one_file bytes file other h k =
    let second : h.sections.second ≡ k.sections.second = sym (after_preamble h.sections) ∙ after_preamble k.sections in
    let same =
    all_same h.left k.left h.sections.second h.sections.is_second (subst (Each IsLeftOf k.left) (sym second) k.sections.is_second) in
    file_is h.others
    ∙ ap (λ (lefts : List (List ℕ)). (0x00 ∷ 0x61 ∷ 0x73 ∷ 0x6D ∷ 0x01 ∷ 0x00 ∷ 0x00 ∷ 0x00 ∷ []) ++ concat lefts) same
    ∙ sym (file_is k.others)
