-- The custom sections of a module are in the order of its other sections.
use Rattle.smith_encode.proofs.Common.{[], ap, append-nil, append_assoc, AreCustoms, arith, Bool, Custom, Each, false, Is, IsModuleBinary}
use Rattle.smith_encode.proofs.Common.{IsOptionalSection, IsThen, List, None, Option, refl, Some, subst, sym, true, ℕ, ◌++◌, ◌∙◌, ◌∷◌, ◌≡◌}
use Rattle.smith_binary.specs.Pieces.{IsSection}
use Rattle.smith_binary.specs.Unambiguous.{IsUnambiguousWhole, Same}
use Rattle.smith_binary.proofs.UnambiguousLemmas.{same_head, section_is_unambiguous}
use Rattle.smith_decode.specs.Customs.{AreAmong, IsAnySection, IsCustom, IsNext}
use Rattle.smith_decode.specs.Modules.{IsStated, Syntax}
use Rattle.smith_encode.specs.Places.{is_same_section, skipped, left_after, HasCustomsAfter}
use Rattle.smith_encode.specs.Tails.{FromElements}
use Rattle.smith_encode.specs.Tails.{FromMemories, FromTypes, start_ids, front_ids, middle_ids, back_ids}
use Rattle.smith_encode.proofs.PlaceLemmas.{same_here}

-- what is skipped is at the front
front_more : (after : Option ℕ) (custom : Custom) (customs : List Custom) (same : Bool) → is_same_section custom.after after ≡ same
    → (front : List Custom) × (customs ≡ front ++ skipped after customs)
    → (front : List Custom) × (custom ∷ customs ≡ front ++ skipped after (custom ∷ customs))
front_more after custom customs true is h = (custom ∷ h.0, rw is (ap (λ (rest : List Custom). custom ∷ rest) h.1))
front_more after custom customs false is h = ([], rw is refl)

front_of : (after : Option ℕ) (customs : List Custom) → (front : List Custom) × (customs ≡ front ++ skipped after customs)
front_of after [] = ([], refl)
front_of after (custom ∷ customs) = front_more after custom customs (is_same_section custom.after after) refl (front_of after customs)

-- the end of a list skips to an end of what the list skips to
end_more : (after : Option ℕ) (custom : Custom) (front customs : List Custom) (same : Bool) → is_same_section custom.after after ≡ same
    → (other : List Custom) × (skipped after (front ++ customs) ≡ other ++ skipped after customs)
    → (other : List Custom) × (skipped after (custom ∷ (front ++ customs)) ≡ other ++ skipped after customs)
end_more after custom front customs true is h = (h.0, rw is h.1)
end_more after custom front customs false is h =
    let those = front_of after customs in (
      custom ∷ (front ++ those.0),
      rw is (ap (λ (rest : List Custom). custom ∷ rest)
          (ap (λ (rest : List Custom). front ++ rest) those.1 ∙ sym (append_assoc front those.0 (skipped after customs)))),
    )

end_of : (after : Option ℕ) (front customs : List Custom)
    → (other : List Custom) × (skipped after (front ++ customs) ≡ other ++ skipped after customs)
end_of after [] customs = ([], refl)
end_of after (custom ∷ front) customs =
    end_more after custom front customs (is_same_section custom.after after) refl (end_of after front customs)

end_empty : (front customs : List Custom) → front ++ customs ≡ [] → customs ≡ []
end_empty [] customs none = none
end_empty (custom ∷ front) customs none = absurd cc

-- if nothing is left of a list, nothing is left of its end
end_left : (ids : List ℕ) (front customs : List Custom) → left_after ids (front ++ customs) ≡ [] → left_after ids customs ≡ []
end_left [] front customs none = end_empty front customs none
end_left (id ∷ ids) front customs none =
    let those = end_of (Some id) front customs in
    end_left ids those.0 (skipped (Some id) customs) (ap (left_after ids) (sym those.1) ∙ none)

-- a section at the front of sections
record Split (id : ℕ) (Content : List ℕ → Type 0) (sections : List (ℕ × List ℕ)) (rest : List ℕ) : Type 0 where
  pub content : List ℕ
  pub others : List (ℕ × List ℕ)
  pub is : sections ≡ (id, content) ∷ others
  pub each : Each IsAnySection others rest

from_id : {Content : List ℕ → Type 0} {id : ℕ} {piece : List ℕ} (rest : List ℕ) → (h : IsSection id Content piece)
    → piece ++ rest ≡ id ∷ (h.second ++ rest)
from_id rest h = ap (λ (p : List ℕ). p ++ rest) (h.whole ∙ ap (λ (p : List ℕ). p ++ h.second) h.is_first)

exactly : {Content : List ℕ → Type 0} {id : ℕ} {piece : List ℕ} → (h : IsSection id Content piece)
    → IsSection id (Is h.is_second.content) piece
exactly h = record {
  first = h.first;
  second = h.second;
  is_first = h.is_first;
  is_second = record { content = h.is_second.content; is_content = refl; form = h.is_second.form };
  whole = h.whole;
}

content_whole : IsUnambiguousWhole Is
content_whole = record { one = λ x y piece h k. sym h ∙ k }

split : {Content : List ℕ → Type 0} (id : ℕ) (piece rest : List ℕ) (sections : List (ℕ × List ℕ)) → IsSection id Content piece
    → Each IsAnySection sections (piece ++ rest) → Split id Content sections rest
unfolding Each
split id piece rest [] h each = let never = sym (from_id rest h) ∙ each in absurd cc
split id piece rest (section ∷ sections) h each =
    let other = each.is_first.1 in
    let ids : id ≡ section.0 = same_head (sym (from_id rest h) ∙ each.whole ∙ from_id each.second other) in
    let same : Same h.is_second.content section.1 rest each.second =
    (section_is_unambiguous id content_whole).one h.is_second.content section.1 piece each.first rest each.second
    (exactly h) (subst (λ (i : ℕ). IsSection i (Is section.1) each.first) (sym ids) other) each.whole in
    record {
      content = section.1;
      others = sections;
      is = ap (λ (i : ℕ). (i, section.1) ∷ sections) (sym ids);
      each = subst (Each IsAnySection sections) (sym same.after) each.is_second;
    }

-- custom sections at the front are skipped
record Skips (after : Option ℕ) (customs : List Custom) (rest : List ℕ) : Type 0 where
  pub customs_left : List Custom
  pub same : skipped after customs ≡ skipped after customs_left
  pub placed : HasCustomsAfter after customs_left rest

first_skipped : {after : Option ℕ} {customs : List Custom} {rest : List ℕ} (content : List ℕ) (others : List (ℕ × List ℕ))
    → Each IsAnySection others rest → AreAmong after ((0, content) ∷ others) customs → Skips after customs rest
first_skipped {after = after} content others each (IsNext.custom custom more zeroth form is among) = record {
  customs_left = more;
  same = ap (skipped after) is ∙ (let here = same_here custom.after after form.0 in rw here refl);
  placed = (others, each, among);
}
first_skipped content others each (IsNext.other nonzero among) = absurd (nonzero refl)

then_skips : {after : Option ℕ} {customs : List Custom} {middle rest : List ℕ} (first : Skips after customs middle)
    → Skips after first.customs_left rest → Skips after customs rest
then_skips first more = record { customs_left = more.customs_left; same = first.same ∙ more.same; placed = more.placed }

-- what is left of the custom sections after those at the front is what is left of all
skips_to : (f : List Custom → List Custom) {after : Option ℕ} {customs : List Custom} {rest : List ℕ} (skips : Skips after customs rest)
    → f (skipped after skips.customs_left) ≡ [] → f (skipped after customs) ≡ []
skips_to f skips none = ap f skips.same ∙ none

each_skips : (all : List (Unit {0})) (after : Option ℕ) (customs : List Custom) (piece rest : List ℕ) → Each IsCustom all piece
    → HasCustomsAfter after customs (piece ++ rest) → Skips after customs rest
unfolding Each
each_skips [] after customs piece rest none h = record {
  customs_left = customs;
  same = refl;
  placed = subst (λ (front : List ℕ). HasCustomsAfter after customs (front ++ rest)) none h;
}
each_skips (one ∷ all) after customs piece rest each h =
    let whole : piece ++ rest ≡ each.first ++ (each.second ++ rest) =
    ap (λ (p : List ℕ). p ++ rest) each.whole ∙ append_assoc each.first each.second rest in
    let parts = split 0 each.first (each.second ++ rest) h.0 each.is_first (subst (Each IsAnySection h.0) whole h.1) in
    let first = first_skipped parts.content parts.others parts.each
    (subst (λ (sections : List (ℕ × List ℕ)). AreAmong after sections customs) parts.is h.2) in
    then_skips first (each_skips all after first.customs_left each.second rest each.is_second first.placed)

-- whatever these sections are, their custom sections are in the order of these identifiers
record IsOrdered (ids : List ℕ) (Spells : List ℕ → Type 0) : Type 0 where
  pub one : (after : Option ℕ) (customs : List Custom) (piece : List ℕ) → Spells piece → HasCustomsAfter after customs piece
      → left_after ids (skipped after customs) ≡ []

-- no section is at the end
nothing_among : (after : Option ℕ) (customs : List Custom) (sections : List (ℕ × List ℕ)) → Each IsAnySection sections []
    → AreAmong after sections customs → skipped after customs ≡ []
unfolding Each
nothing_among after customs [] each among = ap (skipped after) among
nothing_among after customs (section ∷ sections) each among = let never = each.whole ∙ from_id each.second each.is_first.1 in absurd cc

other_among : {after : Option ℕ} {id : ℕ} {content : List ℕ} (others : List (ℕ × List ℕ)) {customs : List Custom} → (id ≡ 0 → ⊥)
    → AreAmong after ((id, content) ∷ others) customs → AreAmong (Some id) others customs
other_among others nonzero (IsNext.custom custom more zeroth form is among) = absurd (nonzero zeroth)
other_among others nonzero (IsNext.other again among) = among

none_left : (after : Option ℕ) (customs : List Custom) → HasCustomsAfter after customs [] → skipped after customs ≡ []
unfolding Each
none_left after customs h = nothing_among after customs h.0 h.1 h.2

customs_ordered : IsOrdered [] AreCustoms
customs_ordered = record {
  one = λ after customs piece h placed.
      let skips = each_skips h.all after customs piece [] h.form
      (subst (HasCustomsAfter after customs) (sym (append-nil piece)) placed) in
      skips_to (λ all. all) skips (none_left after skips.customs_left skips.placed);
}

-- a section more
later_ordered : {S : Type 0} {Content More : List ℕ → Type 0} (id : ℕ) (ids : List ℕ) → (id ≡ 0 → ⊥) → IsOrdered ids More
    → (after : Option ℕ) (customs : List Custom) (section more : List ℕ) → IsOptionalSection id S Content section → More more
    → HasCustomsAfter after customs (section ++ more) → left_after ids (skipped (Some id) (skipped after customs)) ≡ []
later_ordered id ids nonzero others after customs section more (IsOptionalSection.present h) rest placed =
    let parts = split id section more placed.0 h placed.1 in
    let among = other_among parts.others nonzero
    (subst (λ (sections : List (ℕ × List ℕ)). AreAmong after sections customs) parts.is placed.2) in
    let those = front_of after customs in
    let left = others.one (Some id) customs more rest (parts.others, parts.each, among) in
    end_left (id ∷ ids) those.0 (skipped after customs)
    (ap (λ (all : List Custom). left_after ids (skipped (Some id) all)) (sym those.1) ∙ left)
later_ordered id ids nonzero others after customs section more (IsOptionalSection.absent says empty) rest placed =
    let those = front_of (Some id) (skipped after customs) in
    let left = others.one after customs more rest
    (subst (λ (front : List ℕ). HasCustomsAfter after customs (front ++ more)) empty placed) in
    end_left ids those.0 (skipped (Some id) (skipped after customs)) (ap (left_after ids) (sym those.1) ∙ left)

more_ordered : {S : Type 0} {Content More : List ℕ → Type 0} (id : ℕ) (ids : List ℕ) → (id ≡ 0 → ⊥) → IsOrdered ids More
    → IsOrdered (id ∷ ids) (IsThen id S Content More)
more_ordered id ids nonzero others = record {
  one = λ after customs piece h placed.
      let skips = each_skips h.is_first.all after customs h.first h.second h.is_first.form
      (subst (HasCustomsAfter after customs) h.whole placed) in
      skips_to (λ all. left_after ids (skipped (Some id) all)) skips
      (later_ordered id ids nonzero others after skips.customs_left h.is_second.first h.is_second.second h.is_second.is_first
      h.is_second.is_second (subst (HasCustomsAfter after skips.customs_left) h.is_second.whole skips.placed));
}

-- a section that is left out
absent_section : {S : Type 0} {Content : List ℕ → Type 0} (id : ℕ) (section : List ℕ) → ((content : List ℕ) → Content content → ⊥)
    → IsOptionalSection id S Content section → section ≡ []
absent_section id section never (IsOptionalSection.present h) = absurd (never h.is_second.content h.is_second.is_content)
absent_section id section never (IsOptionalSection.absent says empty) = empty

absent_ordered : {S : Type 0} {Content More : List ℕ → Type 0} (id : ℕ) (ids : List ℕ) → ((content : List ℕ) → Content content → ⊥)
    → IsOrdered ids More → IsOrdered ids (IsThen id S Content More)
absent_ordered id ids never others = record {
  one = λ after customs piece h placed.
      let skips = each_skips h.is_first.all after customs h.first h.second h.is_first.form
      (subst (HasCustomsAfter after customs) h.whole placed) in
      let empty = absent_section id h.is_second.first never h.is_second.is_first in
      let whole : h.second ≡ h.is_second.second =
      h.is_second.whole ∙ ap (λ (front : List ℕ). front ++ h.is_second.second) empty in
      skips_to (left_after ids) skips
      (others.one after skips.customs_left h.is_second.second h.is_second.is_second
      (subst (HasCustomsAfter after skips.customs_left) whole skips.placed));
}

start_ordered : {More : List ℕ → Type 0} (start : Option ℕ) (ids : List ℕ) → IsOrdered ids More
    → IsOrdered (start_ids start ++ ids) (IsThen 8 (start ≡ None) (IsStated start) More)
start_ordered (Some index) ids others = more_ordered 8 ids (λ e. omega (arith, e)) others
start_ordered None ids others = absent_ordered 8 ids (λ content h. let never = h.is in absurd cc) others

from_elements : (m : Syntax) (count : Option ℕ) → IsOrdered back_ids (FromElements m count)
from_elements m count =
    more_ordered 9 (12 ∷ 10 ∷ 11 ∷ []) (λ e. omega (arith, e)) (more_ordered 12 (10 ∷ 11 ∷ []) (λ e. omega (arith, e))
    (more_ordered 10 (11 ∷ []) (λ e. omega (arith, e)) (more_ordered 11 [] (λ e. omega (arith, e)) customs_ordered)))

from_memories : (m : Syntax) (count : Option ℕ) → IsOrdered (middle_ids ++ (start_ids m.start ++ back_ids)) (FromMemories m count)
from_memories m count =
    let start = start_ids m.start ++ back_ids in
    more_ordered 5 (13 ∷ 6 ∷ 7 ∷ start) (λ e. omega (arith, e)) (more_ordered 13 (6 ∷ 7 ∷ start) (λ e. omega (arith, e))
    (more_ordered 6 (7 ∷ start) (λ e. omega (arith, e)) (more_ordered 7 start (λ e. omega (arith, e))
    (start_ordered m.start back_ids (from_elements m count)))))

from_types : (m : Syntax) (count : Option ℕ)
    → IsOrdered (front_ids ++ (middle_ids ++ (start_ids m.start ++ back_ids))) (FromTypes m count)
from_types m count =
    let memories = middle_ids ++ (start_ids m.start ++ back_ids) in
    more_ordered 1 (2 ∷ 3 ∷ 4 ∷ memories) (λ e. omega (arith, e)) (more_ordered 2 (3 ∷ 4 ∷ memories) (λ e. omega (arith, e))
    (more_ordered 3 (4 ∷ memories) (λ e. omega (arith, e)) (more_ordered 4 memories (λ e. omega (arith, e)) (from_memories m count))))

-- the custom sections of a module are in order
pub module_ordered : (m : Syntax) (bytes : List ℕ) → IsModuleBinary m bytes
    → left_after (front_ids ++ (middle_ids ++ (start_ids m.start ++ back_ids))) (skipped None m.customs) ≡ []
module_ordered m bytes h = (from_types m h.count).one None m.customs h.form.second h.form.is_second h.customs
