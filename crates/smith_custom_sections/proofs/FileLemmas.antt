-- Files that are cut after their preamble.
use Rattle.std.proofs.Common.{◌≡◌, ℕ, ◌≤◌, List, [], length, take, drop, refl, sym, ap, subst, ◌∙◌, arith}
use Rattle.smith_binary.specs.Pieces.{Is, Each, Output, Writes}
use Rattle.smith_binary.specs.Spelling.Spelling.{any}
use Rattle.smith_binary.proofs.WrittenLemmas.{joined_written, written_plain, written_whole, kept_whole}
use Rattle.smith_binary_sections.specs.Modules.{IsPreamble}
use Rattle.smith_custom_sections.specs.declared.custom_section.CustomSection.{CustomSection}
use Rattle.smith_custom_sections.specs.CustomSections.{AreWovenIn, IsPlainFile, IsPlainSection, IsWithCustomsIn}
use Rattle.smith_custom_sections.specs.Additions.{IsAdded}
use Rattle.smith_custom_sections.proofs.LeftLemmas.{left_of_woven}

-- the preamble and the sections of a file
pub record IsCut (pieces : List (List ℕ)) (file : List ℕ) : Type 0 where
  pub long : 8 ≤ length file
  pub front : IsPreamble (take 8 file)
  pub back : Each IsPlainSection pieces (drop 8 file)

pub plain_cut : (pieces : List (List ℕ)) (file : List ℕ) → IsPlainFile pieces file → IsCut pieces file
plain_cut pieces file h = rw (h.whole, h.is_first) (record { long = omega arith; front = refl; back = h.is_second })

-- the preamble, then sections with custom sections among them
woven_whole : {empty between new : Output} (customs : List CustomSection) (pieces : List (List ℕ)) (file : List ℕ) → empty.bytes ≡ []
    → IsPlainFile pieces file → Writes (λ _. Is (take 8 file)) empty between
    → Writes (λ s. AreWovenIn s customs 0 pieces) between new → IsAdded empty.least customs file new.bytes
woven_whole {new = new} customs pieces file none plain one two =
    let front = (plain_cut pieces file plain).front in
    let whole = joined_written (written_plain {Other = IsPreamble} (λ piece h. h ∙ front) one) two in
    let inserted : IsWithCustomsIn any customs file new.bytes =
    record { sections = pieces; plain = plain; woven = written_whole none whole } in
    record {
      inserted = inserted;
      spelling = record { sections = pieces; plain = plain; woven = kept_whole none whole };
      without = left_of_woven inserted;
    }

pub file_written : {empty between new : Output} (customs : List CustomSection) (pieces : List (List ℕ)) (file front back bytes : List ℕ)
    (least : ℕ)
    → empty ≡ record { bytes = []; least = least } → IsPlainFile pieces file → front ≡ take 8 file → back ≡ drop 8 file
    → Writes (λ _. Is front) empty between
    → ((all : List (List ℕ)) → Each IsPlainSection all back → Writes (λ s. AreWovenIn s customs 0 all) between new)
    → bytes ≡ new.bytes → IsAdded least customs file bytes
file_written {new = new} customs pieces file front back bytes least empty_is plain front_is back_is one two bytes_is =
    let sections : Each IsPlainSection pieces back = rw back_is (plain_cut pieces file plain).back in
    let whole = woven_whole customs pieces file (ap (λ (o : Output). o.bytes) empty_is) plain (rw front_is at one) (two pieces sections) in
    subst (IsAdded least customs file) (sym bytes_is)
    (subst (λ (k : ℕ). IsAdded k customs file new.bytes) (ap (λ (o : Output). o.least) empty_is) whole)
