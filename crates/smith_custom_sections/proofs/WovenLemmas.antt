-- Sections of a file that are written one after the other, with custom sections among them.
use Rattle.std.proofs.Common.{◌≡◌, ◌≢◌, ℕ, zero, suc, ◌+◌, ◌≤◌, true, false, List, [], ◌∷◌, ◌++◌, length, drop, refl, sym, ap, subst, ◌∙◌}
use Rattle.std.proofs.Common.{arith, add-one, length-append}
use Rattle.smith_binary.specs.Pieces.{Is, Joined, Each, Output, Writes}
use Rattle.smith_binary.specs.Spelling.{Spelling}
use Rattle.smith_binary.proofs.WrittenLemmas.{Leads, joined_written, written_as}
use Rattle.smith_custom_sections.specs.declared.custom_section.CustomSection.{CustomSection}
use Rattle.smith_custom_sections.specs.CustomSections.{AreDueIn, AreWovenIn, IsPlainSection, StartsWith}

-- the first of some sections, and the others
pub record HasNext (pieces : List (List ℕ)) (bytes : List ℕ) : Type 0 where
  pub section : List ℕ
  pub others : List (List ℕ)
  pub rest : List ℕ
  pub is : pieces ≡ section ∷ others
  pub starts : StartsWith section rest bytes
  pub plain : Each IsPlainSection others rest

pub next_of : (pieces : List (List ℕ)) (bytes : List ℕ) → Each IsPlainSection pieces bytes → length bytes ≢ 0 → HasNext pieces bytes
unfolding Each
next_of [] bytes h some = absurd (some (ap length h))
next_of (section ∷ others) bytes h some = record {
  section = section;
  others = others;
  rest = h.second;
  is = refl;
  starts = record {
    plain = subst (IsPlainSection section) h.is_first.is h.is_first;
    whole = h.whole ∙ ap (λ (first : List ℕ). first ++ h.second) h.is_first.is;
  };
  plain = h.is_second;
}

-- a section has bytes
pub has_bytes : (section piece : List ℕ) → IsPlainSection section piece → 1 ≤ length piece
has_bytes section piece h = rw (h.form.whole, h.form.is_first) (omega arith)

-- what is after a section is shorter
pub next_shorter : {section rest bytes : List ℕ} → StartsWith section rest bytes → length rest + 1 ≤ length bytes
next_shorter {section = section} {rest = rest} h =
    rw h.whole (omega (arith, has_bytes section section h.plain, length-append section rest))

-- no byte is no section
pub none_left : (pieces : List (List ℕ)) (bytes : List ℕ) → Each IsPlainSection pieces bytes → length bytes ≡ 0 → pieces ≡ []
unfolding Each
none_left [] bytes h none = refl
none_left (section ∷ others) bytes h none =
    let some = has_bytes section h.first h.is_first in
    let long : length bytes ≡ length h.first + length h.second = rw h.whole (length-append h.first h.second) in
    absurd (omega (arith, some, long, none))

-- the sections before a place are written, with the custom sections among them, and the others are left
pub record IsWoven (customs : List CustomSection) (pieces : List (List ℕ)) (place : ℕ) (left : List ℕ) (start now : Output) : Type 0 where
  pub plain : Each IsPlainSection (drop place pieces) left
  pub leads : Leads (λ s. AreWovenIn s customs place (drop place pieces)) (λ s. AreWovenIn s customs 0 pieces) start now

pub woven_start : (customs : List CustomSection) (pieces : List (List ℕ)) (bytes : List ℕ) (start : Output)
    → Each IsPlainSection pieces bytes
    → IsWoven customs pieces 0 bytes start start
woven_start customs pieces bytes start h = record { plain = h; leads = record { to = λ final rest. rest } }

drop_one : {A : Type 0} (n : ℕ) (xs : List A) (x : A) (others : List A) → drop n xs ≡ x ∷ others → drop (suc n) xs ≡ others
drop_one zero xs x others is = rw is refl
drop_one (suc n) [] x others is = absurd cc
drop_one (suc n) (y ∷ ys) x others is = drop_one n ys x others is

woven_cons : (s : Spelling) (customs : List CustomSection) (place after_place : ℕ) (pieces next others : List (List ℕ))
    (section bytes piece : List ℕ)
    → pieces ≡ section ∷ others → bytes ≡ section → next ≡ others → after_place ≡ suc place
    → Joined (AreDueIn s customs false place) (Joined (Is bytes) (AreWovenIn s customs after_place next)) piece
    → AreWovenIn s customs place pieces piece
unfolding AreWovenIn
woven_cons s customs place after_place pieces next others section bytes piece is same rest place_is h =
    rw (is, sym same, sym rest, sym place_is) h

-- one more section
pub woven_more : {customs : List CustomSection} {pieces : List (List ℕ)} {place : ℕ} {left : List ℕ} {start now between later : Output}
    (bytes after : List ℕ) → IsWoven customs pieces place left start now → length left ≢ 0
    → Writes (λ s. AreDueIn s customs false place) now between
    → ((section rest : List ℕ) → StartsWith section rest left → (bytes ≡ section) × (after ≡ rest))
    → Writes (λ _. Is bytes) between later → IsWoven customs pieces (place + 1) after start later
woven_more {customs = customs} {pieces = pieces} {place = place} {left = left} bytes after so_far some due read one =
    let next = next_of (drop place pieces) left so_far.plain some in
    let same = read next.section next.rest next.starts in
    let others : drop (place + 1) pieces ≡ next.others =
    rw (add-one place) (drop_one place pieces next.section next.others next.is) in
    record {
      plain = rw (others, same.1) next.plain;
      leads = record {
        to = λ final rest. so_far.leads.to final
            (written_as (λ s piece h. woven_cons s customs place (place + 1) (drop place pieces) (drop (place + 1) pieces) next.others
            next.section bytes piece next.is same.0 others (add-one place) h) (joined_written due (joined_written one rest)));
      };
    }

-- no section is left
pub woven_end : {customs : List CustomSection} {pieces : List (List ℕ)} {place : ℕ} {left : List ℕ} {start now final : Output}
    → IsWoven customs pieces place left start now → length left ≡ 0 → Writes (λ s. AreDueIn s customs true place) now final
    → Writes (λ s. AreWovenIn s customs 0 pieces) start final
unfolding AreWovenIn
woven_end {pieces = pieces} {place = place} {left = left} {final = final} so_far none due =
    let empty = none_left (drop place pieces) left so_far.plain none in
    so_far.leads.to final (written_as (λ s piece h. rw empty h) due)
