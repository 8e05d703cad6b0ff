-- What is left of a file without its custom sections.
use Rattle.std.proofs.Common.{◌≡◌, ℕ, suc, Bool, true, false, List, [], ◌∷◌, ◌++◌, refl, sym, ap, subst, ◌∙◌, append_assoc, append-nil}
use Rattle.std.specs.List.{concat}
use Rattle.std.proofs.lemmas.List.Folds.{concat-append}
use Rattle.smith_binary.specs.Pieces.{Each, IsSection}
use Rattle.smith_binary.specs.Spelling.Spelling.{any}
use Rattle.smith_binary_sections.specs.Sections.{IsSectionIfIn}
use Rattle.smith_custom_sections.specs.declared.custom_section.CustomSection.{CustomSection}
use Rattle.smith_custom_sections.specs.CustomSections.{AreDueIn, AreWovenIn, IsContentIn, IsPlain, IsPlainSection, IsWithCustomsIn, is_due}
use Rattle.smith_custom_sections.specs.WithoutCustoms.{IsLeftOf, IsNamed, IsWithoutCustoms}

-- what is left of sections
record Left (bytes piece : List ℕ) : Type 0 where
  pub each_left : List (List ℕ)
  pub each : Each IsLeftOf each_left piece
  pub is : concat each_left ≡ bytes

left_none : {piece : List ℕ} → piece ≡ [] → Left [] piece
unfolding Each
left_none none = record { each_left = []; each = none; is = refl }

left_one : {bytes piece : List ℕ} → IsLeftOf bytes piece → Left bytes piece
unfolding Each
left_one {bytes = bytes} {piece = piece} h = record {
  each_left = bytes ∷ [];
  each = record { first = piece; second = []; is_first = h; is_second = refl; whole = sym (append-nil piece) };
  is = append-nil bytes;
}

each_append : {A : Type 0} (Item : A → List ℕ → Type 0) (xs ys : List A) (a b : List ℕ) → Each Item xs a → Each Item ys b
    → Each Item (xs ++ ys) (a ++ b)
unfolding Each
each_append Item [] ys a b h k = rw h k
each_append Item (x ∷ xs) ys a b h k = record {
  first = h.first;
  second = h.second ++ b;
  is_first = h.is_first;
  is_second = each_append Item xs ys h.second b h.is_second k;
  whole = ap (λ (bytes : List ℕ). bytes ++ b) h.whole ∙ append_assoc h.first h.second b;
}

left_joined : {a b p q piece : List ℕ} → Left a p → Left b q → piece ≡ p ++ q → Left (a ++ b) piece
left_joined {p = p} {q = q} one two whole = record {
  each_left = one.each_left ++ two.each_left;
  each = subst (Each IsLeftOf (one.each_left ++ two.each_left)) (sym whole)
      (each_append IsLeftOf one.each_left two.each_left p q one.each two.each);
  is = concat-append one.each_left two.each_left ∙ rw (one.is, two.is) refl;
}

-- nothing of custom sections
named : (custom : CustomSection) (content : List ℕ) → IsContentIn any custom content → IsNamed content
named custom content h = record {
  name = custom.name;
  form = record { first = h.first; second = h.second; is_first = h.is_first; is_second = tt; whole = h.whole };
}

named_section : (custom : CustomSection) (piece : List ℕ) → IsSection 0 (IsContentIn any custom) piece → IsSection 0 IsNamed piece
named_section custom piece h = record {
  first = h.first;
  second = h.second;
  is_first = h.is_first;
  is_second = record {
    content = h.is_second.content;
    is_content = named custom h.is_second.content h.is_second.is_content;
    form = h.is_second.form;
  };
  whole = h.whole;
}

one_left : (custom : CustomSection) (b : Bool) (piece : List ℕ) → IsSectionIfIn any b 0 (IsContentIn any custom) piece → Left [] piece
one_left custom true piece h = left_one (IsLeftOf.custom (named_section custom piece h) refl)
one_left custom false piece h = left_none h

due_left : (customs : List CustomSection) (at_end : Bool) (place : ℕ) (piece : List ℕ) → AreDueIn any customs at_end place piece
    → Left [] piece
unfolding Each
due_left [] at_end place piece h = left_none h
due_left (custom ∷ customs) at_end place piece h =
    left_joined (one_left custom (is_due at_end place custom) h.first h.is_first) (due_left customs at_end place h.second h.is_second)
    h.whole

-- all of the others
section_left : {section piece : List ℕ} (bytes : List ℕ) → IsPlainSection section bytes → piece ≡ section → Left section piece
section_left {section = section} bytes plain same =
    left_one (IsLeftOf.other plain.id plain.not_custom
    (subst (IsSection plain.id (λ content. Unit {0})) (plain.is ∙ sym same) plain.form) (sym same))

woven_left : (customs : List CustomSection) (place : ℕ) (pieces : List (List ℕ)) (file piece : List ℕ) → Each IsPlainSection pieces file
    → AreWovenIn any customs place pieces piece → Left (concat pieces) piece
unfolding Each AreWovenIn
woven_left customs place [] file piece plain h = due_left customs true place piece h
woven_left customs place (section ∷ sections) file piece plain h =
    let more = h.is_second in
    left_joined (due_left customs false place h.first h.is_first)
    (left_joined (section_left plain.first plain.is_first more.is_first)
    (woven_left customs (suc place) sections plain.second more.second plain.is_second more.is_second) more.whole) h.whole

plain_concat : (pieces : List (List ℕ)) (file : List ℕ) → Each IsPlainSection pieces file → file ≡ concat pieces
unfolding Each
plain_concat [] file h = h
plain_concat (section ∷ sections) file h = h.whole ∙ rw (h.is_first.is, plain_concat sections h.second h.is_second) refl

-- the file without its custom sections is the file that was
pub left_of_woven : {customs : List CustomSection} {file bytes : List ℕ} → IsWithCustomsIn any customs file bytes
    → IsWithoutCustoms bytes file
left_of_woven {customs = customs} h =
    let plain = h.plain in
    let woven = h.woven in
    let left = woven_left customs 0 h.sections plain.second woven.second plain.is_second woven.is_second in
    record {
      left = left.each_left;
      sections = record {
        first = woven.first;
        second = woven.second;
        is_first = woven.is_first;
        is_second = left.each;
        whole = woven.whole;
      };
      others = record {
        first = plain.first;
        second = plain.second;
        is_first = plain.is_first;
        is_second = plain_concat h.sections plain.second plain.is_second ∙ sym left.is;
        whole = plain.whole;
      };
    }

-- a file without custom sections is left as it is
pieces_left : (pieces : List (List ℕ)) (bytes : List ℕ) → Each IsPlainSection pieces bytes → Left (concat pieces) bytes
unfolding Each
pieces_left [] bytes h = left_none h
pieces_left (section ∷ sections) bytes h =
    left_joined (section_left h.first h.is_first h.is_first.is) (pieces_left sections h.second h.is_second) h.whole

pub plain_left : {file : List ℕ} → IsPlain file → IsWithoutCustoms file file
plain_left plain =
    let sections = plain.1 in
    let left = pieces_left plain.0 sections.second sections.is_second in
    record {
      left = left.each_left;
      sections = record {
        first = sections.first;
        second = sections.second;
        is_first = sections.is_first;
        is_second = left.each;
        whole = sections.whole;
      };
      others = record {
        first = sections.first;
        second = sections.second;
        is_first = sections.is_first;
        is_second = plain_concat plain.0 sections.second sections.is_second ∙ sym left.is;
        whole = sections.whole;
      };
    }
