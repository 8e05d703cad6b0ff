-- Sections that stay what they are when custom sections are put among them.
use Rattle.std.proofs.Common.{◌≡◌, ℕ, suc, Bool, true, false, Option, List, [], ◌∷◌, ◌++◌, length, refl, sym, ap, subst, ◌∙◌, arith}
use Rattle.std.proofs.Common.{append-nil, length-append}
use Rattle.smith_binary.specs.Pieces.{Each, IsSection}
use Rattle.smith_binary.specs.Spelling.Spelling.{any}
use Rattle.smith_binary_sections.specs.Sections.{IsOptionalSection, IsSectionIfIn}
use Rattle.smith_custom_sections.specs.declared.custom_section.CustomSection.{CustomSection}
use Rattle.smith_custom_sections.specs.CustomSections.{AreDueIn, AreWovenIn, IsContentIn, IsPlainSection, is_due}
use Rattle.smith_decode.specs.Customs.{IsNamed, AreCustoms, IsThen}
use Rattle.smith_decode.specs.Modules.{AreSections, Syntax}
use Rattle.smith_decode.proofs.CustomLemmas.{no_customs}
use Rattle.smith_custom_sections_law.proofs.FrontLemmas.{none_before, same_section, section_long}

-- custom sections that come at a place
one_custom : (custom : CustomSection) (piece : List ℕ) → IsSection 0 (IsContentIn any custom) piece → IsSection 0 IsNamed piece
one_custom custom piece h =
    let content = h.is_second.is_content in
    record {
      first = h.first;
      second = h.second;
      is_first = h.is_first;
      is_second = record {
        content = h.is_second.content;
        is_content = record {
          name = custom.name;
          form = record {
            first = content.first;
            second = content.second;
            is_first = content.is_first;
            is_second = tt;
            whole = content.whole;
          };
        };
        form = h.is_second.form;
      };
      whole = h.whole;
    }

due_then : (custom : CustomSection) (b : Bool) (first second piece : List ℕ) → IsSectionIfIn any b 0 (IsContentIn any custom) first
    → AreCustoms second
    → piece ≡ first ++ second → AreCustoms piece
unfolding Each
due_then custom true first second piece h more whole = record {
  all = tt ∷ more.all;
  form = record { first = first; second = second; is_first = one_custom custom first h; is_second = more.form; whole = whole };
}
due_then custom false first second piece h more whole = subst AreCustoms (sym (whole ∙ ap (λ (p : List ℕ). p ++ second) h)) more

pub due_customs : (customs : List CustomSection) (at_end : Bool) (place : ℕ) (piece : List ℕ) → AreDueIn any customs at_end place piece
    → AreCustoms piece
unfolding Each
due_customs [] at_end place piece h = subst AreCustoms (sym h) no_customs
due_customs (custom ∷ customs) at_end place piece h =
    due_then custom (is_due at_end place custom) h.first h.second piece h.is_first (due_customs customs at_end place h.second h.is_second)
    h.whole

-- sections with this property have it with custom sections among them
pub record IsStable (Holds : List ℕ → Type 0) : Type 0 where
  pub at : (customs : List CustomSection) (place : ℕ) (sections : List (List ℕ)) (piece woven : List ℕ) → Each IsPlainSection sections piece
      → AreWovenIn any customs place sections woven → Holds piece → Holds woven

customs_stable : (customs : List CustomSection) (place : ℕ) (sections : List (List ℕ)) (piece woven : List ℕ)
    → Each IsPlainSection sections piece
    → AreWovenIn any customs place sections woven → AreCustoms piece → AreCustoms woven
unfolding Each AreWovenIn
customs_stable customs place [] piece woven plain h is = due_customs customs true place woven h
customs_stable customs place (section ∷ sections) piece woven plain h is =
    let none = none_before (section ∷ sections) piece [] plain is (sym (append-nil piece)) in
    let some = section_long plain.is_first.form in
    let long = ap length plain.whole ∙ length-append plain.first plain.second in
    absurd (omega (arith, some, long, ap length none))

pub stable_customs : IsStable AreCustoms
stable_customs = record { at = customs_stable }

-- a section that is there
present_stable : {N : Type 0} {P More : List ℕ → Type 0} (id : ℕ) → IsStable More → (customs : List CustomSection) (place : ℕ)
    (sections : List (List ℕ))
    (piece woven first second : List ℕ) → Each IsPlainSection sections piece → AreWovenIn any customs place sections woven
    → IsSection id P first → More second → piece ≡ first ++ second → IsThen id N P More woven
unfolding Each AreWovenIn
present_stable id stable customs place [] piece woven first second plain h is more whole =
    let some = section_long is in
    let none = ap length (sym plain ∙ whole) ∙ length-append first second in
    absurd (omega (arith, some, none))
present_stable {P = P} {More = More} id stable customs place (section ∷ sections) piece woven first second plain h is more whole =
    let same = same_section id plain.is_first.id first plain.first second plain.second is plain.is_first.form (sym whole ∙ plain.whole) in
    let here : first ≡ h.is_second.first = same.pieces ∙ plain.is_first.is ∙ sym h.is_second.is_first in
    record {
      first = h.first;
      second = h.second;
      is_first = due_customs customs false place h.first h.is_first;
      is_second = record {
        first = h.is_second.first;
        second = h.is_second.second;
        is_first = IsOptionalSection.present (subst (IsSection id P) here is);
        is_second = stable.at customs (suc place) sections plain.second h.is_second.second plain.is_second h.is_second.is_second
            (subst More same.rests more);
        whole = h.is_second.whole;
      };
      whole = h.whole;
    }

-- a section that may be left out
optional_stable : {N : Type 0} {P More : List ℕ → Type 0} (id : ℕ) → IsStable More → (customs : List CustomSection) (place : ℕ)
    (sections : List (List ℕ))
    (piece woven first second : List ℕ) → Each IsPlainSection sections piece → AreWovenIn any customs place sections woven
    → IsOptionalSection id N P first → More second → piece ≡ first ++ second → IsThen id N P More woven
optional_stable id stable customs place sections piece woven first second plain h (IsOptionalSection.present is) more whole =
    present_stable id stable customs place sections piece woven first second plain h is more whole
optional_stable {More = More} id stable customs place sections piece woven first second plain h (IsOptionalSection.absent says none) more
    whole =
    let same : second ≡ piece = sym (whole ∙ ap (λ (p : List ℕ). p ++ second) none) in
    record {
      first = [];
      second = woven;
      is_first = no_customs;
      is_second = record {
        first = [];
        second = woven;
        is_first = IsOptionalSection.absent says refl;
        is_second = stable.at customs place sections piece woven plain h (subst More same more);
        whole = refl;
      };
      whole = refl;
    }

then_stable : {N : Type 0} {P More : List ℕ → Type 0} (id : ℕ) → IsStable More → (customs : List CustomSection) (place : ℕ)
    (sections : List (List ℕ))
    (piece woven : List ℕ) → Each IsPlainSection sections piece → AreWovenIn any customs place sections woven → IsThen id N P More piece
    → IsThen id N P More woven
then_stable id stable customs place sections piece woven plain h is =
    let none = none_before sections is.first is.second plain is.is_first is.whole in
    let inner = is.is_second in
    optional_stable id stable customs place sections piece woven inner.first inner.second plain h inner.is_first inner.is_second
    (is.whole ∙ ap (λ (p : List ℕ). p ++ is.second) none ∙ inner.whole)

pub stable_then : {N : Type 0} {P More : List ℕ → Type 0} (id : ℕ) → IsStable More → IsStable (IsThen id N P More)
stable_then id stable = record { at = then_stable id stable }

pub sections_stable : (m : Syntax) (count : Option ℕ) → IsStable (AreSections m count)
sections_stable m count =
    stable_then 1 (stable_then 2 (stable_then 3 (stable_then 4 (stable_then 5 (stable_then 13 (stable_then 6 (stable_then 7 (stable_then 8
    (stable_then 9 (stable_then 12 (stable_then 10 (stable_then 11 stable_customs))))))))))))
