-- The custom sections of a file to which some are added.
use Rattle.std.proofs.Common.{◌≡◌, ℕ, suc, Bool, true, false, Option, Some, None, List, [], ◌∷◌, ◌++◌, length, drop, refl, sym, ap, subst}
use Rattle.std.proofs.Common.{◌∙◌, arith, append_assoc, append-nil, length-append}
use Rattle.smith_binary.specs.Pieces.{Is, Joined, Each, IsSection}
use Rattle.smith_binary.specs.Spelling.Spelling.{any}
use Rattle.smith_binary_sections.specs.Modules.{IsPreamble}
use Rattle.smith_binary_sections.specs.Sections.{IsSectionIfIn}
use Rattle.smith_custom_sections.specs.declared.custom_section.CustomSection.{CustomSection}
use Rattle.smith_custom_sections.specs.CustomSections.{AreDueIn, AreWovenIn, IsContentIn, IsPlainSection, IsWithCustomsIn, is_due}
use Rattle.smith_decode.specs.declared.customs.Custom.{Custom}
use Rattle.smith_decode.specs.Customs.{AreAmong, IsAnySection, IsNext}
use Rattle.smith_decode.specs.Modules.{AreSections, IsModuleBinary, Syntax}
use Rattle.smith_custom_sections_law.specs.SameModules.{IsApartFromCustoms}
use Rattle.smith_custom_sections_law.proofs.FrontLemmas.{same_section, section_long}
use Rattle.smith_custom_sections_law.proofs.StableLemmas.{sections_stable}

-- a section that is not custom, by its identifier and its content
record IsSmall (section : List ℕ) : Type 0 where
  pub pair : ℕ × List ℕ
  pub form : IsAnySection pair section
  pub not_custom : pair.0 ≡ 0 → ⊥

abbrev AreSmall : List (List ℕ) → Type 0
AreSmall [] = Unit {0}
AreSmall (section ∷ sections) = IsSmall section × AreSmall sections

all_small : (sections : List (List ℕ)) (pairs : List (ℕ × List ℕ)) (piece : List ℕ) → Each IsPlainSection sections piece
    → Each IsAnySection pairs piece → AreSmall sections
unfolding Each
all_small [] pairs piece plain h = tt
all_small (section ∷ sections) [] piece plain h =
    let some = section_long plain.is_first.form in
    let none = ap length (sym h ∙ plain.whole) ∙ length-append plain.first plain.second in
    absurd (omega (arith, some, none))
all_small (section ∷ sections) (pair ∷ pairs) piece plain h =
    let same = same_section plain.is_first.id pair.0 plain.first h.first plain.second h.second plain.is_first.form h.is_first.1
    (sym plain.whole ∙ h.whole) in (
      record {
        pair = pair;
        form = subst (IsAnySection pair) (sym same.pieces ∙ plain.is_first.is) h.is_first;
        not_custom = λ zero. plain.is_first.not_custom (same.ids ∙ zero);
      },
      all_small sections pairs plain.second plain.is_second (subst (Each IsAnySection pairs) (sym same.rests) h.is_second),
    )

-- the custom sections of bytes after a section
record Kept (after : Option ℕ) (piece : List ℕ) : Type 0 where
  pub sections : List (ℕ × List ℕ)
  pub customs : List Custom
  pub each : Each IsAnySection sections piece
  pub among : AreAmong after sections customs

kept_end : (after : Option ℕ) → Kept after []
unfolding Each
kept_end after = record { sections = []; customs = []; each = refl; among = refl }

kept_custom : (after : Option ℕ) (custom : CustomSection) (b : Bool) (first second piece : List ℕ)
    → IsSectionIfIn any b 0 (IsContentIn any custom) first
    → Kept after second → piece ≡ first ++ second → Kept after piece
unfolding Each
kept_custom after custom true first second piece h rest whole =
    let one : Custom = record { after = after; name = custom.name; bytes = custom.bytes } in
    let form : IsSection 0 (Is h.is_second.content) first =
    record {
      first = h.first;
      second = h.second;
      is_first = h.is_first;
      is_second = record { content = h.is_second.content; is_content = refl; form = h.is_second.form };
      whole = h.whole;
    } in
    record {
      sections = (0, h.is_second.content) ∷ rest.sections;
      customs = one ∷ rest.customs;
      each = record { first = first; second = second; is_first = (omega arith, form); is_second = rest.each; whole = whole };
      among = IsNext.custom one rest.customs refl (refl, h.is_second.is_content) refl rest.among;
    }
kept_custom after custom false first second piece h rest whole =
    subst (Kept after) (sym (whole ∙ ap (λ (p : List ℕ). p ++ second) h)) rest

kept_due : (after : Option ℕ) (customs : List CustomSection) (at_end : Bool) (place : ℕ) (first second piece : List ℕ)
    → AreDueIn any customs at_end place first → Kept after second → piece ≡ first ++ second → Kept after piece
unfolding Each
kept_due after [] at_end place first second piece h rest whole = subst (Kept after) (sym (whole ∙ ap (λ (p : List ℕ). p ++ second) h)) rest
kept_due after (custom ∷ customs) at_end place first second piece h rest whole =
    let more = kept_due after customs at_end place h.second second (h.second ++ second) h.is_second rest refl in
    kept_custom after custom (is_due at_end place custom) h.first (h.second ++ second) piece h.is_first more
    (whole ∙ ap (λ (p : List ℕ). p ++ second) h.whole ∙ append_assoc h.first h.second second)

kept_own : (after : Option ℕ) (section second piece : List ℕ) (small : IsSmall section) → Kept (Some small.pair.0) second
    → piece ≡ section ++ second
    → Kept after piece
unfolding Each
kept_own after section second piece small rest whole = record {
  sections = small.pair ∷ rest.sections;
  customs = rest.customs;
  each = record { first = section; second = second; is_first = small.form; is_second = rest.each; whole = whole };
  among = IsNext.other small.not_custom rest.among;
}

kept_woven : (after : Option ℕ) (customs : List CustomSection) (place : ℕ) (sections : List (List ℕ)) (woven : List ℕ) → AreSmall sections
    → AreWovenIn any customs place sections woven → Kept after woven
unfolding AreWovenIn
kept_woven after customs place [] woven small h = kept_due after customs true place woven [] woven h (kept_end after)
    (sym (append-nil woven))
kept_woven after customs place (section ∷ sections) woven small h =
    let inner = h.is_second in
    let rest = kept_woven (Some small.0.pair.0) customs (suc place) sections inner.second small.1 inner.is_second in
    let own =
    kept_own after section inner.second h.second small.0 rest (inner.whole ∙ ap (λ (p : List ℕ). p ++ inner.second) inner.is_first) in
    kept_due after customs false place h.first h.second woven h.is_first own h.whole

-- bytes after the preamble
pub after_preamble : {Rest : List ℕ → Type 0} {file : List ℕ} → (h : Joined IsPreamble Rest file) → drop 8 file ≡ h.second
after_preamble h = rw (h.whole, h.is_first) refl

pub kept_module : (m : Syntax) (customs : List CustomSection) (file bytes : List ℕ) → IsModuleBinary m file
    → IsWithCustomsIn any customs file bytes
    → IsApartFromCustoms m bytes
kept_module m customs file bytes h k =
    let same : h.form.second ≡ k.plain.second = sym (after_preamble h.form) ∙ after_preamble k.plain in
    let sections : AreSections m h.count k.plain.second = subst (AreSections m h.count) same h.form.is_second in
    let pairs : Each IsAnySection h.customs.0 k.plain.second = subst (Each IsAnySection h.customs.0) same h.customs.1 in
    let small = all_small k.sections h.customs.0 k.plain.second k.plain.is_second pairs in
    let kept = kept_woven None customs 0 k.sections k.woven.second small k.woven.is_second in
    record {
      customs = kept.customs;
      is_module = record {
        count = h.count;
        form = record {
          first = k.woven.first;
          second = k.woven.second;
          is_first = k.woven.is_first;
          is_second = (sections_stable m h.count).at customs 0 k.sections k.plain.second k.woven.second k.plain.is_second k.woven.is_second
              sections;
          whole = k.woven.whole;
        };
        bodies = h.bodies;
        datas = h.datas;
        named = h.named;
        customs = (kept.sections, kept.each, kept.among);
        aligned = h.aligned;
      };
    }
