-- Sections that are written or left out.
use Rattle.smith_binary_sections.proofs.Common.{[], any, Bool, Is, List, Output, Spelling, subst, sym, true, Writes, ℕ, ◌≡◌}
use Rattle.smith_binary.specs.Spelling.Spelling.{written}
use Rattle.smith_binary.specs.Pieces.{IsSectionIn}
use Rattle.smith_binary.proofs.WrittenLemmas.{content_whole}
use Rattle.smith_binary_sections.specs.Sections.{IsSectionIfIn}

filled : {spelling : Spelling} {id : ℕ} {Content : List ℕ → Type 0} {bytes piece : List ℕ} → Content bytes
    → IsSectionIn spelling id (Is bytes) piece → IsSectionIn spelling id Content piece
filled {Content = Content} content h = record {
  first = h.first;
  second = h.second;
  is_first = h.is_first;
  is_second = record {
    content = h.is_second.content;
    is_content = subst Content (sym h.is_second.is_content) content;
    form = h.is_second.form;
  };
  whole = h.whole;
}

-- a section of a content that was written by itself
pub section_written : {old new empty inner : Output} (is_written : Bool) (id : ℕ) (Content : Spelling → List ℕ → Type 0) → is_written ≡ true
    → empty ≡ record { bytes = []; least = old.least } → Writes Content empty inner
    → Writes (λ s. IsSectionIn s id (Is inner.bytes)) old new → Writes (λ s. IsSectionIfIn s is_written id (Content s)) old new
section_written {old = old} {new = new} is_written id Content says is one outer =
    let (content, kept) = content_whole old.least is one in
    let inside : Writes (λ s. IsSectionIn s id (Content s)) old new = record {
      piece = outer.piece;
      spelled = filled {Content = Content any} content outer.spelled;
      kept = filled {Content = Content (written old.least)} kept outer.kept;
      whole = outer.whole;
      same = outer.same;
    } in
    subst (λ (b : Bool). Writes (λ s. IsSectionIfIn s b id (Content s)) old new) (sym says) inside
