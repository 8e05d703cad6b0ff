-- A section of a file that is read.
use Rattle.std.proofs.Common.{◌≡◌, ℕ, ◌+◌, ◌-◌, ◌≤◌, List, ◌++◌, length, take, drop, Ok, Err, refl, sym, ap, ◌∙◌, arith, length-append}
use Rattle.std.proofs.Math.Seq.{take-append_seam}
use Rattle.smith_binary_read.specs.declared.error.Fault.{Fault}
use Rattle.smith_binary_read.specs.Contents.{content_at}
use Rattle.smith_binary_read.proofs.ContentLemmas.{content_decodes}
use Rattle.smith_binary_read.proofs.ReadLemmas.{item_is}
use Rattle.smith_custom_sections.specs.CustomSections.{StartsWith}

-- what is read after the identifier
record IsContent (rest bytes : List ℕ) : Type 0 where
  pub content : List ℕ
  pub read : content_at (drop 1 bytes) ≡ Ok (content, rest)

content_read : {section rest bytes : List ℕ} → StartsWith section rest bytes → IsContent rest bytes
content_read {section = section} {rest = rest} {bytes = bytes} h =
    let form = h.plain.form in
    let after : drop 1 bytes ≡ form.second ++ rest = rw (h.whole, form.whole, form.is_first) refl in
    record {
      content = form.is_second.content;
      read = ap content_at after ∙ content_decodes.complete form.is_second.content form.second rest form.is_second.form;
    }

-- the section that was read, and the rest
pub record IsRead (section rest after bytes : List ℕ) : Type 0 where
  pub rest_is : after ≡ rest
  pub fits : length after ≤ length bytes
  pub section_is : take (length bytes - length after) bytes ≡ section

pub section_read : {section rest bytes : List ℕ} (content after : List ℕ) → StartsWith section rest bytes
    → content_at (drop 1 bytes) ≡ Ok (content, after) → IsRead section rest after bytes
section_read {section = section} {rest = rest} {bytes = bytes} content after h read =
    let one = content_read h in
    let is = (item_is content one.content after rest (sym read ∙ one.read)).1 in
    let long : length bytes ≡ length section + length rest = rw h.whole (length-append section rest) in
    let count : length bytes - length after ≡ length section = rw is (omega (arith, long)) in
    record {
      rest_is = is;
      fits = rw is (omega (arith, long));
      section_is = rw (count, h.whole) (take-append_seam section rest);
    }

-- a section is not malformed
pub never_malformed : {section rest bytes : List ℕ} (fault : Fault) → StartsWith section rest bytes → content_at (drop 1 bytes) ≡ Err fault
    → ⊥
never_malformed fault h read =
    let one = content_read h in
    let never = sym one.read ∙ read in absurd cc
