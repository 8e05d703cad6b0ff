-- Drawn custom sections have few bytes.
use Rattle.std.proofs.Common.{◌≡◌, ℕ, ◌≤◌, ◌==◌, min, Bool, true, false, cond, List, [], length, take, ap, subst, arith, All}
use Rattle.std.specs.Str.Lossy.{utf8_valid_len}
use Rattle.std.proofs.lemmas.List.{length-take}
use Rattle.std.proofs.lemmas.Str.{utf8_valid_len_le}
use Rattle.smith_bytes.specs.Draws.{len_at, range_at}
use Rattle.smith_bytes.specs.Names.{text_at}
use Rattle.smith_bytes.proofs.GrownLemmas.{cond_both, grow_all}
use Rattle.smith_custom_sections.specs.declared.custom_section.CustomSection.{CustomSection}
use Rattle.smith_custom_sections.specs.CustomDraws.{IsShort, bytes_at, function_name_at, name_section_at, plain_section_at}
use Rattle.smith_custom_sections.specs.CustomDraws.{custom_section_at, custom_sections_at}

pub text_short : (most : ℕ) (bytes : List ℕ) → length (text_at most bytes).0 ≤ most
unfolding text_at
text_short most bytes =
    let size = len_at bytes in
    let front = take (min size.0 most) size.1 in
    omega (arith, utf8_valid_len_le front, length-take (min size.0 most) size.1, length-take (utf8_valid_len front) size.1)

pub text_fits : {most : ℕ} {text rest : List ℕ} (bytes : List ℕ) → text_at most bytes ≡ (text, rest) → length text ≤ most
text_fits {most = most} bytes drawn =
    subst (λ (n : ℕ). n ≤ most) (ap (λ (p : List ℕ × List ℕ). length p.0) drawn) (text_short most bytes)

bytes_short : (bytes : List ℕ) → length (bytes_at bytes).0 ≤ 1000
unfolding bytes_at
bytes_short bytes = let size = len_at bytes in omega (arith, length-take (min size.0 1000) size.1)

function_name_short : (bytes : List ℕ) → length (function_name_at bytes).0 ≤ 1000
unfolding function_name_at
function_name_short bytes = omega (arith, text_short 100 (range_at 0 9 bytes).1)

name_short : (place : ℕ) (is_formed : Bool) (bytes : List ℕ) → IsShort (name_section_at place is_formed bytes).0
unfolding name_section_at
name_short place true bytes = record { name = omega arith; bytes = function_name_short bytes }
name_short place false bytes = record { name = omega arith; bytes = bytes_short bytes }

plain_short : (place : ℕ) (bytes : List ℕ) → IsShort (plain_section_at place bytes).0
unfolding plain_section_at
plain_short place bytes = record { name = text_short 100 bytes; bytes = bytes_short (text_at 100 bytes).1 }

section_short : (bytes : List ℕ) → IsShort (custom_section_at bytes).0
unfolding custom_section_at
section_short bytes =
    let place = range_at 0 13 bytes in
    let kind = range_at 0 7 place.1 in
    let plain = plain_section_at place.0 kind.1 in
    let formed = name_section_at place.0 true kind.1 in
    let any = name_section_at place.0 false kind.1 in
    let P : CustomSection × List ℕ → Type 0 = λ r. IsShort r.0 in
    cond_both P (kind.0 == 6) any (cond (kind.0 == 7) formed plain) (name_short place.0 false kind.1)
    (cond_both P (kind.0 == 7) formed plain (name_short place.0 true kind.1) (plain_short place.0 kind.1))

pub sections_short : (bytes : List ℕ) → All IsShort (custom_sections_at bytes).0
unfolding custom_sections_at
sections_short bytes = grow_all IsShort (λ made. custom_section_at) (λ made bytes. section_short bytes) 0 8 [] bytes
    (λ k d below. absurd (omega (arith, below)))

pub drawn_short : {rest : List ℕ} {customs : List CustomSection} (bytes : List ℕ) → custom_sections_at bytes ≡ (customs, rest)
    → All IsShort customs
drawn_short bytes drawn =
    subst (All IsShort) (ap (λ (p : List CustomSection × List ℕ). p.0) drawn) (sections_short bytes)
