-- Small sections, and files that are refused.
use Rattle.std.proofs.Common.{◌≡◌, ℕ, ◌+◌, ◌<◌, ◌≤◌, true, false, List, [], ◌∷◌, ◌++◌, length, drop, refl, sym, ap, subst, ◌∙◌, arith}
use Rattle.std.proofs.Common.{length-append}
use Rattle.std.specs.Prelude.{IsUtf8}
use Rattle.std.specs.List.{concat}
use Rattle.std.proofs.lemmas.Str.{IsUtf8-from_ascii}
use Rattle.std.proofs.lemmas.Str.Ascii.{IsAscii-nil}
use Rattle.smith_binary.specs.Pieces.{Is, Joined, Each, IsName, IsSection}
use Rattle.smith_binary.specs.Spelling.Spelling.{any}
use Rattle.smith_binary.proofs.NumberLemmas.{unsigned_last}
use Rattle.smith_binary.proofs.UnambiguousLemmas.{same_head}
use Rattle.smith_binary.proofs.WrittenLemmas.{each_byte}
use Rattle.smith_custom_sections.specs.CustomSections.{AreDueIn, AreWovenIn, IsAny, IsContentIn, IsPlainFile, IsPlainSection}
use Rattle.smith_custom_sections.specs.CustomSections.{IsWithCustomsIn}
use Rattle.smith_custom_sections.specs.ExampleCustoms.{after_preamble, custom}
use Rattle.smith_custom_sections.specs.WithoutCustoms.{IsLeftOf, IsNamed, IsWithoutCustoms}
use Rattle.smith_custom_sections.proofs.WovenLemmas.{none_left}

-- a section of few bytes
pub small_section : {Content : List ℕ → Type 0} (id : ℕ) (content : List ℕ) → Content content → length content < 128
    → IsSection id Content (id ∷ length content ∷ content)
small_section id content is small = record {
  first = id ∷ [];
  second = length content ∷ content;
  is_first = refl;
  is_second = record {
    content = content;
    is_content = is;
    form = record {
      first = length content ∷ [];
      second = content;
      is_first = (unsigned_last 32 (length content) small (omega arith)).spelled;
      is_second = refl;
      whole = refl;
    };
  };
  whole = refl;
}

pub small_name : (name : List ℕ) → IsUtf8 name → length name < 128 → IsName name (length name ∷ name)
small_name name text small = record {
  text = text;
  form = record {
    first = length name ∷ [];
    second = name;
    is_first = (unsigned_last 32 (length name) small (omega arith)).spelled;
    is_second = each_byte name;
    whole = refl;
  };
}

-- the first byte of a section is its identifier
section_head : {Content : List ℕ → Type 0} {id byte : ℕ} {bytes piece : List ℕ} (rest : List ℕ) → IsSection id Content piece
    → byte ∷ bytes ≡ piece ++ rest → byte ≡ id
section_head rest h whole =
    same_head (whole ∙ ap (λ (p : List ℕ). p ++ rest) (h.whole ∙ ap (λ (p : List ℕ). p ++ h.second) h.is_first))

-- a section that is not custom does not begin with 0
pub plain_head : (sections : List (List ℕ)) (bytes : List ℕ) → Each IsPlainSection sections (0 ∷ bytes) → ⊥
unfolding Each
plain_head [] bytes h = absurd cc
plain_head (section ∷ others) bytes h = h.is_first.not_custom (sym (section_head h.second h.is_first.form h.whole))

-- a section has bytes
section_long : {Content : List ℕ → Type 0} {id : ℕ} {piece : List ℕ} → IsSection id Content piece → 1 ≤ length piece
section_long h = rw (h.whole, h.is_first) (omega arith)

-- a custom section that is due takes bytes
due_long : (piece : List ℕ) → AreDueIn any (custom 0 [] [] ∷ []) true 0 piece → 1 ≤ length piece
unfolding Each
due_long piece h = rw h.whole (omega (arith, section_long h.is_first, length-append h.first h.second))

-- bytes after the preamble
after : {Rest : List ℕ → Type 0} (bytes : List ℕ) → Joined (Is (after_preamble [])) Rest (after_preamble bytes) → Rest bytes
after {Rest = Rest} bytes h =
    let rest : bytes ≡ h.second = ap (drop 8) (h.whole ∙ ap (λ (p : List ℕ). p ++ h.second) h.is_first) in
    subst Rest (sym rest) h.is_second

pub left_out : IsWithCustomsIn any (custom 0 [] [] ∷ []) (after_preamble []) (after_preamble []) → ⊥
unfolding AreWovenIn
left_out h =
    let none = none_left h.sections [] (after [] h.plain) refl in
    let woven : AreWovenIn any (custom 0 [] [] ∷ []) 0 [] [] = rw none at (after [] h.woven) in
    absurd (omega (arith, due_long [] woven))

-- what is left of sections is not longer
one_at_most : {one piece : List ℕ} → IsLeftOf one piece → length one ≤ length piece
one_at_most (IsLeftOf.custom h none) = rw none (omega arith)
one_at_most (IsLeftOf.other id own h same) = rw same (omega arith)

left_at_most : (left : List (List ℕ)) (piece : List ℕ) → Each IsLeftOf left piece → length (concat left) ≤ length piece
unfolding Each
left_at_most [] piece h = omega arith
left_at_most (one ∷ others) piece h =
    let more = left_at_most others h.second h.is_second in
    let all : length piece ≡ length h.first + length h.second = rw h.whole (length-append h.first h.second) in
    omega (arith, more, all, one_at_most h.is_first, length-append one (concat others))

-- a custom section goes
gone : {one bytes first : List ℕ} (rest : List ℕ) → IsLeftOf one first → 0 ∷ bytes ≡ first ++ rest → (one ≡ []) × (1 ≤ length first)
gone rest (IsLeftOf.custom h none) whole = (none, section_long h)
gone rest (IsLeftOf.other id own h same) whole = absurd (own (sym (section_head rest h whole)))

pub custom_stays : (left : List (List ℕ)) (bytes : List ℕ) → Each IsLeftOf left (0 ∷ bytes) → concat left ≡ 0 ∷ bytes → ⊥
unfolding Each
custom_stays [] bytes h same = absurd cc
custom_stays (one ∷ others) bytes h same =
    let first = gone h.second h.is_first h.whole in
    let more = left_at_most others h.second h.is_second in
    let all : length (0 ∷ bytes) ≡ length h.first + length h.second = ap length h.whole ∙ length-append h.first h.second in
    let joined : length (concat (one ∷ others)) ≡ length one + length (concat others) = length-append one (concat others) in
    omega (arith, first.1, ap length first.0, more, all, joined, ap length same)

-- a section that is not custom stays
stays : {one bytes first : List ℕ} (rest : List ℕ) → IsLeftOf one first → 1 ∷ bytes ≡ first ++ rest → 1 ≤ length one
stays rest (IsLeftOf.custom h none) whole = let zero = section_head rest h whole in absurd (omega (arith, zero))
stays rest (IsLeftOf.other id own h same) whole = rw same (section_long h)

pub section_goes : (left : List (List ℕ)) (bytes : List ℕ) → Each IsLeftOf left (1 ∷ bytes) → concat left ≡ [] → ⊥
unfolding Each
section_goes [] bytes h same = absurd cc
section_goes (one ∷ others) bytes h same =
    let first = stays h.second h.is_first h.whole in
    let joined : length (concat (one ∷ others)) ≡ length one + length (concat others) = length-append one (concat others) in
    omega (arith, first, joined, ap length same)

pub custom_left : IsWithoutCustoms (after_preamble (0x00 ∷ 0x01 ∷ 0x00 ∷ [])) (after_preamble (0x00 ∷ 0x01 ∷ 0x00 ∷ [])) → ⊥
custom_left h = custom_stays h.left (0x01 ∷ 0x00 ∷ []) (after (0x00 ∷ 0x01 ∷ 0x00 ∷ []) h.sections)
    (sym (after (0x00 ∷ 0x01 ∷ 0x00 ∷ []) h.others))

pub section_left_out : IsWithoutCustoms (after_preamble (0x01 ∷ 0x01 ∷ 0x00 ∷ [])) (after_preamble []) → ⊥
section_left_out h = section_goes h.left (0x01 ∷ 0x00 ∷ []) (after (0x01 ∷ 0x01 ∷ 0x00 ∷ []) h.sections) (sym (after [] h.others))

no_text : IsUtf8 []
no_text = IsUtf8-from_ascii [] IsAscii-nil

-- a type section without types
pub type_section : IsSection 1 IsAny (0x01 ∷ 0x01 ∷ 0x00 ∷ [])
type_section = small_section 1 (0x00 ∷ []) tt (omega arith)

type_file : IsPlainFile ((0x01 ∷ 0x01 ∷ 0x00 ∷ []) ∷ []) (after_preamble (0x01 ∷ 0x01 ∷ 0x00 ∷ []))
unfolding Each
type_file = record {
  first = after_preamble [];
  second = 0x01 ∷ 0x01 ∷ 0x00 ∷ [];
  is_first = refl;
  is_second = record {
    first = 0x01 ∷ 0x01 ∷ 0x00 ∷ [];
    second = [];
    is_first = record { is = refl; id = 1; not_custom = λ e. omega (arith, e); form = type_section };
    is_second = refl;
    whole = refl;
  };
  whole = refl;
}

-- the content of a custom section without a name
unnamed : (place : ℕ) (bytes : List ℕ) → IsContentIn any (custom place [] bytes) (0x00 ∷ bytes)
unnamed place bytes = record {
  first = 0x00 ∷ [];
  second = bytes;
  is_first = small_name [] no_text (omega arith);
  is_second = refl;
  whole = refl;
}

front_due : AreDueIn any (custom 5 [] [] ∷ custom 0 [] (7 ∷ []) ∷ []) false 0 (0x00 ∷ 0x02 ∷ 0x00 ∷ 0x07 ∷ [])
unfolding Each
front_due = record {
  first = [];
  second = 0x00 ∷ 0x02 ∷ 0x00 ∷ 0x07 ∷ [];
  is_first = refl;
  is_second = record {
    first = 0x00 ∷ 0x02 ∷ 0x00 ∷ 0x07 ∷ [];
    second = [];
    is_first = small_section 0 (0x00 ∷ 0x07 ∷ []) (unnamed 0 (7 ∷ [])) (omega arith);
    is_second = refl;
    whole = refl;
  };
  whole = refl;
}

back_due : AreDueIn any (custom 5 [] [] ∷ custom 0 [] (7 ∷ []) ∷ []) true 1 (0x00 ∷ 0x01 ∷ 0x00 ∷ [])
unfolding Each
back_due = record {
  first = 0x00 ∷ 0x01 ∷ 0x00 ∷ [];
  second = [];
  is_first = small_section 0 (0x00 ∷ []) (unnamed 5 []) (omega arith);
  is_second = record { first = []; second = []; is_first = refl; is_second = refl; whole = refl };
  whole = refl;
}

pub two_customs : IsWithCustomsIn any (custom 5 [] [] ∷ custom 0 [] (7 ∷ []) ∷ []) (after_preamble (0x01 ∷ 0x01 ∷ 0x00 ∷ []))
    (after_preamble (0x00 ∷ 0x02 ∷ 0x00 ∷ 0x07 ∷ 0x01 ∷ 0x01 ∷ 0x00 ∷ 0x00 ∷ 0x01 ∷ 0x00 ∷ []))
unfolding AreWovenIn
two_customs = record {
  sections = (0x01 ∷ 0x01 ∷ 0x00 ∷ []) ∷ [];
  plain = type_file;
  woven = record {
    first = after_preamble [];
    second = 0x00 ∷ 0x02 ∷ 0x00 ∷ 0x07 ∷ 0x01 ∷ 0x01 ∷ 0x00 ∷ 0x00 ∷ 0x01 ∷ 0x00 ∷ [];
    is_first = refl;
    is_second = record {
      first = 0x00 ∷ 0x02 ∷ 0x00 ∷ 0x07 ∷ [];
      second = 0x01 ∷ 0x01 ∷ 0x00 ∷ 0x00 ∷ 0x01 ∷ 0x00 ∷ [];
      is_first = front_due;
      is_second = record {
        first = 0x01 ∷ 0x01 ∷ 0x00 ∷ [];
        second = 0x00 ∷ 0x01 ∷ 0x00 ∷ [];
        is_first = refl;
        is_second = back_due;
        whole = refl;
      };
      whole = refl;
    };
    whole = refl;
  };
}

custom_of_one_byte : IsSection 0 IsNamed (0x00 ∷ 0x02 ∷ 0x00 ∷ 0x2A ∷ [])
custom_of_one_byte =
    small_section 0 (0x00 ∷ 0x2A ∷ [])
    (record {
      name = [];
      form = record {
        first = 0x00 ∷ [];
        second = 0x2A ∷ [];
        is_first = small_name [] no_text (omega arith);
        is_second = tt;
        whole = refl;
      };
    }) (omega arith)

pub custom_is_gone : IsWithoutCustoms (after_preamble (0x00 ∷ 0x02 ∷ 0x00 ∷ 0x2A ∷ 0x01 ∷ 0x01 ∷ 0x00 ∷ []))
    (after_preamble (0x01 ∷ 0x01 ∷ 0x00 ∷ []))
unfolding Each
custom_is_gone = record {
  left = [] ∷ (0x01 ∷ 0x01 ∷ 0x00 ∷ []) ∷ [];
  sections = record {
    first = after_preamble [];
    second = 0x00 ∷ 0x02 ∷ 0x00 ∷ 0x2A ∷ 0x01 ∷ 0x01 ∷ 0x00 ∷ [];
    is_first = refl;
    is_second = record {
      first = 0x00 ∷ 0x02 ∷ 0x00 ∷ 0x2A ∷ [];
      second = 0x01 ∷ 0x01 ∷ 0x00 ∷ [];
      is_first = IsLeftOf.custom custom_of_one_byte refl;
      is_second = record {
        first = 0x01 ∷ 0x01 ∷ 0x00 ∷ [];
        second = [];
        is_first = IsLeftOf.other 1 (λ e. omega (arith, e)) type_section refl;
        is_second = refl;
        whole = refl;
      };
      whole = refl;
    };
    whole = refl;
  };
  others = record {
    first = after_preamble [];
    second = 0x01 ∷ 0x01 ∷ 0x00 ∷ [];
    is_first = refl;
    is_second = refl;
    whole = refl;
  };
}
