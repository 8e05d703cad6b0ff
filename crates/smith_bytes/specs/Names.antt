-- Drawn strings and names, and names that are made unique.
use Rattle.std.specs.Prelude.{◌≡◌, ◌<◌, ℕ, zero, suc, ◌+◌, true, false, List, ◌++◌, take, drop, length, min, codes, if◌then◌else◌, Bool}
use Rattle.std.specs.Str.{bytes_eq}
use Rattle.std.specs.Str.Lossy.{utf8_valid_len}
use Rattle.std.specs.Fmt.{decimal}
use Rattle.std.specs.HashSet.{HashSet, contains_text, hash_set_len}
use Rattle.std.specs.declared.string.String.{String}
use Rattle.std.specs.declared.alloc.Global.{Global}
use Rattle.smith_bytes.specs.Draws.{len_at}

-- a string: the longest UTF-8 prefix of a drawn number of bytes, at most `max_size`
unfoldable pub text_at : ℕ → List ℕ → List ℕ × List ℕ
text_at max_size bytes =
    let size = len_at bytes in
    let n = utf8_valid_len (take (min size.0 max_size) size.1) in
    (take n size.1, drop n size.1)

-- the text, followed by this number of copies of the digits
abbrev pub with_copies : List ℕ → List ℕ → ℕ → List ℕ
with_copies text digits zero = text
with_copies text digits (suc n) = with_copies text digits n ++ digits

module _ {S : Type 0} where
  -- `name` is the text, followed by the size of the set until the set does not have the name
  pub record IsMadeNew (names : HashSet (String Global) S) (text name : List ℕ) : Type 0 where
    pub copies : ℕ
    pub made : name ≡ with_copies text (decimal (hash_set_len names)) copies
    pub fresh : contains_text names name ≡ false
    pub needed : (n : ℕ) → n < copies → contains_text names (with_copies text (decimal (hash_set_len names)) n) ≡ true

  -- `new` has the names of `old` and `name`, and one more name than `old`
  pub record AddsName (old new : HashSet (String Global) S) (name : List ℕ) : Type 0 where
    pub has : (other : List ℕ) → contains_text new other ≡ (if bytes_eq name other then true else contains_text old other)
    pub size : hash_set_len new ≡ hash_set_len old + 1

-- the part of a URL before its path
abbrev pub url_front : List ℕ
url_front = codes "https://example.com/"

-- the path of a URL
abbrev pub url_path : List ℕ → List ℕ
url_path url = drop (length url_front) url

-- a name, with these digits appended until the name is not taken, at most `most` times
unfoldable pub new_name : (List ℕ → Bool) → List ℕ → ℕ → List ℕ → List ℕ
new_name taken digits zero name = name
new_name taken digits (suc most) name = if taken name then new_name taken digits most (name ++ digits) else name

-- a name: the text with these digits appended until the name is not taken
pub record IsNewName (taken : List ℕ → Bool) (digits text name : List ℕ) : Type 0 where
  pub copies : ℕ
  pub made : name ≡ with_copies text digits copies
  pub fresh : taken name ≡ false
  pub some : 0 < length digits
  pub needed : (n : ℕ) → n < copies → taken (with_copies text digits n) ≡ true
