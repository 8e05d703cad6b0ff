-- Names, lists and contents that are read.
use Rattle.std.proofs.Common.{◌≡◌, ℕ, List, [], ◌∷◌, ◌++◌, length, Result, Ok, Err, refl, sym, ap, subst, ◌∙◌}
use Rattle.std.proofs.lemmas.Str.{IsUtf8-from_is_utf8, is_utf8-from_IsUtf8}
use Rattle.smith_binary.specs.Numbers.{IsUnsigned}
use Rattle.smith_binary.specs.Pieces.{Is, IsByte, Joined, Each, IsList, IsName, IsSized}
use Rattle.smith_binary.proofs.WrittenLemmas.{each_byte}
use Rattle.smith_binary_read.specs.declared.error.Fault.{Fault}
use Rattle.smith_binary_read.specs.Readings.{Reading, before}
use Rattle.smith_binary_read.specs.Contents.{content_at, name_at, list_at, sized_at}
use Rattle.smith_binary_read.specs.Decodes.{Front, Decodes, DecodesWhole}
use Rattle.smith_binary_read.proofs.ReadLemmas.{step, test_passed, front_as, front_same, front_joined, first_read, each_sound}
use Rattle.smith_binary_read.proofs.ReadLemmas.{each_complete, bytes_sound, bytes_complete}
use Rattle.smith_binary_read.proofs.IntegerLemmas.{unsigned_decodes}

-- a number of bytes after the number
abbrev pub IsContent : List ℕ → List ℕ → Type 0
IsContent content = Joined (IsUnsigned 32 (length content)) (Is content)

content_sound : (bytes content rest : List ℕ) → content_at bytes ≡ Ok (content, rest) → Front (IsContent content) bytes rest
unfolding content_at
content_sound bytes content rest e = step _ _ _ e (λ count first e.
    let front = bytes_sound count.0 count.1 content rest e in
    let one = (unsigned_decodes 32).sound bytes count.0 count.1 first in
    front_joined (front_as (λ piece h. subst (λ (n : ℕ). IsUnsigned 32 n piece) (sym front.1) h) one)
    (record { piece = content; spelled = refl; whole = front.0 }))

content_complete : (content piece rest : List ℕ) → IsContent content piece → content_at (piece ++ rest) ≡ Ok (content, rest)
unfolding content_at
content_complete content piece rest h =
    rw (first_read (length content) rest (unsigned_decodes 32) h, h.is_second) (bytes_complete content rest)

pub content_decodes : Decodes IsContent content_at
content_decodes = record { sound = content_sound; complete = content_complete }

-- a list
list_sound : {A : Type 0} (P : A → List ℕ → Type 0) (p : List ℕ → Reading A) → Decodes P p → (bytes : List ℕ) (xs : List A) (rest : List ℕ)
    → list_at p bytes ≡ Ok (xs, rest) → Front (IsList P xs) bytes rest
unfolding list_at
list_sound P p p_reads bytes xs rest e = step _ _ _ e (λ count first e.
    let items = each_sound P p p_reads count.0 count.1 xs rest e in
    let one = (unsigned_decodes 32).sound bytes count.0 count.1 first in
    front_joined (front_as (λ piece h. subst (λ (n : ℕ). IsUnsigned 32 n piece) (sym items.1) h) one) items.0)

list_complete : {A : Type 0} (P : A → List ℕ → Type 0) (p : List ℕ → Reading A) → Decodes P p → (xs : List A) (piece rest : List ℕ)
    → IsList P xs piece → list_at p (piece ++ rest) ≡ Ok (xs, rest)
unfolding list_at
list_complete P p p_reads xs piece rest h =
    rw (first_read (length xs) rest (unsigned_decodes 32) h) (each_complete P p p_reads xs h.second rest h.is_second)

pub list_decodes : {A : Type 0} {P : A → List ℕ → Type 0} {p : List ℕ → Reading A} → Decodes P p → Decodes (IsList P) (list_at p)
list_decodes {P = P} {p = p} p_reads = record { sound = list_sound P p p_reads; complete = list_complete P p p_reads }

-- a name
bytes_of : (name piece : List ℕ) → Each IsByte name piece → piece ≡ name
unfolding Each
bytes_of [] piece h = h
bytes_of (byte ∷ name) piece h = h.whole ∙ ap (λ (front : List ℕ). front ++ h.second) h.is_first
    ∙ ap (λ (more : List ℕ). byte ∷ more) (bytes_of name h.second h.is_second)

name_sound : (bytes name rest : List ℕ) → name_at bytes ≡ Ok (name, rest) → Front (IsName name) bytes rest
unfolding name_at
name_sound bytes name rest e = step _ _ _ e (λ text first e. test_passed _ _ _ _ e (λ is_text e.
    front_same IsName text.0 name text.1 rest e
    (front_as (λ piece h. record {
      text = IsUtf8-from_is_utf8 text.0 is_text;
      form = record {
        first = h.first;
        second = h.second;
        is_first = h.is_first;
        is_second = subst (Each IsByte text.0) (sym h.is_second)
            (each_byte text.0);
        whole = h.whole;
      };
    })
    (content_sound bytes text.0 text.1 first))))

name_complete : (name piece rest : List ℕ) → IsName name piece → name_at (piece ++ rest) ≡ Ok (name, rest)
unfolding name_at
name_complete name piece rest h =
    let content : IsContent name piece = record {
      first = h.form.first;
      second = h.form.second;
      is_first = h.form.is_first;
      is_second = bytes_of name h.form.second h.form.is_second;
      whole = h.form.whole;
    } in
    rw (content_complete name piece rest content, is_utf8-from_IsUtf8 name h.text) refl

pub name_decodes : Decodes IsName name_at
name_decodes = record { sound = name_sound; complete = name_complete }

-- bytes after their number, as a list
pub bytes_decodes : Decodes (IsList IsByte) content_at
bytes_decodes = record {
  sound = λ bytes content rest e. front_as
      (λ piece h. record {
        first = h.first;
        second = h.second;
        is_first = h.is_first;
        is_second = subst (Each IsByte content)
            (sym h.is_second) (each_byte content);
        whole = h.whole;
      }) (content_sound bytes content rest e);
  complete = λ content piece rest h. content_complete content piece rest
      (record {
        first = h.first;
        second = h.second;
        is_first = h.is_first;
        is_second = bytes_of content h.second h.is_second;
        whole = h.whole;
      });
}

-- a content that is read as a whole
before_ok : {A : Type 0} (count : ℕ) (r : Result A Fault) (x : A) → before count r ≡ Ok x → r ≡ Ok x
before_ok count (Ok y) x e = e
before_ok count (Err fault) x e = absurd cc

sized_sound : {A : Type 0} (P : A → List ℕ → Type 0) (p : List ℕ → Result A Fault) → DecodesWhole P p
    → (bytes : List ℕ) (x : A) (rest : List ℕ) → sized_at p bytes ≡ Ok (x, rest) → Front (IsSized (P x)) bytes rest
unfolding sized_at
sized_sound P p p_reads bytes x rest e = step _ _ _ e (λ content first e. step _ _ _ e (λ y second e.
    front_same (λ (z : _). IsSized (P z)) y x content.1 rest e
    (front_as (λ piece h. record {
      content = content.0;
      is_content = p_reads.sound content.0 y
          (before_ok (length content.1) (p content.0) y second);
      form = h;
    })
    (content_sound bytes content.0 content.1 first))))

sized_complete : {A : Type 0} (P : A → List ℕ → Type 0) (p : List ℕ → Result A Fault) → DecodesWhole P p → (x : A) (piece rest : List ℕ)
    → IsSized (P x) piece → sized_at p (piece ++ rest) ≡ Ok (x, rest)
unfolding sized_at
sized_complete P p p_reads x piece rest h =
    rw (content_complete h.content piece rest h.form, p_reads.complete x h.content h.is_content) refl

pub sized_decodes : {A : Type 0} {P : A → List ℕ → Type 0} {p : List ℕ → Result A Fault} → DecodesWhole P p
    → Decodes (λ (x : A). IsSized (P x)) (sized_at p)
sized_decodes {P = P} {p = p} p_reads = record { sound = sized_sound P p p_reads; complete = sized_complete P p p_reads }
