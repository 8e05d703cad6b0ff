-- Sections in order: those of a module without custom sections, and what is read of them.
use Rattle.smith_binary_law.proofs.Common.{[], ap, false, IsUnsigned, Joined, List, map, None, refl, Some, sym, ℕ, ◌∙◌, ◌∷◌, ◌≡◌}
use Rattle.std.proofs.Common.{append-nil, Option, Result}
use Rattle.smith_binary.specs.Pieces.{IsSection}
use Rattle.smith_binary.specs.Unambiguous.{IsUnambiguousWhole}
use Rattle.smith_binary_sections.specs.Modules.{IsStartSection}
use Rattle.smith_binary_sections.specs.Sections.{IsListSection, IsOptionalSection}
use Rattle.smith_binary_read.specs.declared.error.Fault.{Fault}
use Rattle.smith_binary_read.specs.Decodes.{DecodesWhole}
use Rattle.smith_binary_read.specs.Views.{Viewed}
use Rattle.smith_binary_read.proofs.ViewLemmas.{list_forth}
use Rattle.smith_decode.specs.Customs.{AreCustoms, IsThen}
use Rattle.smith_decode.specs.CustomReadings.{more_at}
use Rattle.smith_decode.specs.Modules.{IsStated}
use Rattle.smith_decode.proofs.CustomLemmas.{among, DecodesTail, IsMore, more_decodes, no_customs}

-- a section after no custom section, then more
pub then_form : {N : Type 0} {P Section More Then : List ℕ → Type 0} {piece : List ℕ} (id : ℕ) → (h : Joined Section More piece)
    → IsOptionalSection id N P h.first → Then h.second → IsThen id N P Then piece
then_form {piece = piece} id h one more = record {
  first = [];
  second = piece;
  is_first = no_customs;
  is_second = record { first = h.first; second = h.second; is_first = one; is_second = more; whole = h.whole };
  whole = refl;
}

-- the last section, and no byte after it
pub last_form : {N : Type 0} {P : List ℕ → Type 0} {piece : List ℕ} (id : ℕ) → IsOptionalSection id N P piece
    → IsThen id N P AreCustoms piece
last_form {piece = piece} id h = record {
  first = [];
  second = piece;
  is_first = no_customs;
  is_second = record { first = piece; second = []; is_first = h; is_second = no_customs; whole = sym (append-nil piece) };
  whole = refl;
}

-- the same section with another content
section_as : {P Q : List ℕ → Type 0} {piece : List ℕ} (id : ℕ) → ((content : List ℕ) → P content → Q content) → IsSection id P piece
    → IsSection id Q piece
section_as id up h = record {
  first = h.first;
  second = h.second;
  is_first = h.is_first;
  is_second = record { content = h.is_second.content; is_content = up h.is_second.content h.is_second.is_content; form = h.is_second.form };
  whole = h.whole;
}

-- a section of items that are seen as others
pub section_of : {A B : Type 0} (id : ℕ) (view : B → A) (P : A → List ℕ → Type 0) (Q : B → List ℕ → Type 0)
    → ((x : B) (piece : List ℕ) → Q x piece → P (view x) piece) → (xs : List B) {piece : List ℕ} → IsListSection id Q xs piece
    → IsListSection id P (map view xs) piece
section_of id view P Q forth xs (IsOptionalSection.present h) = IsOptionalSection.present (section_as id (list_forth view P Q forth xs) h)
section_of id view P Q forth xs (IsOptionalSection.absent is empty) = IsOptionalSection.absent (ap (map view) is) empty

-- a number that is stated
pub stated_viewed : Viewed (λ (n : ℕ). Some n) IsStated (IsUnsigned 32)
stated_viewed = record {
  forth = λ n piece h. record { number = n; is = refl; form = h };
  back = λ x piece h. record { item = h.number; is = sym h.is; form = h.form };
}

pub start_form : (start : Option ℕ) {piece : List ℕ} → IsStartSection start piece
    → IsOptionalSection 8 (start ≡ None) (IsStated start) piece
start_form (Some index) h = IsOptionalSection.present (section_as 8 (stated_viewed.forth index) h)
start_form None h = IsOptionalSection.absent refl h

-- the number of data segments, which is stated or not
pub count_form : (n : ℕ) {piece : List ℕ} → IsOptionalSection 12 (Unit {0}) (IsUnsigned 32 n) piece
    → (count : Option ℕ) × IsOptionalSection 12 (count ≡ None) (IsStated count) piece
count_form n (IsOptionalSection.present h) = (Some n, IsOptionalSection.present (section_as 12 (stated_viewed.forth n) h))
count_form n (IsOptionalSection.absent is empty) = (None, IsOptionalSection.absent refl empty)

-- the sections up to the end of a module, which are read
pub record AreRead {A : Type 0} (ids : List ℕ) (Spells : A → List ℕ → Type 0) : Type 0 where
  pub read : List ℕ → Result A Fault
  pub decodes : DecodesTail ids Spells read

pub more_read : {A B : Type 0} {Content : B → List ℕ → Type 0} {Spells : A → List ℕ → Type 0} {content : List ℕ → Result B Fault}
    {ids : List ℕ} (id : ℕ) (none : B) → (id ≡ 0 → ⊥) → among id ids ≡ false → DecodesWhole Content content → AreRead ids Spells
    → AreRead (id ∷ ids) (IsMore id none Content Spells)
more_read {content = content} {ids = ids} id none nonzero apart content_reads tail = record {
  read = more_at id none content tail.read;
  decodes = more_decodes id ids none nonzero apart content_reads tail.decodes;
}

-- bytes are at most one list of them
pub read_whole : {A : Type 0} {ids : List ℕ} {Spells : A → List ℕ → Type 0} → AreRead ids Spells → IsUnambiguousWhole Spells
read_whole tail = record {
  one = λ x y piece h k.
      let one = tail.decodes.complete x piece h in
      let other = tail.decodes.complete y piece k in
      let settled : one.settled ≡ other.settled = let e = sym one.skipped ∙ other.skipped in cc in
      let e = sym one.is_read ∙ ap tail.read settled ∙ other.is_read in cc;
}
