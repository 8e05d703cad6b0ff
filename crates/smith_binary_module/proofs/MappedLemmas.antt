-- Sections by the meaning of their items in a module.
use Rattle.std.proofs.Common.{◌≡◌, ℕ, ◌<◌, ◌≤◌, ◌^◌, ◌⊎◌, Bool, true, false, List, length, Result, Ok, Err, sym, subst, ap, ◌∙◌, arith, inl}
use Rattle.std.proofs.Common.{inr}
use Rattle.std.specs.Prelude.{map, Any, IfErr, IsErrAnd}
use Rattle.std.proofs.lemmas.List.{length-map, get_or-map}
use Rattle.smith_binary.specs.declared.error.EncodeError.{EncodeError}
use Rattle.smith_binary.specs.Faults.{IsFault}
use Rattle.smith_binary.specs.Numbers.{IsUnsigned}
use Rattle.smith_binary.specs.Spelling.{Spelling}
use Rattle.smith_binary.specs.Pieces.{IsList, IsListIn}
use Rattle.smith_binary_sections.specs.Sections.{IsSectionIfIn}
use Rattle.smith_binary_sections.specs.Long.{IsLongList, IsLongContent, IsLongSection, IsNeverLong}
use Rattle.smith_binary_sections.proofs.FaultLemmas.{fault_as}
use Rattle.smith_binary_sections.proofs.ListLemmas.{list_as, list_mapped, list_mapped_in}
use Rattle.smith_binary_sections.proofs.SizeLemmas.{not_long, number_within}

-- a section of a list, by the meaning of its items
pub section_mapped : {A B : Type 0} (is_written : Bool) (id : ℕ) (P : Spelling → B → List ℕ → Type 0) (f : A → B) (xs : List A)
    (s : Spelling) (piece : List ℕ) → IsSectionIfIn s is_written id (IsListIn s (λ (x : A). P s (f x)) xs) piece
    → IsSectionIfIn s is_written id (IsListIn s (P s) (map f xs)) piece
section_mapped true id P f xs s piece h = record {
  first = h.first;
  second = h.second;
  is_first = h.is_first;
  is_second = record {
    content = h.is_second.content;
    is_content = list_mapped_in s (P s) f xs h.is_second.content h.is_second.is_content;
    form = h.is_second.form;
  };
  whole = h.whole;
}
section_mapped false id P f xs s piece h = h

-- the fault of a `?`, for another reason
pub handed_on : {A P Q : Type 0} (r : Result A EncodeError) (e : EncodeError) → IsErrAnd r (λ y. y ≡ e) → (P → Q) → IsFault P e
    → IfErr r (IsFault Q)
handed_on (Ok u) e is weaker h = tt
handed_on {P = P} {Q = Q} (Err y) e is weaker h = fault_as y weaker (subst (λ (one : EncodeError). IsFault P one) (sym is) h)

any_mapped : {A B : Type 0} (P : B → Type 0) (f : A → B) (xs : List A) → Any (λ (x : A). P (f x)) xs → Any P (map f xs)
any_mapped P f xs h = (
  h.0,
  f h.1,
  subst (λ (n : ℕ). h.0 < n) (sym (length-map xs f)) h.2,
  get_or-map f xs h.0 h.1 (f h.1) h.2 ∙ ap f h.3,
  h.4,
)

-- a section is too long, by the meaning of its items
pub long_mapped : {A B : Type 0} (P : B → List ℕ → Type 0) (IsLong : B → Type 0) (f : A → B) (xs : List A)
    → IsLongList (λ (x : A). IsLong (f x)) xs ⊎ IsLongContent (IsList (λ (x : A). P (f x)) xs) → IsLongSection P IsLong (map f xs)
long_mapped P IsLong f xs (inl (inl many)) = inl (inl (subst (λ (n : ℕ). 2 ^ 32 ≤ n) (sym (length-map xs f)) many))
long_mapped P IsLong f xs (inl (inr some)) = inl (inr (any_mapped IsLong f xs some))
long_mapped P IsLong f xs (inr content) =
    inr (record { piece = content.piece; spelled = list_mapped P f xs content.piece content.spelled; long = content.long })

-- a list stays too long if its items have a spelling that implies another
pub long_as : {A : Type 0} {IsLong : Type 0} {P Q : A → List ℕ → Type 0} → ((x : A) (piece : List ℕ) → P x piece → Q x piece)
    → (xs : List A) → IsLong ⊎ IsLongContent (IsList P xs) → IsLong ⊎ IsLongContent (IsList Q xs)
long_as weaker xs (inl long) = inl long
long_as {P = P} {Q = Q} weaker xs (inr content) =
    inr (record { piece = content.piece; spelled = list_as P Q weaker xs content.piece content.spelled; long = content.long })

-- a section whose items are never too long by themselves
pub pairs_mapped : {A B : Type 0} (P : B → List ℕ → Type 0) (f : A → B) (xs : List A)
    → (2 ^ 32 ≤ length xs) ⊎ IsLongContent (IsList (λ (x : A). P (f x)) xs) → IsLongSection P IsNeverLong (map f xs)
pairs_mapped P f xs (inl many) = inl (inl (subst (λ (n : ℕ). 2 ^ 32 ≤ n) (sym (length-map xs f)) many))
pairs_mapped P f xs (inr content) =
    inr (record { piece = content.piece; spelled = list_mapped P f xs content.piece content.spelled; long = content.long })

-- an integer has few bytes
pub index_never_long : (n : ℕ) → IsLongContent (IsUnsigned 32 n) → ⊥
index_never_long n h = not_long 5 (omega arith) (number_within n) h
