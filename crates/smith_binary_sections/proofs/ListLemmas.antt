-- Lists that are written item by item.
use Rattle.smith_binary_sections.proofs.Common.{[], any, ap, Each, inr, IsList, IsUnsignedIn, joined_written, Leads, length, List, Output}
use Rattle.smith_binary_sections.proofs.Common.{refl, Spelling, subst, sym, Writes, written_as, zip, ℕ, ◌∷◌, ◌≡◌}
use Rattle.std.proofs.Common.{inl, ◌⊎◌}
use Rattle.std.specs.Prelude.{map}
use Rattle.std.proofs.lemmas.List.{length-map}
use Rattle.smith_binary.specs.Pieces.{IsListIn}
use Rattle.smith_binary.proofs.NumberLemmas.{unsigned_below}
use Rattle.smith_binary.proofs.WrittenLemmas.{nothing_written}
use Rattle.smith_types.specs.Syntax.value_type.ValType.{ValType}
use Rattle.smith_binary_sections.specs.Codes.{IsRun, locals_of, IsLocals, IsLocalsWritten, IsBody, IsBodyWritten}

-- one more pair
pub pair_step : {A B : Type 0} (Item : Spelling → A × B → List ℕ → Type 0) {Whole : Spelling → List ℕ → Type 0} {start now later : Output}
    (xs more : List A) (ys others : List B) (x : A) (y : B) → xs ≡ x ∷ more → ys ≡ y ∷ others
    → Leads (λ s. Each (Item s) (zip xs ys)) Whole start now → Writes (λ s. Item s (x, y)) now later
    → Leads (λ s. Each (Item s) (zip more others)) Whole start later
unfolding Each
pair_step Item xs more ys others x y first second so_far item =
    record { to = λ final rest. so_far.to final (written_as (λ s piece h. rw (first, second) h) (joined_written item rest)) }

none_zipped : {A B : Type 0} (xs : List A) → zip {X = B} xs [] ≡ []
none_zipped [] = refl
none_zipped (x ∷ xs) = refl

-- no pair is left
pub pair_end : {A B : Type 0} (Item : Spelling → A × B → List ℕ → Type 0) {Whole : Spelling → List ℕ → Type 0} {start now : Output}
    (xs : List A) (ys : List B) → (xs ≡ []) ⊎ (ys ≡ []) → Leads (λ s. Each (Item s) (zip xs ys)) Whole start now → Writes Whole start now
unfolding Each
pair_end Item {now = now} xs ys (inl none) so_far = so_far.to now (nothing_written (λ s. rw none refl))
pair_end Item {now = now} xs ys (inr none) so_far = so_far.to now (nothing_written (λ s. rw (none, none_zipped xs) refl))

-- items, by their meaning
each_mapped : {A B : Type 0} (P : B → List ℕ → Type 0) (f : A → B) (xs : List A) (piece : List ℕ) → Each (λ (x : A). P (f x)) xs piece
    → Each P (map f xs) piece
unfolding Each
each_mapped P f [] piece h = h
each_mapped P f (x ∷ xs) piece h = record {
  first = h.first;
  second = h.second;
  is_first = h.is_first;
  is_second = each_mapped P f xs h.second h.is_second;
  whole = h.whole;
}

pub list_mapped_in : {A B : Type 0} (s : Spelling) (P : B → List ℕ → Type 0) (f : A → B) (xs : List A) (piece : List ℕ)
    → IsListIn s (λ (x : A). P (f x)) xs piece → IsListIn s P (map f xs) piece
list_mapped_in s P f xs piece h = record {
  first = h.first;
  second = h.second;
  is_first = subst (λ (n : ℕ). IsUnsignedIn s 32 n h.first) (sym (length-map xs f)) h.is_first;
  is_second = each_mapped P f xs h.second h.is_second;
  whole = h.whole;
}

pub list_mapped : {A B : Type 0} (P : B → List ℕ → Type 0) (f : A → B) (xs : List A) (piece : List ℕ) → IsList (λ (x : A). P (f x)) xs piece
    → IsList P (map f xs) piece
list_mapped P f xs piece h = list_mapped_in any P f xs piece h

-- items with a spelling that implies another
each_as : {A : Type 0} (P Q : A → List ℕ → Type 0) → ((x : A) (piece : List ℕ) → P x piece → Q x piece) → (xs : List A) (piece : List ℕ)
    → Each P xs piece → Each Q xs piece
unfolding Each
each_as P Q weaker [] piece h = h
each_as P Q weaker (x ∷ xs) piece h = record {
  first = h.first;
  second = h.second;
  is_first = weaker x h.first h.is_first;
  is_second = each_as P Q weaker xs h.second h.is_second;
  whole = h.whole;
}

pub list_as : {A : Type 0} (P Q : A → List ℕ → Type 0) → ((x : A) (piece : List ℕ) → P x piece → Q x piece) → (xs : List A) (piece : List ℕ)
    → IsList P xs piece → IsList Q xs piece
list_as P Q weaker xs piece h = record {
  first = h.first;
  second = h.second;
  is_first = h.is_first;
  is_second = each_as P Q weaker xs h.second h.is_second;
  whole = h.whole;
}

one_each : (locals : List ValType) → locals ≡ locals_of (map (λ (t : ValType). (1, t)) locals)
one_each [] = refl
one_each (t ∷ locals) = ap (λ (ts : List ValType). t ∷ ts) (one_each locals)

-- locals, each as a run of its own
pub locals_spelled : (locals : List ValType) (piece : List ℕ) → IsLocalsWritten locals piece → IsLocals locals piece
locals_spelled locals piece h = record {
  runs = map (λ (t : ValType). (1, t)) locals;
  cut = one_each locals;
  few = unsigned_below 32 (length locals) h.first h.is_first;
  form = list_mapped IsRun (λ (t : ValType). (1, t)) locals piece h;
}

pub body_spelled : (body : List ValType × List ℕ) (piece : List ℕ) → IsBodyWritten body piece → IsBody body piece
body_spelled body piece h =
    let content = h.is_content in
    record {
      content = h.content;
      is_content = record {
        first = content.first;
        second = content.second;
        is_first = locals_spelled body.0 content.first content.is_first;
        is_second = content.is_second;
        whole = content.whole;
      };
      form = h.form;
    }
