-- Lists and contents of items that are seen as those of the abstract syntax.
use Rattle.std.proofs.Common.{ℕ, List, [], ◌∷◌, length, map, refl, sym, ap, subst, ◌∙◌}
use Rattle.std.proofs.lemmas.List.{length-map}
use Rattle.smith_binary.specs.Numbers.{IsUnsigned}
use Rattle.smith_binary.specs.Pieces.{Each, IsList, IsSized}
use Rattle.smith_binary_read.specs.Views.{From, Viewed}

pub each_forth : {A B : Type 0} (view : B → A) (P : A → List ℕ → Type 0) (Q : B → List ℕ → Type 0)
    → ((x : B) (piece : List ℕ) → Q x piece → P (view x) piece) → (xs : List B) (piece : List ℕ) → Each Q xs piece
    → Each P (map view xs) piece
unfolding Each
each_forth view P Q forth [] piece h = h
each_forth view P Q forth (x ∷ xs) piece h = record {
  first = h.first;
  second = h.second;
  is_first = forth x h.first h.is_first;
  is_second = each_forth view P Q forth xs h.second h.is_second;
  whole = h.whole;
}

pub list_forth : {A B : Type 0} (view : B → A) (P : A → List ℕ → Type 0) (Q : B → List ℕ → Type 0)
    → ((x : B) (piece : List ℕ) → Q x piece → P (view x) piece) → (xs : List B) (piece : List ℕ) → IsList Q xs piece
    → IsList P (map view xs) piece
list_forth view P Q forth xs piece h = record {
  first = h.first;
  second = h.second;
  is_first = subst (λ (n : ℕ). IsUnsigned 32 n h.first) (sym (length-map xs view)) h.is_first;
  is_second = each_forth view P Q forth xs h.second h.is_second;
  whole = h.whole;
}

each_back : {A B : Type 0} (view : B → A) (P : A → List ℕ → Type 0) (Q : B → List ℕ → Type 0) → Viewed view P Q
    → (xs : List A) (piece : List ℕ) → Each P xs piece → From (map view) (Each Q) xs piece
unfolding Each
each_back view P Q v [] piece h = record { item = []; is = refl; form = h }
each_back view P Q v (x ∷ xs) piece h =
    let one = v.back x h.first h.is_first in
    let others = each_back view P Q v xs h.second h.is_second in
    record {
      item = one.item ∷ others.item;
      is = ap (λ (y : _). y ∷ map view others.item) one.is ∙ ap (λ (ys : List _). x ∷ ys) others.is;
      form = record { first = h.first; second = h.second; is_first = one.form; is_second = others.form; whole = h.whole };
    }

pub list_viewed : {A B : Type 0} {view : B → A} {P : A → List ℕ → Type 0} {Q : B → List ℕ → Type 0} → Viewed view P Q
    → Viewed (map view) (IsList P) (IsList Q)
list_viewed {view = view} {P = P} {Q = Q} v = record {
  forth = λ xs piece h. list_forth view P Q v.forth xs piece h;
  back = λ xs piece h.
      let items = each_back view P Q v xs h.second h.is_second in
      record {
        item = items.item;
        is = items.is;
        form = record {
          first = h.first;
          second = h.second;
          is_first = subst (λ (n : ℕ). IsUnsigned 32 n h.first) (sym (ap length items.is) ∙ length-map items.item view) h.is_first;
          is_second = items.form;
          whole = h.whole;
        };
      };
}

pub sized_viewed : {A B : Type 0} {view : B → A} {P : A → List ℕ → Type 0} {Q : B → List ℕ → Type 0} → Viewed view P Q
    → Viewed view (λ (x : A). IsSized (P x)) (λ (y : B). IsSized (Q y))
sized_viewed v = record {
  forth = λ item piece h. record { content = h.content; is_content = v.forth item h.content h.is_content; form = h.form };
  back = λ x piece h.
      let one = v.back x h.content h.is_content in
      record { item = one.item; is = one.is; form = record { content = h.content; is_content = one.form; form = h.form } };
}
