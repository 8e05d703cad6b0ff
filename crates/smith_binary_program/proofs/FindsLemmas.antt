-- Bytes that spell some item with a property: lists, sections, and sections in order.
use Rattle.smith_binary_program.proofs.Common.{[], All, All-cons, All-head, All-nil, All-tail, ap, Bool, Each, false, IsOptionalSection}
use Rattle.smith_binary_program.proofs.Common.{IsSectionIf, IsUnsigned, Joined, length, List, refl, subst, suc, sym, true, ℕ, ◌++◌, ◌∙◌}
use Rattle.smith_binary_program.proofs.Common.{◌∷◌, ◌≡◌}
use Rattle.std.proofs.Common.{append_assoc}
use Rattle.smith_binary.specs.Pieces.{IsList}
use Rattle.smith_binary_law.proofs.SectionLemmas.{last_form, then_form}
use Rattle.smith_decode.proofs.CustomLemmas.{IsEnd, IsMore}

-- the bytes spell an item with a property
pub record Finds {A : Type 0} (Good : A → Type 0) (Spells : A → List ℕ → Type 0) (piece : List ℕ) : Type 0 where
  pub item : A
  pub good : Good item
  pub form : Spells item piece

-- the bytes spell as many items as the list has, each with a property
record FindsEach {A B : Type 0} (Good : B → Type 0) (Spells : B → List ℕ → Type 0) (xs : List A) (piece : List ℕ) : Type 0 where
  pub items : List B
  pub many : length items ≡ length xs
  pub good : All Good items
  pub form : Each Spells items piece

each_found : {A B : Type 0} (Has : A → Type 0) (P : A → List ℕ → Type 0) (Good : B → Type 0) (Q : B → List ℕ → Type 0)
    → ((x : A) (piece : List ℕ) → Has x → P x piece → Finds Good Q piece) → (xs : List A) (piece : List ℕ) → All Has xs → Each P xs piece
    → FindsEach Good Q xs piece
unfolding Each
each_found Has P Good Q find [] piece has h = record { items = []; many = refl; good = All-nil Good; form = h }
each_found Has P Good Q find (x ∷ xs) piece has h =
    let one = find x h.first (All-head Has x xs has) h.is_first in
    let rest = each_found Has P Good Q find xs h.second (All-tail Has x xs has) h.is_second in
    record {
      items = one.item ∷ rest.items;
      many = ap suc rest.many;
      good = All-cons Good one.item rest.items one.good rest.good;
      form = record { first = h.first; second = h.second; is_first = one.form; is_second = rest.form; whole = h.whole };
    }

pub list_found : {A B : Type 0} (Has : A → Type 0) (P : A → List ℕ → Type 0) (Good : B → Type 0) (Q : B → List ℕ → Type 0)
    → ((x : A) (piece : List ℕ) → Has x → P x piece → Finds Good Q piece) → (xs : List A) (piece : List ℕ) → All Has xs
    → IsList P xs piece → Finds (All Good) (IsList Q) piece
list_found Has P Good Q find xs piece has h =
    let each = each_found Has P Good Q find xs h.second has h.is_second in
    record {
      item = each.items;
      good = each.good;
      form = record {
        first = h.first;
        second = h.second;
        is_first = subst (λ (n : ℕ). IsUnsigned 32 n h.first) (sym each.many) h.is_first;
        is_second = each.form;
        whole = h.whole;
      };
    }

-- the section of an item, or no byte for the item `none`
abbrev pub IsOptionalOf : {A : Type 0} → ℕ → A → (A → List ℕ → Type 0) → A → List ℕ → Type 0
IsOptionalOf id none Spells x = IsOptionalSection id (x ≡ none) (Spells x)

pub section_found : {A : Type 0} (is_written : Bool) (id : ℕ) (none : A) (Good : A → Type 0) (Spells : A → List ℕ → Type 0)
    (Content : List ℕ → Type 0)
    → Good none → (is_written ≡ true → (content : List ℕ) → Content content → Finds Good Spells content) → (piece : List ℕ)
    → IsSectionIf is_written id Content piece → Finds Good (IsOptionalOf id none Spells) piece
section_found true id none Good Spells Content nothing find piece h =
    let one = find refl h.is_second.content h.is_second.is_content in
    record {
      item = one.item;
      good = one.good;
      form = IsOptionalSection.present (record {
        first = h.first;
        second = h.second;
        is_first = h.is_first;
        is_second = record { content = h.is_second.content; is_content = one.form; form = h.is_second.form };
        whole = h.whole;
      });
    }
section_found false id none Good Spells Content nothing find piece h =
    record { item = none; good = nothing; form = IsOptionalSection.absent refl h }

-- the section of a list
pub items_found : {A B : Type 0} (is_written : Bool) (id : ℕ) (Has : A → Type 0) (P : A → List ℕ → Type 0) (Good : B → Type 0)
    (Q : B → List ℕ → Type 0)
    → ((x : A) (piece : List ℕ) → Has x → P x piece → Finds Good Q piece) → (xs : List A) → All Has xs → (piece : List ℕ)
    → IsSectionIf is_written id (IsList P xs) piece → Finds (All Good) (IsOptionalOf id [] (IsList Q)) piece
items_found is_written id Has P Good Q find xs has piece h =
    section_found is_written id [] (All Good) (IsList Q) (IsList P xs) (All-nil Good)
    (λ is content list. list_found Has P Good Q find xs content has list) piece h

-- a section, then more
pub then_found : {A B : Type 0} {Good : A → Type 0} {GoodMore : B → Type 0} {Spells : A → List ℕ → Type 0} {More : B → List ℕ → Type 0}
    {First Second : List ℕ → Type 0} (id : ℕ) (none : A)
    → ((p : List ℕ) → First p → Finds Good (IsOptionalOf id none Spells) p) → ((p : List ℕ) → Second p → Finds GoodMore More p)
    → (piece : List ℕ) → Joined First Second piece → Finds (λ (x : A × B). Good x.0 × GoodMore x.1) (IsMore id none Spells More) piece
then_found id none one more piece h =
    let first = one h.first h.is_first in
    let second = more h.second h.is_second in
    record {
      item = (first.item, second.item);
      good = (first.good, second.good);
      form = then_form id h first.form second.form;
    }

-- the last section
pub last_found : {A : Type 0} {Good : A → Type 0} {Spells : A → List ℕ → Type 0} (id : ℕ) (none : A) (piece : List ℕ)
    → Finds Good (IsOptionalOf id none Spells) piece
    → Finds (λ (x : A × Unit {0}). Good x.0 × Unit {0}) (IsMore id none Spells IsEnd) piece
last_found id none piece one = record { item = (one.item, tt); good = (one.good, tt); form = last_form id one.form }

-- sections in order, the first of which are joined
pub unjoined : {First Second Third : List ℕ → Type 0} {piece : List ℕ} → Joined (Joined First Second) Third piece
    → Joined First (Joined Second Third) piece
unjoined h =
    let inner = h.is_first in
    record {
      first = inner.first;
      second = inner.second ++ h.second;
      is_first = inner.is_first;
      is_second = record { first = inner.second; second = h.second; is_first = inner.is_second; is_second = h.is_second; whole = refl };
      whole = h.whole ∙ ap (λ (bytes : List ℕ). bytes ++ h.second) inner.whole ∙ append_assoc inner.first inner.second h.second;
    }
