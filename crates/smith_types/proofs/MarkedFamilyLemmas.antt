-- The marked direct subtypes of the types of a space, as types are added.
use Rattle.smith_types.proofs.Common.{[], ap, append-nil, arith, Bool, false, get_or, if◌then◌else◌, inl, inr, length, length-append}
use Rattle.smith_types.proofs.Common.{length-set, List, None, Option, refl, set, slice_get, slice_get-get_or, Some, SubType, sym, true}
use Rattle.smith_types.proofs.Common.{vec_capacity, ℕ, ◌++◌, ◌+◌, ◌<◌, ◌∙◌, ◌∷◌, ◌≡◌}
use Rattle.std.proofs.Common.{◌&&◌}
use Rattle.std.specs.Prelude.{Vec, vec_len}
use Rattle.std.specs.declared.alloc.Global.{Global}
use Rattle.std.proofs.lemmas.List.{get_or-set_same}
use Rattle.smith_types.specs.declared.ground.Ground.{Ground}
use Rattle.smith_types.specs.Families.{is_directly_below}
use Rattle.smith_types.specs.Grounds.{below_at, indices_where}
use Rattle.smith_types.specs.MarkedFamilies.{is_directly_below_in, is_directly_below_at, is_marked_below, AreFamilyLists, HasFamilyRoom}
use Rattle.smith_types.proofs.FamilyLemmas.{slice_get-set, below_itself, below_other}
use Rattle.smith_types.proofs.ListLemmas.{slice_get-grown, slice_get-last, slice_get-push}
use Rattle.smith_types.proofs.MarkedLemmas.{where_same, one_with, stands}

-- whether a type is directly below another, as the code reads it
pub directly_read : (types : List SubType) (s j : ℕ) (t : SubType) → slice_get types j ≡ Some t → is_directly_below_at types s j
    ≡ is_directly_below s t
directly_read types s j t at = ap (λ (o : Option SubType). is_directly_below_in s o) at

-- one more list, of a type without marked direct subtypes
pub lists_longer : (types : List SubType) (grounds : List Ground) (lists : List (Vec ℕ Global)) (list : Vec ℕ Global) → list.items ≡ []
    → AreFamilyLists types grounds lists → AreFamilyLists types grounds (lists ++ list ∷ [])
lists_longer types grounds lists list none h = record {
  each = λ s now at. elim (slice_get-push lists list s now at) [
    | inl old ↦ h.each s now old
    | inr (here, same) ↦ ap (λ (v : Vec ℕ Global). v.items) (sym same) ∙ none ∙ sym (h.others s (omega (arith, here)))
  ];
  others = λ s past. let long : length (lists ++ list ∷ []) ≡ length lists + 1 = length-append lists (list ∷ []) in
      h.others s (omega (arith, past, long));
}

-- a list with the same items elsewhere
pub lists_kept : (types : List SubType) (grounds : List Ground) (lists : List (Vec ℕ Global)) (i : ℕ) (list now d : Vec ℕ Global)
    → i < length lists → list ≡ get_or lists i d → now.items ≡ list.items → AreFamilyLists types grounds lists
    → AreFamilyLists types grounds (set lists i now)
lists_kept types grounds lists i list now d inside read same h =
    let stood : slice_get lists i ≡ Some list = slice_get-get_or lists i d inside ∙ ap Some (sym read) in
    let long : length (set lists i now) ≡ length lists = length-set lists i now in record {
      each = λ s found at. elim (slice_get-set lists i now s found at) [
        | inl (here, equal) ↦ ap (λ (v : Vec ℕ Global). v.items) (sym equal) ∙ same ∙ h.each i list stood
            ∙ ap (λ (m : ℕ). indices_where (is_marked_below types grounds m) 0 (length types)) (sym here)
        | inr (other, old) ↦ h.each s found old
      ];
      others = λ s past. h.others s (omega (arith, past, long));
    }

-- a list with room for one more index
pub room_at : (lists : List (Vec ℕ Global)) (i : ℕ) (now : Vec ℕ Global) (supertype : Option ℕ) → i < length lists → supertype ≡ Some i
    → vec_len now < vec_capacity now → HasFamilyRoom supertype (set lists i now)
room_at lists i now supertype inside is room = λ s up.
    let same : i ≡ s = cc in
    let long : length (set lists i now) ≡ length lists = length-set lists i now in
    let at : slice_get (set lists i now) i ≡ Some now = slice_get-get_or (set lists i now) i now (omega (arith, inside, long))
    ∙ ap Some (get_or-set_same lists i now now inside) in
    (now, rw (sym same) at, room)

module _ (types : List SubType) (t : SubType) (old new : List Ground) (own : Bool) (front : (j : ℕ) → j < length types
    → below_at new j ≡ below_at old j) (last : below_at new (length types) ≡ own) where
  front_same : (s j : ℕ) → j < length types → is_marked_below (types ++ t ∷ []) new s j ≡ is_marked_below types old s j
  front_same s j inside =
      let (u, at) = stands types j inside in
      ap (λ (b : Bool). b && is_directly_below_at (types ++ t ∷ []) s j) (front j inside)
      ∙ ap (λ (b : Bool). below_at old j && b) (directly_read (types ++ t ∷ []) s j u (slice_get-grown types (t ∷ []) j u at)
      ∙ sym (directly_read types s j u at))

  last_is : (s : ℕ) → is_marked_below (types ++ t ∷ []) new s (length types) ≡ (own && is_directly_below s t)
  last_is s = ap (λ (b : Bool). b && is_directly_below_at (types ++ t ∷ []) s (length types)) last ∙ ap (λ (b : Bool). own && b)
      (directly_read (types ++ t ∷ []) s (length types) t (slice_get-last types t))

  -- the indices with those of one more type
  one_more : (s : ℕ) (b : Bool) → (own && is_directly_below s t) ≡ b → indices_where (is_marked_below (types ++ t ∷ []) new s) 0
      (length (types ++ t ∷ [])) ≡ indices_where (is_marked_below types old s) 0 (length types) ++ (if b then length types ∷ [] else [])
  one_more s b is =
      ap (λ (n : ℕ). indices_where (is_marked_below (types ++ t ∷ []) new s) 0 n) (length-append types (t ∷ []))
      ∙ one_with (is_marked_below (types ++ t ∷ []) new s) (length types) b (last_is s ∙ is)
      ∙ ap (λ (l : List ℕ). l ++ (if b then length types ∷ [] else [])) (where_same (is_marked_below (types ++ t ∷ []) new s)
      (is_marked_below types old s) 0 (length types) (λ j least less. front_same s j (omega (arith, less))))

  none_more : (s : ℕ) → (own && is_directly_below s t) ≡ false → indices_where (is_marked_below (types ++ t ∷ []) new s) 0
      (length (types ++ t ∷ [])) ≡ indices_where (is_marked_below types old s) 0 (length types)
  none_more s off = one_more s false off ∙ append-nil _

  unlisted : (lists : List (Vec ℕ Global)) → ((s : ℕ) → (own && is_directly_below s t) ≡ false) → AreFamilyLists types old lists
      → AreFamilyLists (types ++ t ∷ []) new lists
  unlisted lists off h = record {
    each = λ s list at. h.each s list at ∙ sym (none_more s (off s));
    others = λ s past. none_more s (off s) ∙ h.others s past;
  }

  -- a type that is not marked
  pub lists_unmarked : (lists : List (Vec ℕ Global)) → own ≡ false → AreFamilyLists types old lists
      → AreFamilyLists (types ++ t ∷ []) new lists
  lists_unmarked lists off h = unlisted lists (λ s. ap (λ (b : Bool). b && is_directly_below s t) off) h

  -- a type without a supertype
  pub lists_rootless : (lists : List (Vec ℕ Global)) → own ≡ true → t.supertype ≡ None → AreFamilyLists types old lists
      → AreFamilyLists (types ++ t ∷ []) new lists
  lists_rootless lists on none h = unlisted lists (λ s. ap (λ (b : Bool). b && is_directly_below s t) on ∙ rw none refl) h

  -- a marked type is the last of the marked direct subtypes of its supertype
  pub lists_joined : (lists : List (Vec ℕ Global)) (above : ℕ) (list now d : Vec ℕ Global) → own ≡ true → t.supertype ≡ Some above
      → above < length lists → list ≡ get_or lists above d → now.items ≡ list.items ++ length types ∷ [] → AreFamilyLists types old lists
      → AreFamilyLists (types ++ t ∷ []) new (set lists above now)
  lists_joined lists above list now d on up inside read pushed h =
      let stood : slice_get lists above ≡ Some list = slice_get-get_or lists above d inside ∙ ap Some (sym read) in
      let long : length (set lists above now) ≡ length lists = length-set lists above now in
      let apart : (s : ℕ) → (s ≡ above → ⊥) → (own && is_directly_below s t) ≡ false =
      λ s other. ap (λ (b : Bool). b && is_directly_below s t) on ∙ below_other t above s up other in record {
        each = λ s found at. elim (slice_get-set lists above now s found at) [
          | inl (here, equal) ↦
              ap (λ (v : Vec ℕ Global). v.items) (sym equal) ∙ pushed ∙ ap (λ (l : List ℕ). l ++ length types ∷ [])
              (h.each above list stood)
              ∙ sym (one_more above true (ap (λ (b : Bool). b && is_directly_below above t) on ∙ below_itself t above up))
              ∙ ap (λ (m : ℕ). indices_where (is_marked_below (types ++ t ∷ []) new m) 0 (length (types ++ t ∷ []))) (sym here)
          | inr (other, earlier) ↦ h.each s found earlier ∙ sym (none_more s (apart s other))
        ];
        others = λ s past.
            let other : s ≡ above → ⊥ = λ same. omega (arith, same, past, long, inside) in
            none_more s (apart s other) ∙ h.others s (omega (arith, past, long));
      }
