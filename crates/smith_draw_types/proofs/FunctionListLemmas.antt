-- The lists of the types that functions ground, as they are made and as types are added.
use Rattle.smith_draw_types.proofs.Common.{[], AbstractHeapType, ap, AreFuncGrounds, arith, Bool, Concrete, Context, directly_read, Extends}
use Rattle.smith_draw_types.proofs.Common.{false, FuncGrounds, get_or, if◌then◌else◌, indices_where, inl, inr, is_directly_below_at}
use Rattle.smith_draw_types.proofs.Common.{is_index, IsGroundedByFuncs, length, length-append, List, Option, refl, same_from_decides}
use Rattle.smith_draw_types.proofs.Common.{slice_get, slice_get-get_or, slice_get-grown, Some, stands, subst, SubType, suc, sym, true, zero}
use Rattle.smith_draw_types.proofs.Common.{ℕ, ◌&&◌, ◌++◌, ◌+◌, ◌<◌, ◌↔◌, ◌∙◌, ◌∷◌, ◌≡◌, ◌≤◌}
use Rattle.std.proofs.Common.{IsTrue, set}
use Rattle.std.specs.Prelude.{Vec}
use Rattle.std.specs.declared.alloc.Global.{Global}
use Rattle.std.proofs.lemmas.Bool.{eq-eqb, ne_eqb}
use Rattle.std.proofs.lemmas.List.{length-set}
use Rattle.smith_types.specs.Syntax.value_type.AbstractHeapType.TheVariants as heap
use Rattle.smith_types.specs.declared.ground.Ground.{Ground}
use Rattle.smith_types.specs.FuncGrounds.{is_noted}
use Rattle.smith_types.proofs.FamilyLemmas.{slice_get-set}
use Rattle.smith_types.proofs.ListLemmas.{slice_get-push}
use Rattle.smith_types.proofs.MarkLemmas.{said_inside}
use Rattle.smith_types.proofs.MarkedLemmas.{one_fails, one_passes, one_with, where_same}
use Rattle.smith_draw_types.specs.FunctionFamilies.{is_kind_in, is_kind_at, is_noted_below, is_noted_function, AreListed}
use Rattle.smith_draw_types.specs.FunctionFamilies.{AreFunctionFamilies}
use Rattle.smith_draw_types.specs.Offered.{is_kind}
use Rattle.smith_draw_types.specs.declared.function_families.FunctionFamilies.{FunctionFamilies}

not_true : (b : Bool) → (b ≡ true → ⊥) → b ≡ false
not_true true never = absurd (never refl)
not_true false never = refl

pub kind_read : (types : List SubType) (s : Bool) (a : AbstractHeapType) (j : ℕ) (t : SubType) → slice_get types j ≡ Some t
    → is_kind_at types s a j ≡ is_kind s a t
kind_read types s a j t at = ap (λ (o : Option SubType). is_kind_in s a o) at

-- one more list, of a type without such subtypes
pub listed_longer : (test : ℕ → ℕ → Bool) (count : ℕ) (lists : List (Vec ℕ Global)) (list : Vec ℕ Global) → list.items ≡ []
    → AreListed test count lists → AreListed test count (lists ++ list ∷ [])
listed_longer test count lists list none h = record {
  each = λ s now at. elim (slice_get-push lists list s now at) [
    | inl old ↦ h.each s now old
    | inr (here, same) ↦ ap (λ (v : Vec ℕ Global). v.items) (sym same) ∙ none ∙ sym (h.others s (omega (arith, here)))
  ];
  others = λ s past.
      let long : length (lists ++ list ∷ []) ≡ length lists + 1 = length-append lists (list ∷ []) in
      h.others s (omega (arith, past, long));
}

-- whether an index is the one that an option holds
pub index_itself : (s : ℕ) → is_index s (Some s) ≡ true
index_itself s = eq-eqb s s refl

pub index_other : (i s : ℕ) → (i ≡ s → ⊥) → is_index i (Some s) ≡ false
index_other i s other = ne_eqb s i (λ same. other (sym same))

-- an index that passes no test
pub listed_passed : (test : ℕ → ℕ → Bool) (index : ℕ) (lists : List (Vec ℕ Global)) → ((s : ℕ) → test s index ≡ false)
    → AreListed test index lists → AreListed test (index + 1) lists
listed_passed test index lists off h = record {
  each = λ s list at. h.each s list at ∙ sym (one_fails (test s) index (off s));
  others = λ s past. one_fails (test s) index (off s) ∙ h.others s past;
}

-- an index that passes one test
pub listed_joined : (test : ℕ → ℕ → Bool) (index above : ℕ) (lists : List (Vec ℕ Global)) (list now d : Vec ℕ Global)
    → test above index ≡ true → ((s : ℕ) → (s ≡ above → ⊥) → test s index ≡ false) → above < length lists → list ≡ get_or lists above d
    → now.items ≡ list.items ++ index ∷ [] → AreListed test index lists
    → AreListed test (index + 1) (set lists above now)
listed_joined test index above lists list now d on off inside read pushed h =
    let stood : slice_get lists above ≡ Some list = slice_get-get_or lists above d inside ∙ ap Some (sym read) in
    let long : length (set lists above now) ≡ length lists = length-set lists above now in record {
      each = λ s found at. elim (slice_get-set lists above now s found at) [
        | inl (here, equal) ↦
            ap (λ (v : Vec ℕ Global). v.items) (sym equal) ∙ pushed ∙ ap (λ (l : List ℕ). l ++ index ∷ []) (h.each above list stood)
            ∙ sym (one_passes (test above) index on) ∙ ap (λ (m : ℕ). indices_where (test m) 0 (index + 1)) (sym here)
        | inr (other, earlier) ↦ h.each s found earlier ∙ sym (one_fails (test s) index (off s other))
      ];
      others = λ s past.
          let other : s ≡ above → ⊥ = λ same. omega (arith, same, past, long, inside) in
          one_fails (test s) index (off s other) ∙ h.others s (omega (arith, past, long));
    }

-- whether the record of functions notes a type, as the code reads it
pub noted_is : (context : Context) (grounds : FuncGrounds) (j : ℕ) (r : Bool) → j < length context.types → AreFuncGrounds context grounds
    → IsTrue r ↔ IsGroundedByFuncs context (Concrete j) → r ≡ is_noted grounds (Concrete j)
noted_is context grounds j r inside right decides =
    same_from_decides r (is_noted grounds (Concrete j)) decides (right.each (Concrete j) inside)

first_off : (a b : Bool) → a ≡ false → (a && b) ≡ false
first_off a b off = rw off refl

first_on : (a b c : Bool) → a ≡ true → b ≡ c → (a && b) ≡ c
first_on a b c on same = rw on same

-- no list at first
pub none_listed : (types : List SubType) (grounds : FuncGrounds) (families : FunctionFamilies) → families.direct.items ≡ []
    → families.plain.items ≡ [] → families.shared.items ≡ [] → AreFunctionFamilies types grounds 0 families
none_listed types grounds families direct plain shared = record {
  direct = record { each = λ s list at. let never = rw direct at at in cc; others = λ s past. refl };
  plain = plain;
  shared = shared;
}

-- no list has a type that functions don't ground
pub families_passed : (types : List SubType) (grounds : FuncGrounds) (index : ℕ) (families : FunctionFamilies)
    → is_noted grounds (Concrete index) ≡ false → AreFunctionFamilies types grounds index families
    → AreFunctionFamilies types grounds (index + 1) families
families_passed types grounds index families off h =
    let noted = is_noted grounds (Concrete index) in
    let apart : (s : ℕ) → is_noted_below types grounds s index ≡ false = λ s. first_off noted (is_directly_below_at types s index) off in
    let never : (s : Bool) → is_noted_function types grounds s index ≡ false =
    λ s. first_off noted (is_kind_at types s heap.Func index) off in
    record {
      direct = listed_passed (is_noted_below types grounds) index families.direct.items apart h.direct;
      plain = h.plain ∙ sym (one_fails (is_noted_function types grounds false) index (never false));
      shared = h.shared ∙ sym (one_fails (is_noted_function types grounds true) index (never true));
    }

-- the tests of a type that functions ground
pub below_is : (types : List SubType) (grounds : FuncGrounds) (index : ℕ) (t : SubType) → slice_get types index ≡ Some t
    → is_noted grounds (Concrete index) ≡ true → (s : ℕ) → is_noted_below types grounds s index ≡ is_index s t.supertype
below_is types grounds index t at on s =
    let noted = is_noted grounds (Concrete index) in
    first_on noted (is_directly_below_at types s index) (is_index s t.supertype) on (directly_read types s index t at)

pub functions_more : (types : List SubType) (grounds : FuncGrounds) (index : ℕ) (t : SubType) → slice_get types index ≡ Some t
    → is_noted grounds (Concrete index) ≡ true → (s r : Bool) (old new : List ℕ) → r ≡ is_kind s heap.Func t
    → new ≡ old ++ (if r then index ∷ [] else []) → old ≡ indices_where (is_noted_function types grounds s) 0 index
    → new ≡ indices_where (is_noted_function types grounds s) 0 (index + 1)
functions_more types grounds index t at on s r old new is pushed listed =
    let noted = is_noted grounds (Concrete index) in
    let test = first_on noted (is_kind_at types s heap.Func index) r on (kind_read types s heap.Func index t at ∙ sym is) in
    pushed ∙ ap (λ (l : List ℕ). l ++ (if r then index ∷ [] else [])) listed
    ∙ sym (one_with (is_noted_function types grounds s) index r test)

-- the indices that pass a test, with further ones of which none passes
where_longer : (f g : ℕ → Bool) (n more : ℕ) → ((j : ℕ) → j < n → g j ≡ f j) → ((j : ℕ) → n ≤ j → g j ≡ false)
    → indices_where g 0 (n + more) ≡ indices_where f 0 n
where_longer f g n zero same off =
    let none : n + 0 ≡ n = omega arith in
    ap (indices_where g 0) none ∙ where_same g f 0 n (λ j least less. same j (omega (arith, less)))
where_longer f g n (suc more) same off =
    let next : n + suc more ≡ n + more + 1 = omega arith in
    ap (indices_where g 0) next ∙ one_fails g (n + more) (off (n + more) (omega arith)) ∙ where_longer f g n more same off

-- the lists as types are added after the record of functions was made
module _ (types more : List SubType) (grounds : FuncGrounds) (short : length grounds.marks.items ≤ length types) where
  unnoted : (j : ℕ) → length types ≤ j → is_noted grounds (Concrete j) ≡ false
  unnoted j past =
      not_true (is_noted grounds (Concrete j))
      (λ on.
      let inside = said_inside (λ (ground : Ground). ground.below) grounds.marks.items j on in
      omega (arith, inside, short, past))

  -- a test of the types that functions ground, with a part that reads the type
  noted_longer : (f g : ℕ → Bool) → ((j : ℕ) (t : SubType) → slice_get types j ≡ Some t → g j ≡ f j)
      → indices_where (λ j. is_noted grounds (Concrete j) && g j) 0 (length (types ++ more))
      ≡ indices_where (λ j. is_noted grounds (Concrete j) && f j) 0 (length types)
  noted_longer f g same =
      let old : ℕ → Bool = λ j. is_noted grounds (Concrete j) && f j in
      let new : ℕ → Bool = λ j. is_noted grounds (Concrete j) && g j in
      ap (indices_where new 0) (length-append types more)
      ∙ where_longer old new (length types) (length more)
      (λ j inside. let (t, at) = stands types j inside in ap (λ (b : Bool). is_noted grounds (Concrete j) && b) (same j t at))
      (λ j past. first_off (is_noted grounds (Concrete j)) (g j) (unnoted j past))

  below_longer : (s : ℕ) → indices_where (is_noted_below (types ++ more) grounds s) 0 (length (types ++ more))
      ≡ indices_where (is_noted_below types grounds s) 0 (length types)
  below_longer s =
      noted_longer (is_directly_below_at types s) (is_directly_below_at (types ++ more) s)
      (λ j t at. directly_read (types ++ more) s j t (slice_get-grown types more j t at) ∙ sym (directly_read types s j t at))

  functions_longer : (s : Bool) → indices_where (is_noted_function (types ++ more) grounds s) 0 (length (types ++ more))
      ≡ indices_where (is_noted_function types grounds s) 0 (length types)
  functions_longer s =
      noted_longer (is_kind_at types s heap.Func) (is_kind_at (types ++ more) s heap.Func)
      (λ j t at. kind_read (types ++ more) s heap.Func j t (slice_get-grown types more j t at) ∙ sym (kind_read types s heap.Func j t at))

  families_longer : (families : FunctionFamilies) → AreFunctionFamilies types grounds (length types) families
      → AreFunctionFamilies (types ++ more) grounds (length (types ++ more)) families
  families_longer families h = record {
    direct = record {
      each = λ s list at. h.direct.each s list at ∙ sym (below_longer s);
      others = λ s past. below_longer s ∙ h.direct.others s past;
    };
    plain = h.plain ∙ sym (functions_longer false);
    shared = h.shared ∙ sym (functions_longer true);
  }

pub families_grown : (old new : List SubType) (grounds : FuncGrounds) (families : FunctionFamilies)
    → length grounds.marks.items ≤ length old → Extends old new → AreFunctionFamilies old grounds (length old) families
    → AreFunctionFamilies new grounds (length new) families
families_grown old new grounds families short grown h =
    subst (λ (xs : List SubType). AreFunctionFamilies xs grounds (length xs) families) (sym grown.parts)
    (families_longer old grown.more grounds short families h)
