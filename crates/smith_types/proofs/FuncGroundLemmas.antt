-- The record of functions that ground heap types, as functions are noted.
use Rattle.smith_types.proofs.Common.{[], Abstract, AbstractHeapType, ap, arith, Array, Bool, cases_eq, CompositeInnerType, Concrete, Exact}
use Rattle.smith_types.proofs.Common.{false, Func, get_or, HeapType, if◌then◌else◌, inl, inr, IsTrue, kind, kind_of, length, length-set}
use Rattle.smith_types.proofs.Common.{List, refl, same_Some, set, shared, slice_get, slice_get_within, Some, Struct, subst, SubType, suc}
use Rattle.smith_types.proofs.Common.{sym, true, ValType, zero, ℕ, ◌&&◌, ◌++◌, ◌<◌, ◌↔◌, ◌∙◌, ◌∷◌, ◌≡◌}
use Rattle.std.specs.Prelude.{replicate, ◌||◌, ◌⊎◌}
use Rattle.smith_syntax.specs.declared.value_type.AbstractHeapType.TheVariants as heap
use Rattle.smith_types.specs.declared.ground.Ground.{Ground}
use Rattle.smith_types.specs.declared.noted_kinds.Kinds.{Kinds}
use Rattle.smith_types.specs.declared.noted_kinds.NotedKinds.{NotedKinds}
use Rattle.smith_types.specs.declared.func_grounds.FuncGrounds.{FuncGrounds}
use Rattle.smith_types.specs.Types.{IsOrderly}
use Rattle.smith_types.specs.Subtyping.{is_abstract_below, IsBelow, IsRefBelow, IsValBelow, IsInRange}
use Rattle.smith_types.specs.Expressions.{Context, reference_to, function_reference}
use Rattle.smith_types.specs.Grounded.{IsGroundedByFuncs}
use Rattle.smith_types.specs.Grounds.{said_at, own_at, below_at, AreClosed, AreMarked}
use Rattle.smith_types.specs.FuncGrounds.{are_below, kinds_with, kinds_of, noted_with, is_noted, AreFuncGrounds, IsFunctionAdded}
use Rattle.smith_types.specs.FuncGrounds.{IsTypeNoted}
use Rattle.smith_types.proofs.GrowthLemmas.{IsValBelow-trans}
use Rattle.smith_types.proofs.ListLemmas.{slice_get-grown, slice_get-last, slice_get-push}
use Rattle.smith_types.proofs.RangeLemmas.{below_stands, above_stands}
use Rattle.smith_types.proofs.WalkLemmas.{by_cases_from_below, below_from_by_cases, concrete_not_below_exact}
use Rattle.smith_types.proofs.GroundedLemmas.{created_below, below_created, created_under, under_created}
use Rattle.smith_types.proofs.MarkLemmas.{said_inside, said_is, said_set, said_beside, said_same}

-- one more of three kinds
first_more : (a x y z : Bool) → IsTrue (((true && x) || y) || z) ↔ (IsTrue (((a && x) || y) || z) ⊎ IsTrue x)
first_more a true y z = (λ e. inr refl, λ h. refl)
first_more true false y z = (λ e. inl e, λ h. elim h [ inl e ↦ e | inr e ↦ cc ])
first_more false false y z = (λ e. inl e, λ h. elim h [ inl e ↦ e | inr e ↦ cc ])

second_more : (a x y z : Bool) → IsTrue ((y || (true && x)) || z) ↔ (IsTrue ((y || (a && x)) || z) ⊎ IsTrue x)
second_more a x true z = (λ e. inl refl, λ h. refl)
second_more a true false z = (λ e. inr refl, λ h. refl)
second_more true false false z = (λ e. inl e, λ h. elim h [ inl e ↦ e | inr e ↦ cc ])
second_more false false false z = (λ e. inl e, λ h. elim h [ inl e ↦ e | inr e ↦ cc ])

third_more : (a x y : Bool) → IsTrue (y || (true && x)) ↔ (IsTrue (y || (a && x)) ⊎ IsTrue x)
third_more a x true = (λ e. inl refl, λ h. refl)
third_more a true false = (λ e. inr refl, λ h. refl)
third_more true false false = (λ e. inl e, λ h. elim h [ inl e ↦ e | inr e ↦ cc ])
third_more false false false = (λ e. inl e, λ h. elim h [ inl e ↦ e | inr e ↦ cc ])

kinds_more : (inner : CompositeInnerType) (kinds : Kinds) (b : AbstractHeapType) → IsTrue (are_below (kinds_with inner kinds) b) ↔
    (IsTrue (are_below kinds b) ⊎ IsTrue (is_abstract_below (kind_of inner) b))
kinds_more (Array a) kinds b = first_more kinds.arrays (is_abstract_below heap.Array b) (kinds.funcs && is_abstract_below heap.Func b)
    (kinds.structs && is_abstract_below heap.Struct b)
kinds_more (Func f) kinds b = second_more kinds.funcs (is_abstract_below heap.Func b) (kinds.arrays && is_abstract_below heap.Array b)
    (kinds.structs && is_abstract_below heap.Struct b)
kinds_more (Struct s) kinds b = third_more kinds.structs (is_abstract_below heap.Struct b)
    ((kinds.arrays && is_abstract_below heap.Array b) || (kinds.funcs && is_abstract_below heap.Func b))

-- one more type, of this sharedness
kinds_noted : (of s : Bool) (inner : CompositeInnerType) (kinds : NotedKinds) (b : AbstractHeapType)
    → IsTrue (are_below (kinds_of (noted_with of inner kinds) s) b) ↔ (IsTrue (are_below (kinds_of kinds s) b)
    ⊎ ((of ≡ s) × IsTrue (is_abstract_below (kind_of inner) b)))
kinds_noted false false inner kinds b =
    let (to, from) = kinds_more inner kinds.plain b in (
      λ e. elim (to e) [ inl old ↦ inl old | inr added ↦ inr (refl, added) ],
      λ h. from (elim h [ inl old ↦ inl old | inr (same, added) ↦ inr added ]),
    )
kinds_noted true true inner kinds b =
    let (to, from) = kinds_more inner kinds.shared b in (
      λ e. elim (to e) [ inl old ↦ inl old | inr added ↦ inr (refl, added) ],
      λ h. from (elim h [ inl old ↦ inl old | inr (same, added) ↦ inr added ]),
    )
kinds_noted false true inner kinds b = (λ e. inl e, λ h. elim h [ inl old ↦ old | inr (same, added) ↦ cc ])
kinds_noted true false inner kinds b = (λ e. inl e, λ h. elim h [ inl old ↦ old | inr (same, added) ↦ cc ])

-- the heap types that one more function grounds
module _ (old new : Context) (index : ℕ) (exact : Bool) (added : IsFunctionAdded old new index exact) where
  by_more : (ty : HeapType) → IsGroundedByFuncs new ty → IsGroundedByFuncs old ty
      ⊎ IsBelow old.types (if exact then Exact index else Concrete index) ty
  by_more ty (function, i, at, below) =
      let at_all : slice_get (old.funcs ++ index ∷ []) function ≡ Some i = subst (λ (l : List ℕ). slice_get l function ≡ Some i) added.funcs
      at in
      let on : IsValBelow old.types (function_reference new function i) (reference_to ty) =
      subst (λ xs. IsValBelow xs (function_reference new function i) (reference_to ty)) added.types below in
      elim (slice_get-push old.funcs index function i at_all) [
        | inl before ↦ inl (
          function,
          i,
          before,
          subst (λ (v : ValType). IsValBelow old.types v (reference_to ty))
              (added.same function i (slice_get_within old.funcs function i before)) on,
        )
        | inr (is, same) ↦
            let last : function_reference new function i ≡ reference_to (if exact then Exact index else Concrete index) =
            ap (λ (n : ℕ). function_reference new n i) is ∙ ap (λ (n : ℕ). function_reference new (length old.funcs) n) (sym same)
            ∙ added.added in
            let heap : IsRefBelow old.types (record { nullable = false; heap_type = if exact then Exact index else Concrete index })
            (record { nullable = false; heap_type = ty }) = subst (λ (v : ValType). IsValBelow old.types v (reference_to ty)) last on in
            inr heap.heap
      ]

  more_by : (ty : HeapType) → IsGroundedByFuncs old ty ⊎ IsBelow old.types (if exact then Exact index else Concrete index) ty
      → IsGroundedByFuncs new ty
  more_by ty (inl (function, i, at, below)) = (
    function,
    i,
    subst (λ (l : List ℕ). slice_get l function ≡ Some i) (sym added.funcs) (slice_get-grown old.funcs (index ∷ []) function i at),
    subst (λ xs. IsValBelow xs (function_reference new function i) (reference_to ty)) (sym added.types)
        (subst (λ (v : ValType). IsValBelow old.types v (reference_to ty))
        (sym (added.same function i (slice_get_within old.funcs function i at))) below),
  )
  more_by ty (inr below) = (
    length old.funcs,
    index,
    subst (λ (l : List ℕ). slice_get l (length old.funcs) ≡ Some index) (sym added.funcs) (slice_get-last old.funcs index),
    subst (λ xs. IsValBelow xs (function_reference new (length old.funcs) index) (reference_to ty)) (sym added.types)
        (subst (λ (v : ValType). IsValBelow old.types v (reference_to ty)) (sym added.added)
        (record { heap = below; nullable = λ no. no })),
  )

-- the record decides which heap types functions ground, in the form of the code
pub decided : (grounds : FuncGrounds) (ty : HeapType) (r : Bool) → r ≡ is_noted grounds ty → (context : Context)
    → AreFuncGrounds context grounds → IsInRange context.types ty → IsTrue r ↔ IsGroundedByFuncs context ty
decided grounds ty r is context h inside = subst (λ (b : Bool). IsTrue b ↔ IsGroundedByFuncs context ty) (sym is) (h.each ty inside)

-- it grounds existing types alone
pub noted_inside : (grounds : FuncGrounds) (ty : HeapType) (r : Bool) → r ≡ is_noted grounds ty → (context : Context)
    → AreFuncGrounds context grounds → IsTrue r → IsInRange context.types ty
noted_inside grounds (Abstract s b) r is context h on = tt
noted_inside grounds (Concrete j) r is context h on = let inside = said_inside (λ (ground : Ground). ground.below) grounds.marks.items j
    (sym is ∙ on) in rw h.long at inside
noted_inside grounds (Exact j) r is context h on = let inside = said_inside (λ (ground : Ground). ground.own) grounds.marks.items j
    (sym is ∙ on) in rw h.long at inside

-- without functions
said_none : (flag : Ground → Bool) (x : Ground) (n i : ℕ) → flag x ≡ false → said_at flag (replicate n x) i ≡ false
said_none flag x zero i off = refl
said_none flag x (suc n) zero off = off
said_none flag x (suc n) (suc i) off = said_none flag x n i off

no_function : (context : Context) (ty : HeapType) → context.funcs ≡ [] → IsGroundedByFuncs context ty → ⊥
no_function context ty none (function, i, at, below) = let never : slice_get [] function ≡ Some i =
    subst (λ (l : List ℕ). slice_get l function ≡ Some i) none at in cc

none_noted : (grounds : FuncGrounds) (n : ℕ) (ty : HeapType) → grounds.marks.items ≡ replicate n (record { own = false; below = false })
    → grounds.kinds ≡ record {
      plain = record { arrays = false; funcs = false; structs = false };
      shared = record { arrays = false; funcs = false; structs = false };
    } → is_noted grounds ty ≡ false
none_noted grounds n (Abstract true b) marks kinds = ap (λ (k : NotedKinds). are_below (kinds_of k true) b) kinds
none_noted grounds n (Abstract false b) marks kinds = ap (λ (k : NotedKinds). are_below (kinds_of k false) b) kinds
none_noted grounds n (Concrete j) marks kinds = ap (λ (l : List Ground). below_at l j) marks ∙ said_none (λ (ground : Ground). ground.below)
    (record { own = false; below = false }) n j refl
none_noted grounds n (Exact j) marks kinds = ap (λ (l : List Ground). own_at l j) marks ∙ said_none (λ (ground : Ground). ground.own)
    (record { own = false; below = false }) n j refl

pub none_grounded : (grounds : FuncGrounds) (n : ℕ) → grounds.marks.items ≡ replicate n (record { own = false; below = false })
    → grounds.kinds ≡ record {
      plain = record { arrays = false; funcs = false; structs = false };
      shared = record { arrays = false; funcs = false; structs = false };
    }
    → length grounds.marks.items ≡ n → (context : Context) → context.funcs ≡ [] → length context.types ≡ n → AreFuncGrounds context grounds
none_grounded grounds n marks kinds long context none count = record {
  long = long ∙ sym count;
  each = λ ty inside. (
    λ e. absurd (let no : is_noted grounds ty ≡ false = none_noted grounds n ty marks kinds in cc),
    λ by. absurd (no_function context ty none by),
  );
}

-- a supertype of a type that functions ground is grounded by them
pub func_marks_closed : (context : Context) (grounds : FuncGrounds) → IsOrderly context.types → AreFuncGrounds context grounds
    → AreClosed context.types grounds.marks.items
func_marks_closed context grounds orderly h = record {
  up = λ i j below marks.
      let entry : i < length grounds.marks.items = said_inside (λ (ground : Ground). ground.below) grounds.marks.items i marks in
      let long : length grounds.marks.items ≡ length context.types = h.long in
      let inside : i < length context.types = omega (arith, entry, long) in
      let (function, k, at, on) = (h.each (Concrete i) inside).0 marks in
      (h.each (Concrete j) (above_stands context.types orderly (Concrete i) (Concrete j) below inside)).1 (
        function,
        k,
        at,
        IsValBelow-trans context.types (function_reference context function k) (reference_to (Concrete i)) (reference_to (Concrete j)) on
            (record { heap = below; nullable = λ no. no }),
      );
}

-- marks that agree on `below` are closed as well
closed_same : (types : List SubType) (old new : List Ground) → ((j : ℕ) → below_at new j ≡ below_at old j) → AreClosed types old
    → AreClosed types new
closed_same types old new same h = record { up = λ i j below marks. same j ∙ h.up i j below (sym (same i) ∙ marks) }

or_split : (a b : Bool) → IsTrue (a || b) → IsTrue a ⊎ IsTrue b
or_split true b on = inl refl
or_split false b on = inr on

or_left : (a b : Bool) → IsTrue a → IsTrue (a || b)
or_left true b on = refl
or_left false b on = cc

or_right : (a b : Bool) → IsTrue b → IsTrue (a || b)
or_right true b on = refl
or_right false b on = on

-- a type is noted in the marks
module _ (types : List SubType) (index : ℕ) (exact : Bool) (old new : List Ground) (mark d : Ground) (inside : index < length old)
    (read : mark ≡ get_or old index d) where
  own_here : own_at old index ≡ mark.own
  own_here = said_is (λ (ground : Ground). ground.own) old index mark d inside read

  below_set : (j : ℕ) → below_at (set old index (record { own = mark.own || exact; below = mark.below })) j ≡ below_at old j
  below_set j = said_same (λ (ground : Ground). ground.below) old index (record { own = mark.own || exact; below = mark.below }) j inside
      (sym (said_is (λ (ground : Ground). ground.below) old index mark d inside read))

  own_set : (j : ℕ) → IsTrue (own_at (set old index (record { own = mark.own || exact; below = mark.below })) j) ↔
      (IsTrue (own_at old j) ⊎ (IsTrue exact × (index ≡ j)))
  own_set j = elim (cases_eq index j) [
    | inl same ↦
        let here : own_at (set old index (record { own = mark.own || exact; below = mark.below })) j ≡ (mark.own || exact) =
        subst (λ (m : ℕ). own_at (set old index (record { own = mark.own || exact; below = mark.below })) m ≡ (mark.own || exact)) same
        (said_set (λ (ground : Ground). ground.own) old index (record { own = mark.own || exact; below = mark.below }) inside) in
        let before : own_at old j ≡ mark.own = subst (λ (m : ℕ). own_at old m ≡ mark.own) same own_here in (
          λ on. elim (or_split mark.own exact (sym here ∙ on)) [ inl own ↦ inl (before ∙ own) | inr is ↦ inr (is, same) ],
          λ either. here ∙ elim either [
            | inl own ↦ or_left mark.own exact (sym before ∙ own)
            | inr (is, equal) ↦ or_right mark.own exact is
          ],
        )
    | inr other ↦
        let beside : own_at (set old index (record { own = mark.own || exact; below = mark.below })) j ≡ own_at old j =
        said_beside (λ (ground : Ground). ground.own) old index (record { own = mark.own || exact; below = mark.below }) j other in
        (λ on. inl (sym beside ∙ on), λ either. elim either [ inl own ↦ beside ∙ own | inr (is, equal) ↦ absurd (other equal) ])
  ]

  pub type_noted : (AreClosed types (set old index (record { own = mark.own || exact; below = mark.below }))
      → AreMarked types (Some index) (set old index (record { own = mark.own || exact; below = mark.below })) new) → AreClosed types old
      → IsTypeNoted types index exact old new
  type_noted marks closed =
      let marked = marks (closed_same types old (set old index (record { own = mark.own || exact; below = mark.below })) below_set closed)
      in record {
        long = marked.long ∙ length-set old index (record { own = mark.own || exact; below = mark.below });
        own = λ j. let (to, from) = own_set j in (λ on. to (sym (marked.own j) ∙ on), λ either. marked.own j ∙ from either);
        below = λ j.
            let (to, from) = marked.below j in (
              λ on. elim (to on) [ inl before ↦ inl (sym (below_set j) ∙ before) | inr above ↦ inr above ],
              λ either. from (elim either [ inl before ↦ inl (below_set j ∙ before) | inr above ↦ inr above ]),
            );
      }

-- the record after a type is noted, for each heap type
module _ (types : List SubType) (orderly : IsOrderly types) (index : ℕ) (exact : Bool) (t : SubType)
    (stands : slice_get types index ≡ Some t) (old new : FuncGrounds)
    (marks : IsTypeNoted types index exact old.marks.items new.marks.items)
    (kinds : new.kinds ≡ noted_with (shared t) t.composite_type.inner old.kinds) where
  under_more : (s : Bool) (b : AbstractHeapType) → IsTrue (is_noted new (Abstract s b)) ↔ (IsTrue (is_noted old (Abstract s b))
      ⊎ IsBelow types (if exact then Exact index else Concrete index) (Abstract s b))
  under_more s b =
      let (to, from) = kinds_noted (shared t) s t.composite_type.inner old.kinds b in
      let is : is_noted new (Abstract s b) ≡ are_below (kinds_of (noted_with (shared t) t.composite_type.inner old.kinds) s) b =
      ap (λ (k : NotedKinds). are_below (kinds_of k s) b) kinds in (
        λ on. elim (to (sym is ∙ on)) [
          | inl before ↦ inl before
          | inr (shares, below) ↦ inr
              (created_under types exact index s b (t, stands, shares, below))
        ],
        λ either. is ∙ from (elim either [
          | inl before ↦ inl before
          | inr below ↦
              let (u, at, shares, under) = under_created types exact index s b orderly below in
              let one : u ≡ t = same_Some u t (sym at ∙ stands) in
              inr (sym (ap shared one) ∙ shares, subst (λ (v : SubType). IsTrue (is_abstract_below (kind v) b)) one under)
        ]),
      )

  above_more : (j : ℕ) → IsTrue (is_noted new (Concrete j)) ↔ (IsTrue (is_noted old (Concrete j))
      ⊎ IsBelow types (if exact then Exact index else Concrete index) (Concrete j))
  above_more j =
      let (to, from) = marks.below j in (
        λ on. elim (to on) [
          | inl before ↦ inl before
          | inr (s, is, below) ↦
              let one : s ≡ index = same_Some s index (sym is) in
              inr (created_below types exact index j (subst (λ (m : ℕ). IsBelow types (Concrete m) (Concrete j)) one below))
        ],
        λ either. from (elim either [
          | inl before ↦ inl before
          | inr below ↦ inr
              (index, refl, below_created types exact index j orderly below)
        ]),
      )

  exact_below : (on : Bool) (j : ℕ) → (IsTrue on × (index ≡ j)) ↔ IsBelow types (if on then Exact index else Concrete index) (Exact j)
  exact_below true j = (
    λ (is, same). below_from_by_cases types (Exact index) (Exact j) same,
    λ below. (refl, by_cases_from_below types orderly (Exact index) (Exact j) below),
  )
  exact_below false j = (λ (is, same). cc, λ below. absurd (concrete_not_below_exact types index j below))

  exact_more : (j : ℕ) → IsTrue (is_noted new (Exact j)) ↔ (IsTrue (is_noted old (Exact j))
      ⊎ IsBelow types (if exact then Exact index else Concrete index) (Exact j))
  exact_more j =
      let (to, from) = marks.own j in
      let (here, back) = exact_below exact j in (
        λ on. elim (to on) [ inl before ↦ inl before | inr own ↦ inr (here own) ],
        λ either. from (elim either [ inl before ↦ inl before | inr below ↦ inr (back below) ]),
      )

  noted_more : (ty : HeapType)
      → IsTrue (is_noted new ty) ↔ (IsTrue (is_noted old ty) ⊎ IsBelow types (if exact then Exact index else Concrete index) ty)
  noted_more (Abstract s b) = under_more s b
  noted_more (Concrete j) = above_more j
  noted_more (Exact j) = exact_more j

  -- therefore the record is correct for a context with this function
  pub func_noted : (before after : Context) → before.types ≡ types → IsFunctionAdded before after index exact → AreFuncGrounds before old
      → AreFuncGrounds after new
  func_noted before after over added h = record {
    long = marks.long ∙ h.long ∙ ap length (sym added.types);
    each = λ ty inside.
        let (to, from) = noted_more ty in
        let (known, back) = h.each ty (subst (λ xs. IsInRange xs ty) added.types inside) in (
          λ on. more_by before after index exact added ty
              (elim (to on) [
                | inl old_on ↦ inl (known old_on)
                | inr below ↦ inr
                    (subst (λ xs. IsBelow xs (if exact then Exact index else Concrete index) ty) (sym over) below)
              ]),
          λ by. from (elim (by_more before after index exact added ty by) [
            | inl old_by ↦ inl (back old_by)
            | inr below ↦ inr (subst (λ xs. IsBelow xs (if exact then Exact index else Concrete index) ty) over below)
          ]),
        );
  }

-- a function whose type does not exist grounds no type that exists
ref_stands : (types : List SubType) (exact : Bool) (index : ℕ) → IsInRange types (if exact then Exact index else Concrete index)
    → index < length types
ref_stands types true index inside = inside
ref_stands types false index inside = inside

pub func_left_out : (before after : Context) (index : ℕ) (exact : Bool) (grounds : FuncGrounds) → (index < length before.types → ⊥)
    → IsFunctionAdded before after index exact → AreFuncGrounds before grounds → AreFuncGrounds after grounds
func_left_out before after index exact grounds outside added h = record {
  long = h.long ∙ ap length (sym added.types);
  each = λ ty inside.
      let old_inside = subst (λ xs. IsInRange xs ty) added.types inside in
      let (known, back) = h.each ty old_inside in (
        λ on. more_by before after index exact added ty (inl (known on)),
        λ by. elim (by_more before after index exact added ty by) [
          | inl old_by ↦ back old_by
          | inr below ↦ absurd (outside
              (ref_stands before.types exact index (below_stands before.types (if exact then Exact index else Concrete index) ty below
              old_inside)))
        ],
      );
}
