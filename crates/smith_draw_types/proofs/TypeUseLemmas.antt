-- The types counted for tags and functions are suitable for them.
use Rattle.smith_draw_types.proofs.Common.{[], All, All-from_recursion, All-weaker, ap, append_assoc, arith, Array, Bool}
use Rattle.smith_draw_types.proofs.Common.{CompositeInnerType, cond, false, Func, length, length-append, List, not, refl, slice_get}
use Rattle.smith_draw_types.proofs.Common.{slice_get-grown, Struct, SubType, suc, true, ValType, ℕ, ◌&&◌, ◌++◌, ◌+◌, ◌||◌, ◌∙◌, ◌∷◌, ◌≡◌}
use Rattle.std.proofs.Common.{lt-ltb, ltb}
use Rattle.std.specs.Prelude.{Some, ◌==◌}
use Rattle.std.specs.List.{AllByRecursion as ByRecursion, list_any}
use Rattle.std.proofs.lemmas.Bool.{eqb-true}
use Rattle.smith_types.specs.Syntax.value_type.AbstractHeapType.TheVariants as heap
use Rattle.smith_types.specs.KindCounts.{is_inner_of_kind, is_function, is_in, indices_from, indices_in}
use Rattle.smith_types.specs.declared.kind_counts.TypeSet.TheVariants.{OfKind, Functions, WithoutResults}
use Rattle.smith_types.proofs.ListLemmas.{slice_get-last}
use Rattle.smith_draw_types.specs.TypeUses.{is_tag_type, is_unshared_function, places_from, may_be_used, types_for, IsUsable}
use Rattle.smith_draw_types.specs.declared.type_use.TypeUse.{TypeUse}
use Rattle.smith_draw_types.specs.declared.type_use.TypeUse.TheVariants.{Tag, ImportedFunc, DefinedFunc}

-- an item that passes a test is at this position of a list
pub record IsPassing {A : Type 0} (test : A → Bool) (xs : List A) (place : ℕ) : Type 0 where
  pub item : A
  pub stands : slice_get xs place ≡ Some item
  pub passes : test item ≡ true

places_turn : {A : Type 0} (test : A → Bool) (xs : List A) (n : ℕ) (b : Bool) (places : List ℕ) → (b ≡ true → IsPassing test xs n)
    → ByRecursion (IsPassing test xs) places → ByRecursion (IsPassing test xs) (cond b (n ∷ places) places)
places_turn test xs n true places here rest = (here refl, rest)
places_turn test xs n false places here rest = rest

places_after : {A : Type 0} (test : A → Bool) (front xs : List A) → ByRecursion (IsPassing test (front ++ xs))
    (places_from test (length front) xs)
places_after test front [] = tt
places_after test front (x ∷ xs) =
    let regrouped : (front ++ x ∷ []) ++ xs ≡ front ++ x ∷ xs = append_assoc front (x ∷ []) xs in
    let longer : length (front ++ x ∷ []) ≡ suc (length front) = simp length-append (omega arith) in
    let later = places_after test (front ++ x ∷ []) xs in
    places_turn test (front ++ x ∷ xs) (length front) (test x) (places_from test (suc (length front)) xs)
    (λ on. record {
      item = x;
      stands = rw (← regrouped) (slice_get-grown (front ++ x ∷ []) xs (length front) x (slice_get-last front x));
      passes = on;
    })
    (rw (← longer, ← regrouped) later)

-- each position at which a test holds has an item that passes it
pub places_pass : {A : Type 0} (test : A → Bool) (xs : List A) → All (IsPassing test xs) (places_from test 0 xs)
places_pass test xs = All-from_recursion (IsPassing test xs) (places_from test 0 xs) (places_after test [] xs)

no_results : (results : List ValType) → (length results == 0) ≡ true → results ≡ []
no_results [] none = refl
no_results (r ∷ results) none = let never = eqb-true (length (r ∷ results)) 0 none in absurd (omega arith)

usable_by : (for_use : TypeUse) (types : List SubType) (n : ℕ) (t : SubType) (inner : CompositeInnerType) → slice_get types n ≡ Some t
    → t.composite_type.inner ≡ inner → may_be_used for_use t ≡ true → IsUsable for_use types n
unfolding is_tag_type is_unshared_function
usable_by Tag types n t (Func function) at is on = (function, (t, at, is), no_results function.results (rw is at on))
usable_by Tag types n t (Array array) at is on = absurd (cc (rw is at on))
usable_by Tag types n t (Struct structure) at is on = absurd (cc (rw is at on))
usable_by ImportedFunc types n t (Func function) at is on = (function, (t, at, is))
usable_by ImportedFunc types n t (Array array) at is on = absurd (cc (rw is at on))
usable_by ImportedFunc types n t (Struct structure) at is on = absurd (cc (rw is at on))
usable_by DefinedFunc types n t (Func function) at is on = (function, (t, at, is))
usable_by DefinedFunc types n t (Array array) at is on = absurd (cc (rw is at on))
usable_by DefinedFunc types n t (Struct structure) at is on = absurd (cc (rw is at on))

-- each type that may be used is suitable
pub types_usable : (for_use : TypeUse) (types : List SubType) → All (IsUsable for_use types) (types_for for_use types)
types_usable for_use types =
    All-weaker (IsPassing (may_be_used for_use) types) (IsUsable for_use types)
    (λ n h. usable_by for_use types n h.item h.item.composite_type.inner h.stands refl h.passes) (types_for for_use types)
    (places_pass (may_be_used for_use) types)

-- the types of a use, as the set that a type space counts
index_turn : (b c : Bool) (n : ℕ) (xs ys : List ℕ) → b ≡ c → xs ≡ ys → cond b (n ∷ xs) xs ≡ cond c (n ∷ ys) ys
index_turn b c n xs ys same rest = rw (same, rest) refl

indices_are_places : (f g : SubType → Bool) → ((t : SubType) → f t ≡ g t) → (n : ℕ) (types : List SubType) → indices_from f n types
    ≡ places_from g n types
indices_are_places f g same n [] = refl
indices_are_places f g same n (t ∷ types) =
    let next : n + 1 ≡ suc n = omega arith in
    index_turn (f t) (g t) n _ _ (same t) (ap (λ (m : ℕ). indices_from f m types) next ∙ indices_are_places f g same (suc n) types)

pub tag_indices : (types : List SubType) → indices_in types WithoutResults ≡ types_for Tag types
unfolding is_tag_type
tag_indices types = indices_are_places (is_in WithoutResults) (may_be_used Tag) (λ t. refl) 0 types

pub function_indices : (types : List SubType) → indices_in types Functions ≡ types_for ImportedFunc types
function_indices types = indices_are_places (is_in Functions) (may_be_used ImportedFunc) (λ t. refl) 0 types

unshared_by : (is_shared : Bool) (inner : CompositeInnerType) → is_inner_of_kind false heap.Func is_shared inner
    ≡ (is_function inner && not is_shared)
unshared_by true (Func f) = refl
unshared_by false (Func f) = refl
unshared_by true (Array a) = refl
unshared_by false (Array a) = refl
unshared_by true (Struct s) = refl
unshared_by false (Struct s) = refl

pub unshared_function_indices : (types : List SubType) → indices_in types (OfKind false heap.Func) ≡ types_for DefinedFunc types
unfolding is_unshared_function
unshared_function_indices types = indices_are_places (is_in (OfKind false heap.Func)) (may_be_used DefinedFunc)
    (λ t. unshared_by t.composite_type.shared t.composite_type.inner) 0 types

any_turn : (b : Bool) (n : ℕ) (places : List ℕ) (any : Bool) → ltb 0 (length places) ≡ any → ltb 0 (length (cond b (n ∷ places) places))
    ≡ (b || any)
any_turn true n places any e = lt-ltb 0 (length (n ∷ places)) (omega arith)
any_turn false n places any e = e

-- a test holds at some place exactly if it holds for some item
pub places_any : {A : Type 0} (test : A → Bool) (n : ℕ) (xs : List A) → ltb 0 (length (places_from test n xs)) ≡ list_any test xs
places_any test n [] = refl
places_any test n (x ∷ xs) = any_turn (test x) n (places_from test (suc n) xs) (list_any test xs) (places_any test (suc n) xs)
