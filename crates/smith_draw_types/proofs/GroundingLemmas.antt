-- The test of groundedness decides it, over orderly types.
use Rattle.smith_draw_types.proofs.Common.{[], arith, Bool, Concrete, cond, Context, drop, Exact, false, function_reference, HeapType, inl}
use Rattle.smith_draw_types.proofs.Common.{inr, IsBelow, IsGrounded, IsGroundedByFuncs, IsGroundedByStructs, IsInRange, IsOrderly, IsTrue}
use Rattle.smith_draw_types.proofs.Common.{IsValBelow, IsValInRange, length, List, lt-ltb, ltb-true, nat_le, nat_lt, reference_to, refl}
use Rattle.smith_draw_types.proofs.Common.{same_from_decides, slice_get, slice_get_within, Some, subst, SubType, suc, sym, true, ValType}
use Rattle.smith_draw_types.proofs.Common.{zero, ℕ, ◌&&◌, ◌+◌, ◌<◌, ◌||◌, ◌∙◌, ◌∷◌, ◌≡◌, ◌≤◌, ◌⊎◌}
use Rattle.std.specs.Prelude.{◌↔◌}
use Rattle.std.specs.Bool.{Decides}
use Rattle.std.proofs.lemmas.Bool.{le-ltb}
use Rattle.smith_types.specs.Expressions.{created}
use Rattle.smith_types.specs.Grounds.{is_ground}
use Rattle.smith_types.proofs.GroundedLemmas.{grounded_at, grounded_is}
use Rattle.smith_draw_types.specs.Below.{is_val_below}
use Rattle.smith_draw_types.specs.Grounding.{any_from, type_grounds, function_grounds, is_grounded}
use Rattle.smith_draw_types.proofs.GroundedLoop.{left_from, none_left}
use Rattle.smith_draw_types.proofs.BelowLemmas.{val_decides, heap_decides}
use Rattle.smith_draw_types.proofs.StandingLemmas.{val_stands, val_above_stands}

both : (a b : Bool) → (a && b) ≡ true → (a ≡ true) × (b ≡ true)
both true b e = (refl, e)
both false b e = cc

both_are : (a b : Bool) → a ≡ true → b ≡ true → (a && b) ≡ true
both_are true b on e = e
both_are false b on e = cc

either : (a b : Bool) → (a || b) ≡ true → (a ≡ true) ⊎ (b ≡ true)
either true b e = inl refl
either false b e = inr e

left_is : (a b : Bool) → a ≡ true → (a || b) ≡ true
left_is true b e = refl
left_is false b e = cc

right_is : (a b : Bool) → b ≡ true → (a || b) ≡ true
right_is true b e = refl
right_is false b e = e

-- an item of a list that passes a test together with its index
record Held {A : Type 0} (test : ℕ → A → Bool) (start : ℕ) (xs : List A) : Type 0 where
  place : ℕ
  index : ℕ
  item : A
  at : slice_get xs place ≡ Some item
  same : index ≡ start + place
  on : test index item ≡ true

any_held : {A : Type 0} (test : ℕ → A → Bool) (start : ℕ) (xs : List A) → any_from test start xs ≡ true → Held test start xs
any_held test start [] e = cc
any_held test start (x ∷ xs) e =
    elim (either (test start x) (any_from test (start + 1) xs) e) [
      | inl own ↦ record { place = 0; index = start; item = x; at = refl; same = omega arith; on = own }
      | inr more ↦ let held = any_held test (start + 1) xs more in let same = held.same in
          record { place = suc held.place; index = held.index; item = held.item; at = held.at; same = omega arith; on = held.on }
    ]

held_any : {A : Type 0} (test : ℕ → A → Bool) (start place index : ℕ) (xs : List A) (x : A) → slice_get xs place ≡ Some x
    → index ≡ start + place → test index x ≡ true → any_from test start xs ≡ true
held_any test start place index [] x at same on = cc
held_any {A = A} test start zero index (y ∷ xs) x at same on =
    let one : y ≡ x = cc in
    let first : index ≡ start = omega arith in
    left_is (test start y) (any_from test (start + 1) xs) (subst (λ (z : A). test start z ≡ true) (sym one)
    (subst (λ (n : ℕ). test n x ≡ true) first on))
held_any test start (suc place) index (y ∷ xs) x at same on =
    right_is (test start y) (any_from test (start + 1) xs) (held_any test (start + 1) place index xs x at (omega arith) on)

-- an item that passes a test together with its index, counted from 0
record ReferenceScope {A : Type 0} (test : ℕ → A → Bool) (xs : List A) : Type 0 where
  index : ℕ
  item : A
  at : slice_get xs index ≡ Some item
  on : test index item ≡ true

any_stands : {A : Type 0} (test : ℕ → A → Bool) (xs : List A) → any_from test 0 xs ≡ true → ReferenceScope test xs
any_stands {A = A} test xs e =
    let held = any_held test 0 xs e in
    let same = held.same in
    let place : held.place ≡ held.index = omega arith in
    record { index = held.index; item = held.item; at = subst (λ (n : ℕ). slice_get xs n ≡ Some held.item) place held.at; on = held.on }

stands_any : {A : Type 0} (test : ℕ → A → Bool) (xs : List A) (index : ℕ) (x : A) → slice_get xs index ≡ Some x → test index x ≡ true
    → any_from test 0 xs ≡ true
stands_any test xs index x at on = held_any test 0 index index xs x at (omega arith) on

-- the heap types that struct types ground
pub structs_decide : (context : Context) (ty : HeapType) → IsOrderly context.types
    → Decides (any_from (type_grounds context ty) 0 context.types) (IsGroundedByStructs context.types context.features.custom_descriptors
    ty)
structs_decide context ty orderly =
    let reference = λ (index : ℕ). cond context.features.custom_descriptors (Exact index) (Concrete index) in
    let test = type_grounds context ty in (
      λ e.
          let stands = any_stands test context.types e in
          let (ground, below) = both (is_ground stands.item) (is_val_below context.types (created context stands.index) (reference_to ty))
          stands.on in (
            stands.index,
            grounded_at context.types context.features.custom_descriptors ty stands.index stands.item stands.at ground
                ((heap_decides context.types orderly (reference stands.index) ty).0 below),
          ),
      λ (index, by).
          let (t, at, ground) = grounded_is context.types context.features.custom_descriptors ty index by in
          stands_any test context.types index t at
          (both_are (is_ground t) (is_val_below context.types (created context index) (reference_to ty)) ground
          ((heap_decides context.types orderly (reference index) ty).1 by.below)),
    )

-- a reference to a function refers to an existing type exactly if its type exists
pub reference_within : (types : List SubType) (index : ℕ) (defined descriptors : Bool)
    → IsValInRange types (cond defined (reference_to (cond descriptors (Exact index) (Concrete index))) (reference_to (Concrete index)))
    → index < length types
reference_within types index true true h = h
reference_within types index true false h = h
reference_within types index false descriptors h = h

pub within_reference : (types : List SubType) (index : ℕ) (defined descriptors : Bool) → index < length types
    → IsValInRange types (cond defined (reference_to (cond descriptors (Exact index) (Concrete index))) (reference_to (Concrete index)))
within_reference types index true true h = h
within_reference types index true false h = h
within_reference types index false descriptors h = h

-- a function with an existing type grounds a heap type
record Names (context : Context) (ty : HeapType) : Type 0 where
  function : ℕ
  index : ℕ
  at : slice_get context.funcs function ≡ Some index
  stands : index < length context.types
  below : IsValBelow context.types (function_reference context function index) (reference_to ty)

names_of : (context : Context) (ty : HeapType) → IsOrderly context.types → any_from (function_grounds context ty) 0 context.funcs ≡ true
    → Names context ty
names_of context ty orderly e =
    let stands = any_stands (function_grounds context ty) context.funcs e in
    let (inside, below) = both (nat_lt stands.item (length context.types))
    (is_val_below context.types (function_reference context stands.index stands.item) (reference_to ty)) stands.on in
    record {
      function = stands.index;
      index = stands.item;
      at = stands.at;
      stands = ltb-true stands.item (length context.types) inside;
      below = (val_decides context.types orderly (function_reference context stands.index stands.item) (reference_to ty)).0 below;
    }

funcs_decide : (context : Context) (ty : HeapType) → IsOrderly context.types → IsInRange context.types ty
    → Decides (any_from (function_grounds context ty) 0 context.funcs) (IsGroundedByFuncs context ty)
funcs_decide context ty orderly inside = (
  λ e. let names = names_of context ty orderly e in (names.function, names.index, names.at, names.below),
  λ (function, index, at, below).
      let reference = function_reference context function index in
      let within = reference_within context.types index (nat_le context.imported_funcs function) context.features.custom_descriptors
      (val_stands context.types reference (reference_to ty) below inside) in
      stands_any (function_grounds context ty) context.funcs function index at
      (both_are (nat_lt index (length context.types)) (is_val_below context.types reference (reference_to ty))
      (lt-ltb index (length context.types) within) ((val_decides context.types orderly reference (reference_to ty)).1 below)),
)

-- no function grounds a heap type that fails the test of functions
pub no_functions : (context : Context) (ty : HeapType) (r : Bool) → IsOrderly context.types → IsInRange context.types ty
    → r ≡ any_from (function_grounds context ty) 0 context.funcs → r ≡ false → IsGroundedByFuncs context ty → ⊥
no_functions context ty r orderly inside is off functions = let on = (funcs_decide context ty orderly inside).1 functions in cc

-- the test accepts only grounded heap types
pub grounded_if : (context : Context) (ty : HeapType) → IsOrderly context.types → IsTrue (is_grounded context ty) → IsGrounded context ty
unfolding is_grounded
grounded_if context ty orderly e =
    elim (either (any_from (type_grounds context ty) 0 context.types) (any_from (function_grounds context ty) 0 context.funcs) e) [
      | inl structs ↦ inl ((structs_decide context ty orderly).0 structs)
      | inr funcs ↦ let names = names_of context ty orderly funcs in inr (names.function, names.index, names.at, names.below)
    ]

-- the test decides groundedness of existing heap types
pub grounded_decides : (context : Context) (ty : HeapType) → IsOrderly context.types → IsInRange context.types ty
    → Decides (is_grounded context ty) (IsGrounded context ty)
unfolding is_grounded
grounded_decides context ty orderly inside =
    let by_types = any_from (type_grounds context ty) 0 context.types in
    let by_funcs = any_from (function_grounds context ty) 0 context.funcs in (
      grounded_if context ty orderly,
      λ grounded. elim grounded [
        | inl structs ↦ left_is by_types by_funcs ((structs_decide context ty orderly).1 structs)
        | inr funcs ↦ right_is by_types by_funcs ((funcs_decide context ty orderly inside).1 funcs)
      ],
    )

-- a grounded heap type exists
grounded_stands : (context : Context) (ty : HeapType) → IsOrderly context.types → IsTrue (is_grounded context ty)
    → IsInRange context.types ty
unfolding is_grounded
grounded_stands context ty orderly e =
    elim (either (any_from (type_grounds context ty) 0 context.types) (any_from (function_grounds context ty) 0 context.funcs) e) [
      | inl structs ↦
          let stands = any_stands (type_grounds context ty) context.types structs in
          let (ground, below) = both (is_ground stands.item) (is_val_below context.types (created context stands.index) (reference_to ty))
          stands.on in
          let inside = slice_get_within context.types stands.index stands.item stands.at in
          let reference = created context stands.index in
          val_above_stands context.types orderly reference (reference_to ty)
          ((val_decides context.types orderly reference (reference_to ty)).0 below)
          (within_reference context.types stands.index true context.features.custom_descriptors inside)
      | inr funcs ↦
          let names = names_of context ty orderly funcs in
          let reference = function_reference context names.function names.index in
          val_above_stands context.types orderly reference (reference_to ty) names.below
          (within_reference context.types names.index (nat_le context.imported_funcs names.function) context.features.custom_descriptors
          names.stands)
    ]

false_where : (b : Bool) → (b ≡ true → ⊥) → false ≡ b
false_where true never = absurd (never refl)
false_where false never = refl

-- no heap type that does not exist is grounded
pub ungrounded : (context : Context) (ty : HeapType) → IsOrderly context.types → (IsInRange context.types ty → ⊥)
    → false ≡ is_grounded context ty
ungrounded context ty orderly outside = false_where (is_grounded context ty) (λ e. outside (grounded_stands context ty orderly e))

-- the decision of the code: first by struct types, then by functions
pub by_structs : (context : Context) (ty : HeapType) → IsOrderly context.types
    → IsGroundedByStructs context.types context.features.custom_descriptors ty → true ≡ is_grounded context ty
unfolding is_grounded
by_structs context ty orderly structs =
    sym (left_is (any_from (type_grounds context ty) 0 context.types) (any_from (function_grounds context ty) 0 context.funcs)
    ((structs_decide context ty orderly).1 structs))

or_right : (a b r : Bool) → (a ≡ true → ⊥) → r ≡ b → r ≡ (a || b)
or_right true b r never e = absurd (never refl)
or_right false b r never e = e

pub by_functions : (context : Context) (ty : HeapType) (r : Bool) → IsOrderly context.types
    → (IsGroundedByStructs context.types context.features.custom_descriptors ty → ⊥)
    → r ≡ any_from (function_grounds context ty) 0 context.funcs → r ≡ is_grounded context ty
unfolding is_grounded
by_functions context ty r orderly none e =
    or_right (any_from (type_grounds context ty) 0 context.types) (any_from (function_grounds context ty) 0 context.funcs) r
    (λ on. none ((structs_decide context ty orderly).0 on)) e

-- the record of functions decides the same
pub by_kept : (context : Context) (ty : HeapType) (r : Bool) → IsOrderly context.types → IsInRange context.types ty
    → IsTrue r ↔ IsGroundedByFuncs context ty → r ≡ any_from (function_grounds context ty) 0 context.funcs
by_kept context ty r orderly inside decides = same_from_decides r (any_from (function_grounds context ty) 0 context.funcs) decides
    (funcs_decide context ty orderly inside)

-- turns of the loop over functions
module _ {A : Type 0} (test : ℕ → A → Bool) (xs : List A) (n : ℕ) (whole : Bool) (so_far : any_from test n (drop n xs) ≡ whole) where
  pub any_here : (x : A) → slice_get xs n ≡ Some x → test n x ≡ true → true ≡ whole
  any_here x at on =
      let here : any_from test n (drop n xs) ≡ true =
      rw (left_from xs n x at) (left_is (test n x) (any_from test (n + 1) (drop (n + 1) xs)) on) in
      sym here ∙ so_far

  pub any_later : (x : A) → slice_get xs n ≡ Some x → test n x ≡ false → any_from test (n + 1) (drop (n + 1) xs) ≡ whole
  any_later x at off =
      let rest = any_from test (n + 1) (drop (n + 1) xs) in
      let here : any_from test n (drop n xs) ≡ rest = rw (left_from xs n x at) (or_off (test n x) rest off) in
      sym here ∙ so_far
    where
      or_off : (a b : Bool) → a ≡ false → (a || b) ≡ b
      or_off true b e = cc
      or_off false b e = refl

  pub any_never : length xs ≤ n → false ≡ whole
  any_never le =
      let here : any_from test n (drop n xs) ≡ false = rw (none_left xs n le) refl in
      sym here ∙ so_far

-- a function without an existing type grounds nothing, and any other grounds the supertypes of its
-- reference
pub outside_grounds : (context : Context) (ty : HeapType) (function index : ℕ) → length context.types ≤ index
    → false ≡ function_grounds context ty function index
outside_grounds context ty function index le = rw (le-ltb index (length context.types) le) refl

pub inside_grounds : (context : Context) (ty reference : HeapType) (function index : ℕ) (r : Bool) → IsOrderly context.types
    → index < length context.types → reference_to reference ≡ function_reference context function index
    → IsTrue r ↔ IsBelow context.types reference ty → r ≡ function_grounds context ty function index
inside_grounds context ty reference function index r orderly inside same decides =
    let tested : r ≡ is_val_below context.types (reference_to reference) (reference_to ty) =
    same_from_decides r _ decides (heap_decides context.types orderly reference ty) in
    rw (lt-ltb index (length context.types) inside) (subst (λ (v : ValType). r ≡ is_val_below context.types v (reference_to ty)) same
    tested)
