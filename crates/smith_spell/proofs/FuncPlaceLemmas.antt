-- The places of types among those that functions may have.
use Rattle.smith_spell.proofs.Common.{[], All, ap, append-nil, arith, Bool, Config, drop, drop_of_length-le, false, func_types, get_or}
use Rattle.smith_spell.proofs.Common.{length, List, Listed, refl, same_Some, slice_get, slice_get_within, Some, SpellsFuncs, SubType, suc}
use Rattle.smith_spell.proofs.Common.{sym, take, true, zero, ℕ, ◌++◌, ◌+◌, ◌<◌, ◌∙◌, ◌∷◌, ◌≡◌, ◌≤◌}
use Rattle.std.proofs.Common.{cond}
use Rattle.std.specs.Prelude.{if◌then◌else◌}
use Rattle.std.proofs.lemmas.Option.{get_or_from_slice_get}
use Rattle.smith_types.specs.Entities.{IsFuncTypeIndex}
use Rattle.smith_draw_types.specs.TypeUses.{is_unshared_function, may_be_used, places_from}
use Rattle.smith_draw_types.specs.declared.type_use.TypeUse.TheVariants.{DefinedFunc}
use Rattle.smith_spell.specs.Written.{ArePlaces}

-- for each item, the number of items before it that pass a test, plus n
abbrev pub counts_from : {A : Type 0} → (A → Bool) → ℕ → List A → List ℕ
counts_from test n [] = []
counts_from test n (x ∷ xs) = n ∷ counts_from test (if test x then n + 1 else n) xs

counts_sized : {A : Type 0} (test : A → Bool) (n : ℕ) (xs : List A) → length (counts_from test n xs) ≡ length xs
counts_sized test n [] = refl
counts_sized test n (x ∷ xs) = ap suc (counts_sized test (if test x then n + 1 else n) xs)

count_turn : (b : Bool) (n m : ℕ) (rest : List ℕ) → cond b (n + 1) n + length rest ≡ n + length (cond b (m ∷ rest) rest)
count_turn true n m rest = omega arith
count_turn false n m rest = refl

counts_told : {A : Type 0} (test : A → Bool) (n m : ℕ) (xs : List A) (i d : ℕ) → i < length xs → get_or (counts_from test n xs) i d
    ≡ n + length (places_from test m (take i xs))
counts_told test n m [] i d inside = absurd (omega arith)
counts_told test n m (x ∷ xs) zero d inside = omega arith
counts_told test n m (x ∷ xs) (suc i) d inside =
    counts_told test (if test x then n + 1 else n) (suc m) xs i d (omega arith) ∙ count_turn (test x) n m
    (places_from test (suc m) (take i xs))

-- these counts are the places of the types
pub places_told : (types : List SubType) (places : List ℕ) → places ≡ counts_from (may_be_used DefinedFunc) 0 types → ArePlaces types places
places_told types places is = rw is (record {
  sized = counts_sized (may_be_used DefinedFunc) 0 types;
  told = λ i d inside. let told = counts_told (may_be_used DefinedFunc) 0 0 types i d inside in omega (arith, told);
})

pub places_all : (types : List SubType) (places : List ℕ) (i count : ℕ) → length types ≤ i → places ++ counts_from (may_be_used DefinedFunc)
    count (drop i types) ≡ counts_from (may_be_used DefinedFunc) 0 types → ArePlaces types places
places_all types places i count past so_far =
    places_told types places (sym (append-nil places) ∙ (rw (drop_of_length-le types past) at so_far))

found_turn : (b : Bool) (m n : ℕ) (places before : List ℕ) → slice_get places (length before) ≡ Some n
    → slice_get (cond b (m ∷ places) places) (length (cond b (m ∷ before) before)) ≡ Some n
found_turn true m n places before h = h
found_turn false m n places before h = h

place_found : {A : Type 0} (test : A → Bool) (m : ℕ) (xs : List A) (place : ℕ) (x : A) → slice_get xs place ≡ Some x → test x ≡ true
    → slice_get (places_from test m xs) (length (places_from test m (take place xs))) ≡ Some (m + place)
place_found test m [] place x at passes = cc at
place_found test m (y ∷ ys) zero x at passes =
    let same : y ≡ x = same_Some y x at in
    let on : test y ≡ true = ap test same ∙ passes in
    rw on (ap Some (omega arith))
place_found test m (y ∷ ys) (suc place) x at passes =
    let next : suc m + place ≡ m + suc place = omega arith in
    found_turn (test y) m (m + suc place) (places_from test (suc m) ys) (places_from test (suc m) (take place ys))
    (place_found test (suc m) ys place x at passes ∙ ap Some next)

-- the type of a function is at its place
pub func_place : (types : List SubType) (places : List ℕ) (func d : ℕ) → ArePlaces types places
    → All (λ (t : SubType). t.composite_type.shared ≡ false) types → IsFuncTypeIndex types func
    → slice_get (func_types types) (get_or places func d) ≡ Some func
unfolding is_unshared_function
func_place types places func d are unshared (function, (t, at, is)) =
    let inside = slice_get_within types func t at in
    let not_shared : t.composite_type.shared ≡ false = rw (get_or_from_slice_get types func t t at) at (unshared func t inside) in
    let found = place_found (may_be_used DefinedFunc) 0 types func t at (rw (is, not_shared) refl) in
    let same : 0 + func ≡ func = omega arith in
    rw (are.told func d inside) (found ∙ ap Some same)

-- if no type may be that of a function, there is no function
pub no_funcs : (config : Config) (types : List SubType) (funcs : List ℕ) → length (func_types types) ≡ 0
    → All (λ (t : SubType). t.composite_type.shared ≡ false) types → All (IsFuncTypeIndex types) funcs → SpellsFuncs config types funcs []
unfolding Listed
no_funcs config types [] none unshared valid = rw none refl
no_funcs config types (func ∷ funcs) none unshared valid =
    let places = counts_from (may_be_used DefinedFunc) 0 types in
    let stands = func_place types places func 0 (places_told types places refl) unshared (valid 0 func (omega arith)) in
    absurd (omega (arith, slice_get_within (func_types types) (get_or places func 0) func stands, none))

pub func_inside : (types : List SubType) (places : List ℕ) (func : ℕ) → ArePlaces types places → IsFuncTypeIndex types func
    → func < length places
func_inside types places func are (function, (t, at, is)) = omega (arith, slice_get_within types func t at, are.sized)
