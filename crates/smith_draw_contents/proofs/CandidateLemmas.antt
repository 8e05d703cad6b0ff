-- The items that may be exported, if much of the type size is left and if little is.
use Rattle.smith_draw_contents.proofs.Common.{[], All, All-nil, All-weaker, ap, arith, Bool, chosen_at, chosen_of, EntitySpaces, ExportKind}
use Rattle.smith_draw_contents.proofs.Common.{false, get_or, get_or_from_slice_get, if◌then◌else◌, IsPassing, IsTrue, length, List, lt-ltb}
use Rattle.smith_draw_contents.proofs.Common.{ltb-true, nat_lt, places_from, places_pass, refl, slice_get, slice_get-get_or}
use Rattle.smith_draw_contents.proofs.Common.{slice_get_within, subst, SubType, suc, sym, true, zero, ℕ, ◌+◌, ◌<◌, ◌^◌, ◌∙◌, ◌∷◌, ◌≡◌}
use Rattle.std.specs.Prelude.{Some}
use Rattle.std.specs.List.{AllByRecursion as ByRecursion}
use Rattle.std.proofs.lemmas.List.Elements.{All-from_recursion}
use Rattle.smith_types.specs.Entities.{IsFuncTypeIndex}
use Rattle.smith_types.specs.Sizes.{size_in}
use Rattle.smith_types.specs.Syntax.entity_type.EntityType.TheVariants as entity
use Rattle.smith_types.specs.Syntax.entity_type.ExportKind.TheVariants as kind
use Rattle.smith_draw_types.proofs.EnabledLemmas.{enabled_all}
use Rattle.smith_draw_contents.specs.Exporting.{is_func_below, candidates, candidate_rows, offered_kinds}
use Rattle.smith_draw_contents.specs.Exported.{HasSizeIn32Bits, IsFuncWithin, MayExport, IsCandidate}

-- a test that all items pass holds at all places
pub length_all : {A : Type 0} (test : A → Bool) (n : ℕ) (xs : List A) → All (λ x. test x ≡ true) xs → length (places_from test n xs)
    ≡ length xs
length_all test n [] all = refl
length_all test n (x ∷ xs) all =
    let on : test x ≡ true = all 0 x (omega arith) in
    rw (on, length_all test (suc n) xs (λ i d below. all (suc i) d (omega arith))) refl

pub at_all : {A : Type 0} (test : A → Bool) (n : ℕ) (xs : List A) (place : ℕ) → All (λ x. test x ≡ true) xs → place < length xs
    → get_or (places_from test n xs) place 0 ≡ n + place
at_all test n [] place all below = absurd (omega arith)
at_all test n (x ∷ xs) zero all below = let on : test x ≡ true = all 0 x (omega arith) in rw on (omega arith)
at_all test n (x ∷ xs) (suc place) all below =
    let on : test x ≡ true = all 0 x (omega arith) in
    let later = at_all test (suc n) xs place (λ i d under. all (suc i) d (omega arith)) (omega arith) in
    rw on (later ∙ omega arith)

-- a test that is the same for all items holds at all places or at none
pub length_alike : {A : Type 0} (b : Bool) (n : ℕ) (xs : List A) → length (places_from (λ x. b) n xs) ≡ (if b then length xs else 0)
length_alike true n xs = length_all (λ x. true) n xs (λ i d below. refl)
length_alike false n [] = refl
length_alike false n (x ∷ xs) = length_alike false (suc n) xs

pub at_alike : {A : Type 0} (b : Bool) (xs : List A) (place : ℕ) → place < length (places_from (λ x. b) 0 xs)
    → get_or (places_from (λ x. b) 0 xs) place 0 ≡ place
at_alike true xs place below = at_all (λ x. true) 0 xs place (λ i d under. refl) (rw (length_alike true 0 xs) at below) ∙ omega arith
at_alike false xs place below = absurd (omega (arith, length_alike false 0 xs))

-- the size of a function, plus 1, has 32 bits
pub func_sized : (types : List SubType) (func : ℕ) → All HasSizeIn32Bits types → IsFuncTypeIndex types func
    → size_in types (entity.Func func) + 1 < 2 ^ 32
func_sized types func all (function, (t, at, is)) =
    let one : HasSizeIn32Bits t = rw (get_or_from_slice_get types func t t at) at (all func t (slice_get_within types func t at)) in
    rw at (omega (arith, one))

-- each function may be exported if more is left than the greatest size of a function
pub all_below : (types : List SubType) (most left : ℕ) (funcs : List ℕ) → All (IsFuncWithin types most) funcs → most < left
    → All (λ func. is_func_below types left func ≡ true) funcs
all_below types most left funcs within much =
    All-weaker (IsFuncWithin types most) (λ func. is_func_below types left func ≡ true)
    (λ func h. lt-ltb (size_in types (entity.Func func) + 1) left (omega (arith, h))) funcs within

-- a kind chosen among those that are offered has a candidate
pub chosen_offered : (types : List SubType) (spaces : EntitySpaces) (left : ℕ) (bytes : List ℕ) (of_kind : ExportKind) (after : List ℕ)
    → 0 < length (offered_kinds types spaces left) → chosen_at kind.Memory (offered_kinds types spaces left) bytes ≡ (of_kind, after)
    → 0 < length (candidates types spaces left of_kind)
chosen_offered types spaces left bytes of_kind after some chosen =
    let P = λ (k : ExportKind). 0 < length (candidates types spaces left k) in
    let has = λ (k : ExportKind). ltb-true 0 (length (candidates types spaces left k)) in
    let rows : ByRecursion (λ (r : ExportKind × Bool). IsTrue r.1 → P r.0) (candidate_rows types spaces left) =
    (has kind.Func, (has kind.Table, (has kind.Memory, (has kind.Global, tt)))) in
    let each = enabled_all P (candidate_rows types spaces left) (All-from_recursion (λ (r : ExportKind × Bool). IsTrue r.1 → P r.0)
    (candidate_rows types spaces left) rows) in
    subst (λ (drawn : ExportKind × List ℕ). P drawn.0) chosen (chosen_of P kind.Memory (offered_kinds types spaces left) bytes some each)

-- a place of 32 bits, where the candidate at each place is that place
pub record IsOwnPlace (places : List ℕ) (place : ℕ) : Type 0 where
  pub few : place < 2 ^ 32
  pub same : place ≡ get_or places place 0

own_place : {A : Type 0} (b : Bool) (xs : List A) (place : ℕ) → length xs < 2 ^ 32 → place < length (places_from (λ x. b) 0 xs)
    → IsOwnPlace (places_from (λ x. b) 0 xs) place
own_place true xs place few below = record { few = omega (arith, length_alike true 0 xs); same = sym (at_alike true xs place below) }
own_place false xs place few below = absurd (omega (arith, length_alike false 0 xs))

-- each table, memory and global is a candidate if one of its kind is
pub other_place : (types : List SubType) (spaces : EntitySpaces) (left : ℕ) (of_kind : ExportKind) (place : ℕ) → MayExport types spaces
    → (of_kind ≡ kind.Func → ⊥) → place < length (candidates types spaces left of_kind) → IsOwnPlace (candidates types spaces left of_kind)
    place
other_place types spaces left kind.Func place may other below = absurd (other refl)
other_place types spaces left kind.Table place may other below = own_place (nat_lt 2 left) spaces.tables place may.few.tables below
other_place types spaces left kind.Memory place may other below = own_place (nat_lt 2 left) spaces.memories place may.few.memories below
other_place types spaces left kind.Global place may other below = own_place (nat_lt 2 left) spaces.globals place may.few.globals below
other_place types spaces left kind.Tag place may other below = absurd (omega arith)

-- the type of an existing function is a function type
func_valid_at : (types : List SubType) (spaces : EntitySpaces) (index func : ℕ) → MayExport types spaces → slice_get spaces.funcs index
    ≡ Some func → IsFuncTypeIndex types func
func_valid_at types spaces index func may at = rw (get_or_from_slice_get spaces.funcs index func func at) at
    (may.funcs index func (slice_get_within spaces.funcs index func at))

-- the size of an existing function, plus 1, has 32 bits
pub func_sized_at : (types : List SubType) (spaces : EntitySpaces) (index func : ℕ) → MayExport types spaces → slice_get spaces.funcs index
    ≡ Some func → size_in types (entity.Func func) + 1 < 2 ^ 32
func_sized_at types spaces index func may at = func_sized types func may.sized (func_valid_at types spaces index func may at)

each_place : {A : Type 0} (test : A → Bool) (xs : List A) (P : ℕ → Type 0) → ((n : ℕ) → IsPassing test xs n → P n)
    → All P (places_from test 0 xs)
each_place test xs P each = All-weaker (IsPassing test xs) P each (places_from test 0 xs) (places_pass test xs)

-- each candidate exists and has a size below the rest
pub candidates_fit : (types : List SubType) (spaces : EntitySpaces) (left : ℕ) (of_kind : ExportKind)
    → All (IsCandidate types spaces left of_kind) (candidates types spaces left of_kind)
candidates_fit types spaces left kind.Func =
    each_place (is_func_below types left) spaces.funcs (IsCandidate types spaces left kind.Func)
    (λ n h. record {
      stands = (entity.Func h.item, (h.item, h.stands, refl));
      fits = rw h.stands (ltb-true (size_in types (entity.Func h.item) + 1) left h.passes);
    })
candidates_fit types spaces left kind.Table =
    each_place (λ table. nat_lt 2 left) spaces.tables (IsCandidate types spaces left kind.Table)
    (λ n h. record { stands = (entity.Table h.item, (h.item, h.stands, refl)); fits = ltb-true 2 left h.passes })
candidates_fit types spaces left kind.Memory =
    each_place (λ memory. nat_lt 2 left) spaces.memories (IsCandidate types spaces left kind.Memory)
    (λ n h. record { stands = (entity.Memory h.item, (h.item, h.stands, refl)); fits = ltb-true 2 left h.passes })
candidates_fit types spaces left kind.Global =
    each_place (λ global. nat_lt 2 left) spaces.globals (IsCandidate types spaces left kind.Global)
    (λ n h. record { stands = (entity.Global h.item, (h.item, h.stands, refl)); fits = ltb-true 2 left h.passes })
candidates_fit types spaces left kind.Tag = All-nil (IsCandidate types spaces left kind.Tag)

-- the type of an existing function exists
pub func_typed_at : (types : List SubType) (spaces : EntitySpaces) (index func : ℕ) → MayExport types spaces → slice_get spaces.funcs index
    ≡ Some func → func < length types
func_typed_at types spaces index func may at = let (function, (t, is_at, is)) = func_valid_at types spaces index func may at in
    slice_get_within types func t is_at

-- a look-up inside a list finds an item
pub func_here : (funcs : List ℕ) (index func : ℕ) → index < length funcs → func ≡ get_or funcs index func
    → slice_get funcs index ≡ Some func
func_here funcs index func inside is = slice_get-get_or funcs index func inside ∙ ap Some (sym is)
