-- The grounded types of a kind, by what is recorded of them.
use Rattle.smith_draw_types.proofs.Common.{[], Abstract, AbstractHeapType, ap, append-nil, arith, Array, Bool, by_cases_from_below}
use Rattle.smith_draw_types.proofs.Common.{CompositeInnerType, Concrete, Config, Context, drop, false, filter, filter-append, flat_map-cons}
use Rattle.smith_draw_types.proofs.Common.{Func, function_reference, HeapType, if◌then◌else◌, indices_where, inl, inr, is_shared_as}
use Rattle.smith_draw_types.proofs.Common.{IsBelow, IsBelow-trans, IsGrounded, IsGroundedByFuncs, IsGroundedByStructs, IsOrderly}
use Rattle.smith_draw_types.proofs.Common.{IsValBelow, itself, kind, kind_of, length, length-map, List, map, reference_to, refl, rules}
use Rattle.smith_draw_types.proofs.Common.{shared, slice_get, Some, stands, Struct, subst, SubType, suc, sym, true, zero, ℕ, ◌&&◌, ◌++◌}
use Rattle.smith_draw_types.proofs.Common.{◌+◌, ◌<◌, ◌^◌, ◌↔◌, ◌∙◌, ◌∷◌, ◌≡◌, ◌≤◌, ◌⊎◌}
use Rattle.std.proofs.Common.{IsTrue}
use Rattle.std.proofs.lemmas.List.{length-append}
use Rattle.smith_types.specs.Syntax.value_type.AbstractHeapType.TheVariants as heap
use Rattle.smith_types.specs.Grounds.{DecidesGrounded, is_shared_at}
use Rattle.smith_types.proofs.GrowthLemmas.{IsValBelow-trans}
use Rattle.smith_types.proofs.PathLemmas.{below_kind}
use Rattle.smith_types.proofs.WalkLemmas.{alike_along}
use Rattle.smith_types.proofs.GroundedLemmas.{below_created}
use Rattle.smith_types.proofs.MarkedLemmas.{shared_read}
use Rattle.smith_draw_types.specs.FunctionFamilies.{is_kind_at}
use Rattle.smith_draw_types.specs.Grounding.{is_grounded}
use Rattle.smith_draw_types.specs.Offered.{abstract_subtypes, kinds_below, is_of_kind, is_kind, picked_from, of_kinds, gc_subtypes}
use Rattle.smith_draw_types.proofs.OfferedLemmas.{shared_as, of_kind}
use Rattle.smith_draw_types.proofs.FunctionListLemmas.{kind_read}
use Rattle.smith_draw_types.proofs.GroundingLemmas.{grounded_if, grounded_decides, by_structs}

pub both : (a b : Bool) → (a && b) ≡ true → (a ≡ true) × (b ≡ true)
both true b e = (refl, e)
both false b e = cc

pub both_are : (a b : Bool) → a ≡ true → b ≡ true → (a && b) ≡ true
both_are a b p q = rw (p, q) refl

never_both : (a b : Bool) → (a ≡ true → b ≡ false) → (a && b) ≡ false
never_both true b never = never refl
never_both false b never = refl

not_true : (b : Bool) → (b ≡ true → ⊥) → b ≡ false
not_true true never = absurd (never refl)
not_true false never = refl

-- the picked types that pass a further test
step : (g : HeapType → Bool) (start : ℕ) (rest : List HeapType) (more : List ℕ) (b c e : Bool) → g (Concrete start) ≡ c → (b && c) ≡ e
    → filter g rest ≡ map Concrete more → filter g (if b then Concrete start ∷ rest else rest) ≡ map Concrete
    (if e then start ∷ more else more)
step g start rest more true true true at is same = rw at (ap (λ (l : List HeapType). Concrete start ∷ l) same)
step g start rest more true true false at is same = cc
step g start rest more true false true at is same = cc
step g start rest more true false false at is same = rw at same
step g start rest more false c true at is same = cc
step g start rest more false c false at is same = same

picked_passing : (g : HeapType → Bool) (p : SubType → Bool) (test : ℕ → Bool) (start : ℕ) (types : List SubType)
    → ((k : ℕ) (t : SubType) → slice_get types k ≡ Some t → (p t && g (Concrete (start + k))) ≡ test (start + k))
    → filter g (picked_from p start types) ≡ map Concrete (indices_where test start (length types))
picked_passing g p test start [] each = refl
picked_passing g p test start (t ∷ types) each =
    let here : start + 0 ≡ start = omega arith in
    let first : (p t && g (Concrete start)) ≡ test start = subst (λ (n : ℕ). (p t && g (Concrete n)) ≡ test n) here (each 0 t refl) in
    step g start (picked_from p (start + 1) types) (indices_where test (start + 1) (length types)) (p t) (g (Concrete start)) (test start)
    refl first
    (picked_passing g p test (start + 1) types (λ k u at. let next : start + suc k ≡ start + 1 + k = omega arith in
    subst (λ (n : ℕ). (p u && g (Concrete n)) ≡ test n) next (each (suc k) u at)))

pub picks : (g : HeapType → Bool) (p : SubType → Bool) (test : ℕ → Bool) (types : List SubType)
    → ((k : ℕ) (t : SubType) → slice_get types k ≡ Some t → (p t && g (Concrete k)) ≡ test k) → filter g (picked_from p 0 types)
    ≡ map Concrete (indices_where test 0 (length types))
picks g p test types each = picked_passing g p test 0 types (λ k t at. let same : k ≡ 0 + k = omega arith in
    subst (λ (n : ℕ). (p t && g (Concrete n)) ≡ test n) same (each k t at))

none_where : (first count : ℕ) → indices_where (λ _. false) first count ≡ []
none_where first zero = refl
none_where first (suc count) = none_where (first + 1) count

-- the types of the first of some kinds, and of the others
first_kind : (types : List SubType) (s : Bool) (a : AbstractHeapType) (kinds : List AbstractHeapType) → of_kinds types s (a ∷ kinds)
    ≡ picked_from (is_kind s a) 0 types ++ of_kinds types s kinds
first_kind types s a kinds = flat_map-cons (λ kind. picked_from (is_kind s kind) 0 types) a kinds

pub one_kind_passing : (g : HeapType → Bool) (types : List SubType) (s : Bool) (a : AbstractHeapType) (passing : List HeapType)
    → filter g (picked_from (is_kind s a) 0 types) ≡ passing → filter g (of_kinds types s (a ∷ [])) ≡ passing
one_kind_passing g types s a passing same = ap (filter g) (first_kind types s a [] ∙ append-nil _) ∙ same

-- a type of a kind is below that kind
kind_is_above : (types : List SubType) (s : Bool) (a : AbstractHeapType) (j : ℕ) (t : SubType) → slice_get types j ≡ Some t
    → is_kind s a t ≡ true → IsBelow types (Concrete j) (Abstract s a)
kind_is_above types s a j t at on =
    let (same, of) = both (is_shared_as s t) (is_of_kind a t.composite_type.inner) on in
    subst (λ (b : Bool). IsBelow types (Concrete j) (Abstract b a)) (shared_as s t same)
    (subst (λ (k : AbstractHeapType). IsBelow types (Concrete j) (Abstract (shared t) k)) (of_kind a t.composite_type.inner of)
    (below_kind types j t at))

-- the supertypes of a grounded heap type are grounded
pub structs_above : (types : List SubType) (descriptors : Bool) (a b : HeapType) → IsBelow types a b
    → IsGroundedByStructs types descriptors a → IsGroundedByStructs types descriptors b
structs_above types descriptors a b below (i, by) =
    (i, record { fields = by.fields; struct = by.struct; defaults = by.defaults; below = IsBelow-trans types by.below below })

pub functions_above : (context : Context) (a b : HeapType) → IsBelow context.types a b → IsGroundedByFuncs context a
    → IsGroundedByFuncs context b
functions_above context a b below (function, index, at, by) = (
  function,
  index,
  at,
  IsValBelow-trans context.types (function_reference context function index) (reference_to a) (reference_to b) by
      (record { heap = below; nullable = λ is. is }),
)

grounded_above : (context : Context) (a b : HeapType) → IsBelow context.types a b → IsGrounded context a → IsGrounded context b
grounded_above context a b below (inl structs) = inl (structs_above context.types context.features.custom_descriptors a b below structs)
grounded_above context a b below (inr functions) = inr (functions_above context a b below functions)

-- no type of a kind that is not grounded is grounded
pub none_of_kind : (context : Context) (s : Bool) (a : AbstractHeapType) → IsOrderly context.types → is_grounded context (Abstract s a)
    ≡ false → filter (is_grounded context) (of_kinds context.types s (a ∷ [])) ≡ []
none_of_kind context s a orderly off =
    let g = is_grounded context in
    let types = context.types in
    one_kind_passing g types s a []
    (picks g (is_kind s a) (λ _. false) types
    (λ k t at. never_both (is_kind s a t) (g (Concrete k))
    (λ on. not_true (g (Concrete k)) (λ grounded.
    let above = (grounded_decides context (Abstract s a) orderly tt).1 (grounded_above context (Concrete k) (Abstract s a)
    (kind_is_above types s a k t at on) (grounded_if context (Concrete k) orderly grounded)) in
    cc)))
    ∙ ap (map Concrete) (none_where 0 (length types)))

pub kinds_after_none : (context : Context) (s : Bool) (a : AbstractHeapType) (kinds : List AbstractHeapType) (rest : List HeapType)
    → filter (is_grounded context) (of_kinds context.types s (a ∷ [])) ≡ [] → filter (is_grounded context) (of_kinds context.types s kinds)
    ≡ rest → filter (is_grounded context) (of_kinds context.types s (a ∷ kinds)) ≡ rest
kinds_after_none context s a kinds rest none same =
    let g = is_grounded context in
    let alone : filter g (picked_from (is_kind s a) 0 context.types) ≡ [] = sym (one_kind_passing g context.types s a _ refl) ∙ none in
    ap (filter g) (first_kind context.types s a kinds) ∙ filter-append g (picked_from (is_kind s a) 0 context.types)
    (of_kinds context.types s kinds) ∙ ap (λ (l : List HeapType). l ++ filter g (of_kinds context.types s kinds)) alone ∙ same

struct_kind : (inner : CompositeInnerType) → kind_of inner ≡ heap.Struct → is_of_kind heap.Struct inner ≡ true
struct_kind (Struct structure) e = refl
struct_kind (Array element) e = cc
struct_kind (Func function) e = cc

-- a type that a struct type grounds is a struct type
pub grounded_struct : (types : List SubType) (descriptors : Bool) (j : ℕ) (t : SubType) → IsOrderly types → slice_get types j ≡ Some t
    → IsGroundedByStructs types descriptors (Concrete j) → is_of_kind heap.Struct t.composite_type.inner ≡ true
grounded_struct types descriptors j t orderly at (i, by) =
    let (u, at_u, is) = by.struct in
    let below = below_created types descriptors i j orderly by.below in
    let (v, at_v, kinds, shares) = alike_along types orderly i j u (by_cases_from_below types orderly (Concrete i) (Concrete j) below)
    at_u in
    let same : v ≡ t = cc in
    struct_kind t.composite_type.inner (ap (λ (x : SubType). kind x) (sym same) ∙ sym kinds ∙ ap kind_of is)

-- the indices of the types that structs ground are those of the grounded struct types, if no function
-- grounds such types
pub structs_listed : (context : Context) (s : Bool) (indices : List ℕ) → IsOrderly context.types
    → (IsGroundedByFuncs context (Abstract s heap.Struct) → ⊥)
    → ((test : ℕ → Bool) → DecidesGrounded context.types context.features.custom_descriptors s test
    → indices ≡ indices_where test 0 (length context.types))
    → filter (is_grounded context) (of_kinds context.types s (heap.Struct ∷ [])) ≡ map Concrete indices
structs_listed context s indices orderly no_function listed =
    let g = is_grounded context in
    let types = context.types in
    let test : ℕ → Bool = λ j. is_kind_at types s heap.Struct j && g (Concrete j) in
    let decides : DecidesGrounded types context.features.custom_descriptors s test = λ j inside.
    let (t, at) = stands types j inside in
    let of_kind_read = kind_read types s heap.Struct j t at in
    let share_read : is_shared_at types s j ≡ is_shared_as s t = shared_read types s j t at in (
      λ on.
          let (of, grounded) = both (is_kind_at types s heap.Struct j) (g (Concrete j)) on in
          let is : is_kind s heap.Struct t ≡ true = sym of_kind_read ∙ of in
          let (shares, structure) = both (is_shared_as s t) (is_of_kind heap.Struct t.composite_type.inner) is in
          elim (grounded_if context (Concrete j) orderly grounded) [
            | inl structs ↦ (structs, share_read ∙ shares)
            | inr functions ↦ absurd
                (no_function (functions_above context (Concrete j) (Abstract s heap.Struct) (kind_is_above types s heap.Struct j t at is)
                functions))
          ],
      λ (structs, shares).
          let structure = grounded_struct types context.features.custom_descriptors j t orderly at structs in
          both_are (is_kind_at types s heap.Struct j) (g (Concrete j))
          (of_kind_read ∙ both_are (is_shared_as s t) (is_of_kind heap.Struct t.composite_type.inner) (sym share_read ∙ shares)
          structure) (sym (by_structs context (Concrete j) orderly structs)),
    ) in
    one_kind_passing g types s heap.Struct (map Concrete indices)
    (picks g (is_kind s heap.Struct) test types (λ k t at. ap (λ (b : Bool). b && g (Concrete k))
    (sym (kind_read types s heap.Struct k t at))) ∙ ap (map Concrete) (sym (listed test decides)))

-- the concrete types follow the abstract ones
pub kinds_follow : (config : Config) (types : List SubType) (s : Bool) (ty : AbstractHeapType) → drop (length (abstract_subtypes ty))
    (gc_subtypes config types (Abstract s ty)) ≡ of_kinds types s (kinds_below ty)
kinds_follow config types s heap.Any = refl
kinds_follow config types s heap.Eq = refl
kinds_follow config types s heap.Struct = refl
kinds_follow config types s heap.Array = refl
kinds_follow config types s heap.I31 = refl
kinds_follow config types s heap.None = refl
kinds_follow config types s heap.Func = refl
kinds_follow config types s heap.NoFunc = refl
kinds_follow config types s heap.Extern = refl
kinds_follow config types s heap.NoExtern = refl
kinds_follow config types s heap.Exn = refl
kinds_follow config types s heap.NoExn = refl

pub abstracts_some : (ty : AbstractHeapType) → 0 < length (abstract_subtypes ty)
abstracts_some ty = search rules

pub abstracts_few : (ty : AbstractHeapType) → length (abstract_subtypes ty) < 2 ^ 8
abstracts_few ty = search rules

pub abstracts_within : (config : Config) (types : List SubType) (s : Bool) (ty : AbstractHeapType) → length (abstract_subtypes ty) ≤ length
    (gc_subtypes config types (Abstract s ty))
abstracts_within config types s ty =
    let joined : length (map (Abstract s) (abstract_subtypes ty) ++ of_kinds types s (kinds_below ty)) ≡ length (abstract_subtypes ty) +
    length (of_kinds types s (kinds_below ty)) =
    length-append (map (Abstract s) (abstract_subtypes ty)) (of_kinds types s (kinds_below ty))
    ∙ ap (λ (n : ℕ). n + length (of_kinds types s (kinds_below ty))) (length-map (abstract_subtypes ty) (Abstract s)) in
    omega (arith, joined)
