-- Properties of each heap type that is offered.
use Rattle.smith_draw_types.proofs.Common.{[], Abstract, AbstractHeapType, ap, arith, Bool, bottom, bottom_of, CompositeInnerType, Concrete}
use Rattle.smith_draw_types.proofs.Common.{cond, Config, Exact, false, flat_map-cons, HeapType, is_abstract_below, is_directly_below}
use Rattle.smith_draw_types.proofs.Common.{is_index, is_shared_as, IsTrue, kind, kind_of, List, map, None, not, Option, refl, rules, shared}
use Rattle.smith_draw_types.proofs.Common.{slice_get, Some, subst, SubType, suc, sym, true, zero, ℕ, ◌&&◌, ◌++◌, ◌+◌, ◌∷◌, ◌≡◌}
use Rattle.std.specs.List.{flat_map, AllByRecursion as Each}
use Rattle.std.proofs.lemmas.Bool.{eqb-true}
use Rattle.smith_types.specs.Syntax.value_type.AbstractHeapType.TheVariants as heap
use Rattle.smith_draw_types.specs.Offered.{abstract_subtypes, abstract_supertypes, supertypes_of_inner, kinds_below, kinds_above}
use Rattle.smith_draw_types.specs.Offered.{is_of_kind, is_kind, picked_from, of_kinds, offered_direct_subtypes, ancestors, of_standing}
use Rattle.smith_draw_types.specs.Offered.{bottom_at, kinds_at, exact_subtypes, gc_subtypes, gc_supertypes}

-- lists
each_append : {A : Type 0} (P : A → Type 0) (xs ys : List A) → Each P xs → Each P ys → Each P (xs ++ ys)
each_append P [] ys h more = more
each_append P (x ∷ xs) ys h more = (h.0, each_append P xs ys h.1 more)

each_map : {A B : Type 0} (P : B → Type 0) (Q : A → Type 0) (f : A → B) → ((x : A) → Q x → P (f x)) → (xs : List A) → Each Q xs
    → Each P (map f xs)
each_map P Q f gives [] h = tt
each_map P Q f gives (x ∷ xs) h = (gives x h.0, each_map P Q f gives xs h.1)

each_flat_map : {A B : Type 0} (P : B → Type 0) (Q : A → Type 0) (f : A → List B) → ((x : A) → Q x → Each P (f x)) → (xs : List A)
    → Each Q xs → Each P (flat_map f xs)
each_flat_map P Q f gives [] h = tt
each_flat_map P Q f gives (x ∷ xs) h =
    rw (flat_map-cons f x xs) (each_append P (f x) (flat_map f xs) (gives x h.0) (each_flat_map P Q f gives xs h.1))

each_cond : {A : Type 0} (P : A → Type 0) (b : Bool) (xs : List A) → (IsTrue b → Each P xs) → Each P (cond b xs [])
each_cond P true xs h = h refl
each_cond P false xs h = tt

-- tests
both_true : (a b : Bool) → IsTrue (a && b) → IsTrue a × IsTrue b
both_true true b h = (refl, h)
both_true false b h = cc

pub shared_as : (s : Bool) (t : SubType) → IsTrue (is_shared_as s t) → shared t ≡ s
shared_as true t h = h
shared_as false t h = not_shared (shared t) h
  where
    not_shared : (b : Bool) → IsTrue (not b) → b ≡ false
    not_shared true h = cc
    not_shared false h = refl

pub of_kind : (a : AbstractHeapType) (inner : CompositeInnerType) → IsTrue (is_of_kind a inner) → kind_of inner ≡ a
of_kind a inner h = search rules

pub supertype_is : (index : ℕ) (o : Option ℕ) → IsTrue (is_index index o) → o ≡ Some index
supertype_is index None h = cc
supertype_is index (Some other) h = ap Some (eqb-true other index h)

-- types that satisfy a test
pick_one : (P : HeapType → Type 0) (b : Bool) (start : ℕ) (rest : List HeapType) → (IsTrue b → P (Concrete start)) → Each P rest
    → Each P (cond b (Concrete start ∷ rest) rest)
pick_one P true start rest h more = (h refl, more)
pick_one P false start rest h more = more

picked_each : (P : HeapType → Type 0) (test : SubType → Bool) (start : ℕ) (types : List SubType)
    → ((k : ℕ) (t : SubType) → slice_get types k ≡ Some t → IsTrue (test t) → P (Concrete (start + k)))
    → Each P (picked_from test start types)
picked_each P test start [] each = tt
picked_each P test start (t ∷ types) each =
    let here : start + zero ≡ start = omega arith in
    pick_one P (test t) start (picked_from test (start + 1) types) (λ on. subst (λ (n : ℕ). P (Concrete n)) here (each zero t refl on))
    (picked_each P test (start + 1) types (λ k u at on. let next : start + suc k ≡ start + 1 + k = omega arith in
    subst (λ (n : ℕ). P (Concrete n)) next (each (suc k) u at on)))

picked_all : (P : HeapType → Type 0) (test : SubType → Bool) (types : List SubType) → ((k : ℕ) (t : SubType) → slice_get types k ≡ Some t
    → IsTrue (test t) → P (Concrete k)) → Each P (picked_from test 0 types)
picked_all P test types each = picked_each P test 0 types (λ k t at on. let same : k ≡ 0 + k = omega arith in
    subst (λ (n : ℕ). P (Concrete n)) same (each k t at on))

kinds_each : (P : HeapType → Type 0) (Q : AbstractHeapType → Type 0) (types : List SubType) (s : Bool)
    → ((k : ℕ) (t : SubType) → slice_get types k ≡ Some t → shared t ≡ s → Q (kind t) → P (Concrete k)) → (kinds : List AbstractHeapType)
    → Each Q kinds → Each P (of_kinds types s kinds)
kinds_each P Q types s each kinds h =
    each_flat_map P Q (λ a. picked_from (is_kind s a) 0 types)
    (λ a q. picked_all P (is_kind s a) types (λ k t at on.
    let (is_shared, is_of) = both_true (is_shared_as s t) (is_of_kind a t.composite_type.inner) on in
    each k t at (shared_as s t is_shared) (subst Q (sym (of_kind a t.composite_type.inner is_of)) q)))
    kinds h

-- the tables
subtypes_below : (a : AbstractHeapType) → Each (λ b. IsTrue (is_abstract_below b a)) (abstract_subtypes a)
subtypes_below heap.Any = (refl, (refl, (refl, (refl, (refl, (refl, tt))))))
subtypes_below heap.Eq = (refl, (refl, (refl, (refl, (refl, tt)))))
subtypes_below heap.Struct = (refl, (refl, (refl, tt)))
subtypes_below heap.Array = (refl, (refl, (refl, tt)))
subtypes_below heap.I31 = (refl, (refl, tt))
subtypes_below heap.Func = (refl, (refl, tt))
subtypes_below heap.Extern = (refl, (refl, tt))
subtypes_below heap.None = (refl, tt)
subtypes_below heap.NoFunc = (refl, tt)
subtypes_below heap.NoExtern = (refl, tt)
subtypes_below heap.Exn = (refl, tt)
subtypes_below heap.NoExn = (refl, tt)

supertypes_above : (a : AbstractHeapType) → Each (λ b. IsTrue (is_abstract_below a b)) (abstract_supertypes a)
supertypes_above a = search rules

inner_above : (inner : CompositeInnerType) → Each (λ b. IsTrue (is_abstract_below (kind_of inner) b)) (supertypes_of_inner inner)
inner_above inner = search rules

kinds_are_below : (a : AbstractHeapType) → Each (λ b. IsTrue (is_abstract_below b a)) (kinds_below a)
kinds_are_below a = search rules

-- the bottom of a kind
abbrev IsBottomOfKind : AbstractHeapType → AbstractHeapType → Type 0
IsBottomOfKind a b = (inner : CompositeInnerType) → kind_of inner ≡ b → a ≡ bottom_of inner

kinds_are_above : (a : AbstractHeapType) → Each (IsBottomOfKind a) (kinds_above a)
kinds_are_above a = search rules

-- an existing type
standing_each : (P : HeapType → Type 0) (offers : SubType → List HeapType) (types : List SubType) (i : ℕ)
    → ((t : SubType) → slice_get types i ≡ Some t → Each P (offers t)) → (o : Option SubType) → slice_get types i ≡ o
    → Each P (of_standing offers o)
standing_each P offers types i each None at = tt
standing_each P offers types i each (Some t) at = each t at

-- subtypes of an abstract type
pub below_abstract_each : (P : HeapType → Type 0) (types : List SubType) (s : Bool) (a : AbstractHeapType)
    → ((b : AbstractHeapType) → IsTrue (is_abstract_below b a) → P (Abstract s b))
    → ((k : ℕ) (t : SubType) → slice_get types k ≡ Some t → shared t ≡ s → IsTrue (is_abstract_below (kind t) a) → P (Concrete k))
    → Each P (map (Abstract s) (abstract_subtypes a) ++ of_kinds types s (kinds_below a))
below_abstract_each P types s a abstracts concretes =
    let Q = λ (b : AbstractHeapType). IsTrue (is_abstract_below b a) in
    each_append P (map (Abstract s) (abstract_subtypes a)) (of_kinds types s (kinds_below a))
    (each_map P Q (Abstract s) abstracts (abstract_subtypes a) (subtypes_below a))
    (kinds_each P Q types s concretes (kinds_below a) (kinds_are_below a))

-- supertypes of an abstract type
pub above_abstract_each : (P : HeapType → Type 0) (types : List SubType) (s : Bool) (a : AbstractHeapType)
    → ((b : AbstractHeapType) → IsTrue (is_abstract_below a b) → P (Abstract s b))
    → ((k : ℕ) (t : SubType) → slice_get types k ≡ Some t → shared t ≡ s → a ≡ bottom t → P (Concrete k))
    → Each P (map (Abstract s) (abstract_supertypes a) ++ of_kinds types s (kinds_above a))
above_abstract_each P types s a abstracts concretes =
    each_append P (map (Abstract s) (abstract_supertypes a)) (of_kinds types s (kinds_above a))
    (each_map P (λ b. IsTrue (is_abstract_below a b)) (Abstract s) abstracts (abstract_supertypes a) (supertypes_above a))
    (kinds_each P (IsBottomOfKind a) types s (λ k t at same is_bottom. concretes k t at same (is_bottom t.composite_type.inner refl))
    (kinds_above a) (kinds_are_above a))

direct_each : (P : HeapType → Type 0) (types : List SubType) (i : ℕ) → ((k : ℕ) (t : SubType) → slice_get types k ≡ Some t
    → t.supertype ≡ Some i → P (Concrete k)) → Each P (offered_direct_subtypes types i)
direct_each P types i each = picked_all P (is_directly_below i) types (λ k t at on. each k t at (supertype_is i t.supertype on))

-- subtypes of a concrete type
pub below_concrete_each : (P : HeapType → Type 0) (config : Config) (types : List SubType) (i : ℕ) → P (Concrete i)
    → ((k : ℕ) (t : SubType) → slice_get types k ≡ Some t → t.supertype ≡ Some i → P (Concrete k))
    → (IsTrue config.custom_descriptors_enabled → P (Exact i))
    → ((t : SubType) → slice_get types i ≡ Some t → P (Abstract (shared t) (bottom t)))
    → Each P (gc_subtypes config types (Concrete i))
below_concrete_each P config types i own direct exact bottoms =
    let subtypes = direct_each P types i direct in
    let bottoms_each = standing_each P (λ t. Abstract (shared t) (bottom t) ∷ []) types i (λ t at. (bottoms t at, tt)) (slice_get types i)
    refl in
    let exacts = each_cond P config.custom_descriptors_enabled (Exact i ∷ offered_direct_subtypes types i) (λ on. (exact on, subtypes)) in (
      own,
      each_append P (offered_direct_subtypes types i) (exact_subtypes config types i ++ bottom_at types i) subtypes
          (each_append P (exact_subtypes config types i) (bottom_at types i) exacts bottoms_each),
    )

-- supertypes of a concrete type
pub above_concrete_each : (P : HeapType → Type 0) (types : List SubType) (i : ℕ) → P (Concrete i)
    → ((t : SubType) → slice_get types i ≡ Some t → (b : AbstractHeapType) → IsTrue (is_abstract_below (kind t) b)
    → P (Abstract (shared t) b))
    → Each P (ancestors types i)
    → Each P (gc_supertypes types (Concrete i))
above_concrete_each P types i own kinds up =
    let kinds_of = standing_each P (λ t. map (Abstract (shared t)) (supertypes_of_inner t.composite_type.inner)) types i
    (λ t at. each_map P (λ b. IsTrue (is_abstract_below (kind t) b)) (Abstract (shared t)) (kinds t at)
    (supertypes_of_inner t.composite_type.inner) (inner_above t.composite_type.inner))
    (slice_get types i) refl in
    (own, each_append P (kinds_at types i) (ancestors types i) kinds_of up)
