-- The types whose created values are below a type without subtypes: that type alone.
use Rattle.smith_draw_consts.proofs.Common.{[], Abstract, ap, append-nil, arith, Bool, CompositeInnerType, Context, created, eqb_tells}
use Rattle.smith_draw_consts.proofs.Common.{false, get_or, HeapType, if◌then◌else◌, inl, inr, is_val_below, IsValInRange, length, List}
use Rattle.smith_draw_consts.proofs.Common.{nat_lt, Ref, refl, Result, same_Some, slice_get, SubType, suc, sym, true, ValType, zero, ℕ}
use Rattle.smith_draw_consts.proofs.Common.{◌&&◌, ◌++◌, ◌+◌, ◌<◌, ◌==◌, ◌||◌, ◌∙◌, ◌∷◌, ◌≡◌}
use Rattle.std.proofs.Common.{Some}
use Rattle.std.specs.List.{AllByRecursion as ByRecursion}
use Rattle.std.proofs.lemmas.List.{nil_from_length}
use Rattle.smith_types.specs.Families.{direct_subtypes, is_directly_below, is_index}
use Rattle.smith_types.specs.KindCounts.{indices_from}
use Rattle.smith_types.specs.Syntax.composite_type.CompositeInnerType.TheVariants as inner
use Rattle.smith_types.specs.Syntax.value_type.HeapType.TheVariants.{Concrete, Exact}
use Rattle.smith_draw_types.specs.Below.{is_heap_below, names}
use Rattle.smith_draw_types.specs.Offered.{ancestors, supertype_at}
use Rattle.smith_draw_types.proofs.AncestorLemmas.{ancestors_each, stands}
use Rattle.smith_draw_consts.specs.ConstOffers.{each_from, past, type_offers, types_offers, ways_by}
use Rattle.smith_draw_consts.specs.KeptOffers.{IsOnlyType}
use Rattle.smith_draw_consts.specs.declared.node_choice.Choice.{Choice}

listed_turn : (b : Bool) (first : ℕ) (rest : List ℕ) → (if b then first ∷ rest else rest) ≡ [] → rest ≡ []
listed_turn true first rest none = cc
listed_turn false first rest none = none

-- the index of a type that passes a test is listed
listed : (test : SubType → Bool) (first k : ℕ) (types : List SubType) (t : SubType) → slice_get types k ≡ Some t → test t ≡ true
    → indices_from test first types ≡ [] → ⊥
listed test first k [] t at holds none = cc
listed test first zero (u ∷ types) t at holds none =
    let same : test u ≡ true = ap test (same_Some u t at) ∙ holds in
    let found = rw same at none in
    cc
listed test first (suc k) (u ∷ types) t at holds none = listed test (first + 1) k types t at holds
    (listed_turn (test u) first (indices_from test (first + 1) types) none)

index_itself : (j : ℕ) → (j == j) ≡ true
index_itself j = elim (eqb_tells j j) [ inl (test, is) ↦ test | inr (test, other) ↦ absurd (other refl) ]

-- no type declares a type without direct subtypes as its supertype
undeclared : (types : List SubType) (j : ℕ) → direct_subtypes types j ≡ [] → (i s : ℕ) → supertype_at types i ≡ Some s → s ≡ j → ⊥
undeclared types j none i s e same =
    let (t, at, super) = stands types i s e in
    let below : is_directly_below j t ≡ true = ap (is_index j) super ∙ ap (λ (n : ℕ). n == j) same ∙ index_itself j in
    listed (is_directly_below j) 0 i types t at below none

IsOther : ℕ → HeapType → Type 0
IsOther j (Concrete other) = other ≡ j → ⊥
IsOther j _ = Unit {0}

unnamed : (j : ℕ) (hs : List HeapType) → ByRecursion (IsOther j) hs → names j hs ≡ false
unfolding IsOther
unnamed j [] each = refl
unnamed j (Abstract s a ∷ hs) (h, each) = unnamed j hs each
unnamed j (Exact k ∷ hs) (h, each) = unnamed j hs each
unnamed j (Concrete k ∷ hs) (h, each) = elim (eqb_tells k j) [
  | inl (test, is) ↦ absurd (h is)
  | inr (test, other) ↦ rw test (unnamed j hs each)
]

-- so nothing else is below it
never_named : (types : List SubType) (j : ℕ) → direct_subtypes types j ≡ [] → (i : ℕ) → names j (ancestors types i) ≡ false
unfolding IsOther
never_named types j none i = unnamed j (ancestors types i) (ancestors_each (IsOther j) types (λ k s e. undeclared types j none k s e) i)

same_where : (i j : ℕ) (more : Bool) → more ≡ false → ((i == j) || more) ≡ true → i ≡ j
same_where i j more none holds = elim (eqb_tells i j) [
  | inl (test, is) ↦ is
  | inr (test, other) ↦ let wrong : false ≡ true = sym none ∙ rw test at holds in cc
]

created_below : (types : List SubType) (descriptors : Bool) (i j : ℕ) → direct_subtypes types j ≡ []
    → is_heap_below types (if descriptors then Exact i else Concrete i) (Concrete j) ≡ true → i ≡ j
unfolding is_heap_below
created_below types true i j none holds = same_where i j (names j (ancestors types i)) (never_named types j none i) holds
created_below types false i j none holds = same_where i j (names j (ancestors types i)) (never_named types j none i) holds

created_exactly : (types : List SubType) (descriptors : Bool) (i j : ℕ) → is_heap_below types (if descriptors then Exact i else Concrete i)
    (Exact j) ≡ true → i ≡ j
unfolding is_heap_below
created_exactly types true i j holds = elim (eqb_tells i j) [
  | inl (test, is) ↦ is
  | inr (test, other) ↦ let wrong : false ≡ true = sym test
      ∙ holds in cc
]
created_exactly types false i j holds = cc

-- a reference to a created value is below a reference to a type without subtypes only if it is that
-- of this type
pub concrete_alone : (context : Context) (nullable : Bool) (j : ℕ)
    → IsValInRange context.types (Ref (record { nullable = nullable; heap_type = Concrete j })) → length (direct_subtypes context.types j)
    ≡ 0 → IsOnlyType context (Ref (record { nullable = nullable; heap_type = Concrete j })) j
concrete_alone context nullable j inside none = record {
  there = inside;
  only = λ i holds. created_below context.types context.features.custom_descriptors i j
      (nil_from_length (direct_subtypes context.types j) none) holds;
}

-- the same holds for a reference to an exact type
pub exact_alone : (context : Context) (nullable : Bool) (j : ℕ)
    → IsValInRange context.types (Ref (record { nullable = nullable; heap_type = Exact j }))
    → IsOnlyType context (Ref (record { nullable = nullable; heap_type = Exact j })) j
exact_alone context nullable j inside =
    record { there = inside; only = λ i holds. created_exactly context.types context.features.custom_descriptors i j holds }

off_where : (b : Bool) → (b ≡ true → ⊥) → b ≡ false
off_where true never = absurd (never refl)
off_where false never = refl

and_off : (a b : Bool) → b ≡ false → (a && b) ≡ false
and_off true b off = off
and_off false b off = refl

-- a type that isn't below the wanted one offers nothing
other_offers : (context : Context) (wanted : ValType) (fuel : ℕ) (arrays : Bool) (index : ℕ) (i : CompositeInnerType)
    → is_val_below context.types (created context index) wanted ≡ false → type_offers context wanted fuel arrays index i ≡ []
other_offers context wanted fuel false index (inner.Struct structure) off = rw off refl
other_offers context wanted fuel false index (inner.Array array) off = refl
other_offers context wanted fuel false index (inner.Func function) off = refl
other_offers context wanted fuel true index (inner.Struct structure) off = refl
other_offers context wanted fuel true index (inner.Array array) off =
    rw (and_off (nat_lt 0 fuel) (is_val_below context.types (created context index) wanted) off) refl
other_offers context wanted fuel true index (inner.Func function) off = refl

-- past an item that alone offers choices, nothing is offered
none_past : {A B : Type 0} (offer : ℕ → A → List B) (index : ℕ) → ((i : ℕ) (x : A) → (i ≡ index → ⊥) → offer i x ≡ [])
    → (start : ℕ) (xs : List A) → index < start → each_from offer start xs ≡ []
none_past offer index none start [] past = refl
none_past offer index none start (x ∷ xs) past =
    ap (λ ys. ys ++ each_from offer (start + 1) xs) (none start x (λ same. absurd (omega (arith, same, past)))) ∙ none_past offer index none
    (start + 1) xs (omega (arith, past))

-- if one item alone offers choices, all together offer its choices
each_only : {A B : Type 0} (offer : ℕ → A → List B) (index : ℕ) → ((i : ℕ) (x : A) → (i ≡ index → ⊥) → offer i x ≡ [])
    → (start : ℕ) (xs : List A) (k : ℕ) (d : A) → start + k ≡ index → k < length xs → each_from offer start xs ≡ offer index (get_or xs k d)
each_only offer index none start [] k d is inside = absurd (omega arith)
each_only offer index none start (x ∷ xs) zero d is inside =
    let here : start ≡ index = omega (arith, is) in
    ap (λ ys. offer start x ++ ys) (none_past offer index none (start + 1) xs (omega (arith, here))) ∙ append-nil (offer start x)
    ∙ ap (λ (n : ℕ). offer n x) here
each_only offer index none start (x ∷ xs) (suc k) d is inside =
    ap (λ ys. ys ++ each_from offer (start + 1) xs) (none start x (λ same. absurd (omega (arith, same, is)))) ∙ each_only offer index none
    (start + 1) xs k d (omega (arith, is)) (omega (arith, inside))

-- the ways to create a value are those by the only type
only_ways : (context : Context) (wanted : ValType) (fuel : ℕ) (arrays : Bool) (index : ℕ) (d : SubType) → IsOnlyType context wanted index
    → types_offers context wanted fuel arrays ≡ ways_by context wanted fuel arrays index (get_or context.types index d)
only_ways context wanted fuel arrays index d is =
    each_only (ways_by context wanted fuel arrays) index
    (λ i t other. other_offers context wanted fuel arrays i t.composite_type.inner
    (off_where (is_val_below context.types (created context i) wanted) (λ holds. other (is.only i holds))))
    0 context.types index d (omega arith) is.there

pub past_only : (context : Context) (wanted : ValType) (fuel : ℕ) (arrays : Bool) (index place : ℕ) (types : List SubType) (d : SubType)
    (result : Result ℕ Choice) → types ≡ context.types → IsOnlyType context wanted index
    → result ≡ past (ways_by context wanted fuel arrays index (get_or types index d)) place
    → result ≡ past (types_offers context wanted fuel arrays) place
past_only context wanted fuel arrays index place types d result same is found =
    found
    ∙ ap (λ (xs : List SubType). past (ways_by context wanted fuel arrays index (get_or xs index d)) place) same
    ∙ ap (λ (choices : List Choice). past choices place) (sym (only_ways context wanted fuel arrays index d is))
