-- Subtyping, a lemma for each row of the rules.
use Rattle.smith_types.proofs.Common.{Abstract, AbstractHeapType, Bool, Concrete, Exact, IsTrue, kind, List, refl, rules, shared, slice_get}
use Rattle.smith_types.proofs.Common.{Some, SubType, ℕ, ◌≡◌}
use Rattle.smith_syntax.specs.declared.value_type.AbstractHeapType.TheVariants as heap
use Rattle.smith_syntax.specs.Kinds.{bottom}
use Rattle.smith_types.specs.Subtyping.{is_abstract_step, is_abstract_below, IsBelow, itself, by_step}
use Rattle.smith_types.proofs.GrowthLemmas.{IsBelow-trans}

-- one step, as a path
one_step : (types : List SubType) (s : Bool) (a b : AbstractHeapType) → IsTrue (is_abstract_step a b)
    → IsBelow types (Abstract s a) (Abstract s b)
one_step types s a b step = by_step {a = Abstract s a} {b = Abstract s b} (refl, step) itself

-- the table of abstract types
pub below_abstract : (types : List SubType) (s : Bool) (a b : AbstractHeapType) → IsTrue (is_abstract_below a b)
    → IsBelow types (Abstract s a) (Abstract s b)
below_abstract types s heap.Func heap.Func below = itself
below_abstract types s heap.Extern heap.Extern below = itself
below_abstract types s heap.Any heap.Any below = itself
below_abstract types s heap.None heap.None below = itself
below_abstract types s heap.NoExtern heap.NoExtern below = itself
below_abstract types s heap.NoFunc heap.NoFunc below = itself
below_abstract types s heap.Eq heap.Eq below = itself
below_abstract types s heap.Struct heap.Struct below = itself
below_abstract types s heap.Array heap.Array below = itself
below_abstract types s heap.I31 heap.I31 below = itself
below_abstract types s heap.Exn heap.Exn below = itself
below_abstract types s heap.NoExn heap.NoExn below = itself
below_abstract types s heap.Eq heap.Any below = one_step types s heap.Eq heap.Any refl
below_abstract types s heap.I31 heap.Eq below = one_step types s heap.I31 heap.Eq refl
below_abstract types s heap.Struct heap.Eq below = one_step types s heap.Struct heap.Eq refl
below_abstract types s heap.Array heap.Eq below = one_step types s heap.Array heap.Eq refl
below_abstract types s heap.None heap.I31 below = one_step types s heap.None heap.I31 refl
below_abstract types s heap.None heap.Struct below = one_step types s heap.None heap.Struct refl
below_abstract types s heap.None heap.Array below = one_step types s heap.None heap.Array refl
below_abstract types s heap.NoFunc heap.Func below = one_step types s heap.NoFunc heap.Func refl
below_abstract types s heap.NoExtern heap.Extern below = one_step types s heap.NoExtern heap.Extern refl
below_abstract types s heap.NoExn heap.Exn below = one_step types s heap.NoExn heap.Exn refl
below_abstract types s heap.I31 heap.Any below = IsBelow-trans types (one_step types s heap.I31 heap.Eq refl)
    (one_step types s heap.Eq heap.Any refl)
below_abstract types s heap.Struct heap.Any below = IsBelow-trans types (one_step types s heap.Struct heap.Eq refl)
    (one_step types s heap.Eq heap.Any refl)
below_abstract types s heap.Array heap.Any below = IsBelow-trans types (one_step types s heap.Array heap.Eq refl)
    (one_step types s heap.Eq heap.Any refl)
below_abstract types s heap.None heap.Eq below = IsBelow-trans types (one_step types s heap.None heap.I31 refl)
    (one_step types s heap.I31 heap.Eq refl)
below_abstract types s heap.None heap.Any below = IsBelow-trans types (one_step types s heap.None heap.I31 refl)
    (IsBelow-trans types (one_step types s heap.I31 heap.Eq refl) (one_step types s heap.Eq heap.Any refl))
below_abstract types s a b below = search rules

-- a type is a subtype of its declared supertype
pub below_declared : (types : List SubType) (i j : ℕ) (t : SubType) → slice_get types i ≡ Some t → t.supertype ≡ Some j
    → IsBelow types (Concrete i) (Concrete j)
below_declared types i j t at sup = by_step {a = Concrete i} {b = Concrete j} (t, at, sup) itself

-- a type is a subtype of its kind
pub below_kind : (types : List SubType) (i : ℕ) (t : SubType) → slice_get types i ≡ Some t
    → IsBelow types (Concrete i) (Abstract (shared t) (kind t))
below_kind types i t at = by_step {a = Concrete i} {b = Abstract (shared t) (kind t)} (t, at, refl, refl) itself

-- a type, exact or not, is a supertype of the bottom of its kind
pub above_bottom : (types : List SubType) (s : Bool) (x : AbstractHeapType) (j : ℕ) (t : SubType) → slice_get types j ≡ Some t
    → s ≡ shared t → x ≡ bottom t → IsBelow types (Abstract s x) (Concrete j)
above_bottom types s x j t at shares bottoms = by_step {a = Abstract s x} {b = Concrete j} (t, at, shares, bottoms) itself

pub exact_above_bottom : (types : List SubType) (s : Bool) (x : AbstractHeapType) (j : ℕ) (t : SubType) → slice_get types j ≡ Some t
    → s ≡ shared t → x ≡ bottom t → IsBelow types (Abstract s x) (Exact j)
exact_above_bottom types s x j t at shares bottoms = by_step {a = Abstract s x} {b = Exact j} (t, at, shares, bottoms) itself

-- an exact type is a subtype of its concrete type
pub exact_below : (types : List SubType) (i : ℕ) → IsBelow types (Exact i) (Concrete i)
exact_below types i = by_step {a = Exact i} {b = Concrete i} refl itself
