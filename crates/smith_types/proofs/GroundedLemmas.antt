-- The marks of a type space decide which heap types structs ground.
use Rattle.smith_types.proofs.Common.{[], Abstract, AbstractHeapType, All, All-from_recursion, ap, arith, Array, Bool, CompositeInnerType}
use Rattle.smith_types.proofs.Common.{Concrete, Exact, F32, F64, false, FieldType, Func, get_or, HeapType, I32, I64, if◌then◌else◌, IsTrue}
use Rattle.smith_types.proofs.Common.{kind_of, length, List, not, recursion_from_All, Ref, refl, same_Some, shared, slice_get}
use Rattle.smith_types.proofs.Common.{slice_get-get_or, slice_get_within, Some, Struct, subst, SubType, suc, sym, true, V128, ValType, zero}
use Rattle.smith_types.proofs.Common.{ℕ, ◌&&◌, ◌+◌, ◌<◌, ◌↔◌, ◌∙◌, ◌∷◌, ◌≡◌, ◌≤◌}
use Rattle.std.specs.Prelude.{◌||◌}
use Rattle.std.specs.List.{list_any, AllByRecursion as Each}
use Rattle.std.proofs.lemmas.Bool.Decides.{same_from_decides}
use Rattle.smith_syntax.specs.declared.value_type.AbstractHeapType.TheVariants as heap
use Rattle.smith_types.specs.declared.ground.Ground.{Ground}
use Rattle.smith_types.specs.declared.ground.GroundKinds.{GroundKinds}
use Rattle.smith_types.specs.Types.{IsOrderly}
use Rattle.smith_types.specs.Subtyping.{is_abstract_below, IsBelow, itself, IsInRange}
use Rattle.smith_types.specs.Expressions.{IsDefaultable, field_values, unpacked}
use Rattle.smith_types.specs.Grounded.{IsGroundedBy, IsGroundedByStructs, is_defaultable, are_defaultable}
use Rattle.smith_types.specs.Grounds.{is_inner_ground, is_ground, is_ground_of, kind_at, own_at, below_at, AreGrounds, AreGroundKinds}
use Rattle.smith_types.specs.Grounds.{is_shared_at, is_marked, indices_where, DecidesGrounded}
use Rattle.smith_types.proofs.GrowthLemmas.{IsBelow-trans}
use Rattle.smith_types.proofs.PathLemmas.{exact_below}
use Rattle.smith_types.proofs.WalkLemmas.{IsUnder, by_cases_from_below, below_from_by_cases, path_along, concrete_not_below_exact}
use Rattle.smith_types.proofs.MarkLemmas.{said_is}
use Rattle.smith_types.specs.MarkedFamilies.{is_directly_below_at, is_marked_below, DecidesGroundedBelow}
use Rattle.smith_types.proofs.MarkedLemmas.{where_same, stands}

both : (a b : Bool) → (a && b) ≡ true → (a ≡ true) × (b ≡ true)
both true b e = (refl, e)
both false b e = cc

both_are : (a b : Bool) → a ≡ true → b ≡ true → (a && b) ≡ true
both_are a b p q = rw p q

not_true : (b : Bool) → not b ≡ true → b ≡ false
not_true true e = cc
not_true false e = refl

pub default_for : (value : ValType) → is_defaultable value ≡ true → IsDefaultable value
default_for (Ref reference) e = e
default_for I32 e = tt
default_for I64 e = tt
default_for F32 e = tt
default_for F64 e = tt
default_for V128 e = tt

default_is : (value : ValType) → IsDefaultable value → is_defaultable value ≡ true
default_is (Ref reference) e = e
default_is I32 e = refl
default_is I64 e = refl
default_is F32 e = refl
default_is F64 e = refl
default_is V128 e = refl

pub defaults_each : (fields : List FieldType) → are_defaultable fields ≡ true → Each IsDefaultable (field_values fields)
defaults_each [] e = tt
defaults_each (field ∷ fields) e =
    let (p, q) = both (is_defaultable (unpacked field.element_type)) (are_defaultable fields) e in
    (default_for (unpacked field.element_type) p, defaults_each fields q)

defaults_are : (fields : List FieldType) → Each IsDefaultable (field_values fields) → are_defaultable fields ≡ true
defaults_are [] h = refl
defaults_are (field ∷ fields) (p, q) = both_are (is_defaultable (unpacked field.element_type)) (are_defaultable fields)
    (default_is (unpacked field.element_type) p) (defaults_are fields q)

ground_fields : (inner : CompositeInnerType) → is_inner_ground inner ≡ true → (fields : List FieldType)
    × (inner ≡ Struct (record { fields = fields })) × All IsDefaultable (field_values fields)
ground_fields (Struct structure) on = (
  structure.fields,
  refl,
  All-from_recursion IsDefaultable (field_values structure.fields)
      (defaults_each structure.fields on),
)
ground_fields (Array element) on = cc
ground_fields (Func function) on = cc

-- a struct type that grounds a heap type, from its mark
pub grounded_at : (types : List SubType) (descriptors : Bool) (heap_type : HeapType) (i : ℕ) (t : SubType) → slice_get types i ≡ Some t
    → is_ground t ≡ true → IsBelow types (if descriptors then Exact i else Concrete i) heap_type
    → IsGroundedBy types descriptors heap_type i
grounded_at types descriptors heap_type i t at on below =
    let (fields, is, defaults) = ground_fields t.composite_type.inner on in
    record { fields = fields; struct = (t, at, is); defaults = defaults; below = below }

pub grounded_is : (types : List SubType) (descriptors : Bool) (heap_type : HeapType) (i : ℕ) → IsGroundedBy types descriptors heap_type i
    → (t : SubType) × (slice_get types i ≡ Some t) × (is_ground t ≡ true)
grounded_is types descriptors heap_type i h =
    let (t, at, is) = h.struct in
    (t, at, ap is_inner_ground is ∙ defaults_are h.fields (recursion_from_All IsDefaultable (field_values h.fields) h.defaults))

-- the reference pushed by a creation, exact or not, is below the supertypes of its type
pub created_below : (types : List SubType) (descriptors : Bool) (i j : ℕ) → IsBelow types (Concrete i) (Concrete j)
    → IsBelow types (if descriptors then Exact i else Concrete i) (Concrete j)
created_below types true i j below = IsBelow-trans types (exact_below types i) below
created_below types false i j below = below

pub below_created : (types : List SubType) (descriptors : Bool) (i j : ℕ) → IsOrderly types
    → IsBelow types (if descriptors then Exact i else Concrete i) (Concrete j) → IsBelow types (Concrete i) (Concrete j)
below_created types true i j o below = path_along types (by_cases_from_below types o (Exact i) (Concrete j) below)
below_created types false i j o below = below

pub created_under : (types : List SubType) (descriptors : Bool) (i : ℕ) (s : Bool) (b : AbstractHeapType) → IsUnder types i s b
    → IsBelow types (if descriptors then Exact i else Concrete i) (Abstract s b)
created_under types true i s b under = below_from_by_cases types (Exact i) (Abstract s b) under
created_under types false i s b under = below_from_by_cases types (Concrete i) (Abstract s b) under

pub under_created : (types : List SubType) (descriptors : Bool) (i : ℕ) (s : Bool) (b : AbstractHeapType) → IsOrderly types
    → IsBelow types (if descriptors then Exact i else Concrete i) (Abstract s b) → IsUnder types i s b
under_created types true i s b o below = by_cases_from_below types o (Exact i) (Abstract s b) below
under_created types false i s b o below = by_cases_from_below types o (Concrete i) (Abstract s b) below

-- a concrete type is grounded if a grounding struct type is below it
concrete_grounded : (types now : List SubType) (grounds : List Ground) (descriptors : Bool) (j : ℕ) (said : Bool) → types ≡ now
    → IsOrderly types → AreGrounds types grounds → below_at grounds j ≡ said → IsTrue said ↔ IsGroundedByStructs now descriptors
    (Concrete j)
concrete_grounded types now grounds descriptors j said view o h is =
    subst (λ xs. IsTrue said ↔ IsGroundedByStructs xs descriptors (Concrete j)) view (
      λ marks.
          let (i, g) = (h.below j).0 (is ∙ marks) in
          (i, grounded_at types descriptors (Concrete j) i g.ground g.at g.is (created_below types descriptors i j g.below)),
      λ (i, g).
          let (u, at_u, on) = grounded_is types descriptors (Concrete j) i g in
          sym is ∙ (h.below j).1 (i, record { ground = u; at = at_u; is = on; below = below_created types descriptors i j o g.below }),
    )

-- the indices of the marked types are those of the types that structs ground
pub marked_decided : (types now : List SubType) (grounds : List Ground) (s : Bool) (marked : List ℕ) → types ≡ now → IsOrderly types
    → AreGrounds types grounds → marked ≡ indices_where (is_marked types grounds s) 0 (length types)
    → (descriptors : Bool) (test : ℕ → Bool) → DecidesGrounded now descriptors s test → marked ≡ indices_where test 0 (length now)
marked_decided types now grounds s marked view o h listed descriptors test decides =
    let decided : DecidesGrounded types descriptors s test = subst (λ xs. DecidesGrounded xs descriptors s test) (sym view) decides in
    let each : (j : ℕ) → 0 ≤ j → j < 0 + length types → is_marked types grounds s j ≡ test j = λ j least less.
    let known = concrete_grounded types types grounds descriptors j (below_at grounds j) refl o h refl in
    same_from_decides {P = IsGroundedByStructs types descriptors (Concrete j) × IsTrue (is_shared_at types s j)}
    (is_marked types grounds s j) (test j) (
      (λ on. let (a, b) = both (below_at grounds j) (is_shared_at types s j) on in (known.0 a, b)),
      (λ (a, b). both_are (below_at grounds j) (is_shared_at types s j) (known.1 a) b),
    )
    (decided j (omega (arith, less))) in
    subst (λ (xs : List SubType). marked ≡ indices_where test 0 (length xs)) view (listed ∙ where_same (is_marked types grounds s) test 0
    (length types) each)

-- the indices of the marked direct subtypes are those of the direct subtypes that structs ground
pub family_decided : (types now : List SubType) (grounds : List Ground) (index : ℕ) (listed : List ℕ) → types ≡ now → IsOrderly types
    → AreGrounds types grounds → listed ≡ indices_where (is_marked_below types grounds index) 0 (length types)
    → (descriptors : Bool) (test : ℕ → Bool) → DecidesGroundedBelow now descriptors index test
    → listed ≡ indices_where test 0 (length now)
family_decided types now grounds index listed view o h are descriptors test decides =
    let decided : DecidesGroundedBelow types descriptors index test = subst (λ xs. DecidesGroundedBelow xs descriptors index test)
    (sym view) decides in
    let each : (j : ℕ) → 0 ≤ j → j < 0 + length types → is_marked_below types grounds index j ≡ test j = λ j least less.
    let known = concrete_grounded types types grounds descriptors j (below_at grounds j) refl o h refl in
    same_from_decides {P = IsGroundedByStructs types descriptors (Concrete j) × IsTrue (is_directly_below_at types index j)}
    (is_marked_below types grounds index j) (test j) (
      (λ on. let (a, b) = both (below_at grounds j) (is_directly_below_at types index j) on in (known.0 a, b)),
      (λ (a, b). both_are (below_at grounds j) (is_directly_below_at types index j) (known.1 a) b),
    )
    (decided j (omega (arith, less))) in
    subst (λ (xs : List SubType). listed ≡ indices_where test 0 (length xs)) view
    (are ∙ where_same (is_marked_below types grounds index) test 0 (length types) each)

-- an exact type is grounded if it is a grounding struct type and creation is exact
exact_grounded : (types now : List SubType) (grounds : List Ground) (j : ℕ) (said : Bool) → types ≡ now → IsOrderly types
    → AreGrounds types grounds → own_at grounds j ≡ said → (t : SubType) → slice_get types j ≡ Some t
    → IsTrue said ↔ IsGroundedByStructs now true (Exact j)
exact_grounded types now grounds j said view o h is t at =
    let own : said ≡ is_ground t = sym is ∙ h.own j t at in
    subst (λ xs. IsTrue said ↔ IsGroundedByStructs xs true (Exact j)) view (
      λ marks. (j, grounded_at types true (Exact j) j t at (sym own ∙ marks) itself),
      λ (i, g).
          let (u, at_u, on) = grounded_is types true (Exact j) i g in
          let same : i ≡ j = by_cases_from_below types o (Exact i) (Exact j) g.below in
          let one : t ≡ u = same_Some t u (sym at ∙ subst (λ (m : ℕ). slice_get types m ≡ Some u) same at_u) in
          own ∙ ap is_ground one ∙ on,
    )

pub exact_ungrounded : (types : List SubType) (j : ℕ) → IsTrue false ↔ IsGroundedByStructs types false (Exact j)
exact_ungrounded types j = (λ never. cc, λ (i, g). absurd (concrete_not_below_exact types i j g.below))

-- an item that satisfies a test, by its index
any_turn : (p : SubType → Bool) (x : SubType) (xs : List SubType) (b : Bool) → p x ≡ b
    → ((i : ℕ) × (y : SubType) × (slice_get xs i ≡ Some y) × (p y ≡ true) → (i : ℕ) × (y : SubType) × (slice_get (x ∷ xs) i ≡ Some y)
    × (p y ≡ true)) → (list_any p xs ≡ true → (i : ℕ) × (y : SubType) × (slice_get xs i ≡ Some y) × (p y ≡ true))
    → (b || list_any p xs) ≡ true
    → (i : ℕ) × (y : SubType) × (slice_get (x ∷ xs) i ≡ Some y) × (p y ≡ true)
any_turn p x xs true is later rest on = (0, x, refl, is)
any_turn p x xs false is later rest on = later (rest on)

any_at : (p : SubType → Bool) (xs : List SubType) → list_any p xs ≡ true → (i : ℕ) × (y : SubType) × (slice_get xs i ≡ Some y)
    × (p y ≡ true)
any_at p [] on = cc
any_at p (x ∷ xs) on = any_turn p x xs (p x) refl (λ (i, y, at, is). (suc i, y, at, is)) (any_at p xs) on

any_or : (a b : Bool) → b ≡ true → (a || b) ≡ true
any_or true b on = refl
any_or false b on = on

pub at_any : (p : SubType → Bool) (xs : List SubType) (i : ℕ) (y : SubType) → slice_get xs i ≡ Some y → p y ≡ true → list_any p xs ≡ true
at_any p [] i y at on = cc
at_any p (x ∷ xs) zero y at on = let same : x ≡ y = same_Some x y at in let is : p x ≡ true = ap p same ∙ on in rw is refl
at_any p (x ∷ xs) (suc i) y at on = any_or (p x) (list_any p xs) (at_any p xs i y at on)

of_kind : (s : Bool) (t : SubType) → is_ground_of s t ≡ true → (is_ground t ≡ true) × (shared t ≡ s)
of_kind true t on = both (is_ground t) (shared t) on
of_kind false t on = let (p, q) = both (is_ground t) (not (shared t)) on in (p, not_true (shared t) q)

kind_of_ground : (s : Bool) (t : SubType) → is_ground t ≡ true → shared t ≡ s → is_ground_of s t ≡ true
kind_of_ground true t on is = both_are (is_ground t) (shared t) on is
kind_of_ground false t on is = both_are (is_ground t) (not (shared t)) on (ap not is)

struct_of : (inner : CompositeInnerType) (b : AbstractHeapType) → is_inner_ground inner ≡ true → is_abstract_below (kind_of inner) b
    ≡ is_abstract_below heap.Struct b
struct_of (Struct structure) b on = refl
struct_of (Array element) b on = cc
struct_of (Func function) b on = cc

-- an abstract type is grounded if it is above structs of its sharedness and one of them grounds
pub abstract_grounded : (types now : List SubType) (kinds : GroundKinds) (descriptors s : Bool) (b : AbstractHeapType) → types ≡ now
    → IsOrderly types → AreGroundKinds types kinds
    → IsTrue (kind_at kinds s && is_abstract_below heap.Struct b) ↔ IsGroundedByStructs now descriptors (Abstract s b)
abstract_grounded types now kinds descriptors s b view o h =
    subst (λ xs. IsTrue (kind_at kinds s && is_abstract_below heap.Struct b) ↔ IsGroundedByStructs xs descriptors (Abstract s b)) view (
      λ marks.
          let (some, above) = both (kind_at kinds s) (is_abstract_below heap.Struct b) marks in
          let (i, t, at, on) = any_at (is_ground_of s) types (sym (h.each s) ∙ some) in
          let (is, shares) = of_kind s t on in (
            i,
            grounded_at types descriptors (Abstract s b) i t at is
                (created_under types descriptors i s b (t, at, shares, struct_of t.composite_type.inner b is ∙ above)),
          ),
      λ (i, g).
          let (u, at_u, on) = grounded_is types descriptors (Abstract s b) i g in
          let (t, at, shares, below) = under_created types descriptors i s b o g.below in
          let same : t ≡ u = same_Some t u (sym at ∙ at_u) in
          let is : is_ground t ≡ true = ap is_ground same ∙ on in
          both_are (kind_at kinds s) (is_abstract_below heap.Struct b) (h.each s ∙ at_any (is_ground_of s) types i t at
          (kind_of_ground s t is shares)) (sym (struct_of t.composite_type.inner b is) ∙ below),
    )

-- the decision for a heap type, in the form of the code
pub and_on : (k x r : Bool) → k ≡ true → r ≡ x → r ≡ (k && x)
and_on k x r on is = rw on is

pub and_off : (k x r : Bool) → k ≡ false → r ≡ false → r ≡ (k && x)
and_off k x r off is = rw off is

pub abstract_read : (types now : List SubType) (kinds : GroundKinds) (descriptors s : Bool) (b : AbstractHeapType) (h : HeapType) (r : Bool)
    → types ≡ now → IsOrderly types → AreGroundKinds types kinds → h ≡ Abstract s b
    → r ≡ (kind_at kinds s && is_abstract_below heap.Struct b)
    → IsTrue r ↔ IsGroundedByStructs now descriptors h
abstract_read types now kinds descriptors s b h r view o known is read =
    subst (λ v. IsTrue r ↔ IsGroundedByStructs now descriptors v) (sym is)
    (subst (λ v. IsTrue v ↔ IsGroundedByStructs now descriptors (Abstract s b)) (sym read)
    (abstract_grounded types now kinds descriptors s b view o known))

pub entry_inside : (types now : List SubType) (grounds : List Ground) (j : ℕ) → types ≡ now → AreGrounds types grounds → j < length now
    → j < length grounds
entry_inside types now grounds j view known inside =
    let long : length grounds ≡ length types = known.long in
    let same : length types ≡ length now = ap length view in
    omega (arith, long, same, inside)

pub concrete_read : (types now : List SubType) (grounds : List Ground) (descriptors : Bool) (j : ℕ) (h : HeapType) (entry d : Ground)
    → types ≡ now → IsOrderly types → AreGrounds types grounds → h ≡ Concrete j → IsInRange now h → entry ≡ get_or grounds j d
    → IsTrue entry.below ↔ IsGroundedByStructs now descriptors h
concrete_read types now grounds descriptors j h entry d view o known is range read =
    let inside : j < length now = subst (IsInRange now) is range in
    subst (λ v. IsTrue entry.below ↔ IsGroundedByStructs now descriptors v) (sym is)
    (concrete_grounded types now grounds descriptors j entry.below view o known (said_is (λ (ground : Ground). ground.below) grounds j entry
    d (entry_inside types now grounds j view known inside) read))

pub exact_read : (types now : List SubType) (grounds : List Ground) (descriptors : Bool) (j : ℕ) (h : HeapType) (entry d : Ground)
    → types ≡ now → IsOrderly types → AreGrounds types grounds → h ≡ Exact j → IsInRange now h → entry ≡ get_or grounds j d
    → descriptors ≡ true
    → IsTrue entry.own ↔ IsGroundedByStructs now descriptors h
exact_read types now grounds descriptors j h entry d view o known is range read on =
    let inside : j < length now = subst (IsInRange now) is range in
    let (t, at) = stands types j (rw view inside) in
    subst (λ v. IsTrue entry.own ↔ IsGroundedByStructs now descriptors v) (sym is)
    (subst (λ v. IsTrue entry.own ↔ IsGroundedByStructs now v (Exact j)) (sym on)
    (exact_grounded types now grounds j entry.own view o known (said_is (λ (ground : Ground). ground.own) grounds j entry d
    (entry_inside types now grounds j view known inside) read) t at))

pub exact_off : (now : List SubType) (descriptors : Bool) (j : ℕ) (h : HeapType) → h ≡ Exact j → descriptors ≡ false
    → IsTrue descriptors ↔ IsGroundedByStructs now descriptors h
exact_off now descriptors j h is off =
    subst (λ v. IsTrue descriptors ↔ IsGroundedByStructs now descriptors v) (sym is)
    (subst (λ v. IsTrue v ↔ IsGroundedByStructs now v (Exact j)) (sym off) (exact_ungrounded now j))

entry_at : (types now : List SubType) (i : ℕ) (t d : SubType) → types ≡ now → i < length now → t ≡ get_or types i d
    → slice_get now i ≡ Some t
entry_at types now i t d view inside read =
    let same : length types ≡ length now = ap length view in
    subst (λ xs. slice_get xs i ≡ Some t) view (slice_get-get_or types i d (omega (arith, same, inside)) ∙ ap Some (sym read))

-- a struct type whose fields all have defaults grounds each supertype of its created reference
pub grounds_where_below : (types now : List SubType) (descriptors r : Bool) (h : HeapType) (i : ℕ) (t d : SubType) → types ≡ now
    → i < length now → t ≡ get_or types i d → is_ground t ≡ true
    → IsTrue r ↔ IsBelow now (if descriptors then Exact i else Concrete i) h → IsTrue r ↔ IsGroundedBy now descriptors h i
grounds_where_below types now descriptors r h i t d view inside read on below =
    (λ holds. grounded_at now descriptors h i t (entry_at types now i t d view inside read) on (below.0 holds), λ g. below.1 g.below)

-- any other type grounds nothing
pub grounds_nothing : (types now : List SubType) (descriptors : Bool) (h : HeapType) (i : ℕ) (t d : SubType) → types ≡ now → i < length now
    → t ≡ get_or types i d → is_ground t ≡ false
    → IsTrue false ↔ IsGroundedBy now descriptors h i
grounds_nothing types now descriptors h i t d view inside read off = (
  λ never. cc,
  λ g.
      let (u, at, on) = grounded_is now descriptors h i g in
      let same : t ≡ u = same_Some t u (sym (entry_at types now i t d view inside read) ∙ at) in
      sym off ∙ ap is_ground same ∙ on,
)

-- a heap type that none of the types grounds is not grounded by structs
pub grounded_by_none : (types now : List SubType) (descriptors : Bool) (h : HeapType) (count : ℕ) → types ≡ now → length types ≤ count
    → ((i : ℕ) → i < count → IsGroundedBy now descriptors h i → ⊥)
    → IsTrue false ↔ IsGroundedByStructs now descriptors h
grounded_by_none types now descriptors h count view all none = (
  λ never. cc,
  λ (i, g).
      let (u, at, on) = grounded_is now descriptors h i g in
      let same : length types ≡ length now = ap length view in
      let inside : i < length now = slice_get_within now i u at in
      absurd (none i (omega (arith, same, all, inside)) g),
)
