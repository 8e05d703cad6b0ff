-- Unshared functions may be items of element segments.
use Rattle.smith_draw_contents.proofs.Common.{[], All, All-nil, All-weaker, ap, arith, Bool, chosen_at, chosen_of, cond, cond_both, Config}
use Rattle.smith_draw_contents.proofs.Common.{Context, eqb-true, Error, false, features_of, GivesNoFloat, grow_least, IfOk, inl, inr}
use Rattle.smith_draw_contents.proofs.Common.{IsPassing, IsTrue, length, List, ltb-false, nat_le, not, places_from, places_pass}
use Rattle.smith_draw_contents.proofs.Common.{recursion_from_All, Ref, refl, RefType, Result, slice_get, Some, subst, SubType, suc, sym}
use Rattle.smith_draw_contents.proofs.Common.{true, ValType, ℕ, ◌&&◌, ◌∙◌, ◌∷◌, ◌≡◌}
use Rattle.std.proofs.Common.{eqb, ltb}
use Rattle.std.specs.List.{AllByRecursion as Each}
use Rattle.std.proofs.Math.Bool.{or-false}
use Rattle.std.proofs.lemmas.Bool.{eqb-false, not-false}
use Rattle.std.proofs.lemmas.List.Elements.{All-from_recursion}
use Rattle.smith_bytes.proofs.GrownLemmas.{grow_all}
use Rattle.smith_types.specs.Entities.{IsFuncTypeIndex}
use Rattle.smith_types.specs.Expressions.{created, function_reference, reference_to}
use Rattle.smith_types.specs.Flags.{IsElementTypeEnabled, funcref}
use Rattle.smith_types.specs.Syntax.Kinds.{kind_of, shared}
use Rattle.smith_types.specs.Segments.{IsItem}
use Rattle.smith_types.specs.Subtyping.{IsBelow, itself, by_step, IsValBelow}
use Rattle.smith_types.specs.Syntax.segments.Elements.TheVariants.{Functions}
use Rattle.smith_types.specs.Syntax.value_type.AbstractHeapType.TheVariants as heap
use Rattle.smith_types.specs.Syntax.value_type.HeapType.{HeapType}
use Rattle.smith_types.specs.Syntax.value_type.HeapType.TheVariants.{Abstract, Concrete, Exact}
use Rattle.smith_draw_types.proofs.FloatLemmas.{stands_in}
use Rattle.smith_draw_contents.specs.DrawnElements.{AreItemsFit}
use Rattle.smith_draw_contents.specs.ElementSegments.{is_plain_func, is_funcref, is_unshared_type, unshared_funcs, are_functions_at}
use Rattle.smith_draw_contents.specs.ElementSegments.{chosen_functions_at, functions_at}

plain_is : (heap_type : HeapType) → is_plain_func heap_type ≡ true → heap_type ≡ Abstract false heap.Func
plain_is (Abstract false heap.Func) on = refl
plain_is (Abstract true heap.Func) on = cc
plain_is (Abstract is_shared _) on = cc
plain_is (Concrete index) on = cc
plain_is (Exact index) on = cc

funcref_by : (nullable : Bool) (heap_type : HeapType) → (nullable && is_plain_func heap_type) ≡ true
    → record { nullable = nullable; heap_type = heap_type } ≡ funcref
funcref_by true heap_type on = ap (λ (one : HeapType). record { nullable = true; heap_type = one }) (plain_is heap_type on)
funcref_by false heap_type on = cc

funcref_is : (ty : RefType) → is_funcref ty ≡ true → ty ≡ funcref
funcref_is ty on = funcref_by ty.nullable ty.heap_type on

-- without reference types items have the type funcref
funcref_alone : (ty : RefType) (references : Bool) → references ≡ false → ((ty ≡ funcref → ⊥) → references ≡ true) → (b : Bool)
    → is_funcref ty ≡ b → b ≡ true
funcref_alone ty references off enabled true is = refl
funcref_alone ty references off enabled false is =
    absurd (both (enabled (λ same. differ (subst (λ (one : RefType). is_funcref one ≡ false) same is))))
  where
    both : references ≡ true → ⊥
    both on = cc

    differ : true ≡ false → ⊥
    differ never = cc

listed_by : (ty : RefType) (references : Bool) (bytes after : List ℕ) (drawn : Bool × List ℕ) → ((ty ≡ funcref → ⊥) → references ≡ true)
    → cond (not references) (true, bytes) (cond (is_funcref ty) drawn (false, bytes)) ≡ (true, after) → is_funcref ty ≡ true
listed_by ty false bytes after drawn enabled listed = funcref_alone ty false refl enabled (is_funcref ty) refl
listed_by ty true bytes after drawn enabled listed = of_funcref (is_funcref ty) listed
  where
    of_funcref : (b : Bool) → cond b drawn (false, bytes) ≡ (true, after) → b ≡ true
    of_funcref true e = refl
    of_funcref false e = ap (λ (r : Bool × List ℕ). r.0) e

-- items are listed as functions only if their type is funcref
pub functions_listed : (config : Config) (ty : RefType) (bytes after : List ℕ) (listed : Bool)
    → IsElementTypeEnabled (features_of config) ty → are_functions_at config ty bytes ≡ (listed, after) → listed ≡ true
    → is_funcref ty ≡ true
unfolding are_functions_at
functions_listed config ty bytes after listed enabled drawn on = listed_by ty config.reference_types_enabled bytes after _ enabled
    (rw on at drawn)

off_by : (b : Bool) → (not b) ≡ true → b ≡ false
off_by true on = cc
off_by false on = refl

-- whether an existing type is shared
unshared_is : (types : List SubType) (index : ℕ) (t : SubType) (b : Bool) → slice_get types index ≡ Some t → is_unshared_type types index
    ≡ b → not t.composite_type.shared ≡ b
unshared_is types index t b stands is = sym (or-false (not t.composite_type.shared)) ∙ (rw stands at is)

module _ (context : Context) (index : ℕ) (t : SubType) (stands : slice_get context.types index ≡ Some t)
    (off : t.composite_type.shared ≡ false) (kind : kind_of t.composite_type.inner ≡ heap.Func) where
  concrete_below : IsBelow context.types (Concrete index) (Abstract false heap.Func)
  concrete_below = by_step {b = Abstract false heap.Func} (t, stands, off, kind) itself

  exact_below : IsBelow context.types (Exact index) (Abstract false heap.Func)
  exact_below = by_step {b = Concrete index} refl concrete_below

  -- a reference to an unshared function is below funcref
  function_below : (function : ℕ) → IsValBelow context.types (function_reference context function index) (Ref funcref)
  function_below function =
      let Below = λ (value : ValType). IsValBelow context.types value (Ref funcref) in
      cond_both (nat_le context.imported_funcs function) (created context index) (reference_to (Concrete index)) Below
      (λ defined. record {
        heap = cond_both context.features.custom_descriptors (Exact index) (Concrete index)
            (λ (one : HeapType). IsBelow context.types one (Abstract false heap.Func)) (λ on. exact_below) (λ no. concrete_below);
        nullable =
            λ is. refl;
      })
      (λ imported. record { heap = concrete_below; nullable = λ is. refl })

unshared_item : (context : Context) (ty : RefType) → All (IsFuncTypeIndex context.types) context.funcs → is_funcref ty ≡ true
    → (function : ℕ) → IsPassing (is_unshared_type context.types) context.funcs function → IsItem context ty function
unshared_item context ty valid plain function h =
    let (signature, (t, stands, inner)) = stands_in (IsFuncTypeIndex context.types) context.funcs function h.item h.stands valid in
    let off = off_by t.composite_type.shared (unshared_is context.types h.item t true stands h.passes) in
    let below = function_below context h.item t stands off (ap kind_of inner) function in (
      h.item,
      h.stands,
      subst (λ (one : RefType). IsValBelow context.types (function_reference context function h.item) (Ref one))
          (sym (funcref_is ty plain)) below,
    )

unshared_items : (context : Context) (ty : RefType) → All (IsFuncTypeIndex context.types) context.funcs → is_funcref ty ≡ true
    → All (IsItem context ty) (unshared_funcs context.types context.funcs)
unshared_items context ty valid plain =
    let test = is_unshared_type context.types in
    All-weaker (IsPassing test context.funcs) (IsItem context ty) (unshared_item context ty valid plain)
    (unshared_funcs context.types context.funcs) (places_pass test context.funcs)

-- a function of a shared type
abbrev IsShared : List SubType → ℕ → Type 0
IsShared types index = (t : SubType) × (slice_get types index ≡ Some t) × IsTrue (shared t)

skipped : (b : Bool) (n : ℕ) (places : List ℕ) → length (cond b (n ∷ places) places) ≡ 0 → (b ≡ false) × (length places ≡ 0)
skipped true n places none = absurd (omega (arith, none))
skipped false n places none = (refl, none)

each_shared : (types : List SubType) (n : ℕ) (funcs : List ℕ) → Each (IsFuncTypeIndex types) funcs
    → length (places_from (is_unshared_type types) n funcs) ≡ 0 → Each (IsShared types) funcs
each_shared types n [] valid none = tt
each_shared types n (index ∷ funcs) valid none =
    let (off, others) = skipped (is_unshared_type types index) n (places_from (is_unshared_type types) (suc n) funcs) none in
    let (signature, (t, stands, inner)) = valid.0 in (
      (t, stands, not-false t.composite_type.shared (unshared_is types index t false stands off)),
      each_shared types (suc n) funcs valid.1
          others,
    )

-- if no function is listed as unshared, each is shared
all_shared : (types : List SubType) (funcs : List ℕ) → All (IsFuncTypeIndex types) funcs → length (unshared_funcs types funcs) ≡ 0
    → All (IsShared types) funcs
all_shared types funcs valid none = All-from_recursion (IsShared types) funcs
    (each_shared types 0 funcs (recursion_from_All (IsFuncTypeIndex types) funcs valid) none)

-- drawn functions fit
pub functions_fit : (config : Config) (context : Context) (ty : RefType) (most : ℕ) (bytes : List ℕ)
    → All (IsFuncTypeIndex context.types) context.funcs → is_funcref ty ≡ true → IfOk (functions_at config context most bytes)
    (λ drawn. AreItemsFit config context ty (Functions drawn.0))
unfolding functions_at chosen_functions_at
functions_fit config context ty most bytes valid plain =
    let funcs = unshared_funcs context.types context.funcs in
    let Fit = λ (r : Result (List ℕ × List ℕ) Error). IfOk r (λ drawn. AreItemsFit config context ty (Functions drawn.0)) in
    cond_both (eqb (length funcs) 0) _ _ Fit
    (λ none. record {
      valid = All-nil (IsItem context ty);
      enough = inr (refl, all_shared context.types context.funcs valid (eqb-true (length funcs) 0 none));
      floats =
          λ calm. All-nil (All GivesNoFloat);
    })
    (λ some. cond_both (ltb most config.min_elements) _ _ Fit (λ lacks. tt) (λ within.
    let apart = eqb-false (length funcs) 0 some in
    let ordered = ltb-false most config.min_elements within in
    record {
      valid = grow_all (IsItem context ty) (λ _. chosen_at 0 funcs) (λ made rest. chosen_of (IsItem context ty) 0 funcs rest (omega arith)
          (unshared_items context ty valid plain)) config.min_elements most [] bytes (All-nil (IsItem context ty));
      enough = inl (grow_least (λ _. chosen_at 0 funcs) config.min_elements most [] bytes (omega arith));
      floats = λ calm. All-nil (All GivesNoFloat);
    }))
