use Rattle.std.proofs.Common.{◌≡◌, ℕ, zero, suc, ◌<◌, ◌≤◌, List, [], ◌∷◌, get_or, length, refl, sym, ap, ◌∙◌, subst, arith}
use Rattle.std.specs.Prelude.{All, IfSome, Option, None, Some, slice_get, slice_index}
use Rattle.std.proofs.lemmas.List.Elements.{All-from_recursion}
use Rattle.std.proofs.lemmas.Option.{get_or_from_slice_get}
use Rattle.smith_types.specs.ExampleContexts.{context_types}
use Rattle.smith_types.specs.ExampleEntities.{constant_global, variable_global}
use Rattle.smith_types.specs.Subtyping.{IsValInRange}
use Rattle.smith_types.specs.Syntax.entity_type.GlobalType.{GlobalType}
use Rattle.smith_types.specs.Syntax.value_type.ValType.{ValType}
use Rattle.smith_types.specs.Syntax.value_type.ValType.TheVariants.{I32, I64}
use Rattle.smith_draw_consts.specs.KeptOffers.{readable}
use Rattle.smith_draw_consts.specs.declared.classes.Classes.{Classes}
use Rattle.smith_draw_examples.specs.ExampleKeptOffers.{AreGlobalClasses, HasClasses}
use Rattle.smith_draw_examples.proofs.kept_offers.classes.Goals as goal

abbrev globals : List GlobalType
globals = constant_global I32 ∷ variable_global I32 ∷ constant_global I32 ∷ []

-- the class of each of the first three globals has its type
AreEach : List (Option ValType) → List ℕ → Type 0
AreEach kinds of = (i : ℕ) (d : GlobalType) → i < length of → slice_get kinds (slice_index of i) ≡ Some (readable (get_or globals i d))

-- such classes are correct
classes_of : (classes : Classes) (kinds : List (Option ValType)) (of : List ℕ) → HasClasses classes kinds of → length of ≤ 3
    → length kinds ≤ length of → All (λ kind. IfSome kind (IsValInRange context_types)) kinds → AreEach kinds of → AreGlobalClasses classes
unfolding AreEach
classes_of classes kinds of has inside few exist each =
    let kinds_of : length classes.kinds ≡ length kinds = ap length has.0 in
    let items : length classes.of ≡ length of = ap length has.1 in
    record {
      seen = omega (arith, items, inside);
      few = omega (arith, kinds_of, items, few);
      in_range = subst (All (λ (kind : Option ValType). IfSome kind (IsValInRange context_types))) (sym has.0) exist;
      same = λ i x within at.
          let seen : i < length of = omega (arith, within, items) in
          ap (λ (all : List (Option ValType)). slice_get all (slice_index classes.of i)) has.0
          ∙ ap (λ (all : List ℕ). slice_get kinds (slice_index all i)) has.1
          ∙ each i x seen ∙ ap (λ (global : GlobalType). Some (readable global)) (get_or_from_slice_get globals i x x at);
    }

none_read : AreEach [] []
unfolding AreEach
none_read i d inside = absurd (omega (arith, inside))

all_read : AreEach (Some I32 ∷ None ∷ []) (0 ∷ 1 ∷ 0 ∷ [])
unfolding AreEach
all_read zero d inside = refl
all_read (suc zero) d inside = refl
all_read (suc (suc zero)) d inside = refl
all_read (suc (suc (suc i))) d inside = absurd (omega (arith, inside))

two_classes : AreEach (Some I32 ∷ None ∷ Some I32 ∷ []) (0 ∷ 1 ∷ 2 ∷ [])
unfolding AreEach
two_classes zero d inside = refl
two_classes (suc zero) d inside = refl
two_classes (suc (suc zero)) d inside = refl
two_classes (suc (suc (suc i))) d inside = absurd (omega (arith, inside))

-- what correct classes say of one global
class_at : (classes : Classes) (kinds : List (Option ValType)) (of : List ℕ) (i : ℕ) (global : GlobalType) → HasClasses classes kinds of
    → AreGlobalClasses classes → i < length of → slice_get globals i ≡ Some global → slice_get kinds (slice_index of i)
    ≡ Some (readable global)
class_at classes kinds of i global has are inside at =
    ap (λ (all : List ℕ). slice_get kinds (slice_index all i)) (sym has.1)
    ∙ ap (λ (all : List (Option ValType)). slice_get all (slice_index classes.of i)) (sym has.0) ∙ are.same i global
    (omega (arith, inside, ap length has.1)) at

pub returns-clause-nothing_read : goal.returns-clause-nothing_read
returns-clause-nothing_read c = λ classes has. classes_of classes [] [] has (omega arith) (omega arith)
    (All-from_recursion (λ (kind : Option ValType). IfSome kind (IsValInRange context_types)) [] tt) none_read

pub returns-clause-all_globals : goal.returns-clause-all_globals
returns-clause-all_globals c = λ classes has.
    classes_of classes (Some I32 ∷ None ∷ []) (0 ∷ 1 ∷ 0 ∷ []) has (omega arith) (omega arith)
    (All-from_recursion (λ (kind : Option ValType). IfSome kind (IsValInRange context_types)) (Some I32 ∷ None ∷ []) (tt, (tt, tt)))
    all_read

pub returns-clause-two_classes_of_one_type : goal.returns-clause-two_classes_of_one_type
returns-clause-two_classes_of_one_type c = λ classes has.
    classes_of classes (Some I32 ∷ None ∷ Some I32 ∷ []) (0 ∷ 1 ∷ 2 ∷ []) has (omega arith) (omega arith)
    (All-from_recursion (λ (kind : Option ValType). IfSome kind (IsValInRange context_types)) (Some I32 ∷ None ∷ Some I32 ∷ [])
    (tt, (tt, (tt, tt)))) two_classes

pub returns-clause-a_mutable_global_in_a_class_of_numbers : goal.returns-clause-a_mutable_global_in_a_class_of_numbers
returns-clause-a_mutable_global_in_a_class_of_numbers c = λ classes has are.
    let wrong : Some (Some I32) ≡ Some None = class_at classes (Some I32 ∷ []) (0 ∷ 0 ∷ []) 1 (variable_global I32) has are (omega arith)
    refl in
    cc

pub returns-clause-an_immutable_global_among_the_mutable : goal.returns-clause-an_immutable_global_among_the_mutable
returns-clause-an_immutable_global_among_the_mutable c = λ classes has are.
    let wrong : Some None ≡ Some (Some I32) = class_at classes (None ∷ []) (0 ∷ []) 0 (constant_global I32) has are (omega arith) refl in
    cc

pub returns-clause-a_class_of_another_type : goal.returns-clause-a_class_of_another_type
returns-clause-a_class_of_another_type c = λ classes has are.
    let wrong : Some (Some I64) ≡ Some (Some I32) = class_at classes (Some I64 ∷ []) (0 ∷ []) 0 (constant_global I32) has are (omega arith)
    refl in
    cc

pub returns-clause-a_class_that_does_not_exist : goal.returns-clause-a_class_that_does_not_exist
returns-clause-a_class_that_does_not_exist c = λ classes has are.
    let wrong : None ≡ Some (Some I32) = class_at classes (Some I32 ∷ []) (1 ∷ []) 0 (constant_global I32) has are (omega arith) refl in
    cc

pub returns-clause-a_class_of_no_global : goal.returns-clause-a_class_of_no_global
returns-clause-a_class_of_no_global c = λ classes has are.
    let kinds : length classes.kinds ≡ 2 = ap length has.0 in
    let items : length classes.of ≡ 1 = ap length has.1 in
    omega (arith, are.few, kinds, items)

pub returns-clause-more_globals_than_exist : goal.returns-clause-more_globals_than_exist
returns-clause-more_globals_than_exist c = λ classes has are.
    let items : length classes.of ≡ 4 = ap length has.1 in
    let seen : length classes.of ≤ 3 = are.seen in
    omega (arith, seen, items)
