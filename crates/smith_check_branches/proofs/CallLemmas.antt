-- Calls of functions, and what they return from.
use Rattle.smith_check_branches.proofs.Common.{[], address, All, all_in_range, ap, append_assoc, AreValid, BodyContext, Bool, Concrete}
use Rattle.smith_check_branches.proofs.Common.{false, false≢true, func_same, FuncType, Held, IsBelow, IsFuncAt, IsTrue, IsValBelow}
use Rattle.smith_check_branches.proofs.Common.{IsValInRange, length, List, MatchBool, nullable_to, Pops, PopsNothing, Ref, RefType}
use Rattle.smith_check_branches.proofs.Common.{some_same, subst, SubType, sym, true, ValType, values, values_append, with_labels, zip_join}
use Rattle.smith_check_branches.proofs.Common.{ℕ, ◌++◌, ◌<◌, ◌↔◌, ◌∙◌, ◌∷◌, ◌≡◌}
use Rattle.std.proofs.lemmas.Option.{slice_get_within}
use Rattle.std.specs.List.{AllZip}
use Rattle.smith_types.proofs.RangeLemmas.{below_stands}
use Rattle.smith_types.specs.Syntax.entity_type.TableType.{TableType}
use Rattle.smith_instr.specs.InstrTypes.{IsFunctionTable, ReturnsFrom}
use Rattle.smith_check_operands.specs.Applies.{LeavesBy}
use Rattle.smith_check_operands.specs.Fits.{AreMatched}
use Rattle.smith_check_operands.specs.Scopes.{IsScope}
use Rattle.smith_check_operands.proofs.ApplyLemmas.{nothing_below}
use Rattle.smith_check_branches.specs.Tables.{AreFunctions, functions}

pub function_table_at : (context : BodyContext) (labels : List (List ValType)) (index : ℕ) (wide : Bool)
    → IsFunctionTable context index wide → IsFunctionTable (with_labels context labels) index wide
function_table_at context labels index wide t = record {
  table = t.table;
  there = t.there;
  addressed = t.addressed;
  shared = t.shared;
  of_functions = t.of_functions;
}

pub function_table_from : (context : BodyContext) (labels : List (List ValType)) (index : ℕ) (wide : Bool)
    → IsFunctionTable (with_labels context labels) index wide → IsFunctionTable context index wide
function_table_from context labels index wide t = record {
  table = t.table;
  there = t.there;
  addressed = t.addressed;
  shared = t.shared;
  of_functions = t.of_functions;
}

-- a table has addresses of one width
pub same_width : (context : BodyContext) (labels : List (List ValType)) (index : ℕ) (a b : Bool)
    → IsFunctionTable (with_labels context labels) index a → IsFunctionTable context index b → a ≡ b
same_width context labels index a b t u =
    t.addressed ∙ ap (λ (ty : TableType). ty.table64) (some_same t.table u.table (sym t.there ∙ u.there)) ∙ sym u.addressed

matched : (types : List SubType) (these others : List ValType) → AreMatched types these others
    → AllZip (IsValBelow types) these others
matched types [] [] m = tt
matched types [] (y ∷ ys) m = absurd m
matched types (x ∷ xs) [] m = absurd m
matched types (x ∷ xs) (y ∷ ys) (first, m) = (first, matched types xs ys m)

matched_from : (types : List SubType) (these others : List ValType) → AllZip (IsValBelow types) these others
    → AreMatched types these others
matched_from types [] [] m = tt
matched_from types [] (y ∷ ys) m = absurd m
matched_from types (x ∷ xs) [] m = absurd m
matched_from types (x ∷ xs) (y ∷ ys) (first, m) = (first, matched_from types xs ys m)

pub matched_both : (types : List SubType) (these others : List ValType)
    → AreMatched types these others ↔ AllZip (IsValBelow types) these others
matched_both types these others = (matched types these others, matched_from types these others)

-- operands below another, which was taken off first
pub left_below : (context : BodyContext) (taken : List ValType) (top : ValType) (old middle new : Held) (there : Bool)
    → Pops context (values (top ∷ [])) old middle
    → MatchBool there (LeavesBy context (values taken) middle new) (PopsNothing context (values taken) middle)
    → MatchBool there (LeavesBy context (values (taken ++ top ∷ [])) old new) (PopsNothing context (values (taken ++ top ∷ [])) old)
left_below context taken top old middle new true pops by =
    let (rest, before, covered, takes) = by.some in
    let p = pops.sound before covered in
    subst (λ os. LeavesBy context os old new) (sym (values_append taken (top ∷ [])))
    (record {
      known = by.known;
      dead = by.dead;
      some = (
        rest,
        p.before,
        p.covered,
        record {
          taken = takes.taken ++ p.takes.taken;
          is = p.takes.is ∙ ap (λ xs. xs ++ p.takes.taken) takes.is ∙ append_assoc rest takes.taken p.takes.taken;
          accepted = zip_join (IsBelow context.types) takes.taken p.takes.taken (values taken) (values (top ∷ [])) takes.accepted
              p.takes.accepted;
        },
      );
    })
left_below context taken top old middle new false pops never =
    subst (λ os. PopsNothing context os old) (sym (values_append taken (top ∷ [])))
    (nothing_below context (values taken) (values (top ∷ [])) old middle pops never)

-- the parameters of a function refer to types that exist, and its results are valid
pub params_in_range : (context : BodyContext) (types : List SubType) (index : ℕ) (function : FuncType) (params : List ValType)
    → IsScope context → types ≡ context.types → IsFuncAt types index function → params ≡ function.params
    → All (IsValInRange context.types) params
params_in_range context types index function params scope same at is =
    subst (λ ts. All (IsValInRange context.types) ts) (sym is)
    (all_in_range context function.params (scope.params_valid index function (subst (λ ts. IsFuncAt ts index function) same at)))

pub results_are_valid : (context : BodyContext) (types : List SubType) (index : ℕ) (function : FuncType) (results : List ValType)
    → IsScope context → types ≡ context.types → IsFuncAt types index function → results ≡ function.results → AreValid context results
results_are_valid context types index function results scope same at is =
    subst (λ ts. AreValid context ts) (sym is)
    (scope.results_valid index function (subst (λ ts. IsFuncAt ts index function) same at))

-- a reference to a function of a type that exists
pub reference_in_range : (context : BodyContext) (types : List SubType) (index : ℕ) (function : FuncType) (value : ValType)
    → types ≡ context.types → IsFuncAt types index function → value ≡ nullable_to (Concrete index) → IsValInRange context.types value
reference_in_range context types index function value same at is =
    let (ty, there, inner) = at in
    let within : index < length context.types = subst (λ ts. index < length ts) same (slice_get_within types index ty there) in
    subst (λ v. IsValInRange context.types v) (sym is) within

any_address : (types : List SubType) (wide : Bool) → IsValInRange types (address wide)
any_address types true = tt
any_address types false = tt

pub address_in_range : (types : List SubType) (wide : Bool) (value : ValType) → value ≡ address wide → IsValInRange types value
address_in_range types wide value is = subst (λ v. IsValInRange types v) (sym is) (any_address types wide)

-- a test of results, read as what it decides
pub matched_as : (types : List SubType) (read results others : List ValType) (b : Bool) → read ≡ results
    → IsTrue b ↔ AreMatched types read others → IsTrue b ↔ AllZip (IsValBelow types) results others
matched_as types read results others b is test = (
  λ h. matched types results others (subst (λ rs. AreMatched types rs others) is (test.0 h)),
  λ m. test.1 (subst (λ rs. AreMatched types rs others) (sym is) (matched_from types results others m)),
)

pub returns_as : (context : BodyContext) (labels : List (List ValType)) (function : FuncType) (b : Bool) → b ≡ true
    → IsTrue b ↔ ReturnsFrom context function → ReturnsFrom (with_labels context labels) function
returns_as context labels function b is test = test.0 is

pub never_returns : (context : BodyContext) (labels : List (List ValType)) (types : List SubType) (index : ℕ) (function other : FuncType)
    (b : Bool) → b ≡ false → IsTrue b ↔ ReturnsFrom context function → types ≡ context.types → IsFuncAt types index function
    → IsFuncAt context.types index other → ReturnsFrom (with_labels context labels) other → ⊥
never_returns context labels types index function other b is test same there at returns =
    false≢true (sym is ∙ test.1 (subst (λ f. ReturnsFrom context f)
    (func_same context.types index other function at (subst (λ ts. IsFuncAt ts index function) same there)) returns))

-- references to functions refer to types that exist
pub functions_stand : (types : List SubType) (element : RefType) → AreFunctions types element → IsValInRange types (Ref element)
functions_stand types element f = below_stands types element.heap_type (functions f.0).heap_type f.1.heap tt
