-- Types of the examples.
use Rattle.std.proofs.Common.{◌≡◌, ◌∙◌, ℕ, zero, suc, List, [], ◌∷◌, Some, true, ap, arith, refl, sym}
use Rattle.std.specs.Prelude.{slice_get}
use Rattle.std.proofs.lemmas.List.Elements.{All-head, All-tail}
use Rattle.std.proofs.lemmas.Option.{same_Some}
use Rattle.smith_types.specs.Syntax.composite_type.CompositeInnerType.TheVariants.{Func}
use Rattle.smith_types.specs.Syntax.composite_type.FuncType.{FuncType}
use Rattle.smith_types.specs.Syntax.composite_type.SubType.{SubType}
use Rattle.smith_types.specs.Entities.{IsFuncAt}
use Rattle.smith_types.specs.ExampleFeatures.{usual_features}
use Rattle.smith_types.specs.ExampleTypes.{final_type, plain_func, range}
use Rattle.smith_types.specs.Groups.{space_of}
use Rattle.smith_types.specs.ValidTypes.{AreTypesValid, IsGroupValid}
use Rattle.smith_check_types.specs.Renamed.{renamed}
use Rattle.smith_check_types.specs.TypeSections.{IsTypeSectionValid, canonical_groups, canonical_index}
use Rattle.smith_check_module.specs.Contexts.{types_in}
use Rattle.smith_check.specs.ExamplePrograms.{does_nothing}
use Rattle.smith_check.proofs.ExampleLemmas.{does_nothing_valid}
use Rattle.smith_check_examples.specs.ExampleSyntax.{below_first, final_and_below}

-- the types of the example by canonical indices are final
abbrev types_by : List ℕ → List SubType
types_by indices = (space_of (canonical_groups indices final_and_below)).types

all_final : (indices : List ℕ) (i : ℕ) (t : SubType) → slice_get (types_by indices) i ≡ Some t → t.is_final ≡ true
all_final indices zero t at =
    sym (ap (λ (u : SubType). u.is_final) (same_Some (renamed (canonical_index indices) (final_type plain_func)) t at))
all_final indices (suc zero) t at =
    sym (ap (λ (u : SubType). u.is_final) (same_Some (renamed (canonical_index indices) below_first) t at))
all_final indices (suc (suc i)) t at = absurd (cc at)

-- so none is below another
pub none_below_final : (indices : List ℕ) → AreTypesValid usual_features (space_of (canonical_groups indices final_and_below)) → ⊥
none_below_final indices valid =
    let P = IsGroupValid usual_features (types_by indices) in
    let second = All-head P (range 1 2) [] (All-tail P (range 0 1) (range 1 2 ∷ []) valid.groups) in
    let member = second.members 1 (renamed (canonical_index indices) below_first) (omega arith) (omega arith) refl in
    let (u, at, below) = member.declared (canonical_index indices 0) refl in
    cc (sym (all_final indices (canonical_index indices 0) u at) ∙ below.not_final)

-- the type of functions without parameters and results is a valid type section
pub function_types : IsTypeSectionValid usual_features does_nothing.types
function_types = record {
  scope = does_nothing_valid.scope;
  indices = does_nothing_valid.indices;
  canonical = does_nothing_valid.canonical;
  valid = does_nothing_valid.types;
}

-- each function type of that section is without parameters and results
pub plain_at : (indices : List ℕ) (index : ℕ) (function : FuncType) → IsFuncAt (types_in indices does_nothing) index function
    → record { params = []; results = [] } ≡ function
plain_at indices zero function (t, at, own) =
    let same : plain_func ≡ Func function =
    ap (λ (u : SubType). u.composite_type.inner) (same_Some (final_type plain_func) t at) ∙ own in
    cc same
plain_at indices (suc index) function (t, at, own) = cc at
