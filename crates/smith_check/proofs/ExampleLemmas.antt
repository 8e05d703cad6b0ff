-- The modules of the examples.
use Rattle.smith_check.proofs.Common.{[], All-nil, ap, AreSectionsValid, AreTypesValid, arith, canonical_groups, canonical_index, FuncType}
use Rattle.smith_check.proofs.Common.{I32, Instr, IsBodyTyped, IsFuncAt, List, refl, same_Some, slice_get, Some, space_of, subst, SubType}
use Rattle.smith_check.proofs.Common.{suc, sym, types_in, ValType, zero, ℕ, ◌<◌, ◌∙◌, ◌∷◌, ◌≡◌, ◌≤◌}
use Rattle.std.proofs.lemmas.List.Elements.{All-cons}
use Rattle.smith_types.specs.Syntax.composite_type.CompositeInnerType.TheVariants.{Func}
use Rattle.smith_types.specs.Entities.{IsFuncTypeIndex}
use Rattle.smith_types.specs.ExampleFeatures.{usual_features}
use Rattle.smith_types.specs.ValidTypes.{IsGroupValid, IsTypeValid}
use Rattle.smith_instr.specs.Contexts.{BodyContext}
use Rattle.smith_check_rules.specs.Slots.{AreBelow, values}
use Rattle.smith_check_rules.specs.Sequences.{AreTyped, block, CountsAs, if_alone, if_else, loop, Stacked}
use Rattle.smith_check_rules.specs.Sequences.{nothing, step, try_table}
use Rattle.smith_check_types.specs.Canonical.{AreCanonical, IsFirstEqual, defined_types}
use Rattle.smith_check_types.specs.TypeSections.{IsInScope, IsTypeInScope}
use Rattle.smith_check_renamed.specs.RenamedInstructions.{renamed_body}
use Rattle.smith_check_module.specs.ExampleSyntax.{nothing as no_items}
use Rattle.smith_check.specs.ExamplePrograms.{does_nothing, function_type, returns_nothing}
use Rattle.smith_check.specs.ValidPrograms.{IsFunctionValid, IsValidProgram}
use Rattle.smith_check.proofs.GroupLemmas.{none_canonical, no_types}

-- a module of nothing
no_sections : AreSectionsValid usual_features [] no_items
no_sections = record {
  entities = record { tags = All-nil _; funcs = All-nil _; tables = All-nil _; memories = All-nil _; globals = All-nil _ };
  counts = record {
    tags = λ some. absurd (omega (arith, some));
    several_tables = λ some. absurd (omega (arith, some));
    several_memories = λ some. absurd (omega (arith, some));
  };
  definitions = record { tables = All-nil _; globals = tt };
  exports = record { stand = All-nil _; distinct = record { once = λ i j item at there. absurd (cc at) } };
  start = tt;
  segments = record { elements = All-nil _; datas = All-nil _ };
}

pub nothing_valid : IsValidProgram usual_features no_items
nothing_valid = record {
  supertypes = refl;
  scope = tt;
  indices = [];
  canonical = none_canonical;
  types = no_types usual_features;
  sections = no_sections;
  bodies = refl;
  functions = λ place inside. absurd (omega (arith, inside));
}

-- a function that does nothing
abbrev indices : List ℕ
indices = 0 ∷ []

each_first : (index first : ℕ) → slice_get indices index ≡ Some first → IsFirstEqual (defined_types indices does_nothing.types) index first
each_first zero first at =
    subst (IsFirstEqual (defined_types indices does_nothing.types) 0) (same_Some 0 first at)
    (record { equal = refl; least = λ other h. omega arith })
each_first (suc index) first at = absurd (cc at)

one_canonical : AreCanonical does_nothing.types indices
one_canonical = record { long = refl; each = each_first }

in_scope : IsTypeInScope 1 0 (function_type [])
in_scope = record { values = All-nil (IsInScope 1); before = λ supertype up. absurd (cc up) }

own_valid : IsTypeValid usual_features (types_in indices does_nothing) 1 (function_type [])
own_valid = record {
  enabled = record {
    inner = λ many. absurd (omega (arith, many));
    not_final = λ opens. absurd (cc opens);
    supertype = λ some. absurd (cc some);
    shared = λ shared. absurd (cc shared);
  };
  values = All-nil _;
  declared = λ s up. absurd (cc up);
  shareable = λ shared. absurd (cc shared);
}

member_valid : (i : ℕ) (t : SubType) → 0 ≤ i → i < 1 → slice_get (types_in indices does_nothing) i ≡ Some t
    → IsTypeValid usual_features (types_in indices does_nothing) 1 t
member_valid zero t low high at =
    subst (IsTypeValid usual_features (types_in indices does_nothing) 1) (same_Some (function_type []) t at) own_valid
member_valid (suc i) t low high at = absurd (omega (arith, high))

no_supertypes : (i s : ℕ) (t : SubType) → slice_get (types_in indices does_nothing) i ≡ Some t → t.supertype ≡ Some s → ⊥
no_supertypes zero s t at up = cc (ap (λ (u : SubType). u.supertype) (same_Some (function_type []) t at) ∙ up)
no_supertypes (suc i) s t at up = cc at

one_type : AreTypesValid usual_features (space_of (canonical_groups indices does_nothing.types))
one_type = record {
  covered = record { consecutive = (refl, omega arith, tt); whole = refl };
  orderly = record { under = λ i s t at up. absurd (no_supertypes i s t at up) };
  groups = All-cons (IsGroupValid usual_features (types_in indices does_nothing)) (record { start = 0; end = 1 }) []
      (record { members = member_valid; single = λ off. refl }) (All-nil _);
}

one_section : AreSectionsValid usual_features indices does_nothing
one_section = record {
  entities = record {
    tags = All-nil _;
    funcs = All-cons (IsFuncTypeIndex (types_in indices does_nothing)) 0 []
        (record { params = []; results = [] }, (function_type [], refl, refl)) (All-nil _);
    tables = All-nil _;
    memories = All-nil _;
    globals = All-nil _;
  };
  counts = record {
    tags = λ some. absurd (omega (arith, some));
    several_tables = λ some. absurd (omega (arith, some));
    several_memories = λ some. absurd (omega (arith, some));
  };
  definitions = record { tables = All-nil _; globals = tt };
  exports = record { stand = All-nil _; distinct = record { once = λ i j item at there. absurd (cc at) } };
  start = tt;
  segments = record { elements = All-nil _; datas = All-nil _ };
}

own_function : IsFunctionValid usual_features indices does_nothing 0
own_function = record {
  function = record { params = []; results = [] };
  locals = [];
  body = [];
  there = record {
    index = 0;
    typed_by = refl;
    typed = (function_type [], refl, refl);
    code = ([], []);
    held = refl;
    locals_are = refl;
    body_is = refl;
  };
  locals_valid = All-nil _;
  body_typed = record { set = []; typed = nothing (record { below = tt; valid = All-nil _ }) refl };
}

each_function : (place : ℕ) → place < 1 → IsFunctionValid usual_features indices does_nothing place
each_function zero inside = own_function
each_function (suc place) inside = absurd (omega (arith, inside))

pub does_nothing_valid : IsValidProgram usual_features does_nothing
does_nothing_valid = record {
  supertypes = refl;
  scope = ((in_scope, tt), tt);
  indices = indices;
  canonical = one_canonical;
  types = one_type;
  sections = one_section;
  bodies = refl;
  functions = each_function;
}

-- no instructions leave no number
nothing_of : {context : BodyContext} {xs : List Instr} {before after : Stacked} → AreTyped context xs before after → xs ≡ []
    → CountsAs context before.stack after.stack
nothing_of (nothing counts same) e = counts
nothing_of (step s t) e = absurd (cc e)
nothing_of (block params results is fits inner framed t) e = absurd (cc (sym e ∙ is))
nothing_of (loop params results is fits inner framed t) e = absurd (cc (sym e ∙ is))
nothing_of (if_alone params results is fits inner same framed t) e = absurd (cc (sym e ∙ is))
nothing_of (if_else params results is fits inner last framed t) e = absurd (cc (sym e ∙ is))
nothing_of (try_table params results is fits caught inner framed t) e = absurd (cc (sym e ∙ is))

-- each type of the module is that of its function
results_are : (is : List ℕ) (index : ℕ) (function : FuncType) → IsFuncAt (types_in is returns_nothing) index function
    → function.results ≡ I32 ∷ []
results_are is zero function (t, at, own) =
    let same : Func (record { params = []; results = I32 ∷ [] }) ≡ Func function =
    ap (λ (u : SubType). u.composite_type.inner) (same_Some (function_type (I32 ∷ [])) t at) ∙ own in
    let one : FuncType = record { params = []; results = I32 ∷ [] } in
    let inner : one ≡ function = cc same in
    sym (ap (λ (f : FuncType). f.results) inner)
results_are is (suc index) function (t, at, own) = cc at

no_number : (context : BodyContext) (body : List Instr) → body ≡ [] → context.results ≡ I32 ∷ [] → IsBodyTyped context body → ⊥
no_number context body empty one typed =
    let counts = nothing_of typed.typed empty in
    let wanted = subst (λ (rs : List ValType). AreBelow context.types [] (values rs))
    one counts.below in
    wanted

pub returns_nothing_wrong : IsValidProgram usual_features returns_nothing → ⊥
returns_nothing_wrong program =
    let valid = program.functions 0 (omega arith) in
    let code : ([], []) ≡ valid.there.code = same_Some ([], []) valid.there.code valid.there.held in
    no_number _ valid.body
    (valid.there.body_is ∙ sym (ap (λ (c : List ValType × List Instr). renamed_body (canonical_index program.indices) c.1) code))
    (results_are program.indices _ valid.function valid.there.typed) valid.body_typed
