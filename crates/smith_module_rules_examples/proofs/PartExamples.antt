-- Lemmas for the examples of modules.
use Rattle.smith_module_rules_examples.proofs.Common.{rules, ◌≡◌, ℕ, ◌+◌, ◌<◌, ◌≤◌, true, false, List, [], ◌∷◌, ◌++◌, Some, None, refl, sym}
use Rattle.smith_module_rules_examples.proofs.Common.{subst, ◌∙◌, slice_get, IsTrue, All, Range, same_Some, All-nil, All-cons, Features}
use Rattle.smith_module_rules_examples.proofs.Common.{funcref, IsInstrEnabled, IsValBelow, IsValTypeValid, IsSupertypeValid, IsTypeValid}
use Rattle.smith_module_rules_examples.proofs.Common.{IsGroupValid, AreTypesValid, IsFuncAt, IsFuncTypeIndex, Context, HasType, IsVisible}
use Rattle.smith_module_rules_examples.proofs.Common.{IsConstExpr, ValType, I32, Ref, CompositeInnerType, SubType, ConstInstr, GlobalGet}
use Rattle.smith_module_rules_examples.proofs.Common.{IsRefBelow-refl, taking_a_number, a_type, bytes_array, plain_function, EachFrom}
use Rattle.smith_module_rules_examples.proofs.Common.{each_place, ModuleParts, IsValid, IsGlobalDefined, group_of, one_function}
use Rattle.smith_module_rules_examples.proofs.Common.{no_function}
use Rattle.smith_types.proofs.ConstStepLemmas.{alone as one_instruction}

-- an expression of one instruction without operands
pub alone : (context : Context) (instruction : ConstInstr) (result wanted : ValType)
    → HasType context instruction [] result → IsValBelow context.types result wanted
    → IsInstrEnabled context.features context.imported_globals instruction → IsConstExpr context wanted (instruction ∷ [])
alone context instruction result wanted typed below enabled = one_instruction context instruction result wanted typed below
    (All-cons (IsInstrEnabled context.features context.imported_globals) instruction [] enabled
    (All-nil (IsInstrEnabled context.features context.imported_globals)))

-- the value of one instruction alone is the value that it pushes
pub pushed_alone : (context : Context) (instruction : ConstInstr) (result wanted : ValType)
    → ((operands : List ValType) (pushed : ValType) → HasType context instruction operands pushed → pushed ≡ result)
    → IsConstExpr context wanted (instruction ∷ []) → IsValBelow context.types result wanted
pushed_alone context instruction result wanted pushes expression =
    let (between, step, end) = expression.steps in
    let same = on_top step.rest step.taken step.result expression.value step.on_top (sym step.pushed ∙ end) in
    subst (λ value. IsValBelow context.types value wanted) (sym same ∙ pushes step.operands step.result step.typed) expression.below
  where
    on_top : (rest taken : List ValType) (result value : ValType) → [] ≡ rest ++ taken → rest ++ result ∷ [] ≡ value ∷ [] → result ≡ value
    on_top [] taken result value first whole = cc
    on_top (below ∷ rest) taken result value first whole = cc

-- a null reference to a function
pub no_function_given : (context : Context) → IsTrue context.features.reference_types → IsConstExpr context (Ref funcref) no_function
no_function_given context references = alone context _ (Ref funcref) (Ref funcref) ((tt, λ never. cc), refl, refl)
    (IsRefBelow-refl context.types funcref) references

-- a group of types, each valid at its place
pub group_valid : (features : Features) (types : List SubType) (group : Range ℕ)
    → EachFrom (λ place t. group.start ≤ place → place < group.end → IsTypeValid features types group.end t) 0 types
    → (features.gc ≡ false → group.end ≡ group.start + 1) → IsGroupValid features types group
group_valid features types group each single = record {
  members = λ place t from below at. each_place (λ place t. group.start ≤ place → place < group.end
      → IsTypeValid features types group.end t) types each place t at from below;
  single = single;
}

-- a function type without parameters and results
pub function_valid : (features : Features) (types : List SubType) (end : ℕ)
    → IsTypeValid features types end (a_type plain_function true None)
function_valid features types end = record {
  enabled = search rules;
  values = All-nil (IsValTypeValid features end);
  declared = λ s up. cc;
  shareable = λ never. cc;
}

-- a final type alone, if it is valid
pub type_alone : (features : Features) (inner : CompositeInnerType)
    → IsTypeValid features (a_type inner true None ∷ []) 1 (a_type inner true None)
    → AreTypesValid features (record { types = a_type inner true None ∷ []; groups = group_of 0 1 ∷ [] })
type_alone features inner valid =
    let types = a_type inner true None ∷ [] in
    record {
      covered = search rules;
      orderly = search rules;
      groups = All-cons (IsGroupValid features types) (group_of 0 1) []
          (group_valid features types (group_of 0 1) ((λ from below. valid), tt) (λ _. refl)) (All-nil (IsGroupValid features types));
    }

-- a function type without parameters and results alone, and a function of it
pub function_types : (features : Features)
    → AreTypesValid features (record { types = a_type plain_function true None ∷ []; groups = group_of 0 1 ∷ [] })
function_types features = type_alone features plain_function (function_valid features _ 1)

pub function_at : IsFuncAt (a_type plain_function true None ∷ []) 0 (record { params = []; results = [] })
function_at = (a_type plain_function true None, refl, refl)

pub functions_valid : All (IsFuncTypeIndex (a_type plain_function true None ∷ [])) (0 ∷ [])
functions_valid = All-cons (IsFuncTypeIndex (a_type plain_function true None ∷ [])) 0 [] (record { params = []; results = [] }, function_at)
    (All-nil (IsFuncTypeIndex (a_type plain_function true None ∷ [])))

-- a function type with a parameter that is a number alone, and a function of it
pub taking_types : (features : Features)
    → AreTypesValid features (record { types = a_type taking_a_number true None ∷ []; groups = group_of 0 1 ∷ [] })
taking_types features = type_alone features taking_a_number
    (record {
      enabled = search rules;
      values = All-cons (IsValTypeValid features 1) I32 [] tt (All-nil (IsValTypeValid features 1));
      declared = λ s up. cc;
      shareable = λ never. cc;
    })

pub taking_functions : All (IsFuncTypeIndex (a_type taking_a_number true None ∷ [])) (0 ∷ [])
taking_functions = All-cons (IsFuncTypeIndex (a_type taking_a_number true None ∷ [])) 0 []
    (record { params = I32 ∷ []; results = [] }, (a_type taking_a_number true None, refl, refl))
    (All-nil (IsFuncTypeIndex (a_type taking_a_number true None ∷ [])))

-- an array type that is not final, and a subtype of it
pub array_valid : (features : Features) (types : List SubType) (end : ℕ) → IsTrue features.gc
    → IsTypeValid features types end (a_type bytes_array false None)
array_valid features types end gc =
    record {
      enabled = record { inner = gc; not_final = λ _. gc; supertype = λ _. gc; shared = λ never. cc };
      values = All-nil (IsValTypeValid features end);
      declared = λ s up. cc;
      shareable = λ never. cc;
    }

pub array_below : (features : Features) (types : List SubType) (end : ℕ)
    → IsTrue features.gc → IsTypeValid features (a_type bytes_array false None ∷ types) end (a_type bytes_array false (Some 0))
array_below features types end gc =
    let first = a_type bytes_array false None in
    let above : IsSupertypeValid (first ∷ types) (a_type bytes_array false (Some 0)) first =
    record { not_final = refl; matched = record { inner = record { same = refl; below = tt; above = λ _. tt }; shared = refl } } in
    record {
      enabled = record { inner = gc; not_final = λ _. gc; supertype = λ _. gc; shared = λ never. cc };
      values = All-nil (IsValTypeValid features end);
      declared = λ s up. (first, subst (λ n. slice_get (first ∷ types) n ≡ Some first) (same_Some 0 s up) refl, above);
      shareable = λ never. cc;
    }

-- the value of a visible global of a number
pub first_read : (context : Context) → IsVisible context 0 I32 → IsInstrEnabled context.features context.imported_globals (GlobalGet 0)
    → IsConstExpr context I32 (GlobalGet 0 ∷ [])
first_read context visible enabled = alone context (GlobalGet 0) I32 I32 (refl, visible) tt enabled

-- the globals of a module, one by one
pub globals_defined : (m : ModuleParts) → EachFrom (λ place (one : ℕ × List ConstInstr). IsGlobalDefined m place one.0 one.1) 0
    m.defined_globals
    → (place index : ℕ) (initial : List ConstInstr) → slice_get m.defined_globals place ≡ Some (index, initial)
    → IsGlobalDefined m place index initial
globals_defined m each place index initial at = each_place (λ place (one : ℕ × List ConstInstr). IsGlobalDefined m place one.0 one.1)
    m.defined_globals each place (index, initial) at

-- the module of one function is valid
pub one_function_valid : IsValid one_function
one_function_valid = search (rules, function_types, functions_valid)
