-- Facts that the examples of spelled lists share.
use Rattle.smith_spell_examples.proofs.Common.{[], All-from_recursion, alone, arith, Concrete, default_config, false, final, inr, List}
use Rattle.smith_spell_examples.proofs.Common.{not_null, one_function_type, Ref, refl, rules, struct_of_bytes, struct_with, SubType, Val}
use Rattle.smith_spell_examples.proofs.Common.{with_non_nullable, ◌∷◌}
use Rattle.std.proofs.Common.{take}
use Rattle.smith_types.specs.Entities.{IsFuncTypeIndex}
use Rattle.smith_types.specs.ExampleTypes.{constant}
use Rattle.smith_spell.specs.Family.{IsMemberField, IsMemberType, IsInFamily}
use Rattle.smith_spell.specs.SpellAnswers.{IsSpellable}
use Rattle.smith_config.specs.ExampleMembers.{plain_function}
use Rattle.smith_config.specs.ExampleMembers.{struct_and_holder}
use Rattle.smith_types.proofs.EachPlaceLemmas.{each_place}
use Rattle.smith_spell_examples.proofs.GroundedExamples.{grounds_itself}

function_member : IsMemberType default_config [] (final plain_function)
function_member = search rules

-- one function type and a function of it are in the family
pub function_in_family : IsInFamily default_config one_function_type (0 ∷ [])
function_in_family = record {
  filled = search rules;
  single = search rules;
  few_types = omega arith;
  each_type = each_place (λ index t. IsMemberType default_config (take index (alone plain_function)) t) (alone plain_function)
      (function_member, tt);
  few_funcs = omega arith;
  each_func = All-from_recursion (IsFuncTypeIndex (final plain_function ∷ [])) (0 ∷ [])
      ((record { params = []; results = [] }, (final plain_function, refl, refl)), tt);
}

-- the types of a struct, and of one that holds a reference to it
holder_types : List SubType
holder_types = final (struct_of_bytes 0) ∷ final (struct_with (Concrete 0)) ∷ []

struct_member : IsMemberType with_non_nullable [] (final (struct_of_bytes 0))
struct_member = search rules

holder_member : IsMemberType with_non_nullable (alone (struct_of_bytes 0)) (final (struct_with (Concrete 0)))
holder_member =
    let P = IsMemberField with_non_nullable (alone (struct_of_bytes 0)) in
    let field = constant (Val (Ref (not_null (Concrete 0)))) in
    record {
      unshared = refl;
      root = refl;
      final = λ no. cc;
      inner = (
        refl,
        omega arith,
        All-from_recursion P (field ∷ [])
            ((refl, (refl, omega arith), inr (refl, (grounds_itself (struct_of_bytes 0) false).0 refl)), tt),
      );
    }

-- they are in the family if there are non-nullable references
pub holder_in_family : IsInFamily with_non_nullable struct_and_holder []
unfolding holder_types
holder_in_family = record {
  filled = search rules;
  single = search rules;
  few_types = omega arith;
  each_type = each_place (λ index t. IsMemberType with_non_nullable (take index holder_types) t) holder_types
      (struct_member, (holder_member, tt));
  few_funcs = omega arith;
  each_func = search rules;
}

-- empty lists can be spelled, and lists of one function type and a function
pub nothing_spellable : IsSpellable default_config [] []
nothing_spellable = search rules

pub function_spellable : IsSpellable default_config one_function_type (0 ∷ [])
function_spellable = record {
  passes = nothing_spellable.passes;
  no_minimums = nothing_spellable.no_minimums;
  no_shapes = nothing_spellable.no_shapes;
  not_everything = refl;
  member = function_in_family;
}
