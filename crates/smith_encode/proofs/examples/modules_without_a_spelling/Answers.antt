use Rattle.smith_encode.proofs.Common.{[], Module, None, refl, Some, syntax_of, ◌++◌, ◌∷◌, ◌≡◌}
use Rattle.smith_decode.specs.ExampleModules.{no_item}
use Rattle.smith_encode.specs.ExampleModules.{in_open_block, with_customs_after, with_supertypes}
use Rattle.smith_encode.specs.Faults.{HasNoSpelling}
use Rattle.smith_encode.specs.Places.{left_after, skipped}
use Rattle.smith_encode.specs.Tails.{front_ids, middle_ids, back_ids}
use Rattle.smith_encode.proofs.ModuleLemmas.{parts_refused}
use Rattle.smith_encode.proofs.OrderLemmas.{module_ordered}
use Rattle.smith_encode.proofs.examples.modules_without_a_spelling.Goals as goal

-- without a start function, custom sections that are left over have no place
unordered : (m : Module) → m.start ≡ None
    → (left_after (front_ids ++ (middle_ids ++ back_ids)) (skipped None m.customs) ≡ [] → ⊥) → HasNoSpelling (syntax_of m)
unordered m none some = λ bytes h. some (rw none at (module_ordered (syntax_of m) bytes h))

pub returns-clause-no_body : goal.returns-clause-no_body
returns-clause-no_body c = parts_refused (record no_item { functions = 0 ∷ [] }) refl

pub returns-clause-no_first_supertype : goal.returns-clause-no_first_supertype
returns-clause-no_first_supertype c = parts_refused (with_supertypes None ((0 ∷ []) ∷ [])) refl

pub returns-clause-no_list_of_supertypes : goal.returns-clause-no_list_of_supertypes
returns-clause-no_list_of_supertypes c = parts_refused (with_supertypes (Some 0) []) refl

pub returns-clause-open_block : goal.returns-clause-open_block
returns-clause-open_block c = parts_refused in_open_block refl

pub returns-clause-out_of_order : goal.returns-clause-out_of_order
returns-clause-out_of_order c = unordered (with_customs_after (Some 3 ∷ Some 1 ∷ [])) refl (λ none. cc)

pub returns-clause-no_start : goal.returns-clause-no_start
returns-clause-no_start c = unordered (with_customs_after (Some 8 ∷ [])) refl (λ none. cc)

pub returns-clause-no_such_section : goal.returns-clause-no_such_section
returns-clause-no_such_section c = unordered (with_customs_after (Some 14 ∷ [])) refl (λ none. cc)
