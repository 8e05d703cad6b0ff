use Rattle.smith_module_rules_examples.proofs.Common.{rules, arith, common_steps, None, [], ◌∷◌, pos, refl, All-from_recursion, All-head}
use Rattle.smith_module_rules_examples.proofs.Common.{funcref, IsElementInside, Const32, Global, table, into_a_table}
use Rattle.smith_module_rules_examples.proofs.PromiseExamples.{past_the_table}
use Rattle.smith_module_rules_examples.proofs.promises.elements.Goals as goal

pub returns : goal.returns
returns c = record {
  up_to_the_end = record {
    elems = All-from_recursion (IsElementInside (table funcref 1 None ∷ [])) (into_a_table (Const32 (pos 0)) ∷ [])
        ((table funcref 1 None, refl, omega arith), tt);
    data_segments = search rules;
  };
  past_the_end = past_the_table;
  from_where_a_global_says = λ inside.
      let (stands, at, never) = All-head (IsElementInside (table funcref 1 None ∷ [])) (into_a_table (Global 0)) [] inside.elems in
      never;
  copied_nowhere = first_of (search rules, grind (arith, common_steps));
}
