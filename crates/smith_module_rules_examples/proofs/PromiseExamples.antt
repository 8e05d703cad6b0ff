-- Lemmas for the examples of promises.
use Rattle.smith_module_rules_examples.proofs.Common.{arith, ◌≡◌, ◌≤◌, [], ◌∷◌, None, pos, refl, sym, subst, same_Some, All-head, funcref}
use Rattle.smith_module_rules_examples.proofs.Common.{IsElementInside, TableType, Const32, HasDistinctImports, IsInside, table}
use Rattle.smith_module_rules_examples.proofs.Common.{into_a_table, named_imports, filled_table}

pub not_distinct : ¬ HasDistinctImports (named_imports [] [])
not_distinct distinct = let same : 0 ≡ 1 = distinct.once 0 1 ([], []) refl refl in omega (arith, same)

pub past_the_table : ¬ IsInside (filled_table (Const32 (pos 1)))
past_the_table inside =
    let (stands, at, within) = All-head (IsElementInside (table funcref 1 None ∷ [])) (into_a_table (Const32 (pos 1))) [] inside.elems in
    let never : 2 ≤ 1 = subst (λ (one : TableType). 2 ≤ one.minimum) (sym (same_Some (table funcref 1 None) stands at)) within in
    omega (arith, never)
