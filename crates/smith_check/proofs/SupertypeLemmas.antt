-- Groups without a type of several supertypes.
use Rattle.smith_check.proofs.Common.{[], ap, get_or, length, List, refl, subst, suc, sym, take, zero, ℕ, ◌+◌, ◌<◌, ◌∙◌, ◌∷◌, ◌≡◌, ◌≤◌}
use Rattle.std.proofs.Common.{false, take-take, true}
use Rattle.std.specs.List.{list_all}
use Rattle.std.proofs.lemmas.Bool.{and_from, and_parts}
use Rattle.std.proofs.lemmas.List.Folds.{list_all_more}
use Rattle.smith_check.specs.Supertypes.{HaveOneSupertype, is_single}

-- the first groups of these
pub first_single : (groups : List (List (List ℕ))) (count : ℕ) → HaveOneSupertype groups → HaveOneSupertype (take count groups)
first_single groups zero all = refl
first_single [] (suc count) all = refl
first_single (group ∷ groups) (suc count) all =
    let (here, others) = and_parts (is_single group) (list_all is_single groups) all in
    and_from (is_single group) (list_all is_single (take count groups)) here (first_single groups count others)

pub fewer_single : (groups : List (List (List ℕ))) (fewer count : ℕ) → fewer ≤ count → HaveOneSupertype (take count groups)
    → HaveOneSupertype (take fewer groups)
fewer_single groups fewer count within all =
    subst HaveOneSupertype (take-take fewer count groups within) (first_single (take count groups) fewer all)

-- one more group
more_groups : (groups : List (List (List ℕ))) (i : ℕ) (group : List (List ℕ)) → i < length groups → group ≡ get_or groups i group
    → HaveOneSupertype (take i groups) → list_all is_single (take (i + 1) groups) ≡ is_single group
more_groups groups i group inside is before =
    rw (list_all_more is_single groups i group inside, before) (ap is_single (sym is))

pub one_more : (groups : List (List (List ℕ))) (i : ℕ) (group : List (List ℕ)) → i < length groups → group ≡ get_or groups i group
    → is_single group ≡ true → HaveOneSupertype (take i groups) → HaveOneSupertype (take (i + 1) groups)
one_more groups i group inside is single before = more_groups groups i group inside is before ∙ single

pub several_here : (groups : List (List (List ℕ))) (i : ℕ) (group : List (List ℕ)) → i < length groups → group ≡ get_or groups i group
    → is_single group ≡ false → HaveOneSupertype (take i groups) → HaveOneSupertype (take (i + 1) groups) → ⊥
several_here groups i group inside is several before all =
    let never = sym several ∙ sym (more_groups groups i group inside is before) ∙ all in cc
