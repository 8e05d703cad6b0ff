use Rattle.std.proofs.Common.{◌≡◌, ℕ, List, [], ◌∷◌, get_or, codes, refl, sym, ap, arith}
use Rattle.std.specs.Fmt.{digits}
use Rattle.std.specs.HashSet.{HashSet}
use Rattle.std.specs.declared.string.String.{String}
use Rattle.std.specs.declared.alloc.Global.{Global}
use Rattle.smith_bytes.specs.Names.{IsMadeNew}
use Rattle.smith_bytes_examples.specs.ExampleBytes.{HasNames}
use Rattle.smith_bytes.proofs.MadeNewLemmas.{making_start, making_more, making_done, new_alone}
use Rattle.smith_bytes_examples.proofs.names.made_new.Goals as goal

one_copy : {S : Type 0} (names : HashSet (String Global) S) → HasNames names (codes "a" ∷ []) → IsMadeNew names (codes "a") (codes "a1")
unfolding digits
one_copy names h = making_done (making_more (making_start names (codes "a")) refl (h.has (codes "a")) (sym h.count) refl) refl
    (h.has (codes "a1"))

apart : codes "a1" ≡ codes "a2" → ⊥
apart same = let last : 49 ≡ 50 = ap (λ (name : List ℕ). get_or name 1 0) same in omega (arith, last)

pub returns-clause-one_copy : goal.returns-clause-one_copy
returns-clause-one_copy c = one_copy c.args.names.now

pub returns-clause-two_copies : goal.returns-clause-two_copies
unfolding digits
returns-clause-two_copies c = λ h.
    let once = making_more (making_start c.args.names.now (codes "a")) refl (h.has (codes "a")) (sym h.count) refl in
    making_done (making_more once refl (h.has (codes "a2")) (sym h.count) refl) refl (h.has (codes "a22"))

pub returns-clause-size_of_two_digits : goal.returns-clause-size_of_two_digits
unfolding digits
returns-clause-size_of_two_digits c = λ size there fresh. making_done (making_more (making_start c.args.names.now (codes "a")) refl there
    (sym size) refl) refl fresh

pub returns-clause-another_number : goal.returns-clause-another_number
returns-clause-another_number c = λ h made. apart (new_alone (one_copy c.args.names.now h) made)
