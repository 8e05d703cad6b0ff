use Rattle.std.proofs.Common.{◌≡◌, ℕ, ◌≤◌, ◌+◌, List, [], ◌∷◌, ◌++◌, length, ap, arith, length-append, refl}
use Rattle.smith_text.proofs.examples.texts.Goals as goal

pub returns-clause-all : goal.returns-clause-all
returns-clause-all c = record {
  by_measure = λ size measure.
      let bytes : List ℕ = 1 ∷ 2 ∷ 3 ∷ [] in
      let grown : size [] + length bytes ≤ size bytes = measure [] bytes bytes refl in
      omega (arith, grown);
}

pub returns-clause-one_more : goal.returns-clause-one_more
returns-clause-one_more c has =
    let never : 4 ≤ 3 = has.by_measure (λ bytes. length bytes) (λ old text new appended. let same : length new ≡ length (old ++ text) = ap
    length appended in omega (arith, simp length-append at same)) in
    absurd (omega (arith, never))
