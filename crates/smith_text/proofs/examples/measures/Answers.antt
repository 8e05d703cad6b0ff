use Rattle.std.proofs.Common.{◌≡◌, ℕ, ◌+◌, ◌≤◌, List, [], ◌∷◌, ◌++◌, length, ap, arith, length-append, refl}
use Rattle.smith_text.proofs.examples.measures.Goals as goal

pub returns-clause-bytes : goal.returns-clause-bytes
returns-clause-bytes c old text new appended = let same : length new ≡ length (old ++ text) = ap length appended in
    omega (arith, simp length-append at same)

pub returns-clause-nothing : goal.returns-clause-nothing
returns-clause-nothing c measure = let byte : List ℕ = 1 ∷ [] in let never : 0 + length byte ≤ 0 = measure [] byte byte refl in
    absurd (omega (arith, never))
