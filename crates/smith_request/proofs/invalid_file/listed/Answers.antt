use Rattle.std.proofs.Common.{◌≡◌, ℕ, Bool, true, false, List, [], ◌∷◌, ◌++◌, sym, subst, arith}
use Rattle.std.specs.List.{All, Contains}
use Rattle.std.specs.Prelude.{is_ok, if◌then◌else◌}
use Rattle.std.proofs.lemmas.List.Elements.{All-push, Contains-get_or}
use Rattle.smith_wrong.specs.Numbers.{family_number}
use Rattle.smith_wrong.specs.declared.families.Family.{Family}
use Rattle.smith_request.proofs.invalid_file.listed.Goals as goal

-- the families after a push have some of the numbers, if those before it and the new one have
pushed : (numbers : List ℕ) (before after : List Family) (one : Family) (done : Bool)
    → after ≡ (if done then before ++ one ∷ [] else before) → All (λ other. Contains numbers (family_number other)) before
    → Contains numbers (family_number one) → All (λ other. Contains numbers (family_number other)) after
pushed numbers before after one true same all given =
    subst (All (λ (other : Family). Contains numbers (family_number other))) (sym same)
    (All-push (λ (other : Family). Contains numbers (family_number other)) before one all given)
pushed numbers before after one false same all given =
    subst (All (λ (other : Family). Contains numbers (family_number other))) (sym same) all

pub loop-number-preserved : goal.loop-number-preserved
loop-number-preserved c =
    pushed c.args.numbers.now c.loop-number.families.items c.push.new.self.items c.in-Some.family (is_ok c.push.result)
    c.push.ensures.items c.loop-number.invariant (rw c.in-Some.ensures.number
    (Contains-get_or c.args.numbers.now c.loop-number.number-index 0 (omega (arith, c.loop-number-test.true))))
