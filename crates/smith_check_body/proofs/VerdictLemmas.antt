-- A body has one verdict.
use Rattle.smith_check_body.proofs.Common.{ap, append_assoc, arith, BodyContext, Instr, IsBodyTyped, List, refl, subst, sym, take, ℕ, ◌++◌}
use Rattle.smith_check_body.proofs.Common.{◌+◌, ◌<◌, ◌∙◌, ◌≡◌}
use Rattle.std.proofs.Common.{drop, take-take}
use Rattle.std.proofs.lemmas.List.{take-append-drop}
use Rattle.smith_check_body.specs.declared.verdict.Verdict.{Verdict}
use Rattle.smith_check_body.specs.declared.verdict.Verdict.TheVariants as verdict
use Rattle.smith_check_body.specs.Verdicts.{IsRefused, IsVerdict}

-- a body is not refused past the place where it is refused
not_past : (context : BodyContext) (body : List Instr) (at past : ℕ) → IsRefused context body at → IsRefused context body past → at < past
    → ⊥
not_past context body at past here there before =
    let inside = there.inside in
    let (rest, typed) = there.begun in
    let front = take (at + 1) body in
    let between = drop (at + 1) (take past body) in
    let parts : take past body ≡ front ++ between =
    sym (take-append-drop (at + 1) (take past body)) ∙ ap (λ xs. xs ++ between) (take-take (at + 1) past body (omega (arith, before))) in
    here.earliest (omega (arith, before, inside)) (between ++ rest)
    (subst (λ xs. IsBodyTyped context xs) (ap (λ xs. xs ++ rest) parts ∙ append_assoc front between rest) typed)

pub one_verdict : (context : BodyContext) (body : List Instr) (one other : Verdict) → IsVerdict context body one
    → IsVerdict context body other → one ≡ other
one_verdict context body verdict.Typed verdict.Typed typed also = refl
one_verdict context body verdict.Typed (verdict.Refused at) typed refused = absurd (refused.untyped typed)
one_verdict context body (verdict.Refused at) verdict.Typed refused typed = absurd (refused.untyped typed)
one_verdict context body (verdict.Refused a) (verdict.Refused b) one other =
    let same : a ≡ b = omega (arith, not_past context body a b one other, not_past context body b a other one) in
    ap (λ (at : ℕ). verdict.Refused at) same
