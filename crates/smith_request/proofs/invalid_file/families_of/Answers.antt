use Rattle.std.proofs.Common.{inr, ℕ, List}
use Rattle.std.specs.List.{All, Contains}
use Rattle.std.proofs.lemmas.List.Elements.{All-weaker}
use Rattle.std.proofs.lemmas.Result.{IfOk-weaker}
use Rattle.smith_request.specs.Invalid.{IsAmong}
use Rattle.smith_wrong.specs.Numbers.{family_number}
use Rattle.smith_wrong.specs.declared.families.Family.{Family}
use Rattle.smith_request.proofs.invalid_file.families_of.Goals as goal

among : (numbers : List ℕ) (families : List Family) → All (λ one. Contains numbers (family_number one)) families
    → All (IsAmong numbers) families
among numbers families =
    All-weaker (λ (one : Family). Contains numbers (family_number one)) (IsAmong numbers) (λ one given. inr given) families

pub returns-then-not-is_empty-clause-among : goal.returns-then-not-is_empty-clause-among
returns-then-not-is_empty-clause-among c =
    IfOk-weaker c.listed.result _ _ (λ families h. among c.args.numbers.now families.items h) c.listed.ensures.listed
