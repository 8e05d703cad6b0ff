use Rattle.std.specs.List.{All, Contains}
use Rattle.smith_wrong.specs.Numbers.{family_number}
use Rattle.smith_request.proofs.invalid_file.listed.Given as goal

-- the families so far have some of the numbers
abbrev pub invariant-loop-number : goal.invariant-loop-number
invariant-loop-number l = All (λ one. Contains l.numbers (family_number one)) l.families.items
