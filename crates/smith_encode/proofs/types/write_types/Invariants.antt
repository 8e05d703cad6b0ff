use Rattle.smith_encode.proofs.Common.{drop, Each}
use Rattle.std.specs.Prelude.{Any}
use Rattle.smith_binary.proofs.WrittenLemmas.{Leads}
use Rattle.smith_decode.specs.TypeGroups.{declared_group}
use Rattle.smith_encode.specs.Spelled.{IfPasses, is_declared_spelled}
use Rattle.smith_encode.specs.TooLong.{IsLongDeclared}
use Rattle.smith_encode.specs.WrittenTypes.{IsDeclaredWritten}
use Rattle.smith_encode.proofs.types.write_types.Given as goal

abbrev pub invariant-loop-i : goal.invariant-loop-i
invariant-loop-i l = record {
  leads : Leads (λ _. Each (IfPasses is_declared_spelled IsDeclaredWritten) (declared_group (drop l.i l.types) (drop l.i l.further)))
      (λ _. Each (IfPasses is_declared_spelled IsDeclaredWritten) (declared_group l.types l.further)) l.fn.sink l.sink;
  long : Any IsLongDeclared (declared_group (drop l.i l.types) (drop l.i l.further))
      → Any IsLongDeclared (declared_group l.types l.further);
}
