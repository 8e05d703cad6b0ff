use Rattle.smith_encode.proofs.Common.{drop, Each}
use Rattle.std.specs.Prelude.{Any}
use Rattle.smith_binary.proofs.WrittenLemmas.{Leads}
use Rattle.smith_decode.specs.TypeGroups.{declared_groups}
use Rattle.smith_encode.specs.Spelled.{IfPasses, is_group_spelled}
use Rattle.smith_encode.specs.TooLong.{IsLongDeclaredGroup}
use Rattle.smith_encode.specs.WrittenTypes.{IsDeclaredGroupWritten}
use Rattle.smith_encode.proofs.types.write_groups.Given as goal

abbrev pub invariant-loop-i : goal.invariant-loop-i
invariant-loop-i l = record {
  leads : Leads (λ _. Each (IfPasses is_group_spelled IsDeclaredGroupWritten) (declared_groups (drop l.i l.types) (drop l.i l.further)))
      (λ _. Each (IfPasses is_group_spelled IsDeclaredGroupWritten) (declared_groups l.types l.further)) l.fn.sink l.sink;
  long : Any IsLongDeclaredGroup (declared_groups (drop l.i l.types) (drop l.i l.further))
      → Any IsLongDeclaredGroup (declared_groups l.types l.further);
}
