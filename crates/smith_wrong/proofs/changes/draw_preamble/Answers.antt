use Rattle.std.proofs.Common.{Option, IfSome, subst}
use Rattle.smith_wrong_bytes.specs.Splices.{IsOfPreamble}
use Rattle.smith_wrong_bytes.specs.declared.change.Splice.{Splice}
use Rattle.smith_wrong.proofs.PreambleLemmas.{made_breaks, program_length}
use Rattle.smith_wrong.proofs.changes.draw_preamble.Goals as goal

pub break_preamble-requires : goal.break_preamble-requires
break_preamble-requires c = program_length c.args.twin.now c.requires

pub returns-in-Ok-Some-clause-broken : goal.returns-in-Ok-Some-clause-broken
returns-in-Ok-Some-clause-broken c =
    made_breaks c.args.family c.args.twin.now c.in-Ok-Some.drawn c.splice_file.result c.requires
    (subst (λ (found : Option Splice). IfSome found (IsOfPreamble c.args.family c.args.twin.now)) c.in-Ok-Some.field-0-is
    c.in-Ok-Some.ensures.drawn) c.splice_file.ensures.bytes
