use Rattle.std.proofs.Common.{◌≡◌, arith}
use Rattle.std.proofs.lemmas.Result.{IfOk-weaker, IfErr-weaker}
use Rattle.smith_request.specs.Additions.{added_globals}
use Rattle.smith_request.specs.Output.{IsUnextended}
use Rattle.smith_request.proofs.AdditionLemmas.{nothing_added}
use Rattle.smith_request.proofs.manner.write_with_additions.Goals as goal

pub returns-clause-binary : goal.returns-clause-binary
returns-clause-binary c = λ is.
    let none : added_globals c.args.manner.additions ≡ 0 = grind arith in
    IfOk-weaker c.write_in-bytes.result _ _ (λ bytes encoded. record {
      extended = c.args.program;
      is_extended = nothing_added c.args.manner.additions c.args.program none;
      encoded = encoded;
    })
    (c.write_in-bytes.ensures.binary is)

pub returns-clause-refused : goal.returns-clause-refused
returns-clause-refused c =
    let none : added_globals c.args.manner.additions ≡ 0 = grind arith in
    IfErr-weaker c.write_in-bytes.result _ _
    (λ refusal unwritten. IsUnextended.not_written (nothing_added c.args.manner.additions c.args.program none) unwritten)
    c.write_in-bytes.ensures.refused
