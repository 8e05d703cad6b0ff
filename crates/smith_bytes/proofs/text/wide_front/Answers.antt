use Rattle.std.proofs.Common.{arith}
use Rattle.std.proofs.lemmas.Grind.{common_steps}
use Rattle.std.proofs.lemmas.Str.{utf8_valid_len-IsUtf8, utf8_valid_len_le}
use Rattle.smith_bytes.proofs.text.wide_front.Goals as goal

pub returns-in-Ok-clause-exact : goal.returns-in-Ok-clause-exact
returns-in-Ok-clause-exact c =
    let all = utf8_valid_len-IsUtf8 c.args.bytes.now c.in-Ok.ensures.cases.1 in
    grind (arith, common_steps, c.in-Ok.ensures.cases.0)

pub returns-in-Ok-clause-size : goal.returns-in-Ok-clause-size
returns-in-Ok-clause-size c =
    let all = utf8_valid_len-IsUtf8 c.args.bytes.now c.in-Ok.ensures.cases.1 in
    grind (arith, common_steps, c.in-Ok.ensures.cases.0)

pub returns-in-Ok-clause-within : goal.returns-in-Ok-clause-within
returns-in-Ok-clause-within c = utf8_valid_len_le c.args.bytes.now
