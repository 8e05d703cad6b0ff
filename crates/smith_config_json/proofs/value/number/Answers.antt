use Rattle.std.proofs.Common.{◌≡◌, ◌<◌, ◌^◌, true, arith}
use Rattle.smith_config_json.specs.Values.{are_digits}
use Rattle.smith_config_json.proofs.DigitLemmas.{parsed, parsed_large, unparsed}
use Rattle.smith_config_json.proofs.value.number.Goals as goal

pub returns-in-Ok-clause-exact : goal.returns-in-Ok-clause-exact
returns-in-Ok-clause-exact c =
    let digits : are_digits c.args.text.now ≡ true = grind arith in
    parsed c.args.text.now c.args.most c.in-Ok.number digits c.in-Ok.ensures.0.1 c.if-number-most.true

pub returns-in_default-clause-exact : goal.returns-in_default-clause-exact
returns-in_default-clause-exact c =
    let digits : are_digits c.args.text.now ≡ true = grind arith in
    parsed_large c.args.text.now c.args.most c.in-Ok.number digits c.in-Ok.ensures.0.1 c.if-number-most.false

pub returns-in_default-2-clause-exact : goal.returns-in_default-2-clause-exact
returns-in_default-2-clause-exact c =
    let digits : are_digits c.args.text.now ≡ true = grind arith in
    let small : c.args.most < 2 ^ 128 = omega arith in unparsed c.args.text.now c.args.most digits c.in_default.ensures.0 small
