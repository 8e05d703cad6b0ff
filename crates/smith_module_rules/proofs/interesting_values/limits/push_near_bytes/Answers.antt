use Rattle.std.proofs.Common.{◌≡◌, refl}
use Rattle.std.specs.List.{Any}
use Rattle.std.proofs.lemmas.Result.{on_ok_weaker}
use Rattle.smith_module_rules.specs.CollectedValues.{IsBeside, distances}
use Rattle.smith_module_rules.proofs.CollectedValueLemmas.{adds_either, adds_one}
use Rattle.smith_module_rules.proofs.interesting_values.limits.push_near_bytes.Goals as goal

pub returns-clause-adds : goal.returns-clause-adds
returns-clause-adds c =
    let bytes = c.args.bytes in
    let itself = adds_one {Holds = λ n. n ≡ bytes} bytes c.in_ok-push.ensures.ok c.ranges.bytes.fits refl (λ n same. same) in
    on_ok_weaker c.push_distances.result
    (λ others. adds_either (λ n. n ≡ bytes) (λ n. Any (λ distance. IsBeside bytes distance n) distances) itself others)
    c.push_distances.ensures.adds
