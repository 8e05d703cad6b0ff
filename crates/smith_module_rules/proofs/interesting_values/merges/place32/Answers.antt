use Rattle.smith_module_rules.proofs.MergeLemmas.{place_found, place_missing}
use Rattle.smith_module_rules.proofs.interesting_values.merges.place32.Goals as goal

pub returns-in-Ok : goal.returns-in-Ok
returns-in-Ok c = place_found c.args.numbers.now c.args.number c.in-Ok.at c.requires c.in-Ok.ensures.position

pub returns-in-Err : goal.returns-in-Err
returns-in-Err c = place_missing c.args.numbers.now c.args.number c.in-Err.at c.requires c.in-Err.ensures.position
