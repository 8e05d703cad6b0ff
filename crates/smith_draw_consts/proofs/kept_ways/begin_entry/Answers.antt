use Rattle.smith_draw_consts.proofs.Common.{All-set, arith, length, ◌%◌, ◌<◌}
use Rattle.std.proofs.lemmas.Nat.{mod_below}
use Rattle.smith_draw_consts.specs.KeptOffers.{IsKeptWays}
use Rattle.smith_draw_consts.proofs.KeptWayLemmas.{set_there}
use Rattle.smith_draw_consts.proofs.kept_ways.begin_entry.Goals as goal

pub returns-clause-kept : goal.returns-clause-kept
returns-clause-kept c = λ context valid kept. All-set (IsKeptWays context) c.args.entries.now.items (c.args.slot % c.len-count.result)
    c.new-2.result (c.new-2.ensures.kept context valid) kept

pub returns-clause-place : goal.returns-clause-place
returns-clause-place c =
    let some : 0 < c.len-count.result = omega (arith, c.if-count-lt-LEAST_ENTRIES.false) in
    let inside : c.args.slot % c.len-count.result < length c.args.entries.now.items =
    omega (arith, mod_below c.args.slot c.len-count.result some, c.len-count.ensures) in
    (c.new-2.result, set_there c.args.entries.now.items (c.args.slot % c.len-count.result) c.new-2.result inside, c.new-2.ensures.wanted)
