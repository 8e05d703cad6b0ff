use Rattle.smith_spell.proofs.FuncPlaceLemmas.{places_all}
use Rattle.smith_spell.proofs.funcs.func_places.Goals as goal

pub returns-clause-places : goal.returns-clause-places
returns-clause-places c = places_all c.args.types.now c.loop-t.places c.loop-t.t-index c.loop-t.count c.loop-t-test.false
    c.loop-t.invariant.so_far
