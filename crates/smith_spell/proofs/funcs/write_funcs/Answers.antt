use Rattle.smith_spell.proofs.Common.{arith, func_types, get_or, length, on_ok_weaker, refl, slice_get, Some, SpellsPlace, subst, sym, ℕ}
use Rattle.smith_spell.proofs.Common.{◌-◌, ◌∙◌, ◌≡◌}
use Rattle.smith_spell.proofs.WrittenLemmas.{nothing_written}
use Rattle.smith_spell.proofs.WrittenTypeLemmas.{place_within, place_written}
use Rattle.smith_spell.proofs.WritingLoop.{leads_listed, listed_written}
use Rattle.smith_spell.proofs.FuncPlaceLemmas.{func_place, func_inside, no_funcs}
use Rattle.smith_spell.proofs.funcs.write_funcs.Goals as goal

pub returns-then-count-eq0-clause-writes : goal.returns-then-count-eq0-clause-writes
returns-then-count-eq0-clause-writes c =
    nothing_written (no_funcs c.args.config.now c.args.types.now c.args.funcs.now (sym c.count_types-count.ensures ∙ c.if-count-eq0.true)
    c.requires.unshared c.requires.valid)

pub index-requires : goal.index-requires
index-requires c = func_inside c.args.types.now c.in_ok-places.places _ c.in_ok-places.ensures.places
    (c.requires.valid c.loop-func.func-index 0 c.loop-func-test.true)

pub write_number-requires : goal.write_number-requires
write_number-requires c =
    let types = c.args.types.now in
    let place = c.index.result.now in
    let func = get_or c.args.funcs.now c.loop-func.func-index 0 in
    let found = func_place types c.in_ok-places.places func place c.in_ok-places.ensures.places c.requires.unshared
    (c.requires.valid c.loop-func.func-index 0 c.loop-func-test.true) in
    let stands = subst (λ (n : ℕ). slice_get (func_types types) n ≡ Some func) (sym c.index.ensures) found in
    rw c.count_types-count.ensures (place_within (func_types types) place func stands)

pub loop-func-preserved : goal.loop-func-preserved
loop-func-preserved c =
    let types = c.args.types.now in
    let place = c.index.result.now in
    let func = get_or c.args.funcs.now c.loop-func.func-index 0 in
    let found = func_place types c.in_ok-places.places func place c.in_ok-places.ensures.places c.requires.unshared
    (c.requires.valid c.loop-func.func-index 0 c.loop-func-test.true) in
    let stands = subst (λ (n : ℕ). slice_get (func_types types) n ≡ Some func) (sym c.index.ensures) found in
    leads_listed (SpellsPlace (func_types types)) c.args.config.now.max_funcs c.loop-func.func-index c.args.funcs.now func 0
    c.loop-func-test.true c.requires.few refl c.loop-func.invariant
    c.in_ok-write_bool.ensures.writes (place_written {items = func_types types} place stands
    (rw c.count_types-count.ensures at c.in_ok-write_number.ensures.writes))

pub returns-clause-writes : goal.returns-clause-writes
returns-clause-writes c =
    let funcs = c.args.funcs.now in
    let most = c.args.config.now.max_funcs in
    let left : most - length funcs ≡ most - c.loop-func.func-index =
    omega (arith, c.loop-func-test.false, c.loop-func.auto.func-index-end) in
    on_ok_weaker c.write_end.result (listed_written (SpellsPlace (func_types c.args.types.now)) most c.loop-func.func-index
    (most - length funcs) funcs c.loop-func-test.false left c.loop-func.invariant)
    c.write_end.ensures.writes
