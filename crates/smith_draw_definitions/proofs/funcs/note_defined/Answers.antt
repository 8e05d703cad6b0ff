use Rattle.smith_draw_definitions.proofs.Common.{AreKeptGrounds, arith, features_of, function_context, List, refl, subst, ℕ}
use Rattle.std.proofs.lemmas.Bool.{le-leb}
use Rattle.std.proofs.lemmas.List.{take_all}
use Rattle.smith_draw_types.proofs.KeptGroundLemmas.{function_added}
use Rattle.smith_draw_definitions.proofs.funcs.note_defined.Goals as goal

pub loop-function-preserved : goal.loop-function-preserved
loop-function-preserved c = λ imported within h.
    let context = function_context (features_of c.args.config.now) c.args.types.now.types c.args.funcs.now imported in
    c.note.ensures _ _ refl (function_added context c.args.funcs.now c.loop-function.function _ 0 _ c.loop-function-test.true refl
    (rw (le-leb imported c.loop-function.function (omega (arith, within, c.loop-function.auto.function))) refl))
    (c.loop-function.invariant imported within h)

pub returns : goal.returns
returns c = λ imported within h.
    subst (λ (funcs : List ℕ). AreKeptGrounds (function_context (features_of c.args.config.now) c.args.types.now.types funcs imported)
    c.loop-function.grounds) (take_all c.loop-function.function c.args.funcs.now c.loop-function-test.false)
    (c.loop-function.invariant imported within h)
