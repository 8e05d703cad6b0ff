use Rattle.smith_draw_definitions.proofs.Common.{arith, refused_with}
use Rattle.std.proofs.Math.Bool.{and-true}
use Rattle.std.proofs.lemmas.List.{length-take-le}
use Rattle.smith_bytes.specs.declared.error.Count.TheVariants as counts
use Rattle.smith_draw_definitions.specs.Definitions.{Global, scope_among}
use Rattle.smith_draw_definitions.proofs.KeptOfferLemmas.{kept_pushed}
use Rattle.smith_draw_definitions.proofs.GlobalsLoop.{none_made, define_more, define_refused, define_stop, define_full, count_is}
use Rattle.smith_draw_definitions.proofs.GlobalsLoop.{globals_added}
use Rattle.smith_draw_definitions.proofs.globals.push_globals.Goals as goal

pub loop-made-init : goal.loop-made-init
loop-made-init c =
    let standing = scope_among c.args.types.now.types c.args.funcs.now c.args.imported_funcs c.args.imported_globals c.args.globals.now in
    record {
      defining = none_made c.args.config.now standing c.args.globals.now c.args.initials.now c.args.u.now c.requires.valid;
      kept = c.requires.kept;
    }

pub returns-then-not-goes_on-clause-exact : goal.returns-then-not-goes_on-clause-exact
returns-then-not-goes_on-clause-exact c =
    define_stop c.loop-made.invariant.defining (rw (c.saturating_sub-made-end.ensures, c.len-before.ensures) at c.loop-made-test.true)
    (rw (c.saturating_sub-least.ensures, c.len-before.ensures) at c.goes_on.ensures.exact) c.if-not-goes_on.true

pub returns-then-not-goes_on-clause-grounded : goal.returns-then-not-goes_on-clause-grounded
returns-then-not-goes_on-clause-grounded c = globals_added c.loop-made.invariant.defining

pub returns-clause-grounded : goal.returns-clause-grounded
returns-clause-grounded c = globals_added c.loop-made.invariant.defining

pub draw_initialised_global-requires-clause-spaces : goal.draw_initialised_global-requires-clause-spaces
draw_initialised_global-requires-clause-spaces c =
    let may = c.requires.may in
    let count = count_is c.loop-made.invariant.defining in
    let same = c.as_slice.ensures in
    record {
      types = may.valid;
      funcs = may.funcs;
      globals = rw same c.loop-made.invariant.defining.valid;
      imported = rw same (omega (arith, count, c.requires.imported));
      few_funcs = may.few_funcs;
      few_globals = rw same (omega (
        arith,
        count,
        c.len-before.ensures,
        c.saturating_sub-made-end.ensures,
        c.loop-made-test.true,
        c.requires.few,
        may.passes.few counts.Globals,
      ));
    }

pub loop-made-preserved : goal.loop-made-preserved
loop-made-preserved c =
    let drawn = c.in_ok-global.ensures in
    let visible = and-true c.args.config.now.gc_enabled in
    let seen = length-take-le c.args.imported_globals c.args.globals.now c.requires.imported in
    let standing = scope_among c.args.types.now.types c.args.funcs.now c.args.imported_funcs c.args.imported_globals c.args.globals.now in
    record {
      defining =
          define_more c.loop-made.invariant.defining (rw (c.saturating_sub-made-end.ensures, c.len-before.ensures) at c.loop-made-test.true)
          (rw (c.saturating_sub-least.ensures, c.len-before.ensures) at c.goes_on.ensures.exact) c.if-not-goes_on.false
          (rw (c.as_slice.ensures, visible, ← seen) at drawn.exact)
          drawn.valid
          (rw (c.as_slice.ensures, visible, ← seen) at drawn.initialised)
          drawn.floats
          drawn.grounded
          drawn.constants
          c.in_ok-push.ensures.ok
          c.in_ok-push-2.ensures.ok
          c.goes_on.ensures.left
          drawn.left;
      kept =
          kept_pushed c.args.config.now standing c.loop-made.globals _ _ _ c.requires.may.valid.orderly c.requires.may.funcs
          c.loop-made.invariant.defining.valid c.in_ok-push.ensures.ok
          (rw (c.as_slice.ensures, visible, ← seen) at drawn.kept);
    }

pub returns-clause-exact : goal.returns-clause-exact
returns-clause-exact c =
    define_full c.loop-made.invariant.defining (rw (c.saturating_sub-made-end.ensures, c.len-before.ensures) at c.loop-made-test.false)
    (rw c.len-before.ensures at c.discard_past_maximum.ensures.exact)

pub draw_initialised_global-requires-clause-kept : goal.draw_initialised_global-requires-clause-kept
draw_initialised_global-requires-clause-kept c =
    let visible = and-true c.args.config.now.gc_enabled in
    let seen = length-take-le c.args.imported_globals c.args.globals.now c.requires.imported in
    rw (c.as_slice.ensures, visible, ← seen) c.loop-made.invariant.kept

pub returns-in_err-global-clause-exact : goal.returns-in_err-global-clause-exact
returns-in_err-global-clause-exact c =
    let visible = and-true c.args.config.now.gc_enabled in
    let seen = length-take-le c.args.imported_globals c.args.globals.now c.requires.imported in
    refused_with {X = Global} (λ drawn. (drawn, c.draw_initialised_global.new.u)) _ c.in_err-global.field-0.0 _ _ c.from_residual.result
    c.in_err-global.ensures.exact
    (λ refused. define_refused c.loop-made.invariant.defining (rw (c.saturating_sub-made-end.ensures, c.len-before.ensures) at
    c.loop-made-test.true) (rw (c.saturating_sub-least.ensures, c.len-before.ensures) at c.goes_on.ensures.exact) c.if-not-goes_on.false
    (rw (c.as_slice.ensures, visible, ← seen) at refused))
    c.from_residual.ensures.1
