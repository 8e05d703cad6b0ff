use Rattle.smith_draw_consts.proofs.Common.{ap, arith, false, get_or, GlobalType, I32, IfSome, IsValInRange, length, Option, slice_get}
use Rattle.smith_draw_consts.proofs.Common.{slice_get-get_or, Some, ValType, ℕ, ◌+◌, ◌<◌, ◌∙◌, ◌≡◌}
use Rattle.smith_draw_consts.specs.ConstScopes.{context_of}
use Rattle.smith_draw_consts.specs.KeptOffers.{readable}
use Rattle.smith_draw_consts.proofs.ClassLemmas.{classes_noted, flags_noted, one_noted}
use Rattle.smith_draw_consts.proofs.KnownLemmas.{global_kind_exists}
use Rattle.smith_draw_consts.proofs.read_items.read_globals.Goals as goal

pub loop-index-preserved : goal.loop-index-preserved
loop-index-preserved c =
    let context = context_of c.args.scope.now in
    let d : GlobalType = record { val_type = I32; mutable = false; shared = false } in
    let index : ℕ = c.loop-index.index in
    let inside : index < length context.globals = omega (arith, c.loop-index-test.true, c.requires.scope.seen) in
    let global : GlobalType = get_or context.globals index d in
    let at : slice_get context.globals index ≡ Some global = slice_get-get_or context.globals index d inside in
    let kind : Option ValType = c.recorded_global-kind.result in
    let there : slice_get context.globals (length c.loop-index.classes.of) ≡ Some global =
    ap (slice_get context.globals) c.loop-index.invariant.here ∙ at in
    let exists : IfSome kind (IsValInRange context.types) = global_kind_exists context c.requires.scope d index kind inside
    c.recorded_global-kind.ensures in
    record {
      read = classes_noted context.types (λ place each. readable each) context.globals global kind c.loop-index.classes c.note.new.self
          c.loop-index.invariant.read there (c.recorded_global-kind.ensures global at) exists c.in_ok-note.ensures.noted;
      flags = λ types wanted flags are. flags_noted types wanted kind c.loop-index.classes c.note.new.self flags c.in_ok-note.ensures.noted
          (c.loop-index.invariant.flags types wanted flags are);
      here = one_noted kind c.loop-index.classes c.note.new.self c.in_ok-note.ensures.noted
          ∙ ap (λ (n : ℕ). n + 1) c.loop-index.invariant.here;
    }
