use Rattle.smith_draw_consts.proofs.Common.{ap, function_reference, get_or, IfSome, IsValInRange, length, Option, slice_get}
use Rattle.smith_draw_consts.proofs.Common.{slice_get-get_or, Some, sym, ValType, ℕ, ◌+◌, ◌<◌, ◌∙◌, ◌≡◌}
use Rattle.smith_draw_consts.specs.ConstScopes.{context_of}
use Rattle.smith_draw_consts.proofs.ClassLemmas.{classes_noted, flags_noted, one_noted}
use Rattle.smith_draw_consts.proofs.KnownLemmas.{function_kind_exists}
use Rattle.smith_draw_consts.proofs.read_items.read_funcs.Goals as goal

pub loop-index-preserved : goal.loop-index-preserved
loop-index-preserved c =
    let context = context_of c.args.scope.now in
    let place : ℕ = c.loop-index.index in
    let inside : place < length context.funcs = c.loop-index-test.true in
    let index : ℕ = get_or context.funcs place 0 in
    let at : slice_get context.funcs place ≡ Some index = slice_get-get_or context.funcs place 0 inside in
    let kind : Option ValType = c.recorded_function-reference.result in
    let there : slice_get context.funcs (length c.loop-index.classes.of) ≡ Some index =
    ap (slice_get context.funcs) c.loop-index.invariant.here ∙ at in
    let is : kind ≡ Some (function_reference context (length c.loop-index.classes.of) index) =
    c.recorded_function-reference.ensures index at ∙ ap (λ (n : ℕ). Some (function_reference context n index))
    (sym c.loop-index.invariant.here) in
    let exists : IfSome kind (IsValInRange context.types) = function_kind_exists context c.requires.scope place kind inside
    c.recorded_function-reference.ensures in
    record {
      read = classes_noted context.types (λ function type. Some (function_reference context function type)) context.funcs index kind
          c.loop-index.classes c.note.new.self c.loop-index.invariant.read there is exists c.in_ok-note.ensures.noted;
      flags = λ types wanted flags are. flags_noted types wanted kind c.loop-index.classes c.note.new.self flags c.in_ok-note.ensures.noted
          (c.loop-index.invariant.flags types wanted flags are);
      here = one_noted kind c.loop-index.classes c.note.new.self c.in_ok-note.ensures.noted
          ∙ ap (λ (n : ℕ). n + 1) c.loop-index.invariant.here;
    }
