use Rattle.smith_draw_consts.proofs.Common.{ap, arith, function_reference, get_or_from_slice_get, length, List, slice_index, Some, ValType}
use Rattle.smith_draw_consts.proofs.Common.{ℕ, ◌∙◌, ◌≡◌}
use Rattle.smith_draw_consts.specs.ConstScopes.{context_of}
use Rattle.smith_draw_consts.specs.KeptOffers.{AreAllRead, IsFewWhole}
use Rattle.smith_draw_consts.proofs.ClassLemmas.{same_element}
use Rattle.smith_draw_consts.proofs.KnownLemmas.{class_exists}
use Rattle.smith_draw_consts.proofs.knowledge.kind_of_function.Goals as goal
use Rattle.smith_draw_consts.proofs.knowledge.kind_of_function.Goals.{In-Few, In-Many}

few : (c : In-Few) → IsFewWhole (context_of c.args.scope.now) c.in-Few.items.now
few c = rw c.in-Few.is at c.requires.known

many : (c : In-Many) → AreAllRead (context_of c.args.scope.now) c.in-Many.items.now
many c = (rw c.in-Many.is at c.requires.known).0

pub bounds-as_slice-index : goal.bounds-as_slice-index
bounds-as_slice-index c =
    let whole = few (goal.at.bounds-as_slice-index c).In-Few in
    omega (arith, ap length c.as_slice.ensures.value, whole.funcs, c.requires.there)

pub returns-in-Few : goal.returns-in-Few
returns-in-Few c = λ type at.
    let context = context_of c.args.scope.now in
    let whole = few (goal.at.returns-in-Few c).In-Few in
    let funcs : List ℕ = c.in-Few.items.now.funcs.items in
    let recorded : slice_index c.as_slice.result.now c.args.index ≡ type =
    ap (λ (all : List ℕ). slice_index all c.args.index) c.as_slice.ensures.value ∙ get_or_from_slice_get funcs c.args.index type 0
    (whole.read.funcs.same c.args.index type (omega (arith, whole.funcs, c.requires.there)) at) in
    ap (λ (reference : ValType). Some reference) (c.function_reference.ensures ∙ ap (function_reference context c.args.index) recorded)

pub kind_of-requires-clause-there : goal.kind_of-requires-clause-there
kind_of-requires-clause-there c =
    let all = many (goal.at.kind_of-requires-clause-there c).In-Many in
    omega (arith, all.funcs, c.requires.there)

pub kind_of-requires-clause-classed : goal.kind_of-requires-clause-classed
kind_of-requires-clause-classed c =
    let context = context_of c.args.scope.now in
    let all = many (goal.at.kind_of-requires-clause-classed c).In-Many in
    class_exists context.types (λ function type. Some (function_reference context function type)) context.funcs 0 c.in-Many.items.now.funcs
    c.args.index all.read.funcs (omega (arith, all.funcs, c.requires.there))

pub returns-in-Many : goal.returns-in-Many
returns-in-Many c = λ type at.
    let context = context_of c.args.scope.now in
    let all = many (goal.at.returns-in-Many c).In-Many in
    let classes = c.in-Many.items.now.funcs in
    same_element classes.kinds (slice_index classes.of c.args.index) c.kind_of.result (Some (function_reference context c.args.index type))
    c.kind_of.ensures (all.read.funcs.same c.args.index type (omega (arith, all.funcs, c.requires.there)) at)
