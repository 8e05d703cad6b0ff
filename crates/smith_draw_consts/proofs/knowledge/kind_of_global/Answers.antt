use Rattle.smith_draw_consts.proofs.Common.{ap, arith, false, get_or_from_slice_get, GlobalType, I32, length, List, None, Option}
use Rattle.smith_draw_consts.proofs.Common.{slice_index, ValType, ◌∙◌}
use Rattle.std.specs.Prelude.{slice_index_or}
use Rattle.smith_draw_consts.specs.ConstScopes.{context_of}
use Rattle.smith_draw_consts.specs.KeptOffers.{AreAllRead, IsFewWhole, readable}
use Rattle.smith_draw_consts.proofs.ClassLemmas.{same_element}
use Rattle.smith_draw_consts.proofs.KnownLemmas.{class_exists}
use Rattle.smith_draw_consts.proofs.knowledge.kind_of_global.Goals as goal
use Rattle.smith_draw_consts.proofs.knowledge.kind_of_global.Goals.{In-Few, In-Many}

few : (c : In-Few) → IsFewWhole (context_of c.args.scope.now) c.in-Few.items.now
few c = rw c.in-Few.is at c.requires.known

many : (c : In-Many) → AreAllRead (context_of c.args.scope.now) c.in-Many.items.now
many c = (rw c.in-Many.is at c.requires.known).0

pub bounds-as_slice-index : goal.bounds-as_slice-index
bounds-as_slice-index c =
    let whole = few (goal.at.bounds-as_slice-index c).In-Few in
    omega (arith, ap length c.as_slice.ensures.value, whole.globals, c.requires.there)

pub returns-in-Few : goal.returns-in-Few
returns-in-Few c = λ global at.
    let whole = few (goal.at.returns-in-Few c).In-Few in
    let kinds : List (Option ValType) = c.in-Few.items.now.globals.items in
    ap (λ (all : List (Option ValType)). slice_index_or all c.args.index None) c.as_slice.ensures.value
    ∙ get_or_from_slice_get kinds c.args.index (readable global) None
    (whole.read.globals.same c.args.index global (omega (arith, whole.globals, c.requires.there)) at)

pub kind_of-requires-clause-there : goal.kind_of-requires-clause-there
kind_of-requires-clause-there c =
    let all = many (goal.at.kind_of-requires-clause-there c).In-Many in
    omega (arith, all.globals, c.requires.there)

pub kind_of-requires-clause-classed : goal.kind_of-requires-clause-classed
kind_of-requires-clause-classed c =
    let context = context_of c.args.scope.now in
    let d : GlobalType = record { val_type = I32; mutable = false; shared = false } in
    let all = many (goal.at.kind_of-requires-clause-classed c).In-Many in
    class_exists context.types (λ index global. readable global) context.globals d c.in-Many.items.now.globals c.args.index all.read.globals
    (omega (arith, all.globals, c.requires.there))

pub returns-in-Many : goal.returns-in-Many
returns-in-Many c = λ global at.
    let all = many (goal.at.returns-in-Many c).In-Many in
    let classes = c.in-Many.items.now.globals in
    same_element classes.kinds (slice_index classes.of c.args.index) c.kind_of.result (readable global) c.kind_of.ensures
    (all.read.globals.same c.args.index global (omega (arith, all.globals, c.requires.there)) at)
