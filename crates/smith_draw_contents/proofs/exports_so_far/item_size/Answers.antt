use Rattle.smith_draw_contents.proofs.Common.{arith, None, refl, slice_get, Some, spaces_in, ◌≡◌}
use Rattle.std.proofs.lemmas.Option.{slice_get_past}
use Rattle.smith_draw_contents.proofs.CandidateLemmas.{func_here, func_sized_at, func_typed_at}
use Rattle.smith_draw_contents.proofs.exports_so_far.item_size.Goals as goal

pub size_of-requires-clause-typed : goal.size_of-requires-clause-typed
size_of-requires-clause-typed c =
    let at : slice_get c.args.spaces.now.funcs c.args.index ≡ Some c.in-Some.func.now =
    func_here c.args.spaces.now.funcs c.args.index c.in-Some.func.now
    (omega (arith, (rw c.as_slice.ensures at c.in-Some.ensures.lookup).3.0)) (rw c.as_slice.ensures at c.in-Some.ensures.lookup).1 in
    func_typed_at c.args.types.now.types (spaces_in c.args.spaces.now) c.args.index c.in-Some.func.now c.requires at

pub size_of-requires-clause-fits : goal.size_of-requires-clause-fits
size_of-requires-clause-fits c =
    let at : slice_get c.args.spaces.now.funcs c.args.index ≡ Some c.in-Some.func.now =
    func_here c.args.spaces.now.funcs c.args.index c.in-Some.func.now
    (omega (arith, (rw c.as_slice.ensures at c.in-Some.ensures.lookup).3.0)) (rw c.as_slice.ensures at c.in-Some.ensures.lookup).1 in
    omega (arith, func_sized_at c.args.types.now.types (spaces_in c.args.spaces.now) c.args.index c.in-Some.func.now c.requires at)

pub returns-in-Some-clause-exact : goal.returns-in-Some-clause-exact
returns-in-Some-clause-exact c =
    let at : slice_get c.args.spaces.now.funcs c.args.index ≡ Some c.in-Some.func.now =
    func_here c.args.spaces.now.funcs c.args.index c.in-Some.func.now
    (omega (arith, (rw c.as_slice.ensures at c.in-Some.ensures.lookup).3.0)) (rw c.as_slice.ensures at c.in-Some.ensures.lookup).1 in
    rw (c.in-Func.is, at) c.size_of.ensures

pub returns-in-Some-clause-few : goal.returns-in-Some-clause-few
returns-in-Some-clause-few c =
    let at : slice_get c.args.spaces.now.funcs c.args.index ≡ Some c.in-Some.func.now =
    func_here c.args.spaces.now.funcs c.args.index c.in-Some.func.now
    (omega (arith, (rw c.as_slice.ensures at c.in-Some.ensures.lookup).3.0)) (rw c.as_slice.ensures at c.in-Some.ensures.lookup).1 in
    omega (
      arith,
      c.size_of.ensures,
      func_sized_at c.args.types.now.types (spaces_in c.args.spaces.now) c.args.index c.in-Some.func.now
          c.requires at,
    )

pub returns-in-None-clause-exact : goal.returns-in-None-clause-exact
returns-in-None-clause-exact c =
    let at : slice_get c.args.spaces.now.funcs c.args.index ≡ None = slice_get_past c.args.spaces.now.funcs c.args.index
    (rw c.as_slice.ensures at c.in-None.ensures.lookup).3 in
    rw (c.in-Func.is, at) refl
