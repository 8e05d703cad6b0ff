use Rattle.smith_types.proofs.Common.{sym, ◌≡◌}
use Rattle.smith_types.specs.FuncGrounds.{is_noted}
use Rattle.smith_types.specs.declared.ground.Ground.{Ground}
use Rattle.smith_types.proofs.MarkLemmas.{said_is}
use Rattle.smith_types.proofs.FuncGroundLemmas.{decided, noted_inside}
use Rattle.smith_types.proofs.func_grounds.FuncGrounds.are_grounding.Goals as goal

pub returns-in-Some : goal.returns-in-Some
returns-in-Some c =
    let found = rw c.deref.ensures.value at c.in-Some.ensures.lookup in
    let said = said_is (λ (ground : Ground). ground.below) c.args.self.now.marks.items c.in-Concrete.index c.in-Some.mark.now _ found.3.0
    found.1 in
    let is : c.in-Some.mark.now.below ≡ is_noted c.args.self.now c.args.ty = rw c.in-Concrete.is (sym said) in
    record {
      decided = decided c.args.self.now c.args.ty c.in-Some.mark.now.below is;
      within = noted_inside c.args.self.now c.args.ty c.in-Some.mark.now.below is;
    }

pub returns-in-Some-get : goal.returns-in-Some-get
returns-in-Some-get c =
    let found = rw c.deref-in-Exact.ensures.value at c.in-Some-get.ensures.lookup in
    let said = said_is (λ (ground : Ground). ground.own) c.args.self.now.marks.items c.in-Exact.index c.in-Some-get.mark.now _ found.3.0
    found.1 in
    let is : c.in-Some-get.mark.now.own ≡ is_noted c.args.self.now c.args.ty = rw c.in-Exact.is (sym said) in
    record {
      decided = decided c.args.self.now c.args.ty c.in-Some-get.mark.now.own is;
      within = noted_inside c.args.self.now c.args.ty c.in-Some-get.mark.now.own is;
    }
