use Rattle.smith_types.proofs.Common.{ap, arith, length, refl, subst, sym, ◌≤◌}
use Rattle.std.proofs.lemmas.Option.{slice_get_read}
use Rattle.smith_types.specs.Types.{IsOrderly}
use Rattle.smith_types.specs.Grounds.{AreClosed}
use Rattle.smith_types.proofs.FuncGroundLemmas.{func_marks_closed, func_noted, func_left_out}
use Rattle.smith_types.proofs.func_grounds.FuncGrounds.note.Goals as goal

pub returns-in_default : goal.returns-in_default
returns-in_default c = λ before after over added h.
    let past : length c.args.types.now.types ≤ c.args.index = (rw c.types-types.ensures.value at c.in_default.ensures.lookup).3 in
    func_left_out before after c.args.index c.args.exact c.args.self.now (λ inside. omega (arith, past, ap length over, inside)) added h

pub returns : goal.returns
returns c = λ before after over added h.
    let types = c.args.types.now.types in
    let orderly = c.types-types.ensures.sound.orderly in
    let found = rw c.types-types.ensures.value at c.in-Some.ensures.lookup in
    let closed = subst (λ xs. AreClosed xs c.args.self.now.marks.items) over
    (func_marks_closed before c.args.self.now (subst IsOrderly (sym over) orderly) h) in
    func_noted types orderly c.args.index c.args.exact c.in-Some.ty.now (slice_get_read types _ c.args.index c.in-Some.ty.now refl found.3.0
    found.1) c.args.self.now
    (record { marks = c.note_type.new.marks; kinds = c.with-self.result }) ((rw c.types-types.ensures.value at c.note_type.ensures) closed)
    c.with-self.ensures before after over added h
