use Rattle.std.proofs.Common.{ℕ, Ok, ap, ◌∙◌, refl}
use Rattle.std.proofs.lemmas.Result.{err_from_is_err_and}
use Rattle.smith_binary_read.proofs.TypeLemmas.{none_split, first_split, count_fails, first_fails, further_fails}
use Rattle.smith_binary_read.proofs.types.read_supertypes.Goals as goal

pub returns-in_err-count : goal.returns-in_err-count
returns-in_err-count c =
    let p = err_from_is_err_and c.from_residual.result c.from_residual.ensures.1 in
    rw (p.1, p.2) (count_fails c.in_err-count.field-0.0 c.args.reader.now c.in_err-count.ensures)

pub returns-then-count-eq0 : goal.returns-then-count-eq0
returns-then-count-eq0 c =
    rw c.new.ensures (none_split c.args.reader.now c.read_u32.new.self
    (c.in_ok-count.ensures ∙ ap (λ (n : ℕ). Ok (n, c.read_u32.new.self)) c.if-count-eq0.true))

pub returns-in_err-first : goal.returns-in_err-first
returns-in_err-first c =
    let p = err_from_is_err_and c.from_residual-in_err-first.result c.from_residual-in_err-first.ensures.1 in
    rw (p.1, p.2) (first_fails c.in_err-first.field-0.0 c.args.reader.now c.in_ok-count.count c.read_u32.new.self c.in_ok-count.ensures
    c.if-count-eq0.false c.in_err-first.ensures)

pub returns-in_err-further : goal.returns-in_err-further
returns-in_err-further c =
    let p = err_from_is_err_and c.from_residual-in_err-further.result c.from_residual-in_err-further.ensures.1 in
    rw (p.1, p.2) (further_fails c.in_err-further.field-0.0 c.args.reader.now c.in_ok-count.count c.read_u32.new.self c.in_ok-first.first
    c.read_u32-2.new.self c.in_ok-count.ensures c.if-count-eq0.false c.in_ok-first.ensures c.in_err-further.ensures)

pub returns : goal.returns
returns c =
    first_split c.args.reader.now c.in_ok-count.count c.read_u32.new.self c.in_ok-count.ensures c.if-count-eq0.false
    ∙ rw (c.in_ok-first.ensures, c.in_ok-further.ensures) refl
