use Rattle.smith_draw_imports.proofs.Common.{string_bytes, sym, ◌∙◌}
use Rattle.smith_draw_imports.proofs.ImportNameLemmas.{name_made, name_is, knows_more}
use Rattle.smith_draw_imports.proofs.import_names.draw_import_name.Goals as goal

pub returns-clause-exact : goal.returns-clause-exact
returns-clause-exact c = λ imports knows.
    let known = knows c.if-not-distinct.false in
    name_is imports c.args.from.now c.args.u.now c.limited_string.new.u (string_bytes c.in_ok-text.text) _ c.args.distinct
    c.if-not-distinct.false c.in_ok-text.ensures.exact
    (name_made imports c.args.from.now _ _ _ _ (λ other. known.has c.args.from.now other) known.size
    (rw c.as_str.ensures at c.in_ok-name.ensures.made) ∙ sym c.from_string-2.ensures)

pub returns-clause-fresh : goal.returns-clause-fresh
returns-clause-fresh c = λ imports knows on.
    let known = knows on in
    rw c.from_string-2.ensures (sym (known.has c.args.from.now (string_bytes c.in_ok-name.name))
    ∙ (rw c.as_str.ensures at c.in_ok-name.ensures.made.fresh))

pub returns-clause-pairs : goal.returns-clause-pairs
returns-clause-pairs c = λ imports added knows from name on.
    knows_more added (knows on) (rw (from, name, c.from_string-2.ensures) (rw c.as_str.ensures at c.in_ok-name.ensures.added))

pub returns-then-not-distinct-clause-pairs : goal.returns-then-not-distinct-clause-pairs
returns-then-not-distinct-clause-pairs c = λ imports added knows from name on. absurd (cc (sym c.if-not-distinct.true ∙ on))
