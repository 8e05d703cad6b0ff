use Rattle.smith_draw_imports.proofs.Common.{sym, ◌∙◌}
use Rattle.smith_draw_imports.proofs.ImportNameLemmas.{pair_added}
use Rattle.smith_draw_imports.proofs.import_names.distinct_name.Goals as goal

pub returns-clause-added : goal.returns-clause-added
returns-clause-added c =
    pair_added c.args.pairs.now c.insert.new.self c.in_ok-pair.pair c.args.from.now _ c.in_ok-insert.field-0
    (c.in_ok-pair.ensures.from ∙ c.in_ok-to_string.ensures.ok) (sym c.in_ok-name.ensures.cases)
    (rw c.in_ok-to_string.ensures.ok at c.in_ok-pair.ensures.made.fresh) c.in_ok-insert.ensures.added c.in_ok-insert.ensures.keys
    c.in_ok-insert.ensures.len
