use Rattle.smith_draw_contents.proofs.Common.{sym, ◌∙◌}
use Rattle.smith_draw_contents.proofs.ExportNameLemmas.{export_named, names_more}
use Rattle.smith_draw_contents.proofs.export_names.draw_export_name.Goals as goal

pub returns-clause-exact : goal.returns-clause-exact
returns-clause-exact c = λ exports known few. rw c.from_string.ensures (export_named c.args.u.now known few c.in_ok-name.ensures.made
    c.in_ok-name.ensures.rest)

pub returns-clause-fresh : goal.returns-clause-fresh
returns-clause-fresh c = λ exports known. rw c.from_string.ensures (sym (known.has _) ∙ c.in_ok-name.ensures.made.fresh)

pub returns-clause-names : goal.returns-clause-names
returns-clause-names c = λ exports added known is. names_more added known (rw (is, c.from_string.ensures) c.in_ok-name.ensures.added)
