use Rattle.std.proofs.Common.{◌∙◌, sym}
use Rattle.smith_check_types.proofs.FirstGroupLemmas.{kept_start, added_start}
use Rattle.smith_check_types.proofs.first_groups.first_start.Goals as goal

pub returns-in-Some-clause-starts : goal.returns-in-Some-clause-starts
returns-in-Some-clause-starts c =
    kept_start c.args.starts.now c.args.codes.items c.in-Some.start (sym c.get.ensures.value ∙ sym c.copied-known.ensures ∙ c.in-Some.is)

pub returns-in_ok-insert-in-None-clause-starts : goal.returns-in_ok-insert-in-None-clause-starts
returns-in_ok-insert-in-None-clause-starts c = added_start c.args.starts.now c.insert.new.self c.args.codes c.args.next
    c.in_ok-insert-in-None.ensures.entries
