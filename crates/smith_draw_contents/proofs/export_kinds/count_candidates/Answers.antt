use Rattle.smith_draw_contents.proofs.Common.{nat_lt, sym}
use Rattle.smith_draw_contents.proofs.CandidateLemmas.{length_alike}
use Rattle.smith_draw_contents.proofs.export_kinds.count_candidates.Goals as goal

pub returns-in-Table : goal.returns-in-Table
returns-in-Table c = rw (c.in-Table.is, c.count_others.ensures, c.len.ensures)
    (sym (length_alike (nat_lt 2 c.args.left) 0 c.args.spaces.now.tables))

pub returns-in-Memory : goal.returns-in-Memory
returns-in-Memory c = rw (c.in-Memory.is, c.count_others-in-Memory.ensures, c.len-in-Memory.ensures)
    (sym (length_alike (nat_lt 2 c.args.left) 0 c.args.spaces.now.memories))

pub returns-in-Global : goal.returns-in-Global
returns-in-Global c = rw (c.in-Global.is, c.count_others-in-Global.ensures, c.len-in-Global.ensures)
    (sym (length_alike (nat_lt 2 c.args.left) 0 c.args.spaces.now.globals))
