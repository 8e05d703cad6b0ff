use Rattle.smith_draw_examples.proofs.OneFunctionExamples.{one_function_spelled, more_asked}
use Rattle.smith_draw_examples.proofs.spelled_groups.spelled_groups.Goals as goal

pub returns : goal.returns
returns c = record { one_function = one_function_spelled; asks_for_more = more_asked }
