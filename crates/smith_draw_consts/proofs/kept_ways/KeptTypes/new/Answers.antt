use Rattle.smith_draw_consts.proofs.Common.{All, All-nil, List, subst, sym}
use Rattle.smith_draw_consts.specs.KeptOffers.{IsKeptWays}
use Rattle.smith_draw_consts.specs.declared.kept_ways.KeptWays.{KeptWays}
use Rattle.smith_draw_consts.proofs.kept_ways.KeptTypes.new.Goals as goal

pub returns : goal.returns
returns c = λ context. subst (λ (kept : List KeptWays). All (IsKeptWays context) kept) (sym c.new.ensures.items)
    (All-nil (IsKeptWays context))
