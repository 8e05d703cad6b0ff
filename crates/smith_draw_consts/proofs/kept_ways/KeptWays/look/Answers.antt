use Rattle.smith_draw_consts.proofs.Common.{arith, false, true}
use Rattle.smith_draw_consts.specs.ConstScopes.{context_of}
use Rattle.smith_draw_consts.proofs.KeptWayLemmas.{fuelled}
use Rattle.smith_draw_consts.proofs.kept_ways.KeptWays.look.Goals as goal

pub returns-clause-counted : goal.returns-clause-counted
returns-clause-counted c =
    let context = context_of c.args.scope.now in
    record {
      bare_structs = λ none. absurd (omega (arith, none, c.if-fuel-eq0.false));
      structs = λ some. fuelled context c.args.self.now.wanted false c.args.fuel _ some c.in_ok-read_types-2.ensures.all;
      arrays = λ some. fuelled context c.args.self.now.wanted true c.args.fuel _ some c.in_ok-read_types-3.ensures.all;
    }
