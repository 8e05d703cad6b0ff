use Rattle.std.proofs.Common.{◌≡◌, Option}
use Rattle.std.proofs.lemmas.Result.{IfOk-weaker}
use Rattle.smith_body_nodes.specs.Scopes.{where_stands}
use Rattle.smith_body_nodes.specs.declared.node.Node.{Node}
use Rattle.smith_body_tables.specs.TableChoices.{table_growth_at, table_growth_node}
use Rattle.smith_body_tables.proofs.TableLemmas.{table_grown}
use Rattle.smith_body_tables.proofs.tables.choose_table_growth.Goals as goal

pub returns-clause-exact : goal.returns-clause-exact
returns-clause-exact c =
    let context = where_stands c.args.scope.now c.args.draft.now in
    IfOk-weaker c.growth_of.result
    (λ (chosen : Option Node). chosen ≡ table_growth_node context c.args.wanted c.arbitrary-grown.result c.in-Some.index)
    (λ (chosen : Option Node). table_growth_at context c.args.wanted c.args.u.now ≡ (chosen, c.choose_table_addressed.new.u))
    (λ (chosen : Option Node) is. table_grown context c.args.wanted c.args.u.now _ _ c.arbitrary-grown.result c.in-Some.index chosen
    c.arbitrary-grown.ensures.exact c.in-Some.ensures.exact is)
    c.growth_of.ensures.exact
