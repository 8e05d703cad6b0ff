use Rattle.smith_body_nodes.specs.Scopes.{where_stands}
use Rattle.smith_body_nodes.proofs.ChosenLemmas.{ok_by}
use Rattle.smith_body_tables.proofs.TableLemmas.{value_number, value_reference}
use Rattle.smith_body_tables.proofs.tables.choose_table_value.Goals as goal

pub returns-in-Ref-clause-exact : goal.returns-in-Ref-clause-exact
returns-in-Ref-clause-exact c =
    ok_by c.choose_table_get.result _ _ _ (value_reference (where_stands c.args.scope.now c.args.draft.now) c.args.wanted c.in-Ref.field-0
    c.args.u.now c.in-Ref.is) c.choose_table_get.ensures.exact

pub returns-in_default : goal.returns-in_default
returns-in_default c = record {
  exact = ok_by c.choose_table_growth.result _ _ _ (value_number (where_stands c.args.scope.now c.args.draft.now) c.args.wanted c.args.u.now
      c.in_default.not-Ref) c.choose_table_growth.ensures.exact;
  offer = c.choose_table_growth.ensures.offer;
  memory = c.choose_table_growth.ensures.memory;
  left = c.choose_table_growth.ensures.left;
}
