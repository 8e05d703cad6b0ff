use Rattle.smith_module_rules_examples.proofs.Common.{rules, arith, IsStartValid, [], ◌∷◌, None, true, pos, refl, All-from_recursion}
use Rattle.smith_module_rules_examples.proofs.Common.{funcref, IsRefBelow, IsItem, IsElementSegmentValid, not_null, Concrete, Const32}
use Rattle.smith_module_rules_examples.proofs.Common.{IsRefBelow-refl, below_kind, final, plain_function, each_place, IsTableDefined}
use Rattle.smith_module_rules_examples.proofs.Common.{global_context, segment_context, number_given, table, number, one_function}
use Rattle.smith_module_rules_examples.proofs.Common.{filled_table, table_from_a_number}
use Rattle.smith_module_rules_examples.proofs.PartExamples.{function_types, functions_valid, function_at, globals_defined}
use Rattle.smith_module_rules_examples.proofs.modules.started.Goals as goal

function_below : IsRefBelow one_function.types (not_null (Concrete 0)) funcref
function_below = record { heap = below_kind one_function.types 0 (final plain_function) refl; nullable = λ _. refl }

pub returns : goal.returns
returns c = record {
  a_function_in_a_table =
      let m = filled_table (Const32 (pos 0)) in
      let tables = each_place (IsTableDefined m) (None ∷ []) ((table funcref 1 None, refl, refl), tt) in
      let start : IsStartValid m.types m.funcs m.start = (0, refl, function_at) in
      let items = All-from_recursion (IsItem (segment_context m) funcref) (0 ∷ []) ((0, refl, function_below), tt) in
      let elements = All-from_recursion (IsElementSegmentValid (segment_context m) m.tables) m.elems (
        record {
          ty = search rules;
          ty_enabled = λ _. refl;
          items = items;
          kind = record {
            table = table funcref 1 None;
            stands = refl;
            below = IsRefBelow-refl one_function.types funcref;
            offset_valid = refl;
          };
        },
        tt,
      ) in
      search (rules, function_types, functions_valid, tables, start, elements);
  from_where_a_number_says =
      let m = table_from_a_number true in
      let tables = each_place (IsTableDefined m) (None ∷ []) ((table funcref 1 None, refl, refl), tt) in
      let globals = globals_defined m
      (record { in_order = refl; global = number; stands = refl; initialised = number_given (global_context m 0) (pos 0) }, tt) in
      let start : IsStartValid m.types m.funcs m.start = (0, refl, function_at) in
      let items = All-from_recursion (IsItem (segment_context m) funcref) (0 ∷ []) ((0, refl, function_below), tt) in
      let elements = All-from_recursion (IsElementSegmentValid (segment_context m) m.tables) m.elems (
        record {
          ty = search rules;
          ty_enabled = λ _. refl;
          items = items;
          kind = record {
            table = table funcref 1 None;
            stands = refl;
            below = IsRefBelow-refl one_function.types funcref;
            offset_valid = (number, refl, omega arith, refl, refl);
          };
        },
        tt,
      ) in
      search (rules, function_types, functions_valid, tables, globals, start, elements);
}
