use Rattle.smith_config_examples.proofs.Common.{rules, arith, common_steps, ◌≡◌, ◌≤◌, [], ◌∷◌, Some, refl, codes, IsTableValid, funcref}
use Rattle.smith_config_examples.proofs.Common.{IsGroupValid, Features, final_type, plain_func, range, table, default_config, features_of}
use Rattle.smith_config_examples.proofs.Common.{false}
use Rattle.smith_types.specs.Syntax.entity_type.ExportKind.TheVariants as kind
use Rattle.smith_config_examples.proofs.ChainExamples.{chain_deep}
use Rattle.smith_config_examples.proofs.ShapeFaultExamples as wrong
use Rattle.smith_config_examples.proofs.shapes.consistent.Goals as goal

abbrev without_gc : Features
without_gc = features_of (record default_config { gc_enabled = false })

pub returns : goal.returns
returns c = record {
  nothing = first_of (search rules, grind (arith, common_steps));
  type_below_itself = λ consistent. wrong.below_itself (features_of default_config) consistent.types;
  deep_types = λ consistent. let most : 64 ≤ 63 = consistent.shallow.each 63 64 (chain_deep 64 63 (omega arith)) in omega (arith, most);
  function_of_no_type = first_of (search rules, grind (arith, common_steps));
  table_of_crossed_limits = λ consistent.
      let valid : IsTableValid (features_of default_config) [] (table funcref 2 (Some 1)) =
      consistent.entities.tables 0 (table funcref 2 (Some 1)) (omega arith) in
      let ordered : 2 ≤ 1 = valid.limits.maximum_fits.0 in
      omega (arith, ordered);
  export_of_nothing = λ consistent. let (ty, (memory, at, same)) = consistent.exports.stand 0 (codes "a", kind.Memory, 0) (omega arith) in
      cc at;
  type_that_is_not_final_without_gc = λ consistent. wrong.not_final_without_gc without_gc refl consistent.types;
  group_of_two_without_gc = λ consistent.
      let group : IsGroupValid without_gc (final_type plain_func ∷ final_type plain_func ∷ []) (range 0 2) =
      consistent.types.groups 0 (range 0 2) (omega arith) in
      let single : 2 ≡ 1 = group.single refl in
      omega (arith, single);
  empty_group_without_gc = λ consistent.
      let group : IsGroupValid without_gc [] (range 0 0) = consistent.types.groups 0 (range 0 0) (omega arith) in
      let single : 0 ≡ 1 = group.single refl in
      omega (arith, single);
}
