use Rattle.std.proofs.Common.{List}
use Rattle.std.specs.List.{All}
use Rattle.std.proofs.lemmas.List.Elements.{All-from_recursion, recursion_from_All}
use Rattle.smith_validity.proofs.HeldValueLemmas.{all_of_parts, parts_of_all}
use Rattle.smith_types.specs.Syntax.composite_type.SubType.{SubType}
use Rattle.smith_config.specs.Shapes.{IsInnerShort}
use Rattle.smith_config.proofs.shape_check.short.is_short.Goals as goal

pub returns : goal.returns
returns c =
    let P : SubType → Type 0 = λ t. IsInnerShort t.composite_type.inner in
    let lists = c.are_lists_short.ensures.0 c.if-not-are_lists_short.false in
    let groups = c.args.shape.now.groups in (
      λ yes. record {
        groups = lists.groups;
        types = c.has_few_types.ensures.0 c.if-not-has_few_types.false;
        inner = all_of_parts P (λ (group : List SubType). group) groups (recursion_from_All (λ (group : List SubType). All P group) groups
            (c.has_short_types.ensures.0 yes));
        import_groups = lists.import_groups;
        imports = c.has_few_imports.ensures.0 c.if-not-has_few_imports.false;
        funcs = lists.funcs;
        tags = lists.tags;
        tables = lists.tables;
        memories = lists.memories;
        globals = lists.globals;
        exports = lists.exports;
      },
      λ short. c.has_short_types.ensures.1 (All-from_recursion (λ (group : List SubType). All P group) groups
          (parts_of_all P (λ (group : List SubType). group) groups short.inner)),
    )
