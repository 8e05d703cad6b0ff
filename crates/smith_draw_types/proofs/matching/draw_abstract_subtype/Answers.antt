use Rattle.smith_draw_types.proofs.Common.{Abstract, ap, arith, length, length-map, map, rules, ◌++◌, ◌+◌, ◌∙◌, ◌≡◌}
use Rattle.std.proofs.lemmas.List.{length-append}
use Rattle.smith_draw_types.specs.Offered.{abstract_subtypes, kinds_below, of_kinds}
use Rattle.smith_draw_types.proofs.ChosenLemmas.{placed}
use Rattle.smith_draw_types.proofs.matching.draw_abstract_subtype.Goals as goal

pub returns : goal.returns
returns c =
    let abstracts = map (Abstract c.args.shared) (abstract_subtypes c.args.ty) in
    let kinds = of_kinds c.args.space.now.types c.args.shared (kinds_below c.args.ty) in
    let joined : length (abstracts ++ kinds) ≡ length (abstract_subtypes c.args.ty) + length kinds = length-append abstracts kinds
    ∙ ap (λ n. n + length kinds) (length-map (abstract_subtypes c.args.ty) (Abstract c.args.shared)) in
    let long = ap length c.abstract_subtypes-abstracts.ensures in
    let offered = rw (c.abstract_subtypes-abstracts.ensures, c.kinds_below-kinds.ensures) at c.offered_abstract.ensures in
    record {
      exact = placed _ _ _ _ _ _ _ (omega (arith, joined, long, c.count_of_kinds_below.ensures.count))
          (rw (c.new.ensures.start, c.new.ensures.end) at c.int_in_range-place.ensures.exact) offered;
      left = search rules;
    }
