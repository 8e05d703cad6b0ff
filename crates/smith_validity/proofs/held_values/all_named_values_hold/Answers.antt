use Rattle.smith_types.specs.EntitySpaces.{spaces_in}
use Rattle.smith_validity.proofs.HeldValueLemmas.{all_values_joined, all_values_apart}
use Rattle.smith_validity.proofs.held_values.all_named_values_hold.Goals as goal

pub returns : goal.returns
returns g c =
    let property = g.P.Predicate.meaning c.args.predicate.now in
    let types = c.args.types.now in
    let spaces = spaces_in c.args.spaces.now in (
      λ yes. let h = c.are_named.ensures.0 yes in all_values_joined property types spaces h.of_types h.of_tables h.of_globals,
      λ all. let (held, tables, globals) = all_values_apart property types spaces all in
          c.are_named.ensures.1 (record { of_types = held; of_tables = tables; of_globals = globals }),
    )
