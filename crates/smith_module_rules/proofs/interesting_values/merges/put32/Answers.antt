use Rattle.std.proofs.Common.{arith, ◌++◌, ◌-◌, ◌∷◌, [], length, ap, ◌∙◌}
use Rattle.std.specs.Prelude.{drop}
use Rattle.std.proofs.lemmas.List.{length-drop, take_all}
use Rattle.smith_module_rules.proofs.MergeLemmas.{put}
use Rattle.smith_module_rules.proofs.interesting_values.merges.put32.Goals as goal

pub returns-clause-put : goal.returns-clause-put
returns-clause-put c =
    let rest = c.args.rest.now in
    let place = c.place32-before.result in
    put c.args.made.now.items rest c.args.number place.0 place.1 c.push.new.self.items _ c.place32-before.ensures
    (take_all (length rest - place.1) (drop place.1 rest) (omega (arith, length-drop place.1 rest)))
    (c.in_ok-push.ensures.items ∙ ap (λ xs. xs ++ c.args.number ∷ []) c.in_ok-extend_from_slice.ensures.items)
