use Rattle.smith_types.proofs.Common.{[], ap, arith, length, sym, ◌++◌, ◌∙◌, ◌∷◌, ◌≡◌}
use Rattle.std.proofs.lemmas.List.{map-append}
use Rattle.smith_types.specs.GroupedTypes.{extensible_from}
use Rattle.smith_types.specs.Places.{depths_in}
use Rattle.smith_types.specs.declared.place.Place.{Place}
use Rattle.smith_types.proofs.SpaceLemmas.{extensible-push}
use Rattle.smith_types.proofs.PlaceLemmas.{depths_known}
use Rattle.smith_types.proofs.type_space.make_place.Goals as goal

pub returns-clause-extensible : goal.returns-clause-extensible
returns-clause-extensible c =
    let types = c.args.types.now in
    let places = c.args.places.now in
    let place = c.place_of-place.result in
    let depths = depths_known types places c.requires.places in
    let longer = extensible-push 0 (length types) types c.args.added.now (depths_in places) place.depth depths.long (omega arith) in
    let extended : c.push_where.new.indices.items ≡ extensible_from 0 (types ++ c.args.added.now ∷ [])
    (depths_in places ++ place.depth ∷ []) =
    c.in_ok-push_where.ensures.ok ∙ rw (c.may_have_subtypes-is_extensible.ensures, c.requires.extensible) (sym longer) in
    extended ∙ ap (extensible_from 0 (types ++ c.args.added.now ∷ [])) (sym (map-append (λ (p : Place). p.depth) places (place ∷ [])))
