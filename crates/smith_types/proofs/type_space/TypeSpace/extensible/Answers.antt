use Rattle.smith_types.proofs.Common.{ap, subst, ◌∙◌}
use Rattle.smith_types.specs.Places.{depths_in}
use Rattle.smith_types.specs.GroupedTypes.{AreExtensible}
use Rattle.smith_types.proofs.PlaceLemmas.{depths_known}
use Rattle.smith_types.proofs.type_space.TypeSpace.extensible.Goals as goal

pub returns-clause-value : goal.returns-clause-value
returns-clause-value c =
    let known : AreExtensible c.self.inside.types.items c.as_slice.result.now = record {
      depths = depths_in c.self.inside.places.items;
      known = depths_known c.self.inside.types.items c.self.inside.places.items c.self.invariant.1;
      exact = c.as_slice.ensures.value ∙ c.self.invariant.2;
    } in
    subst (λ types. AreExtensible types c.as_slice.result.now) (ap (λ s. s.types) c.self.view_is) known
