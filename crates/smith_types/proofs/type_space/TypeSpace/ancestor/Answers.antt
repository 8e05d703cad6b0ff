use Rattle.smith_types.proofs.Common.{ap}
use Rattle.smith_types.proofs.type_space.TypeSpace.ancestor.Goals as goal

pub find_ancestor-requires : goal.find_ancestor-requires
find_ancestor-requires c = record {
  places = rw (c.as_slice-types.ensures.value, c.as_slice-places.ensures.value) c.self.invariant.1;
  inside = rw (c.as_slice-types.ensures.value, ap (λ s. s.types) c.self.view_is) c.requires.stands;
  some = c.requires.some;
  within = rw (c.as_slice-types.ensures.value, ap (λ s. s.types) c.self.view_is) c.requires.within;
}

pub returns-clause-deep : goal.returns-clause-deep
returns-clause-deep c = rw (c.as_slice-types.ensures.value, ap (λ s. s.types) c.self.view_is) at c.find_ancestor.ensures.depth_is

pub returns-clause-above : goal.returns-clause-above
returns-clause-above c = rw (c.as_slice-types.ensures.value, ap (λ s. s.types) c.self.view_is) at c.find_ancestor.ensures.above
