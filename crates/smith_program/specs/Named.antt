-- The parts of the context of bodies that are computed once for a module.
use Rattle.std.specs.Prelude.{◌≡◌, map}
use Rattle.smith_types.specs.Syntax.segments.ElementSegment.{ElementSegment}
use Rattle.smith_module_rules.specs.Module.{ModuleParts}
use Rattle.smith_program.specs.References.{references_of}
use Rattle.smith_program.specs.declared.bodies.Named.{Named}

-- the types of the element segments, and the functions that `ref.func` may name
pub record IsNamed (m : ModuleParts) (named : Named) : Type 0 where
  pub elems : named.elems ≡ map (λ (segment : ElementSegment). segment.ty) m.elems
  pub references : named.references ≡ references_of m
