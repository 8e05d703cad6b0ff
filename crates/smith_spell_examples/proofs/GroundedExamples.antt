-- The heap types that the types of the examples ground.
use Rattle.smith_spell_examples.proofs.Common.{[], All-from_recursion, alone, ap, arith, Bool, Concrete, false, final, plain, refl}
use Rattle.std.proofs.Common.{◌&&◌}
use Rattle.std.specs.Prelude.{IsTrue, ◌↔◌}
use Rattle.std.specs.List.{list_any}
use Rattle.std.proofs.lemmas.Option.{same_Some}
use Rattle.smith_types.specs.Grounded.{IsGroundedByStructs}
use Rattle.smith_types.specs.Grounds.{is_ground, is_ground_of}
use Rattle.smith_types.specs.Subtyping.{is_abstract_below}
use Rattle.smith_types.specs.Syntax.value_type.AbstractHeapType.{AbstractHeapType}
use Rattle.smith_types.specs.Syntax.value_type.AbstractHeapType.TheVariants.{Struct}
use Rattle.smith_types.specs.Syntax.value_type.HeapType.{HeapType}
use Rattle.smith_types.specs.Syntax.composite_type.CompositeInnerType.{CompositeInnerType}
use Rattle.smith_draw_types.specs.Spelling.{IsRoot}
use Rattle.smith_spell.specs.Decided.{IsKnown}
use Rattle.smith_spell.proofs.KnownLemmas.{abstract_known, concrete_known}

-- facts about one type
known_alone : (inner : CompositeInnerType)
    → IsKnown (alone inner) (record { count = 1; has_ground = list_any (is_ground_of false) (alone inner) })
known_alone inner = record { counted = refl; grounds = refl; roots = All-from_recursion IsRoot (alone inner) (refl, tt) }

-- a type grounds itself if it is a struct type whose fields all have defaults
pub grounds_itself : (inner : CompositeInnerType) (descriptors : Bool) → IsTrue (is_ground (final inner)) ↔ IsGroundedByStructs
    (alone inner) descriptors (Concrete 0)
grounds_itself inner descriptors =
    concrete_known (alone inner) (record { count = 1; has_ground = list_any (is_ground_of false) (alone inner) }) descriptors 0 (Concrete 0)
    _ (known_alone inner) refl (omega arith) (λ t at. ap is_ground (same_Some _ t at))

-- such a type grounds the abstract heap types above it
pub grounds_above : (inner : CompositeInnerType) (descriptors : Bool) (ty : AbstractHeapType)
    → IsTrue (list_any (is_ground_of false) (alone inner) && is_abstract_below Struct ty) ↔ IsGroundedByStructs (alone inner) descriptors
    (plain ty)
grounds_above inner descriptors ty =
    abstract_known (alone inner) (record { count = 1; has_ground = list_any (is_ground_of false) (alone inner) }) descriptors false ty
    (plain ty) _ (known_alone inner) refl refl refl

-- no types ground none
pub none_grounded : (descriptors : Bool) (ty : HeapType) → IsGroundedByStructs [] descriptors ty → ⊥
none_grounded descriptors ty (i, g) = let (t, at, is) = g.struct in cc at
