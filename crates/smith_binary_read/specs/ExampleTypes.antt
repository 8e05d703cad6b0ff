-- Types of the examples.
use Rattle.std.specs.Prelude.{ℕ, false, [], Option}
use Rattle.smith_types.specs.Syntax.composite_type.CompositeInnerType.TheVariants.{Struct}
use Rattle.smith_types.specs.Syntax.composite_type.SubType.{SubType}

-- the type of an empty struct that is not final, with this supertype, if it has one
abbrev pub sub_type : Option ℕ → SubType
sub_type supertype = record {
  is_final = false;
  supertype = supertype;
  composite_type = record { inner = Struct (record { fields = [] }); shared = false };
}
