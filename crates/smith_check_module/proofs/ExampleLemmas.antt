-- Modules of the examples.
use Rattle.smith_check_module.proofs.Common.{[], All-cons, All-head, All-nil, AreTypesValid, arith, EntityType, ExportKind, I32, IsEntityAt}
use Rattle.smith_check_module.proofs.Common.{IsInstrEnabled, List, refl, ℕ, ◌∷◌}
use Rattle.std.specs.Prelude.{pos}
use Rattle.smith_types.specs.Syntax.const_instr.ConstInstr.TheVariants as constant
use Rattle.smith_types.specs.ExampleFeatures.{usual_features}
use Rattle.smith_types.specs.Groups.{space_of}
use Rattle.smith_types.specs.Syntax.entity_type.ExportKind.TheVariants as kind
use Rattle.smith_check_types.specs.Canonical.{AreCanonical}
use Rattle.smith_check_module.specs.Contexts.{context_in, spaces_in}
use Rattle.smith_check_module.specs.ValidModules.{IsConstant, AreSectionsValid}
use Rattle.smith_check_module.specs.ValidModules.{IsValidApart}
use Rattle.smith_check_module.specs.ExampleSyntax.{nothing, exports_missing, one}

no_types : AreTypesValid usual_features (space_of [])
no_types = record {
  covered = record { consecutive = tt; whole = refl };
  orderly = record { under = λ i s t at up. absurd (cc at) };
  groups = All-nil _;
}

none_canonical : AreCanonical [] []
none_canonical = record { long = refl; each = λ index first at. absurd (cc at) }

no_sections : AreSectionsValid usual_features [] nothing
no_sections = record {
  entities = record { tags = All-nil _; funcs = All-nil _; tables = All-nil _; memories = All-nil _; globals = All-nil _ };
  counts = record {
    tags = λ some. absurd (omega (arith, some));
    several_tables = λ some. absurd (omega (arith, some));
    several_memories = λ some. absurd (omega (arith, some));
  };
  definitions = record { tables = All-nil _; globals = tt };
  exports = record { stand = All-nil _; distinct = record { once = λ i j item at there. absurd (cc at) } };
  start = tt;
  segments = record { elements = All-nil _; datas = All-nil _ };
}

pub nothing_valid : IsValidApart usual_features nothing
nothing_valid = record { scope = tt; indices = []; canonical = none_canonical; types = no_types; sections = no_sections }

pub one_constant : IsConstant (context_in usual_features [] nothing) [] I32 one
one_constant = record {
  constants = constant.I32Const (pos 1) ∷ [];
  spelled = refl;
  typed = record {
    value = I32;
    steps = (
      I32 ∷ [],
      record {
        operands = [];
        result = I32;
        typed = (refl, refl);
        rest = [];
        taken = [];
        on_top = refl;
        accepted = tt;
        pushed = refl;
      },
      refl,
    );
    below = tt;
    enabled = All-cons (IsInstrEnabled usual_features 0) (constant.I32Const (pos 1)) [] tt (All-nil (IsInstrEnabled usual_features 0));
  };
}

pub no_export : IsValidApart usual_features exports_missing → ⊥
no_export valid =
    let first = All-head (λ (item : List ℕ × ExportKind × ℕ). (ty : EntityType) × IsEntityAt (spaces_in valid.indices exports_missing)
    item.1 item.2 ty) ([], kind.Func, 0) [] valid.sections.exports.stand in
    let (ty, entity) = first in let (func, at, is) = entity in cc at
