use Rattle.smith_decode.proofs.Common.{[], arith, false, refl, true, ◌∷◌, ◌≡◌}
use Rattle.std.proofs.lemmas.List.Elements.{All-nil, All-get_or}
use Rattle.smith_types.specs.Syntax.Features.{every_feature}
use Rattle.smith_types.specs.Syntax.value_type.ValType.TheVariants.{V128}
use Rattle.smith_decode.specs.ExampleModules.{wide_memory, of_wide_memory}
use Rattle.smith_decode.specs.TypeForms.{IsValTypeEnabled}
use Rattle.smith_decode.specs.declared.locations.Place.TheVariants as place
use Rattle.smith_decode.specs.Forms.{IsOffAt}
use Rattle.smith_decode.proofs.FormLemmas.{off_disabled}
use Rattle.smith_decode.proofs.examples.forms.Goals as goal

is_off : IsOffAt (record every_feature { memory64 = false }) of_wide_memory (place.Memory 0)
is_off = (
  (All-nil _, (All-nil _, (All-nil _, tt))),
  record {
    item = wide_memory;
    stands = refl;
    off = λ h. let no : false ≡ true = h.memory64 refl in cc;
    before = All-nil _;
  },
)

pub returns-clause-no_item : goal.returns-clause-no_item
returns-clause-no_item c = λ features. (
  All-nil _,
  (
    All-nil _,
    (
      All-nil _,
      (
        All-nil _,
        (
          All-nil _,
          (
            All-nil _,
            (
              All-nil _,
              (
                All-nil _,
                ((λ none. absurd (let no : false ≡ true = none in cc)), (All-nil _, (All-nil _, tt))),
              ),
            ),
          ),
        ),
      ),
    ),
  ),
)

pub returns-clause-wide_memory : goal.returns-clause-wide_memory
returns-clause-wide_memory c = off_disabled (record every_feature { memory64 = false }) of_wide_memory (place.Memory 0) is_off

pub returns-clause-at_the_memory : goal.returns-clause-at_the_memory
returns-clause-at_the_memory c = is_off

pub returns-clause-call : goal.returns-clause-call
returns-clause-call c = record { own = refl; stated = tt; named = tt }

pub returns-clause-tail_call : goal.returns-clause-tail_call
returns-clause-tail_call c = λ h. let no : false ≡ true = h.own in cc

pub returns-clause-stated_type : goal.returns-clause-stated_type
returns-clause-stated_type c = λ h.
    let no : false ≡ true =
    All-get_or (IsValTypeEnabled (record every_feature { simd = false })) (V128 ∷ []) 0 V128 (omega arith) h.stated in cc

pub returns-clause-sum : goal.returns-clause-sum
returns-clause-sum c = record { own = refl; stated = tt; named = tt }

pub returns-clause-constant_sum : goal.returns-clause-constant_sum
returns-clause-constant_sum c = λ h. let no : false ≡ true = h.extended in cc

pub returns-clause-passive : goal.returns-clause-passive
returns-clause-passive c = λ h. let no : false ≡ true = h in cc
