use Rattle.smith_binary_law.proofs.Common.{[], Joined, List, refl, ℕ}
use Rattle.smith_binary_sections.specs.Sections.{IsOptionalSection}
use Rattle.smith_binary_law.proofs.CheckLemmas.{both}
use Rattle.smith_binary_law.proofs.examples.modules.the_preamble_is_a_module.Goals as goal

-- no section, and no further one
none : {A B : List ℕ → Type 0} → A [] → B [] → Joined A B []
none a b = both [] [] a b

pub returns : goal.returns
returns c = record {
  each = refl;
  form = both _ [] refl
      (none (IsOptionalSection.absent refl refl)
      (none (IsOptionalSection.absent refl refl)
      (none (IsOptionalSection.absent refl refl)
      (none (IsOptionalSection.absent refl refl)
      (none (IsOptionalSection.absent refl refl)
      (none (IsOptionalSection.absent refl refl)
      (none (IsOptionalSection.absent refl refl)
      (none (IsOptionalSection.absent refl refl)
      (none refl
      (none (IsOptionalSection.absent refl refl)
      (none (IsOptionalSection.absent tt refl) (none (IsOptionalSection.absent refl refl) (IsOptionalSection.absent refl refl)))))))))))));
}
