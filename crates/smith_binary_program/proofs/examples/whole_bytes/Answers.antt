use Rattle.smith_binary_program.proofs.Common.{[], All, All-nil, ap, AreBodiesOf, arith, Instr, IsModuleAround, IsOptionalSection, IsValid}
use Rattle.smith_binary_program.proofs.Common.{IsValidProgram, Joined, length, length-append, List, ModuleParts, refl, ℕ, ◌+◌, ◌∙◌, ◌≡◌}
use Rattle.std.proofs.Common.{rules}
use Rattle.std.proofs.lemmas.Grind.{common_steps}
use Rattle.smith_binary_law.proofs.CheckLemmas.{both}
use Rattle.smith_binary_sections.specs.Codes.{IsBody}
use Rattle.smith_binary_sections.specs.Modules.{IsModule}
use Rattle.smith_binary_sections.specs.Sections.{IsListSection}
use Rattle.smith_program.specs.References.{references_of}
use Rattle.smith_program.specs.Valid.{HaveAll, IsDeclared, NameData}
use Rattle.smith_program.proofs.ValidLemmas.{Enabled}
use Rattle.smith_binary_program.specs.ExamplePrograms.{function, preamble}
use Rattle.smith_binary_program.specs.Programs.{IsProgramBinary, program_contents}
use Rattle.smith_binary_program.specs.Valid.{IsValidBinary}
use Rattle.smith_binary_program.proofs.SameLemmas.{programs_same}
use Rattle.smith_binary_program.proofs.examples.whole_bytes.Goals as goal

-- a module in which nothing is defined
abbrev empty : ModuleParts
empty = record (function []) { types = []; groups = []; funcs = []; num_defined_funcs = 0; code = [] }

-- no section, and no further one
none : {A B : List ℕ → Type 0} → A [] → B [] → Joined A B []
none a b = both [] [] a b

sections : IsModuleAround (program_contents empty []) (IsListSection 10 IsBody []) preamble
sections =
    both _ [] refl
    (none (IsOptionalSection.absent refl refl)
    (none (IsOptionalSection.absent refl refl)
    (none (IsOptionalSection.absent refl refl)
    (none (IsOptionalSection.absent refl refl)
    (none (IsOptionalSection.absent refl refl)
    (none (IsOptionalSection.absent refl refl)
    (none (IsOptionalSection.absent refl refl)
    (none (IsOptionalSection.absent refl refl)
    (none refl (none (IsOptionalSection.absent refl refl)
    (none (IsOptionalSection.absent tt refl) (none (IsOptionalSection.absent refl refl) (IsOptionalSection.absent refl refl)))))))))))))

spelled : IsModule (program_contents empty []) preamble
spelled = record { each = refl; form = sections }

valid : IsValid empty
valid = first_of (search rules, grind (arith, common_steps))

no_bodies : AreBodiesOf empty []
no_bodies = record { each = refl; in_place = λ place code given at there. cc at }

no_instructions : (P : Instr → Type 0) → All (HaveAll P) []
no_instructions P = All-nil (HaveAll P)

no_data : NameData [] → ⊥
no_data named = let outside = named.2 in omega arith

empty_valid : IsValidProgram empty []
empty_valid = record {
  valid = valid;
  typed = no_bodies;
  counted = no_bodies;
  enabled = no_instructions (Enabled empty);
  declared = no_instructions (IsDeclared (references_of empty));
  data_count = λ named. absurd (no_data named);
}

the_preamble : IsValidBinary preamble
the_preamble =
    let binary : IsProgramBinary empty [] preamble = record { expressions = []; each = tt; spelled = spelled } in
    record {
      m = empty;
      bodies = [];
      spelled = binary;
      valid = empty_valid;
      data_count = λ named. absurd (no_data named);
      no_other = λ n others other. programs_same empty n [] others preamble binary other;
    }

no_preamble : IsValidBinary [] → ⊥
no_preamble h =
    let joined = h.spelled.spelled.form in
    let whole : 0 ≡ length joined.first + length joined.second = ap length joined.whole ∙ length-append joined.first joined.second in
    let eight : length joined.first ≡ 8 = ap length joined.is_first in
    omega arith

pub returns : goal.returns
returns c = record { the_preamble = the_preamble; no_preamble = no_preamble }
