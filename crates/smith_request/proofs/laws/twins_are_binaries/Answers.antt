use Rattle.std.proofs.Common.{◌≡◌, ℕ, List, Bool, true, false, None, refl, sym, subst}
use Rattle.smith_config.specs.declared.config.Config.{Config}
use Rattle.smith_program.specs.Parts.{ProgramParts}
use Rattle.smith_wrong.specs.Wrong.{IsTwin}
use Rattle.smith_request.specs.CanonicalNans.{HasCanonicalNans, has_canonical_nans}
use Rattle.smith_request.specs.Output.{IsBinaryOf, IsFinished}
use Rattle.smith_request.proofs.AdditionLemmas.{nothing_added}
use Rattle.smith_request.proofs.laws.twins_are_binaries.Goals as goal

finished : (b : Bool) (least : ℕ) (left file : List ℕ) → b ≡ false → IsFinished b least left file file
finished false least left file off = refl
finished true least left file off = absurd cc

unchanged : (b : Bool) (program : ProgramParts) → b ≡ false → HasCanonicalNans b program program
unchanged false program off = refl
unchanged true program off = absurd cc

twin_is_binary : (config : Config) (input left twin : List ℕ) → config.generate_custom_sections ≡ false → has_canonical_nans config ≡ false
    → IsTwin config input left twin
    → IsBinaryOf config (record { fuel = None; is_observed = false }) input twin left
twin_is_binary config input left twin off same h = record {
  program = h.program;
  drawn = h.drawn;
  written = record {
    file = twin;
    encoded = record {
      canonical = h.program;
      nans = unchanged (has_canonical_nans h.program.«module».config) h.program
          (subst (λ (c : Config). has_canonical_nans c ≡ false) (sym h.drawn.programs.of.generated.config) same);
      encoded = record {
        extended = h.program;
        is_extended = nothing_added (record { fuel = None; is_observed = false }) h.program refl;
        encoded = h.encoded;
      };
    };
    finished = finished config.generate_custom_sections config.min_uleb_size left twin off;
  };
}

pub returns : goal.returns
returns c = twin_is_binary
