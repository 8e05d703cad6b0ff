-- What is written for a valid program is decoded as its module, with the features of its configuration.
use Rattle.smith_binary_program.proofs.Common.{All, ap, Body, Contains, IsGroupEnabled, IsValidProgram, List, module_features, ModuleParts}
use Rattle.smith_binary_program.proofs.Common.{refl, subst, sym, ℕ}
use Rattle.smith_binary_program.proofs.Common.{◌++◌, ◌∙◌, ◌≡◌}
use Rattle.std.proofs.Common.{Err, Ok}
use Rattle.smith_binary_law.proofs.SectionLemmas.{read_whole}
use Rattle.smith_decode.specs.declared.error.DecodeError.TheVariants.{Memory, Malformed, FeatureOff}
use Rattle.smith_decode.specs.declared.modules.Module.{Module}
use Rattle.smith_decode.specs.Forms.{AreFormsEnabled}
use Rattle.smith_decode.specs.ModuleReadings.{Parts, module_at, module_of, parts_at, preamble}
use Rattle.smith_decode.specs.Modules.{syntax_of}
use Rattle.smith_decode.proofs.ContentsLemmas.{module_back}
use Rattle.smith_decode.proofs.FormLemmas.{off_disabled}
use Rattle.smith_decode.proofs.TypeGroupLemmas.{groups_types_again}
use Rattle.smith_decode.proofs.ModuleLemmas.{AreParts, module_decodes, parts_decode, parts_of}
use Rattle.smith_program.specs.declared.program.Body.TheVariants as body
use Rattle.smith_binary_program.specs.Decoded.{EncodedProgramsComeBack, decoded}
use Rattle.smith_binary_program.specs.Programs.{IsEncoded}
use Rattle.smith_binary_program.proofs.DecodedLemmas.{encoded_decoded}
use Rattle.smith_binary_program.proofs.PartsFoundLemmas.{parts_enabled, parts_found}

-- the bytes after the preamble
after_preamble : (first second other more : List ℕ) → first ≡ preamble → other ≡ preamble → first ++ second ≡ other ++ more → second ≡ more
after_preamble first second other more one two same =
    let whole : preamble ++ second ≡ preamble ++ more =
    ap (λ (p : List ℕ). p ++ second) (sym one) ∙ same ∙ ap (λ (p : List ℕ). p ++ more) two in
    cc

-- a module that is read has enabled forms
pub record IsReadEnabled (m : ModuleParts) (bodies : List Body) (bytes : List ℕ) : Type 0 where
  pub back : Module
  pub read : module_at bytes ≡ Ok back
  pub is : syntax_of back ≡ decoded m bodies
  pub enabled : AreFormsEnabled (module_features m) back

pub read_enabled : (m : ModuleParts) (bodies : List Body) (bytes : List ℕ) → IsEncoded m bodies bytes → IsValidProgram m bodies
    → (Contains bodies body.Raw → ⊥) → IsReadEnabled m bodies bytes
read_enabled m bodies bytes encoded valid drawn =
    let one = module_back (decoded m bodies) bytes (encoded_decoded m bodies bytes encoded valid drawn) in
    let back = one.decoded in
    let h = one.form.form in
    let w = encoded.written in
    let found = parts_found m bodies valid drawn w.second w.is_second in
    let rest : h.second ≡ w.second = after_preamble h.first h.second w.first w.second h.is_first w.is_first (sym h.whole ∙ w.whole) in
    let same : parts_of back ≡ found.item =
    (read_whole (record { read = parts_at; decodes = parts_decode })).one (parts_of back) found.item h.second h.is_second
    (subst (AreParts found.item) (sym rest) found.form) in
    let on : AreFormsEnabled (module_features m) (module_of (parts_of back)) =
    subst (λ (x : Parts). AreFormsEnabled (module_features m) (module_of x)) (sym same)
    (parts_enabled (module_features m) found.item found.good) in
    record {
      back = back;
      read = module_decodes.complete back bytes one.form;
      is = one.is;
      enabled = (
        subst (All (IsGroupEnabled (module_features m))) (groups_types_again back.types back.further_supertypes) on.0,
        on.1,
      );
    }

pub come_back : EncodedProgramsComeBack
come_back m bodies bytes encoded valid drawn (Ok x) read =
    let one = read_enabled m bodies bytes encoded valid drawn in
    let same : one.back ≡ x = let e = sym one.read ∙ read.0 in cc in
    ap syntax_of (sym same) ∙ one.is
come_back m bodies bytes encoded valid drawn (Err Memory) read = refl
come_back m bodies bytes encoded valid drawn (Err (Malformed offset reason)) read =
    let one = read_enabled m bodies bytes encoded valid drawn in
    absurd (let never = sym one.read ∙ read.1 in cc)
come_back m bodies bytes encoded valid drawn (Err (FeatureOff offset)) (x, read, place, off, at) =
    let one = read_enabled m bodies bytes encoded valid drawn in
    let same : one.back ≡ x = let e = sym one.read ∙ read in cc in
    absurd (off_disabled (module_features m) x place off (subst (AreFormsEnabled (module_features m)) same one.enabled))
