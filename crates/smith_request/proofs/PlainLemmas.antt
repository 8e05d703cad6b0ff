-- Files of programs have no custom sections, before some are put into them.
use Rattle.std.proofs.Common.{◌≢◌, ℕ, Bool, true, false, List, [], ◌∷◌, ◌++◌, Ok, refl, subst, arith}
use Rattle.std.specs.Prelude.{is_some}
use Rattle.smith_binary.specs.Pieces.{Each}
use Rattle.smith_binary.specs.declared.error.EncodeError.TheVariants.{Memory}
use Rattle.smith_config.specs.declared.config.Config.{Config}
use Rattle.smith_module_rules.specs.Module.{ModuleParts}
use Rattle.smith_binary_module.specs.Contents.{defined}
use Rattle.smith_binary_module.specs.Layout.{id_if, is_filled, writes_types, writes_imports, writes_data_count, section_ids, IsAnySection}
use Rattle.smith_binary_module.specs.Layout.{HasSections}
use Rattle.smith_program.specs.Generated.{IsProgram}
use Rattle.smith_program.specs.Parts.{ProgramParts}
use Rattle.smith_custom_sections.specs.CustomSections.{IsPlain, IsPlainSection}
use Rattle.smith_request.specs.Output.{IsBinaryWith, IsFileOf, IsFinished, IsUnextended, IsUnwrittenWith}
use Rattle.smith_request.specs.declared.additions.Additions.{Additions}
use Rattle.smith_request.specs.declared.manner.Form.TheVariants.{Binary}
use Rattle.smith_request.specs.declared.refusal.Refusal.TheVariants.{Encoding}

-- identifiers of sections that are not custom
abbrev AreOwn : List ℕ → Type 0
AreOwn [] = Unit {0}
AreOwn (id ∷ ids) = (id ≢ 0) × AreOwn ids

own_if : (b : Bool) (id : ℕ) → id ≢ 0 → AreOwn (id_if b id)
own_if true id some = (some, tt)
own_if false id some = tt

own_joined : (ids others : List ℕ) → AreOwn ids → AreOwn others → AreOwn (ids ++ others)
own_joined [] others one two = two
own_joined (id ∷ ids) others one two = (one.0, own_joined ids others one.1 two)

own_then : (b : Bool) (id : ℕ) (others : List ℕ) → id ≢ 0 → AreOwn others → AreOwn (id_if b id ++ others)
own_then b id others some more = own_joined (id_if b id) others (own_if b id some) more

sections_own : (m : ModuleParts) → AreOwn (section_ids m)
sections_own m =
    own_then (writes_types m) 1 _ (λ e. omega arith) (own_then (writes_imports m) 2 _ (λ e. omega arith)
    (own_then (is_filled (defined m.num_defined_funcs m.funcs)) 3 _ (λ e. omega arith)
    (own_then (is_filled m.defined_tables) 4 _ (λ e. omega arith)
    (own_then (is_filled (defined m.num_defined_memories m.memories)) 5 _ (λ e. omega arith)
    (own_then (is_filled (defined m.num_defined_tags m.tags)) 13 _ (λ e. omega arith)
    (own_then (is_filled m.defined_globals) 6 _ (λ e. omega arith) (own_then (is_filled m.exports) 7 _ (λ e. omega arith)
    (own_then (is_some m.start) 8 _ (λ e. omega arith) (own_then (is_filled m.elems) 9 _ (λ e. omega arith)
    (own_then (writes_data_count m) 12 _ (λ e. omega arith) (own_then (is_filled m.code) 10 _ (λ e. omega arith)
    (own_if (is_filled m.datas) 11 (λ e. omega arith)))))))))))))

-- the bytes of such sections
record ArePlain (piece : List ℕ) : Type 0 where
  pub sections : List (List ℕ)
  pub each : Each IsPlainSection sections piece

plain_each : (ids piece : List ℕ) → AreOwn ids → Each IsAnySection ids piece → ArePlain piece
unfolding Each
plain_each [] piece own h = record { sections = []; each = h }
plain_each (id ∷ ids) piece own h =
    let more = plain_each ids h.second own.1 h.is_second in
    record {
      sections = h.first ∷ more.sections;
      each = record {
        first = h.first;
        second = h.second;
        is_first = record { is = refl; id = id; not_custom = own.0; form = h.is_first };
        is_second = more.each;
        whole = h.whole;
      };
    }

plain_file : (m : ModuleParts) (file : List ℕ) → HasSections (section_ids m) file → IsPlain file
plain_file m file h =
    let sections = plain_each (section_ids m) h.second (sections_own m) h.is_second in
    (sections.sections, record { first = h.first; second = h.second; is_first = h.is_first; is_second = sections.each; whole = h.whole })

pub binary_plain : (additions : Additions) (program : ProgramParts) (file : List ℕ) → IsBinaryWith additions program file → IsPlain file
binary_plain additions program file h = plain_file h.encoded.extended.«module» file h.encoded.encoded.sections

-- memory may run out after such a file is written
pub lacks_memory : (additions : Additions) (program : ProgramParts) (file : List ℕ) → IsBinaryWith additions program file
    → IsUnwrittenWith Binary additions program (Encoding Memory)
lacks_memory additions program file h = IsUnwrittenWith.not_extended h.nans (IsUnextended.not_written h.encoded.is_extended tt)

-- a file of the configuration that a module keeps is one of the configuration that it is drawn for
pub file_of : {config : Config} {additions : Additions} {program : ProgramParts} {input left bytes : List ℕ}
    → IsProgram config input (Ok program) left
    → IsFileOf program.«module».config additions program left bytes → IsFileOf config additions program left bytes
file_of {left = left} {bytes = bytes} drawn h = record {
  file = h.file;
  encoded = h.encoded;
  finished = subst (λ (c : Config). IsFinished c.generate_custom_sections c.min_uleb_size left h.file bytes)
      drawn.programs.of.generated.config h.finished;
}
