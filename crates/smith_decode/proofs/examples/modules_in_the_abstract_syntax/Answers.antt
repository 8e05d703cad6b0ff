use Rattle.smith_decode.proofs.Common.{[], ap, bulk_at, bytes_instr_at, content_at, each_at, expr_at, instr_at, is_over, list_at, name_at}
use Rattle.smith_decode.proofs.Common.{nested_at, nested_instr_at, None, Ok, prefixed_at, refl, saturating_of, sized_at, sym, true}
use Rattle.smith_decode.proofs.Common.{unsigned_at, ◌∙◌, ◌∷◌, ◌≡◌}
use Rattle.std.specs.Str.{is_utf8}
use Rattle.std.proofs.lemmas.Str.{IsUtf8-from_ascii, is_utf8-from_IsUtf8}
use Rattle.std.proofs.lemmas.Str.Ascii.{IsAscii-nil}
use Rattle.smith_binary_read.specs.TypeReadings.{composite_type_at, declared_group_at, declared_type_at, inner_type_at, supertypes_at}
use Rattle.smith_decode.specs.BodyReadings.{body_whole, body_at}
use Rattle.smith_decode.specs.CustomReadings.{custom_whole, skip_customs, customs_at, section_at, end_at}
use Rattle.smith_decode.specs.CustomReadings.{custom_at, next_section_at, gathered_at, kept_at}
use Rattle.smith_decode.specs.ModuleReadings.{preamble_at, index_whole, bodies_at, counts_at, starts_at, globals_at, memories_at}
use Rattle.smith_decode.specs.ModuleReadings.{functions_at, parts_at, sections_at, checked_at, module_at, with_customs}
use Rattle.smith_decode.specs.declared.modules.Module.{Module}
use Rattle.smith_decode.specs.CustomReadings.{custom}
use Rattle.smith_decode.specs.Modules.{IsModuleBinary, Syntax, syntax_of}
use Rattle.smith_decode.specs.ExampleModules.{no_item, after_preamble, one_drop, dropping, of_two_supertypes, two_supertypes}
use Rattle.smith_decode.proofs.ContentsLemmas.{module_forth, module_back}
use Rattle.smith_decode.proofs.EncoderLemmas.{module_same, no_module}
use Rattle.smith_decode.proofs.ModuleLemmas.{module_decodes}
use Rattle.smith_decode.proofs.examples.modules_in_the_abstract_syntax.Goals as goal

pub returns-clause-preamble : goal.returns-clause-preamble
unfolding kept_at gathered_at next_section_at custom_at checked_at module_at preamble_at customs_at skip_customs custom_whole section_at
    end_at sections_at parts_at functions_at memories_at globals_at starts_at counts_at bodies_at index_whole each_at unsigned_at
    content_at name_at list_at sized_at
returns-clause-preamble c = module_forth no_item (after_preamble []) (module_decodes.sound (after_preamble []) no_item refl)

pub returns-clause-without_a_body : goal.returns-clause-without_a_body
unfolding kept_at gathered_at next_section_at custom_at checked_at module_at preamble_at customs_at skip_customs custom_whole section_at
    end_at sections_at parts_at functions_at memories_at globals_at starts_at counts_at bodies_at index_whole each_at unsigned_at
    content_at name_at list_at sized_at
returns-clause-without_a_body c = λ m h. no_module m (after_preamble (0x03 ∷ 0x02 ∷ 0x01 ∷ 0x00 ∷ [])) _ refl h

pub returns-clause-out_of_order : goal.returns-clause-out_of_order
unfolding kept_at gathered_at next_section_at custom_at checked_at module_at preamble_at customs_at skip_customs custom_whole section_at
    end_at sections_at parts_at functions_at memories_at globals_at starts_at counts_at bodies_at index_whole each_at unsigned_at
    content_at name_at list_at sized_at
returns-clause-out_of_order c = λ m h. no_module m (after_preamble (0x0A ∷ 0x01 ∷ 0x00 ∷ 0x01 ∷ 0x01 ∷ 0x00 ∷ [])) _ refl h

pub returns-clause-stated : goal.returns-clause-stated
unfolding kept_at gathered_at next_section_at custom_at checked_at module_at preamble_at customs_at skip_customs custom_whole section_at
    end_at sections_at parts_at functions_at memories_at globals_at starts_at counts_at bodies_at index_whole each_at unsigned_at
    content_at name_at list_at sized_at body_at body_whole expr_at nested_at nested_instr_at is_over instr_at prefixed_at bulk_at
    bytes_instr_at saturating_of
returns-clause-stated c =
    let bytes = after_preamble (0x03 ∷ 0x02 ∷ 0x01 ∷ 0x00 ∷ 0x0C ∷ 0x01 ∷ 0x00 ∷ one_drop) in
    module_forth dropping bytes (module_decodes.sound bytes dropping refl)

two_are : IsModuleBinary (syntax_of of_two_supertypes) (after_preamble two_supertypes)
unfolding kept_at gathered_at next_section_at custom_at checked_at module_at preamble_at customs_at skip_customs custom_whole section_at
    end_at sections_at parts_at functions_at memories_at globals_at starts_at counts_at bodies_at index_whole each_at unsigned_at
    content_at name_at list_at sized_at declared_group_at declared_type_at supertypes_at composite_type_at inner_type_at
two_are =
    let bytes = after_preamble two_supertypes in
    module_forth of_two_supertypes bytes (module_decodes.sound bytes of_two_supertypes refl)

pub returns-clause-two_supertypes : goal.returns-clause-two_supertypes
returns-clause-two_supertypes c = two_are

pub returns-clause-without_the_second : goal.returns-clause-without_the_second
returns-clause-without_the_second c = λ h.
    let same = ap (λ (m : Syntax). m.further_supertypes) (module_same _ _ (after_preamble two_supertypes) h two_are) in
    absurd cc

pub returns-clause-not_stated : goal.returns-clause-not_stated
unfolding kept_at gathered_at next_section_at custom_at checked_at module_at preamble_at customs_at skip_customs custom_whole section_at
    end_at sections_at parts_at functions_at memories_at globals_at starts_at counts_at bodies_at index_whole each_at unsigned_at
    content_at name_at list_at sized_at body_at body_whole expr_at nested_at nested_instr_at is_over instr_at prefixed_at bulk_at
    bytes_instr_at saturating_of
returns-clause-not_stated c = λ m h. no_module m (after_preamble (0x03 ∷ 0x02 ∷ 0x01 ∷ 0x00 ∷ one_drop)) _ refl h

pub returns-clause-without_its_custom_section : goal.returns-clause-without_its_custom_section
unfolding kept_at gathered_at next_section_at custom_at checked_at module_at preamble_at customs_at skip_customs custom_whole section_at
    end_at sections_at parts_at functions_at memories_at globals_at starts_at counts_at bodies_at index_whole each_at unsigned_at
    content_at name_at list_at sized_at
returns-clause-without_its_custom_section c = λ h.
    let bytes = after_preamble (0x00 ∷ 0x02 ∷ 0x00 ∷ 0x2A ∷ []) in
    let kept = with_customs no_item (custom None [] (0x2A ∷ []) ∷ []) in
    let text : is_utf8 [] ≡ true = is_utf8-from_IsUtf8 [] (IsUtf8-from_ascii [] IsAscii-nil) in
    let read : module_at bytes ≡ Ok kept = rw text refl in
    let one = module_back (syntax_of no_item) bytes h in
    let same : one.decoded ≡ kept = let e = sym (module_decodes.complete one.decoded bytes one.form) ∙ read in cc in
    let none : one.decoded.customs ≡ [] = ap (λ (m : Syntax). m.customs) one.is in
    let never : kept.customs ≡ [] = ap (λ (m : Module). m.customs) (sym same) ∙ none in
    absurd cc
