-- How the files of the examples are read.
use Rattle.std.proofs.Common.{◌≡◌, ◌∙◌, ℕ, [], ◌∷◌, Err, Ok, ap, false, refl, subst, sym, true}
use Rattle.std.specs.List.{list_all}
use Rattle.smith_config.specs.declared.shape.Shape.{Shape}
use Rattle.smith_binary_read.specs.Readings.{each_at}
use Rattle.smith_binary_read.specs.Numbers.{unsigned_at}
use Rattle.smith_binary_read.specs.Contents.{content_at, name_at, list_at, sized_at}
use Rattle.smith_binary_read.specs.declared.error.Fault.{Fault}
use Rattle.smith_binary_read.specs.declared.error.Reason.{Reason}
use Rattle.smith_binary_read.specs.declared.error.Reason.TheVariants as reason
use Rattle.smith_decode.specs.CustomReadings.{custom_whole, skip_customs, customs_at, section_at, end_at}
use Rattle.smith_decode.specs.CustomReadings.{custom_at, next_section_at, gathered_at, kept_at}
use Rattle.smith_decode.specs.ModuleReadings.{preamble_at, index_whole, bodies_at, counts_at, starts_at, globals_at, memories_at}
use Rattle.smith_decode.specs.ModuleReadings.{functions_at, parts_at, sections_at, checked_at, module_at}
use Rattle.smith_binary_read.specs.TypeReadings.{composite_type_at, declared_group_at, declared_type_at, inner_type_at, supertypes_at}
use Rattle.smith_decode.specs.ExampleModules.{after_preamble, no_item, of_two_supertypes, two_supertypes}
use Rattle.smith_decode.specs.Modules.{IsModuleBinary, Syntax, syntax_of}
use Rattle.smith_decode.proofs.ContentsLemmas.{module_back, module_forth}
use Rattle.smith_decode.proofs.EncoderLemmas.{module_same, no_module}
use Rattle.smith_decode.proofs.ModuleLemmas.{module_decodes}
use Rattle.smith_shape.specs.ExampleShapes.{no_shape}
use Rattle.smith_shape.specs.ModuleShapes.{HaveSeveralSupertypes, IsShapeBinary, is_single}
use Rattle.smith_shape.proofs.ShapeLemmas.{shape_binary}
use Rattle.smith_shape_examples.specs.ExampleFiles.{magic}

-- the preamble is read as the empty module
pub empty_read : module_at (after_preamble []) ≡ Ok no_item
unfolding kept_at gathered_at next_section_at custom_at checked_at module_at preamble_at customs_at skip_customs custom_whole section_at
    end_at sections_at parts_at functions_at memories_at globals_at starts_at counts_at bodies_at index_whole each_at unsigned_at
    content_at name_at list_at sized_at
empty_read = refl

-- the magic number alone ends too early
pub magic_read : module_at magic ≡ Err (record { left = 0; reason = reason.UnexpectedEnd })
unfolding kept_at gathered_at next_section_at custom_at checked_at module_at preamble_at customs_at skip_customs custom_whole section_at
    end_at sections_at parts_at functions_at memories_at globals_at starts_at counts_at bodies_at index_whole each_at unsigned_at
    content_at name_at list_at sized_at
magic_read = refl

-- so the fault is at its end
pub magic_left : (left : ℕ) (why : Reason) → module_at magic ≡ Err (record { left = left; reason = why }) → 0 ≡ left
magic_left left why read =
    let first : Fault = record { left = 0; reason = reason.UnexpectedEnd } in
    let fault : Fault = record { left = left; reason = why } in
    let e = sym magic_read ∙ read in
    let same : first ≡ fault = cc in
    ap (λ (f : Fault). f.left) same

empty_module : IsModuleBinary (syntax_of no_item) (after_preamble [])
empty_module = module_forth no_item (after_preamble []) (module_decodes.sound (after_preamble []) no_item empty_read)

pub empty_shape : IsShapeBinary (after_preamble []) no_shape
empty_shape = shape_binary (after_preamble []) no_item no_shape empty_module refl refl

-- no type of the empty module has several supertypes
pub none_several : HaveSeveralSupertypes (after_preamble []) → ⊥
none_several file =
    let same = module_same file.m (syntax_of no_item) (after_preamble []) file.binary empty_module in
    let several = subst (λ (m : Syntax). list_all is_single m.further_supertypes ≡ false) same file.several in
    cc

-- a module with a type of two supertypes
two_module : IsModuleBinary (syntax_of of_two_supertypes) (after_preamble two_supertypes)
unfolding kept_at gathered_at next_section_at custom_at checked_at module_at preamble_at customs_at skip_customs custom_whole section_at
    end_at sections_at parts_at functions_at memories_at globals_at starts_at counts_at bodies_at index_whole each_at unsigned_at
    content_at name_at list_at sized_at declared_group_at declared_type_at supertypes_at composite_type_at inner_type_at
two_module =
    let bytes = after_preamble two_supertypes in
    module_forth of_two_supertypes bytes (module_decodes.sound bytes of_two_supertypes refl)

pub two_several : HaveSeveralSupertypes (after_preamble two_supertypes)
two_several = record { m = syntax_of of_two_supertypes; binary = two_module; several = refl }

pub two_no_shape : (shape : Shape) → IsShapeBinary (after_preamble two_supertypes) shape → ⊥
two_no_shape shape file =
    let same = module_same file.m (syntax_of of_two_supertypes) (after_preamble two_supertypes) file.binary two_module in
    let single = subst (λ (m : Syntax). list_all is_single m.further_supertypes ≡ true) same file.of_module.supertypes in
    cc

pub magic_no_shape : (shape : Shape) → IsShapeBinary magic shape → ⊥
magic_no_shape shape file = no_module file.m magic _ magic_read file.binary

-- no function is in the shape of the empty module
pub only_empty : IsShapeBinary (after_preamble []) (record no_shape { funcs = 0 ∷ [] }) → ⊥
only_empty file =
    let one = module_back file.m (after_preamble []) file.binary in
    let same : one.decoded ≡ no_item =
    let e = sym (module_decodes.complete one.decoded (after_preamble []) one.form) ∙ empty_read in cc in
    let funcs : file.m.functions ≡ [] = ap (λ (m : Syntax). m.functions) (sym one.is ∙ ap syntax_of same) in
    let e = file.of_module.funcs ∙ funcs in cc
