-- The items of a module take a byte each in it.
use Rattle.smith_decode.proofs.Common.{[], ap, append_assoc, arith, Bool, content_at, drop, Each, eq-eqb, eqb, Err, false, Features, Is}
use Rattle.smith_decode.proofs.Common.{IsDeclaredGroup}
use Rattle.smith_decode.proofs.Common.{IsExportItem, IsImportGroup, IsIndex, IsList, IsMemoryType, IsOptionalSection, IsSection}
use Rattle.smith_decode.proofs.Common.{IsTagDefinition, length, length-append, List, ne_eqb, None, Ok, Option, refl, Result, subst, sym}
use Rattle.smith_decode.proofs.Common.{tagged_read, true, ℕ, ◌++◌, ◌+◌, ◌∙◌, ◌∷◌, ◌≡◌, ◌≤◌}
use Rattle.std.proofs.Common.{cond}
use Rattle.std.proofs.Common.{IfOk}
use Rattle.smith_binary_read.proofs.ReadLemmas.{item_is}
use Rattle.smith_binary_read.proofs.ContentLemmas.{content_decodes}
use Rattle.smith_decode.specs.declared.customs.Custom.{Custom}
use Rattle.smith_decode.specs.declared.error.DecodeError.{DecodeError}
use Rattle.smith_decode.specs.declared.modules.Module.{Module}
use Rattle.smith_decode.specs.Customs.{IsCustom, IsAnySection, IsNext, AreAmong}
use Rattle.smith_decode.specs.ModuleReadings.{Globals, module_at}
use Rattle.smith_decode.specs.BodyReadings.{IsRunBody}
use Rattle.smith_decode.specs.DataReadings.{IsSegment}
use Rattle.smith_decode.specs.DefinitionReadings.{IsGlobalDefinition, IsTableDefinition}
use Rattle.smith_decode.specs.ElementReadings.{IsElementSegment}
use Rattle.smith_decode.specs.Modules.{IsStated}
use Rattle.smith_decode.specs.Results.{Locates}
use Rattle.smith_decode.specs.Sizes.{all_items, sub_type_items, import_items, table_items, global_items, export_items, segment_items}
use Rattle.smith_decode.specs.Sizes.{body_items, data_items, custom_items, further_items, items_in}
use Rattle.smith_decode.specs.TypeGroups.{declared_groups}
use Rattle.smith_decode.proofs.TypeGroupLemmas.{declared_items, groups_items, groups_types_again, groups_further_again}
use Rattle.smith_decode.proofs.CustomLemmas.{IsMore, IsEnd}
use Rattle.smith_decode.proofs.KeptLemmas.{content_is}
use Rattle.smith_decode.proofs.ModuleLemmas.{IsDecodedBinary, AreBodies, AreGlobals, AreParts, parts_of, module_decodes}
use Rattle.smith_decode.proofs.SizeLemmas.{joined_long, tagged_long, index_some, list_some, list_takes, group_takes}
use Rattle.smith_decode.proofs.SizeLemmas.{import_takes, export_takes}
use Rattle.smith_decode.proofs.SegmentSizeLemmas.{memory_some, tag_some, table_takes, global_takes, segment_takes, body_takes, data_takes}
use Rattle.smith_decode.proofs.SegmentSizeLemmas.{custom_takes}

-- the bytes in the contents of sections that are custom, and of those that are not
abbrev custom_bytes : List (ℕ × List ℕ) → ℕ
custom_bytes [] = 0
custom_bytes (section ∷ sections) = cond (eqb section.0 0) (length section.1) 0 + custom_bytes sections

abbrev other_bytes : List (ℕ × List ℕ) → ℕ
other_bytes [] = 0
other_bytes (section ∷ sections) = cond (eqb section.0 0) 0 (length section.1) + other_bytes sections

either : (b : Bool) (n : ℕ) → cond b n 0 + cond b 0 n ≡ n
either true n = omega arith
either false n = omega arith

both_fit : (sections : List (ℕ × List ℕ)) (piece : List ℕ) → Each IsAnySection sections piece
    → custom_bytes sections + other_bytes sections ≤ length piece
unfolding Each
both_fit [] piece h = omega arith
both_fit (section ∷ sections) piece h =
    let sized = h.is_first.1.is_second in
    omega (
      arith,
      joined_long h,
      tagged_long h.is_first.1,
      joined_long sized.form,
      ap length sized.form.is_second,
      ap length sized.is_content,
      either (eqb section.0 0) (length section.1),
      both_fit sections h.second h.is_second,
    )

-- custom sections
customs_fit : (sections : List (ℕ × List ℕ)) (after : Option ℕ) (customs : List Custom) → AreAmong after sections customs
    → all_items custom_items customs ≤ custom_bytes sections
customs_fit [] after customs none = omega (arith, ap (all_items custom_items) none)
customs_fit (section ∷ sections) after customs (IsNext.custom one more zeroth form is among) =
    let here : cond (eqb section.0 0) (length section.1) 0 ≡ length section.1 = rw (eq-eqb section.0 0 zeroth) refl in
    omega (
      arith,
      here,
      ap (all_items custom_items) is,
      custom_takes after one section.1 form,
      customs_fit sections after more among,
    )
customs_fit (section ∷ sections) after customs (IsNext.other nonzero among) =
    omega (arith, customs_fit sections _ customs among)

-- the first of several sections is one that is in front
abbrev Behind : ℕ × List ℕ → List (ℕ × List ℕ) → List ℕ → Type 0
Behind section sections rest = (more : List (ℕ × List ℕ)) × (sections ≡ section ∷ more) × Each IsAnySection more rest

section_behind : (id : ℕ) (content piece rest : List ℕ) (sections : List (ℕ × List ℕ)) → IsSection id (Is content) piece
    → Each IsAnySection sections (piece ++ rest) → Behind (id, content) sections rest
unfolding Each
section_behind id content piece rest [] h each = absurd (omega (arith, ap length each, length-append piece rest, tagged_long h))
section_behind id content piece rest (section ∷ more) h each =
    let other = each.is_first.1 in
    let same : id ∷ (h.second ++ rest) ≡ section.0 ∷ (other.second ++ each.second) =
    sym (tagged_read id rest h) ∙ each.whole ∙ tagged_read section.0 each.second other in
    let ids : id ≡ section.0 = cc in
    let tails : h.second ++ rest ≡ other.second ++ each.second = ap (drop 1) same in
    let read = content_decodes.complete content h.second rest (content_is content h.second h.is_second) in
    let again = content_decodes.complete section.1 other.second each.second (content_is section.1 other.second other.is_second) in
    let items = item_is content section.1 rest each.second (sym read ∙ ap content_at tails ∙ again) in (
      more,
      ap (λ (first : ℕ). (first, section.1) ∷ more) (sym ids) ∙ ap (λ (second : List ℕ). (id, second) ∷ more) (sym items.0),
      subst (Each IsAnySection more) (sym items.1) each.is_second,
    )

-- what is in the contents of the sections in front that are not custom
abbrev Fits : {A : Type 0} → (A → List ℕ → Type 0) → (A → ℕ) → Type 0
Fits {A = A} Spells size =
    (x : A) (piece : List ℕ) (sections : List (ℕ × List ℕ)) → Spells x piece → Each IsAnySection sections piece
    → size x ≤ other_bytes sections

forget : {id : ℕ} {Content : List ℕ → Type 0} {piece : List ℕ} → (h : IsSection id Content piece)
    → IsSection id (Is h.is_second.content) piece
forget h = record {
  first = h.first;
  second = h.second;
  is_first = h.is_first;
  is_second = record { content = h.is_second.content; is_content = refl; form = h.is_second.form };
  whole = h.whole;
}

after_customs : (all : List (Unit {0})) (piece rest : List ℕ) (sections : List (ℕ × List ℕ)) (n : ℕ) → Each IsCustom all piece
    → Each IsAnySection sections (piece ++ rest)
    → ((more : List (ℕ × List ℕ)) → Each IsAnySection more rest → n ≤ other_bytes more) → n ≤ other_bytes sections
unfolding Each
after_customs [] piece rest sections n h each fits =
    fits sections (subst (Each IsAnySection sections) (ap (λ (front : List ℕ). front ++ rest) h) each)
after_customs (nothing ∷ all) piece rest sections n h each fits =
    let whole = ap (λ (front : List ℕ). front ++ rest) h.whole ∙ append_assoc h.first h.second rest in
    let behind =
    section_behind 0 h.is_first.is_second.content h.first (h.second ++ rest) sections (forget h.is_first)
    (subst (Each IsAnySection sections) whole each) in
    omega (arith, ap other_bytes behind.1, after_customs all h.second rest behind.0 n h.is_second behind.2 fits)

section_fits : {N : Type 0} {Content : List ℕ → Type 0} (id n m : ℕ) (section rest : List ℕ) (sections : List (ℕ × List ℕ))
    → (id ≡ 0 → ⊥) → ((content : List ℕ) → Content content → n ≤ length content) → (N → n ≡ 0)
    → IsOptionalSection id N Content section → Each IsAnySection sections (section ++ rest)
    → ((more : List (ℕ × List ℕ)) → Each IsAnySection more rest → m ≤ other_bytes more) → n + m ≤ other_bytes sections
section_fits id n m section rest sections nonzero takes nothing (IsOptionalSection.present h) each fits =
    let content = h.is_second.content in
    let behind = section_behind id content section rest sections (forget h) each in
    let here : cond (eqb id 0) 0 (length content) ≡ length content = rw (ne_eqb id 0 nonzero) refl in
    omega (arith, ap other_bytes behind.1, here, takes content h.is_second.is_content, fits behind.0 behind.2)
section_fits id n m section rest sections nonzero takes nothing (IsOptionalSection.absent none empty) each fits =
    let others = subst (Each IsAnySection sections) (ap (λ (front : List ℕ). front ++ rest) empty) each in
    omega (arith, nothing none, fits sections others)

more_fits : {A B : Type 0} {Spells : A → List ℕ → Type 0} {size : A → ℕ} (id : ℕ) (none : B) (Content : B → List ℕ → Type 0)
    (within : B → ℕ) → (id ≡ 0 → ⊥) → ((x : B) (content : List ℕ) → Content x content → within x ≤ length content) → within none ≡ 0
    → Fits Spells size → Fits (IsMore id none Content Spells) (λ (x : B × A). within x.0 + size x.1)
more_fits {size = size} id none Content within nonzero takes nothing fits x piece sections h each =
    let tail = h.is_second in
    after_customs h.is_first.all h.first h.second sections (within x.0 + size x.1) h.is_first.form
    (subst (Each IsAnySection sections) h.whole each)
    (λ more each. section_fits id (within x.0) (size x.1) tail.first tail.second more nonzero (takes x.0)
    (λ is. ap within is ∙ nothing) tail.is_first (subst (Each IsAnySection more) tail.whole each)
    (λ others each. fits x.1 tail.second others tail.is_second each))

-- a list without items in it takes no byte
list_fits : {A B : Type 0} {Spells : A → List ℕ → Type 0} {size : A → ℕ} (id : ℕ) (Item : B → List ℕ → Type 0) (within : B → ℕ)
    → (id ≡ 0 → ⊥) → ((x : B) (piece : List ℕ) → Item x piece → 1 + within x ≤ length piece) → Fits Spells size
    → Fits (IsMore id [] (IsList Item) Spells) (λ (x : List B × A). all_items within x.0 + size x.1)
list_fits id Item within nonzero takes fits =
    more_fits id [] (IsList Item) (all_items within) nonzero (λ xs content h. omega (arith, list_takes within takes xs content h)) refl fits

plain_fits : {A B : Type 0} {Spells : A → List ℕ → Type 0} {size : A → ℕ} (id : ℕ) (Item : B → List ℕ → Type 0) → (id ≡ 0 → ⊥)
    → ((x : B) (piece : List ℕ) → Item x piece → 1 ≤ length piece) → Fits Spells size
    → Fits (IsMore id [] (IsList Item) Spells) (λ (x : List B × A). length x.0 + size x.1)
plain_fits id Item nonzero takes fits =
    more_fits id [] (IsList Item) length nonzero (λ xs content h. omega (arith, list_some takes xs content h)) refl fits

stated_fits : {A : Type 0} {Spells : A → List ℕ → Type 0} {size : A → ℕ} (id : ℕ) → (id ≡ 0 → ⊥) → Fits Spells size
    → Fits (IsMore id None IsStated Spells) (λ (x : Option ℕ × A). 0 + size x.1)
stated_fits id nonzero fits = more_fits id None IsStated (λ stated. 0) nonzero (λ stated content h. omega arith) refl fits

-- the sections of a module: one line for each
end_fits : Fits IsEnd (λ nothing. 0)
end_fits nothing piece sections h each = omega arith

bodies_fit : Fits AreBodies (λ x. all_items body_items x.0 + (all_items data_items x.1.0 + 0))
bodies_fit =
    list_fits 10 IsRunBody body_items (λ e. omega arith) body_takes
    (list_fits 11 IsSegment data_items (λ e. omega arith) data_takes end_fits)

abbrev globals_size : Globals → ℕ
globals_size x =
    all_items global_items x.0 + (all_items export_items x.1.0 + (0 + (all_items segment_items x.1.1.1.0 + (0 +
    (all_items body_items x.1.1.1.1.1.0 + (all_items data_items x.1.1.1.1.1.1.0 + 0))))))

globals_fit : Fits AreGlobals globals_size
globals_fit =
    list_fits 6 IsGlobalDefinition global_items (λ e. omega arith) global_takes
    (list_fits 7 IsExportItem export_items (λ e. omega arith) export_takes
    (stated_fits 8 (λ e. omega arith)
    (list_fits 9 IsElementSegment segment_items (λ e. omega arith) segment_takes
    (stated_fits 12 (λ e. omega arith) bodies_fit))))

parts_fit : Fits AreParts (λ x.
    all_items (all_items declared_items) x.0 + (all_items import_items x.1.0 + (length x.1.1.0 + (all_items table_items x.1.1.1.0 +
    (length x.1.1.1.1.0 + (length x.1.1.1.1.1.0 + globals_size x.1.1.1.1.1.1))))))
parts_fit =
    list_fits 1 IsDeclaredGroup (all_items declared_items) (λ e. omega arith) group_takes
    (list_fits 2 IsImportGroup import_items (λ e. omega arith) import_takes
    (plain_fits 3 IsIndex (λ e. omega arith) index_some
    (list_fits 4 IsTableDefinition table_items (λ e. omega arith) table_takes
    (plain_fits 5 IsMemoryType (λ e. omega arith) memory_some
    (plain_fits 13 IsTagDefinition (λ e. omega arith) tag_some globals_fit)))))

-- a module
module_fits : (m : Module) (bytes : List ℕ) → IsDecodedBinary m bytes → items_in m ≤ length bytes
module_fits m bytes h =
    let sections = h.form.second in
    let groups = declared_groups m.types m.further_supertypes in
    omega (
      arith,
      groups_items groups,
      ap (all_items (all_items sub_type_items)) (groups_types_again m.types m.further_supertypes),
      ap further_items (groups_further_again m.types m.further_supertypes h.aligned),
      joined_long h.form,
      parts_fit (parts_of m) sections h.customs.0 h.form.is_second h.customs.1,
      customs_fit h.customs.0 None m.customs h.customs.2,
      both_fit h.customs.0 sections h.customs.1,
    )

-- what a call returned
pub is_small : (features : Features) (bytes : List ℕ) (r : Result Module DecodeError) → Locates features r bytes (module_at bytes)
    → IfOk r (λ m. items_in m ≤ length bytes)
is_small features bytes (Ok m) read = module_fits m bytes (module_decodes.sound bytes m read.0)
is_small features bytes (Err e) read = tt
