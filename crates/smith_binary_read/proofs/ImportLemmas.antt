-- Imports that are read: the readings are sound and complete.
use Rattle.std.proofs.Common.{◌≡◌, ℕ, ◌≤◌, true, eqb, ◌&&◌, List, [], ◌∷◌, ◌++◌, length, Ok, refl, ap, subst}
use Rattle.std.proofs.Common.{◌∙◌, arith}
use Rattle.std.proofs.lemmas.Bool.{and_parts, and_right, eqb-true, ne_eqb}
use Rattle.std.proofs.lemmas.List.{nil_from_length}
use Rattle.smith_binary.specs.Pieces.{IsByte, Joined, IsName}
use Rattle.smith_types.specs.Syntax.entity_type.EntityType.{EntityType}
use Rattle.smith_types.specs.Syntax.entity_type.EntityType.TheVariants as entity
use Rattle.smith_types.specs.Syntax.imports.Imports.{Imports}
use Rattle.smith_types.specs.Syntax.imports.Imports.TheVariants.{Single, Compact1, Compact2}
use Rattle.smith_types.specs.Imports.{import_of}
use Rattle.smith_binary_sections.specs.Entities.{IsExternType}
use Rattle.smith_binary_sections.specs.Imports.{IsImportItem, IsGroupHead, IsImportGroup}
use Rattle.smith_binary_read.specs.Readings.{byte_at}
use Rattle.smith_binary_read.specs.Contents.{name_at}
use Rattle.smith_binary_read.specs.Decodes.{Front, Decodes}
use Rattle.smith_binary_read.proofs.ReadLemmas.{step, branch, front_as, front_same, front_joined, joined_decodes}
use Rattle.smith_binary_read.proofs.ReadLemmas.{first_read}
use Rattle.smith_binary_read.proofs.ContentLemmas.{name_decodes, list_decodes}
use Rattle.smith_binary_read.specs.ImportReadings.{import_item, import_item_at, import_group_at}
use Rattle.smith_binary_read.proofs.ChoiceLemmas.{Begins, tag_begins, tag_front}
use Rattle.smith_binary_read.proofs.TypeLemmas.{head_is}
use Rattle.smith_binary_read.proofs.EntityLemmas.{extern_decodes, split_read}

pub item_decodes : Decodes IsImportItem import_item_at
unfolding import_item_at
item_decodes = joined_decodes import_item (λ item. item.name) (λ item. item.entity_type) (λ x y. refl) (λ x y. refl)
    (λ z. refl) name_decodes extern_decodes

-- the head of a compact group
head_front : (code : ℕ) (bytes : List ℕ) (from name : List ℕ × List ℕ) (tag : ℕ × List ℕ) → name_at bytes ≡ Ok from
    → name_at from.1 ≡ Ok name → byte_at name.1 ≡ Ok tag → (eqb (length name.0) 0 && eqb tag.0 code) ≡ true
    → Front (IsGroupHead from.0 code) bytes tag.1
head_front code bytes from name tag first second third is =
    let tests = and_parts (eqb (length name.0) 0) (eqb tag.0 code) is in
    let empty : name.0 ≡ [] = nil_from_length name.0 (eqb-true (length name.0) 0 tests.0) in
    front_joined (name_decodes.sound bytes from.0 from.1 first)
    (front_joined (front_as (λ piece h. subst (λ (n : List ℕ). IsName n piece) empty h) (name_decodes.sound from.1 name.0 name.1 second))
    (tag_front code name.1 tag third tests.1))

group_sound : (bytes : List ℕ) (x : Imports) (rest : List ℕ) → import_group_at bytes ≡ Ok (x, rest) → Front (IsImportGroup x) bytes rest
unfolding import_group_at
group_sound bytes x rest e = step _ _ _ e (λ from first e. step _ _ _ e (λ name second e. step _ _ _ e (λ tag third e.
    branch _ _ _ _ e
    (λ is e. step _ _ _ e (λ items fourth e. front_same IsImportGroup (Compact1 from.0 items.0) x items.1 rest e
    (front_joined (head_front 0x7F bytes from name tag first second third is)
    ((list_decodes item_decodes).sound tag.1 items.0 items.1 fourth))))
    (λ is_not e. branch _ _ _ _ e
    (λ is e. step _ _ _ e (λ ty fourth e. step _ _ _ e
    (λ names fifth e. front_same IsImportGroup (Compact2 from.0 ty.0 names.0) x names.1 rest e
    (front_joined (head_front 0x7E bytes from name tag first second third is)
    (front_joined (extern_decodes.sound tag.1 ty.0 ty.1 fourth) ((list_decodes name_decodes).sound ty.1 names.0 names.1 fifth))))))
    (λ is_not e. step _ _ _ e (λ ty fourth e. front_same IsImportGroup (Single (import_of from.0 name.0 ty.0)) x ty.1 rest e
    (front_joined (name_decodes.sound bytes from.0 from.1 first)
    (front_joined (name_decodes.sound from.1 name.0 name.1 second) (extern_decodes.sound name.1 ty.0 ty.1 fourth)))))))))

-- the first byte of an external type begins no group
extern_begins : (x : EntityType) (piece : List ℕ) → IsExternType x piece → Begins (λ (b : ℕ). b ≤ 4) piece
extern_begins (entity.Func index) piece h = tag_begins _ 0 _ piece (omega arith) h
extern_begins (entity.Table table) piece h = tag_begins _ 1 _ piece (omega arith) h
extern_begins (entity.Memory memory) piece h = tag_begins _ 2 _ piece (omega arith) h
extern_begins (entity.Global global) piece h = tag_begins _ 3 _ piece (omega arith) h
extern_begins (entity.Tag index) piece h = tag_begins _ 4 _ piece (omega arith) h

-- the parts of the head of a group
head_read : (from piece after : List ℕ) (code : ℕ) → (h : IsGroupHead from code piece)
    → name_at (piece ++ after) ≡ Ok (from, h.second ++ after)
head_read from piece after code h = first_read from after name_decodes h

head_code : (code : ℕ) (piece after : List ℕ) → (h : Joined (IsName []) (IsByte code) piece)
    → name_at (piece ++ after) ≡ Ok ([], code ∷ after)
head_code code piece after h = first_read [] after name_decodes h ∙ ap (λ (byte : List ℕ). Ok ([], byte ++ after)) h.is_second

group_complete : (x : Imports) (piece rest : List ℕ) → IsImportGroup x piece → import_group_at (piece ++ rest) ≡ Ok (x, rest)
unfolding import_group_at
group_complete (Single imported) piece rest h =
    let begins = extern_begins imported.entity_type h.is_second.second h.is_second.is_second in
    let low : begins.head ≤ 4 = begins.test in
    rw (
      first_read imported.«module» rest name_decodes h,
      first_read imported.name rest name_decodes h.is_second,
      head_is _ h.is_second.second rest begins (omega arith),
      and_right (eqb (length imported.name) 0) (eqb begins.head 0x7F) (ne_eqb begins.head 0x7F (λ e. omega arith)),
      and_right (eqb (length imported.name) 0) (eqb begins.head 0x7E) (ne_eqb begins.head 0x7E (λ e. omega arith)),
      extern_decodes.complete imported.entity_type h.is_second.second rest h.is_second.is_second,
    ) refl
group_complete (Compact1 from items) piece rest h =
    let after = h.second ++ rest in
    ap import_group_at (split_read h rest)
    ∙ rw (
      head_read from h.first after 0x7F h.is_first,
      head_code 0x7F h.is_first.second after h.is_first.is_second,
      (list_decodes item_decodes).complete items h.second rest h.is_second,
    ) refl
group_complete (Compact2 from ty names) piece rest h =
    let after = h.second ++ rest in
    ap import_group_at (split_read h rest)
    ∙ rw (
      head_read from h.first after 0x7E h.is_first,
      head_code 0x7E h.is_first.second after h.is_first.is_second,
      first_read ty rest extern_decodes h.is_second,
      (list_decodes name_decodes).complete names h.is_second.second rest h.is_second.is_second,
    ) refl

pub import_group_decodes : Decodes IsImportGroup import_group_at
import_group_decodes = record { sound = group_sound; complete = group_complete }
