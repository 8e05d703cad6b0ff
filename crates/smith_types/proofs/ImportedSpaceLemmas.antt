-- Index spaces extended import by import are the index spaces of the imports.
use Rattle.smith_types.proofs.Common.{[], add-one, ap, drop, flat_map, get_or, length, List, refl, suc, sym, ℕ, ◌++◌, ◌+◌, ◌<◌, ◌∙◌, ◌∷◌}
use Rattle.smith_types.proofs.Common.{◌≡◌}
use Rattle.std.proofs.Common.{append-nil, append_assoc}
use Rattle.std.proofs.Math.Seq.{drop-cons}
use Rattle.std.proofs.lemmas.Grind.{flat_map-append}
use Rattle.std.proofs.lemmas.List.Folds.{flat_map-map}
use Rattle.smith_types.specs.Imports.{EntitySpaces, imported_spaces, flattened, imports_of, import_of, imported, tag_of, func_of, table_of}
use Rattle.smith_types.specs.Imports.{memory_of, global_of}
use Rattle.smith_types.specs.EntitySpaces.{with_entity, with_entities, entities_of}
use Rattle.smith_syntax.specs.declared.imports.Import.{Import}
use Rattle.smith_syntax.specs.declared.imports.ImportItem.{ImportItem}
use Rattle.smith_syntax.specs.declared.imports.Imports.{Imports}
use Rattle.smith_syntax.specs.declared.imports.Imports.TheVariants.{Single, Compact1, Compact2}
use Rattle.smith_syntax.specs.declared.entity_type.EntityType.{EntityType}
use Rattle.smith_syntax.specs.declared.entity_type.EntityType.TheVariants as entity

pub with_entities_append : (spaces : EntitySpaces) (xs ys : List EntityType) → with_entities spaces (xs ++ ys) ≡ with_entities
    (with_entities spaces xs) ys
with_entities_append spaces [] ys = refl
with_entities_append spaces (x ∷ xs) ys = with_entities_append (with_entity spaces x) xs ys

-- the spaces with these entities appended
abbrev followed_by : EntitySpaces → List EntityType → EntitySpaces
followed_by spaces more = record {
  tags = spaces.tags ++ flat_map tag_of more;
  funcs = spaces.funcs ++ flat_map func_of more;
  tables = spaces.tables ++ flat_map table_of more;
  memories = spaces.memories ++ flat_map memory_of more;
  globals = spaces.globals ++ flat_map global_of more;
}

with_entities_after : (spaces : EntitySpaces) (more : List EntityType) → with_entities spaces more ≡ followed_by spaces more
with_entities_after spaces [] = simp append-nil refl
with_entities_after spaces (entity.Tag index ∷ more) = with_entities_after (with_entity spaces (entity.Tag index)) more
    ∙ simp append_assoc refl
with_entities_after spaces (entity.Func index ∷ more) = with_entities_after (with_entity spaces (entity.Func index)) more
    ∙ simp append_assoc refl
with_entities_after spaces (entity.Table table ∷ more) = with_entities_after (with_entity spaces (entity.Table table)) more
    ∙ simp append_assoc refl
with_entities_after spaces (entity.Memory memory ∷ more) = with_entities_after (with_entity spaces (entity.Memory memory)) more
    ∙ simp append_assoc refl
with_entities_after spaces (entity.Global global ∷ more) = with_entities_after (with_entity spaces (entity.Global global)) more
    ∙ simp append_assoc refl

module _ {A : Type 0} (of_kind : EntityType → List A) where
  group_same : (group : Imports) → imported of_kind (imports_of group) ≡ flat_map of_kind (entities_of group)
  group_same (Single one) = refl
  group_same (Compact1 from items) =
      flat_map-map (λ (one : Import). of_kind one.entity_type) (λ (item : ImportItem). import_of from item.name item.entity_type) items
      ∙ sym (flat_map-map of_kind (λ (item : ImportItem). item.entity_type) items)
  group_same (Compact2 from entity_type names) =
      flat_map-map (λ (one : Import). of_kind one.entity_type) (λ name. import_of from name entity_type) names
      ∙ sym (flat_map-map of_kind (λ (name : List ℕ). entity_type) names)

  imported_same : (groups : List Imports) → imported of_kind (flattened groups) ≡ flat_map of_kind (flat_map entities_of groups)
  imported_same [] = refl
  imported_same (group ∷ groups) =
      flat_map-append (λ (one : Import). of_kind one.entity_type) (imports_of group) (flattened groups)
      ∙ rw (group_same group, imported_same groups) (sym (flat_map-append of_kind (entities_of group) (flat_map entities_of groups)))

pub imported_is_grown : (groups : List Imports) → with_entities (record { tags = []; funcs = []; tables = []; memories = []; globals = [] })
    (flat_map entities_of groups) ≡ imported_spaces (flattened groups)
imported_is_grown groups =
    with_entities_after (record { tags = []; funcs = []; tables = []; memories = []; globals = [] }) (flat_map entities_of groups)
    ∙ rw (
      imported_same tag_of groups,
      imported_same func_of groups,
      imported_same table_of groups,
      imported_same memory_of groups,
      imported_same global_of groups,
    ) refl

-- one turn of the loop over groups
pub groups_turn : (now later whole : EntitySpaces) (groups : List Imports) (i : ℕ) (group d : Imports) → i < length groups
    → group ≡ get_or groups i d → later ≡ with_entities now (entities_of group)
    → with_entities now (flat_map entities_of (drop i groups)) ≡ whole → with_entities later (flat_map entities_of (drop (i + 1) groups))
    ≡ whole
groups_turn now later whole groups i group d inside read is before =
    let rest = drop (suc i) groups in
    let cut : drop i groups ≡ group ∷ rest = drop-cons groups i d inside ∙ ap (λ (g : Imports). g ∷ rest) (sym read) in
    let old : with_entities now (entities_of group ++ flat_map entities_of rest) ≡ whole =
    sym (ap (λ (gs : List Imports). with_entities now (flat_map entities_of gs)) cut) ∙ before in
    rw (add-one, is) (sym (with_entities_append now (entities_of group) (flat_map entities_of rest)) ∙ old)
