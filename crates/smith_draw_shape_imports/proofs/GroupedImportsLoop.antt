-- The iterations of the loop that puts available imports into groups.
use Rattle.smith_draw_shape_imports.proofs.Common.{[], All-nil, all_apart, ap, arith, Bool, Config, false, Features, flattened, Import}
use Rattle.smith_draw_shape_imports.proofs.Common.{import_of, Imports, IsImportsValid, IsTrue, length-append, List, refl, Single, sym, true}
use Rattle.smith_draw_shape_imports.proofs.Common.{ℕ, ◌++◌, ◌∙◌, ◌∷◌, ◌≡◌}
use Rattle.std.proofs.Common.{append-nil, append_assoc}
use Rattle.std.proofs.lemmas.Grind.{flat_map-append}
use Rattle.std.proofs.lemmas.List.Elements.{All-cons, All-head, All-push}
use Rattle.std.proofs.lemmas.Slice.Eq.{bytes_eq-Decides}
use Rattle.smith_types.specs.Flags.{IsImportsEnabled}
use Rattle.smith_types.specs.Imports.{imports_of}
use Rattle.smith_syntax.specs.Same.{exact_entity}
use Rattle.smith_types.specs.Syntax.entity_type.EntityType.{EntityType}
use Rattle.smith_types.specs.Syntax.imports.Imports.TheVariants.{Compact1, Compact2}
use Rattle.smith_draw_shape_imports.specs.AvailableImports.{may_join, group_begun, joins_at, group_begun_at, joined_at, grouped_at}
use Rattle.smith_draw_shape_imports.specs.AvailableImports.{AreGroupsOf}
use Rattle.smith_draw_imports.specs.Imported.{IsCompact, IsOfGroup}
use Rattle.smith_draw_imports.specs.Importing.{module_name, with_import}
use Rattle.smith_draw_imports.specs.declared.import_groups.GroupKind.{GroupKind}
use Rattle.smith_draw_imports.specs.declared.import_groups.GroupKind.TheVariants as groups
use Rattle.smith_draw_imports.proofs.ImportedEntityLemmas.{first_holds, second_holds}
use Rattle.smith_draw_imports.proofs.ImportsGrownLemmas.{import_added}

-- the groups of the remaining imports complete the whole
pub record IsJoining (config : Config) (made : List Imports) (group : Imports) (more : List Import) (bytes : List ℕ)
    (total : List Imports × List ℕ) : Type 0 where
  pub so_far : joined_at config made group more bytes ≡ total

pub grouped_first : (config : Config) (first : Import) (more : List Import) (group : Imports) (bytes mid : List ℕ)
    → group_begun_at config first bytes ≡ (group, mid) → IsJoining config [] group more mid (grouped_at config (first ∷ more) bytes)
unfolding grouped_at
grouped_first config first more group bytes mid drawn = record { so_far = rw drawn refl }

module _ {config : Config} {made : List Imports} {group : Imports} {bytes : List ℕ} where
  pub joined_none : {more : List Import} {total : List Imports × List ℕ} → IsJoining config made group more bytes total → more ≡ []
      → total ≡ (made ++ group ∷ [], bytes)
  unfolding joined_at
  joined_none {more = more} now none =
      let one : joined_at config made group more bytes ≡ (made ++ group ∷ [], bytes) = rw none refl in
      sym now.so_far ∙ one

-- one iteration
pub joining_more : {config : Config} {made : List Imports} {group : Imports} {more : List Import} {bytes : List ℕ} {total : List Imports
    × List ℕ} (next : Import) (rest : List Import) (new : List Imports) (last : Imports) (after : List ℕ)
    → IsJoining config made group more bytes total → more ≡ next ∷ rest → joined_at config made group (next ∷ rest) bytes
    ≡ joined_at config new last rest after → IsJoining config new last rest after total
joining_more {config = config} {made = made} {group = group} {bytes = bytes} next rest new last after now cut turn =
    record { so_far = sym turn ∙ sym (ap (λ xs. joined_at config made group xs bytes) cut) ∙ now.so_far }

module _ (config : Config) (made : List Imports) (group : Imports) (bytes : List ℕ) (next : Import) (more : List Import) where
  pub joins_group : {mid : List ℕ} {b : Bool} → joins_at group next bytes ≡ (b, mid) → b ≡ true
      → joined_at config made group (next ∷ more) bytes ≡ joined_at config made (with_import group next.name next.entity_type) more mid
  unfolding joined_at
  joins_group drawn on = rw (drawn, on) refl

  pub begins_group : {mid after : List ℕ} {b : Bool} {last : Imports} → joins_at group next bytes ≡ (b, mid) → b ≡ false
      → group_begun_at config next mid ≡ (last, after) → joined_at config made group (next ∷ more) bytes ≡ joined_at config
      (made ++ group ∷ []) last more after
  unfolding joined_at
  begins_group drawn off first = rw (drawn, off, first) refl

-- the imports of a group of one import
pub begun_one : (kind : GroupKind) (first : Import) → imports_of (group_begun kind first) ≡ first ∷ []
begun_one groups.Single first = refl
begun_one groups.OfOneModule first = refl
begun_one groups.OfOneType first = refl

pub begun_enabled : (features : Features) (kind : GroupKind) (first : Import)
    → ((kind ≡ groups.Single → ⊥) → IsTrue features.compact_imports) → IsImportsEnabled features (group_begun kind first)
begun_enabled features groups.Single first on = tt
begun_enabled features groups.OfOneModule first on = on (λ same. cc)
begun_enabled features groups.OfOneType first on = on (λ same. cc)

-- an import that may join a group
record MayStandIn (group : Imports) (next : Import) : Type 0 where
  compact : IsCompact group
  from : module_name group ≡ next.«module»
  of_group : IsOfGroup group next.entity_type

may_stand : (group : Imports) (next : Import) → may_join group next ≡ true → MayStandIn group next
may_stand (Single imported) next may = absurd cc
may_stand (Compact1 from items) next may = record { compact = tt; from = (bytes_eq-Decides from next.«module»).0 may; of_group = tt }
may_stand (Compact2 from entity_type names) next may = record {
  compact = tt;
  from = (bytes_eq-Decides from next.«module»).0 (first_holds _ _ may);
  of_group = sym ((exact_entity entity_type next.entity_type).0 (second_holds _ _ may));
}

-- the imports of a group after another has joined
joined_imports : (group : Imports) (next : Import) → may_join group next ≡ true → imports_of (with_import group next.name next.entity_type)
    ≡ imports_of group ++ next ∷ []
joined_imports group next may =
    let stands = may_stand group next may in
    import_added group next.name next.entity_type stands.compact stands.of_group
    ∙ ap (λ from. imports_of group ++ import_of from next.name next.entity_type ∷ []) stands.from

joined_enabled : (features : Features) (group : Imports) (name : List ℕ) (added : EntityType) → IsImportsEnabled features group
    → IsImportsEnabled features (with_import group name added)
joined_enabled features (Single imported) name added on = on
joined_enabled features (Compact1 from items) name added on = on
joined_enabled features (Compact2 from entity_type names) name added on = on

flattened_last : (made : List Imports) (group : Imports) → flattened (made ++ group ∷ []) ≡ flattened made ++ imports_of group
flattened_last made group = flat_map-append imports_of made (group ∷ []) ∙ ap (λ xs. flattened made ++ xs) (append-nil (imports_of group))

pub group_alone : {features : Features} (group : Imports) (first : Import) → imports_of group ≡ first ∷ [] → IsImportsValid features group
    → AreGroupsOf features (first ∷ []) (group ∷ [])
group_alone {features = features} group first one valid =
    record {
      all = append-nil (imports_of group) ∙ one;
      valid = All-cons (IsImportsValid features) group [] valid
          (All-nil (IsImportsValid features));
    }

module _ {features : Features} {imports : List Import} (made : List Imports) (group : Imports) (next : Import) where
  pub groups_joined : AreGroupsOf features imports (made ++ group ∷ []) → may_join group next ≡ true
      → AreGroupsOf features (imports ++ next ∷ []) (made ++ with_import group next.name next.entity_type ∷ [])
  groups_joined so_far may =
      let new = with_import group next.name next.entity_type in
      let apart = all_apart (IsImportsValid features) made (group ∷ []) so_far.valid in
      let one = joined_imports group next may in
      let before : flattened made ++ imports_of group ≡ imports = sym (flattened_last made group) ∙ so_far.all in
      let all : flattened (made ++ new ∷ []) ≡ imports ++ next ∷ [] =
      flattened_last made new ∙ ap (λ xs. flattened made ++ xs) one ∙ sym (append_assoc (flattened made) (imports_of group) (next ∷ []))
      ∙ ap (λ xs. xs ++ next ∷ []) before in
      record {
        all = all;
        valid = All-push (IsImportsValid features) made new apart.0 (record {
          filled = rw one (omega (arith, length-append (imports_of group) (next ∷ [])));
          enabled = joined_enabled features group next.name next.entity_type (All-head (IsImportsValid features) group [] apart.1).enabled;
        });
      }

  pub groups_begun : (last : Imports) → AreGroupsOf features imports (made ++ group ∷ []) → imports_of last ≡ next ∷ []
      → IsImportsValid features last → AreGroupsOf features (imports ++ next ∷ []) (made ++ group ∷ [] ++ last ∷ [])
  groups_begun last so_far one valid = record {
    all = flattened_last (made ++ group ∷ []) last ∙ rw (one, so_far.all) refl;
    valid = All-push (IsImportsValid features) (made ++ group ∷ []) last so_far.valid valid;
  }
