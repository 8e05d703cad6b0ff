-- One iteration of the loop that exports every item.
use Rattle.smith_draw_contents.proofs.Common.{[], All, ap, append-nil, append_assoc, arith, Config, drop, EntitySpaces, Err, Export}
use Rattle.smith_draw_contents.proofs.Common.{exported_size, false, get_or_from_slice_get, Global, HashSet, IsStanding, item_size}
use Rattle.smith_draw_contents.proofs.Common.{KeepsPieces, length, length-append, List, lt-ltb, map, map-append, nat_lt, Ok, refl}
use Rattle.smith_draw_contents.proofs.Common.{slice_get, slice_get_within, String, subst, SubType, sym, true, ℕ, ◌++◌, ◌+◌, ◌-◌, ◌<◌, ◌∙◌}
use Rattle.smith_draw_contents.proofs.Common.{◌∷◌, ◌≡◌, ◌≤◌}
use Rattle.std.proofs.Common.{le-ltb}
use Rattle.std.specs.Prelude.{Some}
use Rattle.std.specs.HashSet.{IsEmpty}
use Rattle.std.proofs.lemmas.List.{drop_all, drop_more}
use Rattle.std.proofs.lemmas.List.Sums.{sum_by-append}
use Rattle.smith_bytes.specs.declared.error.Why.TheVariants.{TypeSize}
use Rattle.smith_module_rules.specs.ExportedItems.{Item, item_of}
use Rattle.smith_draw_contents.specs.AllExports.{exports_of_items}
use Rattle.smith_draw_contents.specs.Exporting.{is_exported, export_name_at, HasNames}
use Rattle.smith_draw_contents.specs.Exported.{AreExportsFit}
use Rattle.smith_draw_contents.proofs.ExportsFitLemmas.{none_fit, fit_push}

-- the items before a place are exported, and the draws from here on complete the whole
pub record AreExporting {S : Type 0} (config : Config) (types : List SubType) (spaces : EntitySpaces) (imports : ℕ) (items : List Item)
    (place : ℕ) (exports : List Export) (size : ℕ) (names : HashSet (String Global) S) (start bytes : List ℕ) : Type 0 where
  pub fit : AreExportsFit config types spaces imports exports size
  pub items_are : map item_of exports ++ drop place items ≡ items
  pub count_is : length exports ≡ place
  pub names_are : HasNames names exports
  pub so_far : exports_of_items config types spaces imports (drop place items) exports bytes ≡ exports_of_items config types spaces imports
      items [] start
  pub left : KeepsPieces start bytes

-- no item yet
pub none_exporting : {S : Type 0} {names : HashSet (String Global) S} (config : Config) (types : List SubType) (spaces : EntitySpaces)
    (imports : ℕ) (items : List Item) (start : List ℕ) → imports ≤ config.max_type_size → IsEmpty names
    → AreExporting config types spaces imports items 0 [] imports names start start
none_exporting config types spaces imports items start within empty = record {
  fit = none_fit config types spaces imports within;
  items_are = refl;
  count_is = refl;
  names_are = record { has = λ name. rw empty refl; size = rw empty refl };
  so_far = refl;
  left = λ whole h. h;
}

module _ {S : Type 0} {config : Config} {types : List SubType} {spaces : EntitySpaces} {imports place : ℕ} {items : List Item}
    {exports : List Export} {size : ℕ} {names : HashSet (String Global) S} {start bytes : List ℕ} where
  -- all items are exported
  pub exporting_full : AreExporting config types spaces imports items place exports size names start bytes → length items ≤ place
      → exports_of_items config types spaces imports items [] start ≡ Ok (exports, bytes)
  unfolding exports_of_items
  exporting_full now full =
      let none : drop place items ≡ [] = drop_all place items full in
      let one : exports_of_items config types spaces imports (drop place items) exports bytes ≡ Ok (exports, bytes) = rw none refl in
      sym now.so_far ∙ one

  pub exported_all : AreExporting config types spaces imports items place exports size names start bytes → length items ≤ place
      → map item_of exports ≡ items
  exported_all now full =
      let none : drop place items ≡ [] = drop_all place items full in
      sym (append-nil (map item_of exports)) ∙ (ap (λ (l : List Item). map item_of exports ++ l) (sym none) ∙ now.items_are)

  -- one more is drawn, or is too large
  module _ {name : List ℕ} {item : Item} {after : List ℕ} (now : AreExporting config types spaces imports items place exports size names
      start bytes) (at : slice_get items place ≡ Some item) (drawn : export_name_at exports bytes ≡ (name, after)) where
    rest : drop place items ≡ item ∷ drop (place + 1) items
    rest = drop_more items place item (slice_get_within items place item at) ∙ ap (λ (one : Item). one ∷ drop (place + 1) items)
        (get_or_from_slice_get items place item item at)

    larger : imports + exported_size types spaces (exports ++ (name, item.0, item.1) ∷ [])
        ≡ size + (item_size types spaces item.0 item.1 + 1)
    larger =
        let more = sum_by-append (λ (each : Export). item_size types spaces each.1 each.2 + 1) exports ((name, item.0, item.1) ∷ []) in
        omega (arith, more, now.fit.type_size)

    pub exporting_refused : config.max_type_size - size < item_size types spaces item.0 item.1 + 1
        → exports_of_items config types spaces imports items [] start ≡ Err TypeSize
    unfolding exports_of_items
    exporting_refused large =
        let over : nat_lt config.max_type_size (imports + exported_size types spaces (exports ++ (name, item.0, item.1) ∷ [])) ≡ true =
        lt-ltb _ _ (omega (arith, larger, now.fit.within, large)) in
        let turn : exports_of_items config types spaces imports (drop place items) exports bytes ≡ Err TypeSize =
        rw (rest, drawn, over) refl in
        sym now.so_far ∙ turn

    pub exporting_more : {more : List Export} {more_size : ℕ} {more_names : HashSet (String Global) S}
        → item_size types spaces item.0 item.1 + 1 ≤ config.max_type_size - size → is_exported exports name ≡ false
        → HasNames more_names (exports ++ (name, item.0, item.1) ∷ [])
        → All (λ (each : Item). IsStanding spaces each.0 each.1) items → more ≡ exports ++ (name, item.0, item.1) ∷ []
        → more_size ≡ size + (item_size types spaces item.0 item.1 + 1) → KeepsPieces bytes after
        → AreExporting config types spaces imports items (place + 1) more more_size more_names start after
    unfolding exports_of_items
    exporting_more room fresh known stand longer grown p =
        let one : Export = (name, item.0, item.1) in
        let stands : IsStanding spaces item.0 item.1 = subst (λ (each : Item). IsStanding spaces each.0 each.1)
        (get_or_from_slice_get items place item item at) (stand place item (slice_get_within items place item at)) in
        let fits : nat_lt config.max_type_size (imports + exported_size types spaces (exports ++ (name, item.0, item.1) ∷ [])) ≡ false =
        le-ltb _ _ (omega (arith, larger, now.fit.within, room)) in
        let turn : exports_of_items config types spaces imports (drop place items) exports bytes ≡ exports_of_items config types spaces
        imports (drop (place + 1) items) (exports ++ (name, item.0, item.1) ∷ []) after = rw (rest, drawn, fits) refl in
        rw (longer, grown) (record {
          fit = fit_push one now.fit fresh stands (omega (arith, now.fit.within, room));
          items_are = rw map-append (append_assoc (map item_of exports) (item ∷ []) (drop (place + 1) items)
              ∙ (ap (λ (l : List Item). map item_of exports ++ l) (sym rest) ∙ now.items_are));
          count_is = simp length-append (omega (arith, now.count_is));
          names_are = known;
          so_far = sym turn ∙ now.so_far;
          left = λ whole h. p whole (now.left whole h);
        })
