-- One iteration of the loop that draws exports.
use Rattle.smith_draw_contents.proofs.Common.{[], ap, arith, Bool, Config, EntitySpaces, Export, exported_size, false, Global, goes_at}
use Rattle.smith_draw_contents.proofs.Common.{HashSet, item_size, KeepsPieces, length, length-append, List, nat_lt, refl, String, SubType}
use Rattle.smith_draw_contents.proofs.Common.{suc, sym, true, ℕ, ◌++◌, ◌+◌, ◌-◌, ◌<◌, ◌∙◌, ◌∷◌, ◌≡◌, ◌≤◌}
use Rattle.std.specs.HashSet.{IsEmpty}
use Rattle.smith_draw_contents.specs.Exporting.{is_exported, HasNames, offered_kinds, export_at, exports_from}
use Rattle.smith_draw_contents.specs.Exported.{IsCandidate, AreExported}
use Rattle.smith_draw_contents.proofs.ExportsFitLemmas.{none_fit, fit_push}

-- `count` exports are drawn, and the draws from here on complete the whole
pub record IsExporting {S : Type 0} (config : Config) (types : List SubType) (spaces : EntitySpaces) (imports count : ℕ)
    (exports : List Export) (size : ℕ) (names : HashSet (String Global) S) (start bytes : List ℕ) : Type 0 where
  pub count_is : length exports ≡ count
  pub kept : AreExported config types spaces imports exports size
  pub names_are : HasNames names exports
  pub so_far : exports_from config types spaces imports (config.max_exports - count) exports bytes ≡ exports_from config types spaces
      imports config.max_exports [] start
  pub left : KeepsPieces start bytes

-- no export yet
pub none_exported : {S : Type 0} {names : HashSet (String Global) S} (config : Config) (types : List SubType) (spaces : EntitySpaces)
    (imports : ℕ) (start : List ℕ) → imports ≤ config.max_type_size → IsEmpty names → IsExporting config types spaces imports 0 [] imports
    names start start
none_exported {names = names} config types spaces imports start within empty =
    let all : config.max_exports - 0 ≡ config.max_exports = omega arith in
    record {
      count_is = refl;
      kept = record { fit = none_fit config types spaces imports within; most = omega arith };
      names_are = record { has = λ name. rw empty refl; size = rw empty refl };
      so_far = rw all refl;
      left = λ whole h. h;
    }

-- exports with one more
kept_more : {config : Config} {types : List SubType} {spaces : EntitySpaces} {imports : ℕ} {exports : List Export} {size left : ℕ}
    (one : Export) → AreExported config types spaces imports exports size → length exports < config.max_exports
    → left ≡ config.max_type_size - size → is_exported exports one.0 ≡ false
    → IsCandidate types spaces left one.1 one.2 → AreExported config types spaces imports (exports ++ one ∷ [])
    (size + (item_size types spaces one.1 one.2 + 1))
kept_more {types = types} {spaces = spaces} {exports = exports} one kept room left_is fresh candidate =
    let longer = length-append exports (one ∷ []) in
    record {
      fit = fit_push one kept.fit fresh candidate.stands (omega (arith, kept.fit.within, candidate.fits));
      most = omega (arith, longer);
    }

module _ {S : Type 0} {config : Config} {types : List SubType} {spaces : EntitySpaces} {imports count : ℕ} {exports : List Export}
    {size : ℕ} {names : HashSet (String Global) S} {start bytes : List ℕ} where
  -- the drawn bool ends the exports
  pub export_stop : {b : Bool} {after : List ℕ} → IsExporting config types spaces imports count exports size names start bytes
      → count < config.max_exports → goes_at (nat_lt count config.min_exports) bytes ≡ (b, after) → b ≡ false
      → exports_from config types spaces imports config.max_exports [] start ≡ (exports, after)
  unfolding exports_from
  export_stop {after = after} now room go off =
      let k : config.max_exports - count ≡ suc (config.max_exports - (count + 1)) = omega arith in
      let len = now.count_is in
      let one : exports_from config types spaces imports (config.max_exports - count) exports bytes ≡ (exports, after) =
      rw (k, len, go, off) refl in
      sym now.so_far ∙ one

  -- there was no candidate
  pub export_end : {b offered : Bool} {left : ℕ} {after : List ℕ} → IsExporting config types spaces imports count exports size names start
      bytes → count < config.max_exports → goes_at (nat_lt count config.min_exports) bytes ≡ (b, after) → b ≡ true
      → left ≡ config.max_type_size - size → offered ≡ nat_lt 0 (length (offered_kinds types spaces left)) → offered ≡ false
      → exports_from config types spaces imports config.max_exports [] start ≡ (exports, after)
  unfolding exports_from
  export_end {left = left} {after = after} now room go on left_is offers none =
      let k : config.max_exports - count ≡ suc (config.max_exports - (count + 1)) = omega arith in
      let len = now.count_is in
      let same : config.max_type_size - (imports + exported_size types spaces exports) ≡ left =
      sym (left_is ∙ ap (λ s. config.max_type_size - s) now.kept.fit.type_size) in
      let no_more : nat_lt 0 (length (offered_kinds types spaces left)) ≡ false = sym offers ∙ none in
      let one : exports_from config types spaces imports (config.max_exports - count) exports bytes ≡ (exports, after) =
      rw (k, len, go, on, same, no_more) refl in
      sym now.so_far ∙ one

  -- no more may be drawn
  pub export_full : IsExporting config types spaces imports count exports size names start bytes → config.max_exports ≤ count
      → exports_from config types spaces imports config.max_exports [] start ≡ (exports, bytes)
  unfolding exports_from
  export_full now full =
      let k : config.max_exports - count ≡ 0 = omega arith in
      let one : exports_from config types spaces imports (config.max_exports - count) exports bytes ≡ (exports, bytes) = rw k refl in
      sym now.so_far ∙ one

  -- one more was drawn
  pub export_more : {b offered : Bool} {left more_size : ℕ} {mid after : List ℕ} {one : Export} {more : List Export}
      {more_names : HashSet (String Global) S} → IsExporting config types spaces imports count exports size names start bytes
      → count < config.max_exports → goes_at (nat_lt count config.min_exports) bytes ≡ (b, mid) → b ≡ true
      → left ≡ config.max_type_size - size → offered ≡ nat_lt 0 (length (offered_kinds types spaces left)) → offered ≡ true
      → export_at types spaces left exports mid ≡ (one, after) → is_exported exports one.0 ≡ false
      → HasNames more_names (exports ++ one ∷ []) → IsCandidate types spaces left one.1 one.2
      → more ≡ exports ++ one ∷ [] → more_size ≡ size + (item_size types spaces one.1 one.2 + 1) → KeepsPieces bytes mid
      → KeepsPieces mid after → IsExporting config types spaces imports (count + 1) more more_size more_names start after
  unfolding exports_from
  export_more {left = left} {after = after} {one = one} now room go on left_is offers some drawn fresh known fit longer larger p q =
      let k : config.max_exports - count ≡ suc (config.max_exports - (count + 1)) = omega arith in
      let len = now.count_is in
      let same : config.max_type_size - (imports + exported_size types spaces exports) ≡ left =
      sym (left_is ∙ ap (λ s. config.max_type_size - s) now.kept.fit.type_size) in
      let there : nat_lt 0 (length (offered_kinds types spaces left)) ≡ true = sym offers ∙ some in
      let turn : exports_from config types spaces imports (config.max_exports - count) exports bytes ≡ exports_from config types spaces
      imports (config.max_exports - (count + 1)) (exports ++ one ∷ []) after = rw (k, len, go, on, same, there, drawn) refl in
      rw (longer, larger) (record {
        count_is = simp length-append (omega arith);
        kept = kept_more one now.kept (omega arith) left_is fresh fit;
        names_are = known;
        so_far = sym turn ∙ now.so_far;
        left = λ whole h. q whole (p whole (now.left whole h));
      })
