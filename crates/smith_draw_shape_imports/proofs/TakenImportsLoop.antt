-- The iterations of the loop that takes available imports.
use Rattle.smith_draw_shape_imports.proofs.Common.{[], ap, Bool, Config, drop, false, Import, is_fitting, length, List, refl, sym, true, ℕ}
use Rattle.smith_draw_shape_imports.proofs.Common.{◌++◌, ◌+◌, ◌<◌, ◌∙◌, ◌∷◌, ◌≡◌}
use Rattle.std.proofs.Common.{get_or}
use Rattle.std.specs.Prelude.{if◌then◌else◌}
use Rattle.std.proofs.lemmas.List.{drop_more}
use Rattle.smith_bytes.specs.Draws.{bool_at}
use Rattle.smith_types.specs.Syntax.composite_type.SubType.{SubType}
use Rattle.smith_draw_shape_imports.specs.AvailableImports.{picked_at}

-- taking imports from here on completes the whole
pub record IsPicking (config : Config) (types : List SubType) (taken more : List Import) (bytes : List ℕ)
    (total : List Import × List ℕ) : Type 0 where
  pub so_far : picked_at config types taken more bytes ≡ total

-- the next of the offered imports
pub offered_next : (offered : List Import) (i : ℕ) (one d : Import) → i < length offered → one ≡ get_or offered i d
    → drop i offered ≡ one ∷ drop (i + 1) offered
offered_next offered i one d inside read = drop_more offered i d inside ∙ ap (λ (x : Import). x ∷ drop (i + 1) offered) (sym read)

module _ {config : Config} {types : List SubType} {taken more : List Import} {bytes : List ℕ} {total : List Import × List ℕ} where
  pub picked_none : IsPicking config types taken more bytes total → more ≡ [] → total ≡ (taken, bytes)
  unfolding picked_at
  picked_none now none =
      let one : picked_at config types taken more bytes ≡ (taken, bytes) = rw none refl in
      sym now.so_far ∙ one

  pub picked_not : {mid : List ℕ} {b : Bool} (one : Import) (rest : List Import) → IsPicking config types taken more bytes total
      → more ≡ one ∷ rest → bool_at bytes ≡ (b, mid) → b ≡ false → IsPicking config types taken rest mid total
  unfolding picked_at
  picked_not {mid = mid} one rest now next drawn off =
      let turn : picked_at config types taken more bytes ≡ picked_at config types taken rest mid = rw (next, drawn, off) refl in
      record { so_far = sym turn ∙ now.so_far }

  pub picked_one : {mid : List ℕ} {b : Bool} (one : Import) (rest new : List Import) → IsPicking config types taken more bytes total
      → more ≡ one ∷ rest → bool_at bytes ≡ (b, mid) → b ≡ true
      → new ≡ (if is_fitting config types taken one then taken ++ one ∷ [] else taken) → IsPicking config types new rest mid total
  unfolding picked_at
  picked_one {mid = mid} one rest new now next drawn on is =
      let turn : picked_at config types taken more bytes ≡ picked_at config types new rest mid = rw (next, drawn, on, is) refl in
      record { so_far = sym turn ∙ now.so_far }
