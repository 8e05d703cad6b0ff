-- The depth of a type is unique.
use Rattle.std.proofs.Common.{◌≡◌, ℕ, suc, ◌<◌, List, length, refl, ap, sym, ◌∙◌, subst}
use Rattle.std.proofs.lemmas.Option.{same_Some, slice_get_within}
use Rattle.smith_types.specs.Syntax.composite_type.SubType.{SubType}
use Rattle.smith_types.specs.GroupedTypes.{HasDepth, root, deeper}

pub depth_stands : (types : List SubType) {index depth : ℕ} → HasDepth types index depth → index < length types
depth_stands types (root {i = i} {t = t} at none) = slice_get_within types i t at
depth_stands types (deeper {i = i} {t = t} at up above) = slice_get_within types i t at

pub depth_alone : (types : List SubType) {i d e : ℕ} → HasDepth types i d → HasDepth types i e → d ≡ e
depth_alone types (root {i = i} {t = t} at none) (root {t = u} at' none') = refl
depth_alone types (root {i = i} {t = t} at none) (deeper {s = s} {t = u} at' up above) =
    let same : t ≡ u = same_Some t u (sym at ∙ at') in cc
depth_alone types (deeper {i = i} {s = s} {t = t} at up above) (root {t = u} at' none) =
    let same : t ≡ u = same_Some t u (sym at ∙ at') in cc
depth_alone types (deeper {i = i} {s = s} {t = t} at up above) (deeper {s = r} {d = e} {t = u} at' up' above') =
    let same : t ≡ u = same_Some t u (sym at ∙ at') in
    let one : s ≡ r = same_Some s r (sym up ∙ ap (λ (t : SubType). t.supertype) same ∙ up') in
    ap suc (depth_alone types above (subst (λ (n : ℕ). HasDepth types n e) (sym one) above'))
