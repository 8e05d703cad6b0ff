-- Valid types are written in forms that are enabled.
use Rattle.smith_binary_program.proofs.Common.{[], All, All-from_recursion, ap, arith, Bool, drop, false, Features, get_or, group_at}
use Rattle.smith_binary_program.proofs.Common.{IsTrue, IsValid, length, length-drop, List, module_features, ModuleParts, None, Option}
use Rattle.smith_binary_program.proofs.Common.{Range, refl, slice_get, slice_get-get_or, Some, subst, SubType, sym, true, ℕ, ◌+◌, ◌<◌, ◌∙◌}
use Rattle.smith_binary_program.proofs.Common.{◌∷◌, ◌≡◌, ◌≤◌}
use Rattle.std.proofs.Common.{take}
use Rattle.std.specs.Prelude.{IsSome}
use Rattle.std.specs.List.{AllByRecursion}
use Rattle.std.proofs.lemmas.List.{drop-take, drop_more}
use Rattle.std.proofs.lemmas.List.Elements.{recursion_from_All}
use Rattle.smith_types.specs.Flags.{IsSubTypeEnabled}
use Rattle.smith_types.specs.Types.{end_from}
use Rattle.smith_types.specs.ValidTypes.{IsGroupValid}
use Rattle.smith_types.proofs.ValidityLemmas.{ends_within}
use Rattle.smith_binary_sections.specs.Types.{is_alone}
use Rattle.smith_binary_program.specs.Forms.{IsGroupFormEnabled}

-- a type that isn't written alone is not final, or has a supertype
type_by : (features : Features) (supertype : Option ℕ) (is_final : Bool) → (is_final ≡ false → IsTrue features.gc)
    → (IsSome supertype → IsTrue features.gc)
    → is_alone supertype is_final ≡ false → IsTrue features.gc
type_by features None is_final not_final has other = not_final other
type_by features (Some index) is_final not_final has other = has refl

with_gc : (features : Features) (group : List SubType) → IsTrue features.gc → IsGroupFormEnabled features group
with_gc features [] is = is
with_gc features (t ∷ []) is = λ other. is
with_gc features (t ∷ u ∷ group) is = is

-- a group of one type, where the types after its start are these
alone : (features : Features) (types : List SubType) (range : Range ℕ) (rest : List SubType) → drop range.start types ≡ rest
    → range.end ≡ range.start + 1 → range.start < length types → IsGroupValid features types range
    → IsGroupFormEnabled features (group_at types range)
alone features types range [] is one inside valid =
    absurd (omega (arith, length-drop range.start types, ap (λ (xs : List SubType). length xs) is, inside))
alone features types range (t ∷ more) is one inside valid =
    let same : group_at types range ≡ t ∷ [] =
    ap (λ (end : ℕ). drop range.start (take end types)) one ∙ (drop-take range.start 1 types ∙ ap (λ (xs : List SubType). take 1 xs) is) in
    let first : t ≡ get_or types range.start t =
    ap (λ (xs : List SubType). get_or xs 0 t) (sym is ∙ drop_more types range.start t inside) in
    let at : slice_get types range.start ≡ Some t =
    slice_get-get_or types range.start t inside ∙ ap (λ (u : SubType). Some u) (sym first) in
    let enabled : IsSubTypeEnabled features t = (valid.members range.start t (omega arith) (omega (arith, one)) at).enabled in
    subst (IsGroupFormEnabled features) (sym same) (type_by features t.supertype t.is_final enabled.not_final enabled.supertype)

group_by : (features : Features) (types : List SubType) (range : Range ℕ) (gc : Bool) → features.gc ≡ gc → range.end ≤ length types
    → IsGroupValid features types range → IsGroupFormEnabled features (group_at types range)
group_by features types range true is end valid = with_gc features (group_at types range) is
group_by features types range false is end valid =
    let one : range.end ≡ range.start + 1 = valid.single is in
    alone features types range (drop range.start types) refl one (omega (arith, one, end)) valid

each_enabled : (features : Features) (types : List SubType) (end : ℕ) → end ≡ length types → (groups : List (Range ℕ))
    → AllByRecursion (λ (g : Range ℕ). g.end ≤ end) groups → AllByRecursion (IsGroupValid features types) groups
    → AllByRecursion (λ (g : Range ℕ). IsGroupFormEnabled features (group_at types g)) groups
each_enabled features types end same [] inside valid = tt
each_enabled features types end same (g ∷ groups) inside valid = (
  group_by features types g features.gc refl (omega (arith, inside.0, same)) valid.0,
  each_enabled features types end same groups inside.1 valid.1,
)

pub groups_enabled : (m : ModuleParts) → IsValid m
    → All (λ (group : Range ℕ). IsGroupFormEnabled (module_features m) (group_at m.types group)) m.groups
groups_enabled m valid =
    let covered = valid.types.covered in
    All-from_recursion (λ (group : Range ℕ). IsGroupFormEnabled (module_features m) (group_at m.types group)) m.groups
    (each_enabled (module_features m) m.types (end_from 0 m.groups) covered.whole m.groups (ends_within 0 m.groups covered.consecutive).1
    (recursion_from_All (IsGroupValid (module_features m) m.types) m.groups valid.types.groups))
