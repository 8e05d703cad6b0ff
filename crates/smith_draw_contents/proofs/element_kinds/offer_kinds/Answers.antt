use Rattle.smith_draw_contents.proofs.Common.{All, drawn_is, false, length, List, ◌≡◌}
use Rattle.smith_draw_contents.specs.DrawnElements.{IsKindOffered}
use Rattle.smith_draw_contents.specs.ElementSegments.{KindChoice}
use Rattle.smith_draw_contents.proofs.ElementKindLemmas.{kinds_offered, no_kind}
use Rattle.smith_draw_contents.proofs.element_kinds.offer_kinds.Goals as goal

pub returns : goal.returns
returns c =
    let config = c.args.config.now in
    let types = c.args.spaces.now.types.now.types in
    let tables = c.args.spaces.now.entities.tables.now in
    let exact = rw (← c.new.ensures) at (c.in_ok-offered.ensures.kinds config) in
    record {
      draws = record { exact = exact; memory = tt; left = c.in_ok-offered.ensures.left };
      offered = drawn_is (All (IsKindOffered config types tables)) _ (kinds_offered config types tables c.args.u.now c.requires.tables)
          exact;
      bulk = drawn_is (λ (kinds : List KindChoice). length kinds ≡ 0 → config.bulk_memory_enabled ≡ false) _
          (no_kind config tables c.args.u.now) exact;
    }
