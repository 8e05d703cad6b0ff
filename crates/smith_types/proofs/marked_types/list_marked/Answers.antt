use Rattle.smith_types.proofs.Common.{[], ap, arith, false, get_or, if◌then◌else◌, length, List, refl, slice_get, slice_get-get_or, sym, ℕ}
use Rattle.smith_types.proofs.Common.{◌++◌, ◌<◌, ◌∙◌, ◌∷◌, ◌≡◌}
use Rattle.std.specs.Prelude.{Some}
use Rattle.smith_types.specs.declared.ground.Ground.{Ground}
use Rattle.smith_types.specs.Grounds.{is_marked}
use Rattle.smith_types.proofs.MarkedLemmas.{one_with, marked_read}
use Rattle.smith_types.proofs.marked_types.list_marked.Goals as goal

pub loop-index-preserved : goal.loop-index-preserved
loop-index-preserved c =
    let types = c.args.types.now in
    let grounds = c.args.grounds.now in
    let index = c.loop-index.index in
    let inside : index < length types = omega (arith, c.loop-index-test.true) in
    let at : slice_get types index ≡ Some c.index-types-index.result = slice_get-get_or types index _ inside
    ∙ ap Some (sym c.index-types-index.is) in
    let d : Ground = record { own = false; below = false } in
    let wanted = marked_read types grounds c.args.shared index _ (get_or grounds index d) d _ at (omega (arith, inside, c.requires.long))
    refl c.is_marked_as-wanted.ensures in
    record {
      listed = c.push_if.ensures.items ∙ ap (λ (l : List ℕ). l ++ (if c.is_marked_as-wanted.result then index ∷ [] else []))
          c.loop-index.invariant.listed ∙ sym (one_with (is_marked types grounds c.args.shared) index c.is_marked_as-wanted.result wanted);
      few = omega (arith, c.push_if.ensures.len, c.loop-index.invariant.few);
      capacity = c.push_if.ensures.capacity ∙ c.loop-index.invariant.capacity;
    }
