use Rattle.smith_draw_contents.proofs.Common.{drawn_is, features_of, IfOk-weaker, length, List, seen_by, true, ◌≤◌}
use Rattle.smith_types.specs.Syntax.segments.DataSegment.{DataSegment}
use Rattle.smith_draw_contents.proofs.DataSegmentLemmas.{segments_most, segments_least, target_pages}
use Rattle.smith_draw_contents.proofs.data.draw_data.Goals as goal

pub draw_segments-requires-clause-pages : goal.draw_segments-requires-clause-pages
draw_segments-requires-clause-pages c =
    target_pages (features_of c.args.config.now) c.args.spaces.now.entities.memories.now _ c.requires.memories
    c.new-targets.ensures.targets.stand

pub returns-clause-fit : goal.returns-clause-fit
returns-clause-fit c =
    let context = seen_by c.args.config.now c.args.spaces.now true in
    c.draw_segments.ensures.fit context c.args.spaces.now.entities.memories.now c.new-targets.ensures.targets

pub returns-clause-most : goal.returns-clause-most
returns-clause-most c =
    IfOk-weaker c.draw_segments.result _ _
    (λ made drawn. drawn_is (λ (segments : List DataSegment). length segments ≤ c.args.config.now.max_data_segments) _
    (segments_most c.args.config.now _ _) drawn) c.draw_segments.ensures.draws.exact

pub returns-clause-least : goal.returns-clause-least
returns-clause-least c = λ ordered.
    IfOk-weaker c.draw_segments.result _ _
    (λ made drawn. drawn_is (λ (segments : List DataSegment). c.args.config.now.min_data_segments ≤ length segments) _
    (segments_least c.args.config.now _ _ ordered) drawn) c.draw_segments.ensures.draws.exact
