use Rattle.smith_draw_definitions.proofs.Common.{IfErr-weaker, IfOk-weaker, spaces_in}
use Rattle.smith_draw_definitions.specs.Defined.{drawn_beside}
use Rattle.smith_draw_definitions.proofs.RequiredExportsLoop.{valid_so, only_memory}
use Rattle.smith_draw_definitions.proofs.shape_exports.make_required_exports.Goals as goal

pub push_exports-made-requires-clause-shape : goal.push_exports-made-requires-clause-shape
push_exports-made-requires-clause-shape c = record { valid = c.requires.valid; present = λ off. absurd cc }

pub push_exports-made-requires-clause-kept : goal.push_exports-made-requires-clause-kept
push_exports-made-requires-clause-kept c = c.new-kept.ensures _

pub returns-clause-kept : goal.returns-clause-kept
returns-clause-kept c = IfOk-weaker c.push_exports-made.result _ _ (λ exports made. made.same) c.push_exports-made.ensures.required

pub returns-clause-valid : goal.returns-clause-valid
returns-clause-valid c = IfOk-weaker c.push_exports-made.result _ _
    (λ exports made. valid_so _ _ _ exports _ made.same c.requires.valid.consistent.exports) c.push_exports-made.ensures.required

pub returns-clause-stands : goal.returns-clause-stands
returns-clause-stands c = λ imported now. IfOk-weaker c.push_exports-made.result _ _ (λ exports made. made.stands imported now)
    c.push_exports-made.ensures.required

pub returns-clause-types : goal.returns-clause-types
returns-clause-types c = IfOk-weaker c.push_exports-made.result _ _ (λ exports made. made.types_grown) c.push_exports-made.ensures.required

pub returns-clause-spaces : goal.returns-clause-spaces
returns-clause-spaces c = IfOk-weaker c.push_exports-made.result _ _ (λ exports made. made.spaces_grown)
    c.push_exports-made.ensures.required

pub returns-clause-memory : goal.returns-clause-memory
returns-clause-memory c = λ none on several.
    IfErr-weaker c.push_exports-made.result _ _
    (λ e. only_memory c.args.config.now (drawn_beside c.args.config.now c.args.types.now.types (spaces_in c.args.spaces.now)
    c.args.definitions.now) c.args.shape.now e none on several) c.push_exports-made.ensures.refusal

pub returns-clause-counted : goal.returns-clause-counted
returns-clause-counted c = λ count other. IfOk-weaker c.push_exports-made.result _ _ (λ exports made. made.counted count other)
    c.push_exports-made.ensures.required

pub returns-clause-types_most : goal.returns-clause-types_most
returns-clause-types_most c = IfOk-weaker c.push_exports-made.result _ _ (λ exports made. made.types_counted)
    c.push_exports-made.ensures.required

pub returns-clause-limits : goal.returns-clause-limits
returns-clause-limits c = IfOk-weaker c.push_exports-made.result _ _ (λ exports made. made.limits) c.push_exports-made.ensures.required

pub returns-clause-lacking : goal.returns-clause-lacking
returns-clause-lacking c = IfOk-weaker c.push_exports-made.result _ _ (λ exports made. made.lacking) c.push_exports-made.ensures.required

pub returns-clause-types_of : goal.returns-clause-types_of
returns-clause-types_of c = IfOk-weaker c.push_exports-made.result _ _ (λ exports made. made.types_of) c.push_exports-made.ensures.required

pub returns-clause-few_values : goal.returns-clause-few_values
returns-clause-few_values c = λ few. IfOk-weaker c.push_exports-made.result _ _ (λ exports made. made.few_values few)
    c.push_exports-made.ensures.required

pub returns-clause-groups : goal.returns-clause-groups
returns-clause-groups c = IfOk-weaker c.push_exports-made.result _ _ (λ exports made. made.groups_grown)
    c.push_exports-made.ensures.required
