use Rattle.smith_draw_definitions.proofs.Common.{passed_on, refl, spaces_in, true}
use Rattle.smith_draw_definitions.proofs.KeptOfferLemmas.{kept_over}
use Rattle.smith_draw_definitions.proofs.StandsAfterLemmas.{entities_longer}
use Rattle.smith_draw_definitions.proofs.RequiredExportLemmas.{is_over, required_more, export_refused}
use Rattle.smith_draw_definitions.proofs.shape_exports.make_export.Goals as goal

pub define_entity-requires-clause-may : goal.define_entity-requires-clause-may
define_entity-requires-clause-may c =
    let over =
    is_over c.args.own_types c.args.config.now c.args.shape.now c.args.types.now c.entity_over.new.types c.args.one.now.1 c.args.one.now.2
    c.entity_of_shape-theirs.result c.in_ok-added.added c.requires.shape c.requires.may.valid
    c.entity_of_shape-theirs.ensures c.in_ok-added.ensures.types c.in_ok-added.ensures.entity in
    record {
      sanitized = c.requires.may.sanitized;
      valid = over.valid;
      entities = entities_longer c.args.types.now.types c.entity_over.new.types.types (spaces_in c.args.spaces.now) over.grown
          c.requires.may.entities;
      within = c.requires.may.within;
      room = c.requires.may.room;
    }

pub define_entity-requires-clause-valid : goal.define_entity-requires-clause-valid
define_entity-requires-clause-valid c =
    (is_over c.args.own_types c.args.config.now c.args.shape.now c.args.types.now c.entity_over.new.types c.args.one.now.1 c.args.one.now.2
    c.entity_of_shape-theirs.result c.in_ok-added.added c.requires.shape c.requires.may.valid
    c.entity_of_shape-theirs.ensures c.in_ok-added.ensures.types c.in_ok-added.ensures.entity).entity

pub define_entity-requires-clause-kept : goal.define_entity-requires-clause-kept
define_entity-requires-clause-kept c =
    let over =
    is_over c.args.own_types c.args.config.now c.args.shape.now c.args.types.now c.entity_over.new.types c.args.one.now.1 c.args.one.now.2
    c.entity_of_shape-theirs.result c.in_ok-added.added c.requires.shape c.requires.may.valid
    c.entity_of_shape-theirs.ensures c.in_ok-added.ensures.types c.in_ok-added.ensures.entity in
    kept_over c.args.config.now c.args.types.now (spaces_in c.args.spaces.now) c.args.definitions.now true c.requires.may
    c.entity_over.new.types.types _ over.grown c.requires.kept

pub returns-in_err-define_entity-clause-refusal : goal.returns-in_err-define_entity-clause-refusal
returns-in_err-define_entity-clause-refusal c =
    let over =
    is_over c.args.own_types c.args.config.now c.args.shape.now c.args.types.now c.entity_over.new.types c.args.one.now.1 c.args.one.now.2
    c.entity_of_shape-theirs.result c.in_ok-added.added c.requires.shape c.requires.may.valid
    c.entity_of_shape-theirs.ensures c.in_ok-added.ensures.types c.in_ok-added.ensures.entity in
    passed_on _ c.from_residual-in_err-define_entity.result c.in_err-define_entity.field-0.0 c.from_residual-in_err-define_entity.ensures.1
    (export_refused c.args.own_types c.args.config.now c.args.shape.now c.args.types.now c.entity_over.new.types
    (spaces_in c.args.spaces.now) c.args.definitions.now c.args.one.now c.entity_of_shape-theirs.result c.in_ok-added.added
    c.entity_of_shape-theirs.ensures c.in_ok-added.ensures.entity over
    c.in_err-define_entity.field-0.0 c.in_err-define_entity.ensures.refusal)

pub returns-clause-required : goal.returns-clause-required
returns-clause-required c =
    required_more c.args.one.now _ c.entity_of_shape-theirs.ensures
    (is_over c.args.own_types c.args.config.now c.args.shape.now c.args.types.now c.entity_over.new.types c.args.one.now.1 c.args.one.now.2
    c.entity_of_shape-theirs.result c.in_ok-added.added c.requires.shape c.requires.may.valid
    c.entity_of_shape-theirs.ensures c.in_ok-added.ensures.types c.in_ok-added.ensures.entity)
    c.in_ok-define_entity.ensures.defined c.in_ok-name.ensures.ok refl c.next_index-index.ensures
