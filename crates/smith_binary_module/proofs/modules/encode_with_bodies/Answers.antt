use Rattle.std.proofs.Common.{inl}
use Rattle.smith_binary.proofs.WrittenLemmas.{content_whole, joined_written}
use Rattle.smith_binary_module.proofs.LayoutLemmas.{module_around, sections_are}
use Rattle.smith_binary_module.proofs.MappedLemmas.{handed_on}
use Rattle.smith_binary_module.proofs.modules.encode_with_bodies.Goals as goal

pub returns-clause-spelled : goal.returns-clause-spelled
returns-clause-spelled g c =
    rw c.into_vec.ensures
    (module_around c.args.module.now _ _ (content_whole c.args.module.now.config.min_uleb_size c.empty_sink-sink.ensures
    (joined_written c.in_ok-write_preamble.ensures.writes (joined_written c.in_ok-write_front.ensures.writes
    (joined_written c.in_ok-write_middle.ensures.writes c.in_ok-write_back.ensures.writes)))).0)

pub returns-clause-sections : goal.returns-clause-sections
returns-clause-sections g c =
    rw c.into_vec.ensures
    (sections_are c.args.module.now _ _ (content_whole c.args.module.now.config.min_uleb_size c.empty_sink-sink.ensures
    (joined_written c.in_ok-write_preamble.ensures.writes (joined_written c.in_ok-write_front.ensures.writes
    (joined_written c.in_ok-write_middle.ensures.writes c.in_ok-write_back.ensures.writes)))).0)

pub returns-clause-written : goal.returns-clause-written
returns-clause-written g c = rw c.into_vec.ensures (content_whole c.args.module.now.config.min_uleb_size c.empty_sink-sink.ensures
    (joined_written c.in_ok-write_preamble.ensures.writes (joined_written c.in_ok-write_front.ensures.writes
    (joined_written c.in_ok-write_middle.ensures.writes c.in_ok-write_back.ensures.writes)))).0

pub returns-in_err-write_front-clause-fault : goal.returns-in_err-write_front-clause-fault
returns-in_err-write_front-clause-fault g c = handed_on c.from_residual-in_err-write_front.result c.in_err-write_front.field-0.0
    c.from_residual-in_err-write_front.ensures.1 inl c.in_err-write_front.ensures.fault

pub returns-in_err-write_middle-clause-fault : goal.returns-in_err-write_middle-clause-fault
returns-in_err-write_middle-clause-fault g c = handed_on c.from_residual-in_err-write_middle.result c.in_err-write_middle.field-0.0
    c.from_residual-in_err-write_middle.ensures.1 inl c.in_err-write_middle.ensures.fault

pub returns-clause-spelling : goal.returns-clause-spelling
returns-clause-spelling g c =
    rw c.into_vec.ensures (content_whole c.args.module.now.config.min_uleb_size c.empty_sink-sink.ensures
    (joined_written c.in_ok-write_preamble.ensures.writes (joined_written c.in_ok-write_front.ensures.writes
    (joined_written c.in_ok-write_middle.ensures.writes c.in_ok-write_back.ensures.writes)))).1
