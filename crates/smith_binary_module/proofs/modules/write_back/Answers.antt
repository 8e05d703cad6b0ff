use Rattle.std.proofs.Common.{inl}
use Rattle.std.proofs.lemmas.Result.{on_ok_weaker}
use Rattle.smith_binary.proofs.WrittenLemmas.{joined_written}
use Rattle.smith_binary_sections.proofs.FaultLemmas.{fault_weaker}
use Rattle.smith_binary_module.proofs.MappedLemmas.{handed_on}
use Rattle.smith_binary_module.proofs.modules.write_back.Goals as goal

pub returns-clause-writes : goal.returns-clause-writes
returns-clause-writes g c = on_ok_weaker c.write_datas.result (λ last. joined_written c.in_ok-write_start.ensures.writes
    (joined_written c.in_ok-write_elems.ensures.writes (joined_written c.in_ok-write_data_count.ensures.writes
    (joined_written c.in_ok-write_bodies.ensures.writes last)))) c.write_datas.ensures.writes

pub returns-in_err-write_start-clause-fault : goal.returns-in_err-write_start-clause-fault
returns-in_err-write_start-clause-fault g c = handed_on c.from_residual.result c.in_err-write_start.field-0.0 c.from_residual.ensures.1 inl
    c.in_err-write_start.ensures.fault

pub returns-in_err-write_elems-clause-fault : goal.returns-in_err-write_elems-clause-fault
returns-in_err-write_elems-clause-fault g c = handed_on c.from_residual-in_err-write_elems.result c.in_err-write_elems.field-0.0
    c.from_residual-in_err-write_elems.ensures.1 inl c.in_err-write_elems.ensures.fault

pub returns-in_err-write_data_count-clause-fault : goal.returns-in_err-write_data_count-clause-fault
returns-in_err-write_data_count-clause-fault g c = handed_on c.from_residual-in_err-write_data_count.result
    c.in_err-write_data_count.field-0.0 c.from_residual-in_err-write_data_count.ensures.1 inl c.in_err-write_data_count.ensures.fault

pub returns-clause-fault : goal.returns-clause-fault
returns-clause-fault g c = fault_weaker c.write_datas.result inl c.write_datas.ensures.fault
