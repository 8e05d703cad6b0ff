use Rattle.smith_custom_sections.proofs.FileLemmas.{file_written, plain_cut}
use Rattle.smith_custom_sections.proofs.insertion.insert_custom_sections.Goals as goal

pub split_at-requires : goal.split_at-requires
split_at-requires c = (plain_cut c.requires.plain.0 c.args.file.now c.requires.plain.1).long

pub returns-clause-added : goal.returns-clause-added
returns-clause-added c =
    file_written c.args.customs.now c.requires.plain.0 c.args.file.now _ _ _ c.args.least c.new-sink.ensures c.requires.plain.1
    c.split_at.ensures.front c.split_at.ensures.back c.in_ok-write_bytes.ensures.writes c.in_ok-write_woven.ensures.writes
    c.into_vec.ensures
