use Rattle.smith_binary_read.proofs.IntegerLemmas.{unsigned_decodes, signed_decodes, little_endian_decodes, vector_decodes, lane_decodes}
use Rattle.smith_binary_read.proofs.laws.numbers_are_read.Goals as goal

pub returns-clause-unsigned : goal.returns-clause-unsigned
returns-clause-unsigned c = unsigned_decodes

pub returns-clause-signed : goal.returns-clause-signed
returns-clause-signed c = signed_decodes

pub returns-clause-floats : goal.returns-clause-floats
returns-clause-floats c = little_endian_decodes

pub returns-clause-vectors : goal.returns-clause-vectors
returns-clause-vectors c = vector_decodes

pub returns-clause-lanes : goal.returns-clause-lanes
returns-clause-lanes c = lane_decodes
