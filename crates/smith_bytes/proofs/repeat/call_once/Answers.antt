use Rattle.std.proofs.Common.{rules}
use Rattle.smith_bytes.proofs.repeat.call_once.Goals as goal

pub returns-clause-left : goal.returns-clause-left
returns-clause-left g c = λ keeps. keeps c.args.f.now c.args.u.now c.f.result c.f.new.self c.f.new.arg2 (search rules)
