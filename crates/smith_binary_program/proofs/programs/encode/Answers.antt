use Rattle.std.proofs.lemmas.Result.{IfOk-weaker}
use Rattle.wasm_smith.specs.Bodies.{HasBodies}
use Rattle.smith_binary_program.proofs.Common.{contents_of, is_filled, IsModuleAround, IsSectionIf}
use Rattle.smith_binary_program.specs.Bodies.{AreBodiesOf}
use Rattle.smith_binary_program.specs.Programs.{IsProgramBinary}
use Rattle.smith_binary_program.proofs.ProgramLemmas.{program_is}
use Rattle.smith_binary_program.proofs.programs.encode.Goals as goal

pub returns-clause-spelled : goal.returns-clause-spelled
returns-clause-spelled c =
    let m = c.args.program.now.«module» in
    let bodies = c.args.program.now.bodies in
    let each : HasBodies m.num_defined_funcs m.funcs m.code = rw c.module-module.ensures at c.code.ensures.each in
    IfOk-weaker c.encode_with_bodies.result
    (λ bytes. IsModuleAround (contents_of m) (IsSectionIf (is_filled m.code) 10 (AreBodiesOf m.fuel_globals m.code bodies)) bytes.items)
    (λ bytes. IsProgramBinary m bodies bytes.items)
    (λ bytes. program_is m bodies each c.bodies.ensures.each bytes.items)
    (rw (c.fuel_globals.ensures, c.code.ensures.items, c.bodies.ensures.items, c.module-module.ensures)
    at c.encode_with_bodies.ensures.spelled)

pub returns-clause-fault : goal.returns-clause-fault
returns-clause-fault c =
    rw (c.fuel_globals.ensures, c.code.ensures.items, c.bodies.ensures.items, c.module-module.ensures)
    at c.encode_with_bodies.ensures.fault

pub returns-clause-spelling : goal.returns-clause-spelling
returns-clause-spelling c =
    rw (c.fuel_globals.ensures, c.code.ensures.items, c.bodies.ensures.items, c.module-module.ensures)
    at c.encode_with_bodies.ensures.spelling

pub returns-clause-written : goal.returns-clause-written
returns-clause-written c =
    rw (c.fuel_globals.ensures, c.code.ensures.items, c.bodies.ensures.items, c.module-module.ensures)
    at c.encode_with_bodies.ensures.written
