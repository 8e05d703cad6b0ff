use Rattle.wasm_smith.proofs.Common.{ConstInstr, I32Const, pos, ValType}
use Rattle.smith_types.specs.Syntax.value_type.ValType.TheVariants.{I32}
use Rattle.wasm_smith.proofs.PushedGlobalLemmas.{types_pushed, definitions_pushed, room_left}
use Rattle.wasm_smith.proofs.added_global.push_globals.Goals as goal

pub push_global-requires : goal.push_global-requires
push_global-requires c = record {
  room = room_left c.args.globals.now c.loop-val_type.globals c.args.added.now c.loop-val_type.val_type-index _ c.loop-val_type-test.true
      c.requires.room c.loop-val_type.invariant.globals;
}

pub loop-val_type-preserved : goal.loop-val_type-preserved
loop-val_type-preserved c =
    let loop = c.loop-val_type in
    let default : ValType × ConstInstr = (I32, I32Const (pos 0)) in
    record {
      globals = types_pushed c.args.globals.now loop.globals _ c.args.added.now loop.val_type-index default c.loop-val_type-test.true
          loop.invariant.globals c.in_default.ensures.globals;
      definitions = definitions_pushed c.args.globals.now loop.globals c.args.definitions.now loop.definitions _ c.args.added.now
          loop.val_type-index default c.loop-val_type-test.true loop.invariant.globals loop.invariant.definitions
          c.in_default.ensures.definitions;
    }
