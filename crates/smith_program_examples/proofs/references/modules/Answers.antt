use Rattle.smith_program_examples.proofs.Common.{arith, Ref, refl, trapping}
use Rattle.std.proofs.Common.{None, true}
use Rattle.smith_types.specs.ExampleEntities.{constant_global, table}
use Rattle.smith_config.specs.ExampleMembers.{a_type, giving}
use Rattle.smith_instr.specs.declared.instr.Instr.TheVariants as instr
use Rattle.smith_program_examples.specs.ExamplePrograms.{block_of, indexed, indexed_elements, with_indexed_local}
use Rattle.smith_program_examples.proofs.ReferenceExamples as example
use Rattle.smith_program_examples.proofs.references.modules.Goals as goal

pub returns : goal.returns
returns c = record {
  without_references = example.empty_enabled;
  of_a_type = λ all.
      example.none_without_gc (all.types 0 (a_type (giving (Ref indexed)) true None) (omega arith) 0 (Ref indexed) (omega arith) refl);
  of_a_table = λ all. example.none_without_gc (all.tables 0 (table indexed 1 None) (omega arith) refl);
  of_a_global = λ all. example.none_without_gc (all.globals 0 (constant_global (Ref indexed)) (omega arith) refl);
  of_a_segment = λ all. example.none_without_gc (all.elems 0 indexed_elements (omega arith) refl);
  of_a_local = λ all. example.none_without_gc (all.locals 0 with_indexed_local (omega arith) 0 (Ref indexed) (omega arith) refl);
  of_a_block = λ all.
      let stated = (all.instructions.in_place 0 trapping (block_of indexed) refl refl).1 in
      example.none_without_gc (stated 0 instr.Nop (omega arith) 0 (Ref indexed) (omega arith) refl);
  with_the_feature = example.block_with_gc;
}
