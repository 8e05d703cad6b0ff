use Rattle.smith_body_aggregates.proofs.Common.{bare, struct_fields, struct_there}
use Rattle.smith_body_aggregates.proofs.aggregates.StructOfferOffer.is_offered.Goals as goal

pub count_offered-requires : goal.count_offered-requires
count_offered-requires c =
    let context = bare c.args.self.now.scope.now in
    let structure = c.in-Some.structure.now in
    rw c.as_slice-fields.ensures (
      c.requires.ready.1,
      struct_fields context c.args.index structure.fields c.requires.ready.0
          (struct_there context.types c.args.index structure c.in-Some.ensures),
    )
