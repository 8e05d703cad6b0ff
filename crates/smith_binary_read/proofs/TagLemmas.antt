-- Definitions of tags that are read: the reading is sound and complete.
use Rattle.std.proofs.Common.{refl}
use Rattle.smith_binary_read.specs.Decodes.{Decodes}
use Rattle.smith_binary_read.specs.TagReadings.{IsTagDefinition, tag_of, tag_at}
use Rattle.smith_binary_read.proofs.ReadLemmas.{mapped_decodes}
use Rattle.smith_binary_read.proofs.EntityLemmas.{tag_decodes}

pub tag_def_decodes : Decodes IsTagDefinition tag_at
unfolding tag_at
tag_def_decodes = mapped_decodes tag_of (λ tag. tag.0) (λ x. refl) (λ z. refl) tag_decodes
