pub mod Common
pub mod ImportNameLemmas
pub mod ImportedEntityLemmas
pub mod ImportsGrownLemmas
pub mod ImportGroundLemmas
pub mod FilledGroupLoop
pub mod ImportGroupsLoop
pub mod NoImportLemmas
