pub mod SpliceLemmas
