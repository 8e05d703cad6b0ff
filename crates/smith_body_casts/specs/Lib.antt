pub mod CastChoices
