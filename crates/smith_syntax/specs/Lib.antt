pub mod FeatureBits
pub mod Features
pub mod Instructions
pub mod Kinds
pub mod Same
pub mod SplitTexts
