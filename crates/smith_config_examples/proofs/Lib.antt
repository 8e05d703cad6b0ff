pub mod Common
mod ChainExamples
mod ShapeExamples
mod OneOfEachKindExamples
mod ShapeFaultExamples
