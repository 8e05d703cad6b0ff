pub mod OneChunkLemmas
pub mod StopExamples
