pub mod CallAnswers
pub mod Files
pub mod KeptConfigs
