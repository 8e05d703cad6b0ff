pub mod Files
pub mod Places
pub mod Rules
pub mod Answers
pub mod Explanations
pub mod Verdicts
pub mod ExampleImports
