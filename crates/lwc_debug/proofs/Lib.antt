mod Going
mod Legal
pub mod Living
pub mod ScriptLines
mod Telling
