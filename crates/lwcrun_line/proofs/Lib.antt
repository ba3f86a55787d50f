pub mod Accepted
mod Rules
mod TakenWords
