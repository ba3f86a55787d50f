mod Answered
mod Clauses
mod Promises
mod ReadersBeside
mod Streams
