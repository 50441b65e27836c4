-- What a line is, and the forms of what stands in its fields:
pub mod Line
pub mod Forms
-- the two files:
pub mod Each
pub mod Profile
pub mod Table
-- what it is to write bytes into a buffer:
pub mod Writing
-- what takes a text byte by byte, one that counts and one that writes, and that both keep the laws:
pub mod Sink
pub mod Tally
pub mod Splices
pub mod Pen
-- what the code is told, and what it writes as a field:
pub mod Baseline
pub mod Contents
pub mod Field
-- what is read out of bytes:
pub mod Reading
pub mod Fields
pub mod Pair
-- what is proved of these definitions:
pub mod Theorems
