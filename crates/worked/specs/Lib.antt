-- A survey that a lawful run led to:
pub mod After
-- what the calls answer and do:
pub mod Deeds
-- the two files, and their issue:
pub mod Files
pub mod Issue
