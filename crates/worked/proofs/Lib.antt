-- One call after a lawful run, by the law.
pub mod Calls
-- The layout of two baselines that share.
pub mod Pair
pub mod Asked
-- Its files, and their issue.
pub mod Bytes
pub mod Rooms
pub mod Steps
