-- Squares: every row and column has its byte.
pub mod Squares
-- Drawings: entries with one number in common, proper drawings, line graphs.
pub mod Drawings
-- `all` over the numbers below n.
pub mod Ranges
-- How the number of sharing pairs changes, and how a changed table stays sound.
pub mod PairCounts
pub mod Puts
-- What the last question of `set` answers.
pub mod Questions
