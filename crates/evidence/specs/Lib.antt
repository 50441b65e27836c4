-- The meaning of evidence:
pub mod Table
-- the tables of the kinds that the crate has:
pub mod Drawing
pub mod Square
pub mod Beside
-- what a proper drawing is, in the words of graphs:
pub mod LineGraph
-- refusals, and what a ledger's calls do:
pub mod Refusals
pub mod Pairs
pub mod Changes
