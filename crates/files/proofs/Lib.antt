-- A line up to one of its fields.
pub mod Lines
-- Texts told one after another, to any sink.
pub mod Told
-- The lines of an imager, baseline by baseline.
pub mod Imagers
-- The fields of a line, cut at its commas.
pub mod Cuts
-- Fields that are handed out.
pub mod Handed
-- How many digits a number has.
pub mod Digits
-- Bytes that spell a number, and bytes that do not.
pub mod Spelled
-- Lines of a word and two numbers.
pub mod Pairs
-- How long the files can be.
pub mod Sums
pub mod Sizes
-- Fields that are joined and cut again.
pub mod Joins
