-- Questions that were answered yes.
pub mod Yes
-- Tables that say the same are the same, and what the calls make of a view.
pub mod Tables
pub mod Changed
-- How many baselines are doubtful.
pub mod Counts
-- The files of an issue, and its stages.
pub mod Fits
pub mod Stages
-- What a history tells of a survey.
pub mod Stands
-- The law.
pub mod Refused
pub mod Clashes
pub mod Lawful
