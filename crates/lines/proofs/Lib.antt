-- What the fields of a line say of it.
pub mod Asked
-- Details that a reply can tell.
pub mod Details
-- A whole issue.
pub mod Issued
-- What the survey answered, carried on to the line.
pub mod Carried
-- The reply at the start of its buffer.
pub mod Told
-- The lines of a sheet, cut at their ends.
pub mod SheetCuts
