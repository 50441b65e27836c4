-- Why a line is refused: numbers, details and layers.
pub mod Faults
-- The words of the sheet, and what a line asks for:
pub mod Words
pub mod Requests
-- what is replied:
pub mod Replies
-- the calls that a request makes, and what serving a line answers and leaves.
pub mod Serving
pub mod Served
-- The lines of a sheet.
pub mod Sheet
