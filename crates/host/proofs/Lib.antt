-- Places in a square, row by row.
pub mod Places
-- The questions before a square is placed, and the size of an answer.
pub mod Forms
-- A search of rows.
pub mod Rows
