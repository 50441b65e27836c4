-- One baseline more, and what is answered of a pair.
pub mod Growth
pub mod Sets
-- What a write leaves of a grid, and of a list.
pub mod Grids
pub mod Listed
