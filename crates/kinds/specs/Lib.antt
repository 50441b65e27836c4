-- The table of a ring.
pub mod Ring
