-- The tables that the two ledgers hold.
pub mod Grid
pub mod Listing
