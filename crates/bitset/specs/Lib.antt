-- Sets of baselines: what a word's bits mean,
pub mod Sets
-- and the empty set.
pub mod Empty
