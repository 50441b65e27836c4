-- What a layout is, which one is chosen, how its imagers are numbered, and what placing a table answers:
pub mod Layout
pub mod Groups
pub mod Clusters
pub mod Numbers
pub mod Record
pub mod Placed
-- what is proved of these definitions alone:
pub mod Theorems
-- the search:
pub mod Stars
pub mod Walks
pub mod Search
pub mod Imagers
pub mod Answer
-- rigs worked through:
pub mod Rigs
