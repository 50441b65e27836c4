-- The table that rows tell:
pub mod Tables
pub mod Told
-- the search on one cluster: the walk, near stars, their test, and the order of the starts:
pub mod Walked
pub mod Near
pub mod Quick
pub mod Order
-- all clusters, and the numbers of the imagers:
pub mod Answered
pub mod Numbers
