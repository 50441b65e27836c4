-- The table as rows.
pub mod Loaded
pub mod Tells
-- The search on one cluster: the walk, the spread, the test, the starts and their order.
pub mod Steps
pub mod Spreads
pub mod Quick
pub mod FirstStars
pub mod Attempts
pub mod Preferred
-- All clusters, the numbers of the imagers, and the answer.
pub mod Taking
pub mod AllSettled
pub mod Giving
pub mod Marks
pub mod Numbered
pub mod Turns
pub mod Answer
