-- Tables and layouts: rows, ends, threes with a common imager, clusters and walks through them.
pub mod Rows
pub mod Ends
pub mod Trios
pub mod Reaches
pub mod Counts
pub mod Fringes
pub mod Walks
pub mod Roots
pub mod Whole
-- Stars: what two stars for each baseline are, and that a layout gives them.
pub mod StarFacts
pub mod LayoutStars
-- The search on one cluster: spread, test, starts, preference.
pub mod Spread
pub mod Verify
pub mod Crosses
pub mod Firsts
pub mod Starts
pub mod SameStart
pub mod Prefer
pub mod Passing
pub mod Cluster
pub mod Names
-- The numbers of the imagers: stars by their lowest baselines, and the places that give each baseline its ends.
pub mod Lowest
pub mod Places
pub mod Pushed
pub mod Begins
pub mod Begun
pub mod Held
pub mod Ranks
pub mod Sorted
pub mod Numbering
-- The answer is fixed.
pub mod Below
pub mod Order
pub mod Alike
pub mod Matched
pub mod Unique
-- The answer of the search to a whole table.
pub mod Settling
pub mod Leads
pub mod Doubts
pub mod Solves
pub mod LowestThat
pub mod Searched
pub mod SameAnswer
pub mod Rigs
-- Drawings are found again.
pub mod Drawn
