-- What the C entry asks, answers and leaves.
pub mod Square
pub mod Entered
