-- What can be told of a survey, and its papers:
pub mod Views
pub mod Slips
pub mod Papers
-- the questions that its calls ask, and what they answer and leave:
pub mod Questions
pub mod Marks
pub mod Issues
pub mod Told
pub mod Resolves
-- histories, and when a call is refused and what it answers, by the history before it:
pub mod History
pub mod Refusing
pub mod Answering
-- runs, and the law of every run:
pub mod Runs
pub mod Law
