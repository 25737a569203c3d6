-- The definitions that contracts cite for answers: what each says in the paper's numbers, and how a call is refused.
pub mod Answered
pub mod Answer
pub mod Rows
pub mod Out
