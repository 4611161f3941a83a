-- What a call gives, its checks as one list, what it leaves in memory lent, and what each case of an answer means.
pub mod Answer
pub mod Checks
pub mod Lent
pub mod Means
