-- Lists that are lent: what of them a function may change, and what it leaves.
pub mod Lists
