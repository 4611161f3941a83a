-- Lists that are lent: the laws of filling them.
pub mod Clearing
pub mod Kept
pub mod Laying
pub mod Outside
