-- Credit balances, after every list.
pub mod Bank
pub mod Assisting
pub mod Lead
pub mod Few
pub mod Lists
