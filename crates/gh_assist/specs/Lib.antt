pub mod BankFirst
pub mod Facts
pub mod Listing
pub mod Paying
pub mod Quiet
pub mod Sound
pub mod Within
pub mod Vocabulary
