-- Names and the heap words of their objects: which objects there are, each once, and that a value names one that was made.
pub mod Listing
pub mod Naming
pub mod Slots
