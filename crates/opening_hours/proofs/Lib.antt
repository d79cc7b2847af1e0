pub mod Folding
pub mod Firsts
pub mod Whole
pub mod Ends
pub mod Few
