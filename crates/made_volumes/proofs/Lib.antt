pub mod Appends
pub mod Going
pub mod Joining
pub mod Listing
pub mod Loops
pub mod Others
pub mod Stores
pub mod Sums
