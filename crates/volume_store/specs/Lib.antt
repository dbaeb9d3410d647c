pub mod Appending
pub mod Looking
pub mod Mounting
pub mod Opening
pub mod Restoring
pub mod Scrubbing
