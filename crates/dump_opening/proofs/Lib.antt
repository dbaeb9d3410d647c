pub mod Heading
pub mod Headers
pub mod Knowing
pub mod Reading
pub mod Refusing
pub mod Rescuing
