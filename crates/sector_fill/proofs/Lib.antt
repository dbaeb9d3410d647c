pub mod Lending
pub mod Sectors
