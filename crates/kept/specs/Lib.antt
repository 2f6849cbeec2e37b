pub mod Stored
pub mod Ids
pub mod Puts
pub mod Asked
pub mod FirstPass
pub mod Keeping
