pub mod Bits
pub mod Place
pub mod Field
pub mod Sign
pub mod Figures
