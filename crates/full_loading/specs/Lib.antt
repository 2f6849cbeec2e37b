pub mod FullLoads
