pub mod Portions
pub mod Laws
