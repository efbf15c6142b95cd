pub mod Snap
