pub mod Events
pub mod Moments
pub mod Carried
pub mod Enabling
pub mod Blocks
pub mod Boards
pub mod Laws
