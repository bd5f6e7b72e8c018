pub mod Numbers
pub mod Words
pub mod Bits
pub mod Firsts
pub mod Followers
pub mod Tables
pub mod Counts
pub mod Laws
