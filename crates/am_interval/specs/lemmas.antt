pub mod Numbers
pub mod Laws
pub mod Terms
pub mod Walks
pub mod Domains
