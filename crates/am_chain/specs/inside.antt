-- What only private functions cite.
pub mod Marks
pub mod Numbers
