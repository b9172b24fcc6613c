mod Hulls
mod Ranks
