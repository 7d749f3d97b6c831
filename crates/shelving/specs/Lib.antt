pub mod Shelve
