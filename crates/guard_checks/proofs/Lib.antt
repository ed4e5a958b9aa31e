mod Lists
mod Within
mod Entries
