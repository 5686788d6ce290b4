mod Pieces
mod Collects
mod Moments
mod Nexts
mod Lists
mod Skipped
mod Offsets
mod Said
