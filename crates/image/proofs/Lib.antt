mod Chunks
mod Closed
mod Laying
mod Pairs
