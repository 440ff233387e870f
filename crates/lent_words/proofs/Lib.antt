mod Layers
mod Steadying
