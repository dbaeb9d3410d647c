mod Heads
mod Looks
