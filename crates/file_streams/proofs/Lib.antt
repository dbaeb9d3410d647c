mod Growing
mod Looks
