mod Digits
mod HintsFound
mod Rows
