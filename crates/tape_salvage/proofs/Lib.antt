mod Running
mod Sound
