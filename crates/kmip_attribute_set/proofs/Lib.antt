mod Copying
mod Levels
mod Naming
mod Reading
mod Referring
mod Seeking
mod Told
