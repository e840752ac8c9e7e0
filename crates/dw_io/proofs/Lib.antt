mod Appends
mod FirstFile
