mod Checked
mod Digits
mod Files
mod Typed
