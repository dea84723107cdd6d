mod Typed
mod Stated
mod Sizes
mod ReadAgain
