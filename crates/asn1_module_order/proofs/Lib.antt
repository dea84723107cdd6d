mod Files
mod OrderLemmas
mod Texts
