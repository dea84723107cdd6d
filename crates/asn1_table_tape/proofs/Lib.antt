pub mod Nodes
pub mod ScalarRecords
mod Shapes
mod Behind
mod DefaultLaws
mod Leaving
pub mod FormRecords
