-- names of children
pub mod Children
