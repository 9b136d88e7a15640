pub mod Tells
pub mod Headline
