pub mod Refusing
pub mod LemmaLaws
pub mod SourceLaws
pub mod Slots
pub mod HeadLaws
pub mod ListLaws
pub mod Sound
