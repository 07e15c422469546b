pub mod Lemmas
pub mod LemmaGrammar
pub mod Truth
pub mod Sources
pub mod Props
