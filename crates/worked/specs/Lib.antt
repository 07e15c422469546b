pub mod Shows
pub mod MoreLemmas
