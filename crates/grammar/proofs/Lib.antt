pub mod Worked
pub mod ReadingLaws
pub mod WordLaws
pub mod RowLaws
pub mod TermLaws
pub mod ActionLaws
pub mod Refusing
pub mod ProgramLaws
