pub mod Laws
pub mod RowLoop
pub mod RowsLoop
