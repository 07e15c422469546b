pub mod NewRows
pub mod Results
