pub mod MaskLaws
pub mod MaskTable
pub mod Frame
