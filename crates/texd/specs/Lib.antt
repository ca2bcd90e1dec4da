pub mod Files
pub mod Top
