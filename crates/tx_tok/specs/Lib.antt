pub mod Tokens
pub use Rattle.tx_model.specs.Log
pub use Rattle.tx_model.specs.Shown
