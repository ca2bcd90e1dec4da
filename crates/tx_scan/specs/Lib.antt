pub mod Scans
pub use Rattle.tx_model.specs.Scanner
