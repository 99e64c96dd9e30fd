pub mod Text
pub mod Decimal
pub mod Lines
