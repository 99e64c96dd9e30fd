pub mod Said
pub mod Lines
pub mod Row
pub mod Form
pub mod Tells
pub mod Examples
