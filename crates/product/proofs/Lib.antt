pub mod Unit
pub mod Shifts
pub mod Masks
pub mod Tables
pub mod Products
