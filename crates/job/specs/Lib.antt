pub mod Job
pub mod Timed
pub mod Numbers
pub mod Offer
pub mod Lists
pub mod Demand2
pub mod PromisedEnd
pub mod TimedRunner
