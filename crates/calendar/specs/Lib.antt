pub mod Gregorian
pub mod Dates
pub mod Calendar
pub mod OneToOne
