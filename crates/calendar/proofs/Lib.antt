pub mod Before
pub mod Years
pub mod Months
pub mod Dates
pub mod RoundTrip
pub mod Eras
pub mod OneToOne
