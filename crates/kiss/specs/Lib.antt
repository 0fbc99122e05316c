pub mod Kiss
