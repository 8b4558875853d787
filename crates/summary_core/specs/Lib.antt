-- What contracts of this crate say, in the order of reading.
pub mod Searches
pub mod Board
pub mod Events
pub mod Claiming
pub mod Knowing
pub mod Marking
pub mod Agenda
pub mod Sound
pub mod Table
