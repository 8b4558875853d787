pub mod Entries
mod Totals
mod Views
mod SplitAndJoin
mod Turning
mod Ends
mod Steps
mod Seats
mod Waiting
mod Rolls
