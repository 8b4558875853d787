-- What contracts of this crate say, in the order of reading.
pub mod PairSets
pub mod Facts
