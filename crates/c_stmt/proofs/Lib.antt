pub mod Apart
pub mod BySecond
pub mod Otherwise
pub mod StatementReadings
pub mod StatementsAreRead
pub mod WholeStatements
pub mod Samples
pub mod AheadOfStatements
