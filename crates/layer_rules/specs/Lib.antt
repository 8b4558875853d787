-- In reading order: the file and its nodes; the constructs of the graph, each with its forest; what
-- the tree of a file has of them.
pub mod Files
pub mod Operators
pub mod Nodes
pub mod Records
pub mod Terms
pub mod Expressions
pub mod Statements
pub mod Functions
pub mod TypeTexts
pub mod Grouping
pub mod Meanings
pub mod Declarators
pub mod Specifiers
pub mod Declarations
pub mod TermsOfTrees
pub mod StatementsOfTrees
pub mod FilesOfTrees
