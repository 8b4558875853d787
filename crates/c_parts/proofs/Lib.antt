pub mod RealTokens
pub mod SomeExpression
pub mod SomeParts
pub mod PartsAreRead
