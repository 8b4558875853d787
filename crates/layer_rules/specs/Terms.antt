-- The constructs of expressions (C11 6.5), grouped: each operand stands in the operator that takes
-- it.
use Rattle.std.specs.Prelude.{ℕ, List, Option, Some, None, slice_get}
use Rattle.layer_rules.specs.Records.{Body}

-- A type name (6.7.7): its first token, its type text, and the records and enumerations with a body
-- among its specifiers.
pub record NamedType : Type 0 where
  pub first : Option ℕ
  pub text : List ℕ
  pub bodies : List Body

-- An operator is the number of its token, and so is a bracket.
mutual
  pub data Term : Type 0 where
    -- 6.5.1.
    Name : (token : ℕ) → Term
    Literal : (tokens : List ℕ) → Term
    Parens : (opening : Option ℕ) → (inner : Term) → Term
    -- 6.5.2.1 to 6.5.2.5.
    Subscript : (array index : Term) → Term
    Call : (callee : Term) → (arguments : Terms) → Term
    Dot : (operand : Term) → (member : ℕ) → Term
    Arrow : (operand : Term) → (member : ℕ) → Term
    Postfix : (operand : Term) → (operator : ℕ) → Term
    CompoundLiteral : (opening : Option ℕ) → (type : NamedType) → (list : Term) → Term
    -- 6.5.3, 6.5.4.
    Prefix : (operator : ℕ) → (operand : Term) → Term
    SizeOfType : (operator : ℕ) → (type : NamedType) → Term
    Cast : (opening : Option ℕ) → (type : NamedType) → (operand : Term) → Term
    -- 6.5.5 to 6.5.14, 6.5.16.
    Infix : (operator : ℕ) → (left right : Term) → Term
    -- 6.5.15.
    Conditional : (test then other : Term) → Term
    -- 6.5.17.
    Comma : (left right : Term) → Term
    -- 6.7.9.
    Initialisers : (brace : Option ℕ) → (items : Terms) → Term

  pub data Terms : Type 0 where
    no_terms : Terms
    Argument : (term : Term) → (more : Terms) → Terms

-- The first token: parentheses around a leading operand count.
abbrev pub first_token : Term → Option ℕ
first_token (Name token) = Some token
first_token (Literal tokens) = slice_get tokens 0
first_token (Parens opening inner) = opening
first_token (Subscript array index) = first_token array
first_token (Call callee arguments) = first_token callee
first_token (Dot operand member) = first_token operand
first_token (Arrow operand member) = first_token operand
first_token (Postfix operand operator) = first_token operand
first_token (CompoundLiteral opening type list) = opening
first_token (Prefix operator operand) = Some operator
first_token (SizeOfType operator type) = Some operator
first_token (Cast opening type operand) = opening
first_token (Infix operator left right) = first_token left
first_token (Conditional test then other) = first_token test
first_token (Comma left right) = first_token left
first_token (Initialisers brace items) = brace

-- The name that a term is, in parentheses or not.
abbrev pub sole_name : Term → Option ℕ
sole_name (Name token) = Some token
sole_name (Parens opening inner) = sole_name inner
sole_name _ = None
