-- Scopes of ordinary identifiers (C11 6.2.1, 6.2.3), and which of these are typedef names (6.7.8).

use Rattle.std.specs.Prelude.{◌≡◌, ◌≢◌, ℕ, Bool, true, List, [], ◌∷◌, ◌++◌}
use Rattle.std.specs.Prelude.{All}
use Rattle.std.specs.List.{flat_map}

-- A declaration: the name, and whether a typedef.
pub record Declared : Type 0 where
  pub name : List ℕ
  pub typedef : Bool

-- The scopes that are open at a place: the innermost one, and those around it from the inside out,
-- of which the last is the file's. A scope is the list of its declarations, the latest first (p4).
pub record OpenScopes : Type 0 where
  pub innermost : List Declared
  pub around : List (List Declared)

-- The file's scope, before its first declaration (p4).
abbrev pub file_scope : OpenScopes
file_scope = record { innermost = []; around = [] }

-- A scope begins in the innermost one.
abbrev pub entered : OpenScopes → OpenScopes
entered open_scopes = record { innermost = []; around = open_scopes.innermost ∷ open_scopes.around }

-- The name is declared in the innermost scope.
abbrev pub declared : OpenScopes → List ℕ → Bool → OpenScopes
declared open_scopes name typedef = record open_scopes {
  innermost = record { name = name; typedef = typedef } ∷ open_scopes.innermost;
}

-- What is around is left, of which the file's scope is the last; that begins anew where it is left.
abbrev pub left_to : List (List Declared) → OpenScopes
left_to [] = file_scope
left_to (scope ∷ around) = record { innermost = scope; around = around }

-- The innermost scope ends, and its declarations with it (p4).
abbrev pub left : OpenScopes → OpenScopes
left open_scopes = left_to open_scopes.around

-- The declarations in open scopes, the latest first.
abbrev pub declarations_in : OpenScopes → List Declared
declarations_in open_scopes =
    open_scopes.innermost ++ flat_map (λ (scope : List Declared). scope) open_scopes.around

-- The declaration of the name that comes first in the list.
pub record IsFirstOf (declarations : List Declared) (name : List ℕ) (typedef : Bool) : Type 0 where
  pub later : List Declared
  pub earlier : List Declared
  pub stands : declarations ≡ later ++ record { name = name; typedef = typedef } ∷ earlier
  pub first : All (λ (d : Declared). d.name ≢ name) later

-- The name is a typedef name: its last declaration in an open scope is a typedef. That of an inner
-- scope hides those of outer ones (p4); of one scope the latest holds (ours).
abbrev pub IsTypedefName : OpenScopes → List ℕ → Type 0
IsTypedefName open_scopes name = IsFirstOf (declarations_in open_scopes) name true
