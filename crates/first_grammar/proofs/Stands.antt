-- Symbols stand in the tokens that are left.

use Rattle.std.proofs.Common.{◌≡◌, ℕ, suc, zero, ◌+◌, List, [], ◌∷◌, ◌++◌, refl, sym, subst, arith, Some, slice_get}
use Rattle.c_lexer.specs.declared.token.Kind.{Kind}
use Rattle.c_tree.specs.Fits.{Fits, FitFrom}
use Rattle.c_tree.specs.Spell.{Symbols}
use Rattle.first_grammar.specs.FirstUnit.{HasKind}
use Rattle.first_grammar.specs.Rest.{Rest, numbered}

-- The symbols have the first tokens, one each, and `after` is left behind them.
abbrev pub Stands : Symbols → Rest → Rest → Type 0
Stands [] before after = before ≡ after
Stands (symbol ∷ symbols) [] after = ⊥
Stands (symbol ∷ symbols) (token ∷ rest) after =
    (symbol.token ≡ token.0) × Fits symbol.want token.1 × Stands symbols rest after

-- Each token that is left is of the kind that the file has at its number.
abbrev pub Agrees : List Kind → Rest → Type 0
Agrees kinds [] = Prim.Unit {0}
Agrees kinds (token ∷ rest) = HasKind kinds token.0 token.1 × Agrees kinds rest

pub stands_append : (first second : Symbols) (a b c : Rest) → Stands first a b → Stands second b c →
    Stands (first ++ second) a c
stands_append [] second a b c h g = subst (λ (r : Rest). Stands second r c) (sym h) g
stands_append (symbol ∷ first) second [] b c h g = absurd h
stands_append (symbol ∷ first) second (token ∷ rest) b c h g =
    (h.0, h.1, stands_append first second rest b c h.2 g)

pub stands_split : (first second : Symbols) (a c : Rest) → Stands (first ++ second) a c →
    (b : Rest) × Stands first a b × Stands second b c
stands_split [] second a c h = (a, refl, h)
stands_split (symbol ∷ first) second [] c h = absurd h
stands_split (symbol ∷ first) second (token ∷ rest) c h =
    let later = stands_split first second rest c h.2 in
    (later.0, (h.0, h.1, later.1), later.2)

pub stands_agrees : (kinds : List Kind) (symbols : Symbols) (a b : Rest) → Stands symbols a b →
    Agrees kinds a → Agrees kinds b
stands_agrees kinds [] a b h g = subst (Agrees kinds) h g
stands_agrees kinds (symbol ∷ symbols) [] b h g = absurd h
stands_agrees kinds (symbol ∷ symbols) (token ∷ rest) b h g = stands_agrees kinds symbols rest b h.2 g.1

pub stands_from_fit : (at : ℕ) (symbols : Symbols) (kinds : List Kind) → FitFrom at symbols kinds →
    Stands symbols (numbered at kinds) []
stands_from_fit at [] [] h = refl
stands_from_fit at [] (kind ∷ kinds) h = absurd h
stands_from_fit at (symbol ∷ symbols) [] h = absurd h
stands_from_fit at (symbol ∷ symbols) (kind ∷ kinds) h =
    (h.0, h.1, stands_from_fit (at + 1) symbols kinds h.2)

pub fit_from_stands : (at : ℕ) (symbols : Symbols) (kinds : List Kind) →
    Stands symbols (numbered at kinds) [] → FitFrom at symbols kinds
fit_from_stands at [] [] h = tt
fit_from_stands at [] (kind ∷ kinds) h = absurd (cc)
fit_from_stands at (symbol ∷ symbols) [] h = absurd h
fit_from_stands at (symbol ∷ symbols) (kind ∷ kinds) h =
    (h.0, h.1, fit_from_stands (at + 1) symbols kinds h.2)

agrees_from : (all kinds : List Kind) (at : ℕ) →
    ((i : ℕ) (kind : Kind) → slice_get kinds i ≡ Some kind → slice_get all (at + i) ≡ Some kind) →
    Agrees all (numbered at kinds)
agrees_from all [] at h = tt
agrees_from all (kind ∷ kinds) at h =
    let here : at + 0 ≡ at = omega arith in (
      subst (λ (n : ℕ). HasKind all n kind) here (h zero kind refl),
      agrees_from all kinds (at + 1) (λ i k e.
          let there : at + suc i ≡ (at + 1) + i = omega arith in
          subst (λ (n : ℕ). HasKind all n k) there (h (suc i) k e)),
    )

pub agrees_numbered : (kinds : List Kind) → Agrees kinds (numbered 0 kinds)
agrees_numbered kinds = agrees_from kinds kinds 0 (λ i kind e.
    let here : i ≡ 0 + i = omega arith in
    subst (λ (n : ℕ). HasKind kinds n kind) here e)
