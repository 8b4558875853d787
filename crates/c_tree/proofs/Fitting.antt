-- Symbols that follow each other have tokens that follow each other.

use Rattle.std.proofs.Common.{◌≡◌, ℕ, ◌+◌, List, [], ◌∷◌, ◌++◌, length, refl, ap, ◌∙◌, subst, arith}
use Rattle.std.proofs.Common.{zero, suc, Some, slice_get}
use Rattle.c_lexer.specs.declared.token.Kind.{Kind}
use Rattle.c_tree.specs.Fits.{Fits, FitFrom}
use Rattle.c_tree.specs.declared.symbol.Symbol.{Symbol}
use Rattle.c_tree.specs.Spell.{Symbols}

-- Two runs of symbols fit the tokens of both.
pub FitFrom-append : (at : ℕ) (first second : Symbols) (kinds others : List Kind) →
    FitFrom at first kinds → FitFrom (at + length kinds) second others →
    FitFrom at (first ++ second) (kinds ++ others)
FitFrom-append at [] second [] others h g = let e : at + 0 ≡ at = omega arith in rw e at g
FitFrom-append at [] second (kind ∷ kinds) others h g = absurd h
FitFrom-append at (symbol ∷ first) second [] others h g = absurd h
FitFrom-append at (symbol ∷ first) second (kind ∷ kinds) others h g =
    let e : at + length (kind ∷ kinds) ≡ (at + 1) + length kinds = omega arith in
    (h.0, h.1, FitFrom-append (at + 1) first second kinds others h.2 (rw e at g))

-- The tokens of two runs of symbols, cut where the second begins.
pub record CutFrom (at : ℕ) (first second : Symbols) (kinds : List Kind) : Type 0 where
  pub before : List Kind
  pub after : List Kind
  pub whole : kinds ≡ before ++ after
  pub fit : FitFrom at first before
  pub rest_fit : FitFrom (at + length before) second after

pub FitFrom-split : (at : ℕ) (first second : Symbols) (kinds : List Kind) →
    FitFrom at (first ++ second) kinds → CutFrom at first second kinds
FitFrom-split at [] second kinds h =
    let e : at ≡ at + 0 = omega arith in
    record { before = []; after = kinds; whole = refl; fit = tt; rest_fit = rw e at h }
FitFrom-split at (symbol ∷ first) second [] h = absurd h
FitFrom-split at (symbol ∷ first) second (kind ∷ kinds) h =
    let cut = FitFrom-split (at + 1) first second kinds h.2 in
    let e : (at + 1) + length cut.before ≡ at + length (kind ∷ cut.before) = omega arith in
    record {
      before = kind ∷ cut.before;
      after = cut.after;
      whole = ap (λ (rest : List Kind). kind ∷ rest) cut.whole;
      fit = (h.0, h.1, cut.fit);
      rest_fit = rw e at cut.rest_fit;
    }

-- Symbols that fit tokens are as many as they.
pub length_fit : (at : ℕ) (symbols : Symbols) (kinds : List Kind) → FitFrom at symbols kinds →
    length symbols ≡ length kinds
length_fit at [] [] h = refl
length_fit at [] (kind ∷ kinds) h = absurd h
length_fit at (symbol ∷ symbols) [] h = absurd h
length_fit at (symbol ∷ symbols) (kind ∷ kinds) h = omega (arith, length_fit (at + 1) symbols kinds h.2)

-- The symbol at a position has the token of that number, which is what the symbol wants.
pub fits_at : (at : ℕ) (symbols : Symbols) (kinds : List Kind) → FitFrom at symbols kinds →
    (i : ℕ) (symbol : Symbol) (kind : Kind) → slice_get symbols i ≡ Some symbol →
    slice_get kinds i ≡ Some kind → (symbol.token ≡ at + i) × Fits symbol.want kind
fits_at at [] kinds h i symbol kind s k = cc
fits_at at (first ∷ symbols) [] h i symbol kind s k = absurd h
fits_at at (first ∷ symbols) (one ∷ kinds) h zero symbol kind s k =
    let same_symbol : first ≡ symbol = cc in
    let same_kind : one ≡ kind = cc in
    let here : at ≡ at + 0 = omega arith in
    let token : first.token ≡ at + 0 = h.0 ∙ here in (
      subst (λ (x : Symbol). x.token ≡ at + 0) same_symbol token,
      subst (λ (y : Kind). Fits symbol.want y) same_kind
          (subst (λ (x : Symbol). Fits x.want one) same_symbol h.1),
    )
fits_at at (first ∷ symbols) (one ∷ kinds) h (suc i) symbol kind s k =
    let there : (at + 1) + i ≡ at + suc i = omega arith in
    let later = fits_at (at + 1) symbols kinds h.2 i symbol kind s k in
    (later.0 ∙ there, later.1)
