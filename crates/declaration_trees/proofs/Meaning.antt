-- Rules whose words stand in a text as trees, by themselves and before the rest.

use Rattle.std.proofs.Common.{◌≡◌, ℕ, List, [], ◌∷◌, ◌++◌, Option, refl, sym, ap, ◌∙◌, subst, append_assoc, append-nil}
use Rattle.c_lexer.specs.declared.token.Kind.{Kind}
use Rattle.c_scopes.specs.Events.{Event}
use Rattle.c_tree.specs.Spell.{Symbols}
use Rattle.reading.specs.Languages.{tokens_of}
use Rattle.c_reading.specs.Kept.{KeptToken}
use Rattle.c_syntax.specs.Scoping.{Part}
use Rattle.expression_trees.specs.Saying.{Said, nothing, ◌and◌, FitTokens, AreSaid}
use Rattle.expression_trees.proofs.Meaning.{met_then}
use Rattle.declaration_trees.specs.Numbering.{StandAsTrees}
use Rattle.declaration_trees.proofs.Standing.{Adds, Made}

said_nothing : (a : Said) → a and nothing ≡ a
said_nothing a = ap (λ (s : Symbols). record { symbols = s; events = a.events ++ [] }) (append-nil a.symbols) ∙ ap (λ (e : List Event). record { symbols = a.symbols; events = e }) (append-nil a.events)

module _ (kind_of : ℕ → Option Kind) (bytes_of : ℕ → List ℕ) where
  fit_then : (s t : Symbols) (u v : List KeptToken) → FitTokens kind_of bytes_of s u → FitTokens kind_of bytes_of t v → FitTokens kind_of bytes_of (s ++ t) (u ++ v)
  fit_then [] t [] v h g = g
  fit_then [] t (x ∷ u) v h g = absurd h
  fit_then (y ∷ s) t [] v h g = absurd h
  fit_then (y ∷ s) t (x ∷ u) v h g = (h.0, fit_then s t u v h.1 g)

  pub adds_of_stand : {A : Type 0} (X : Part A) (good : A → ℕ → Type 0) (said : A → Said) → StandAsTrees kind_of bytes_of X good said → (at : ℕ) → Adds kind_of bytes_of X at (λ k. k) (Made said good)
  adds_of_stand X good said h at = record {
    adds = λ u start scopes w stop end kn run pre x.
        let t = h at stop scopes end.1 w end.0 kn run x in (
          (λ k. said end.0 and k),
          (λ k v e f. subst (λ (z : List KeptToken). AreSaid kind_of bytes_of (said end.0 and k) z start e) (sym (append_assoc u (tokens_of w) v))
              (pre (said end.0 and k) (tokens_of w ++ v) e
              (fit_then (said end.0).symbols k.symbols (tokens_of w) v t.1.0 f.0, met_then scopes end.1 e (said end.0).events k.events t.1.1 f.1))),
          (t.0, λ k. refl),
        );
  }

  pub stand_of_adds : {A : Type 0} {X : Part A} {good : A → ℕ → Type 0} (said : A → Said) → ((at : ℕ) → Adds kind_of bytes_of X at (λ k. k) (Made said good)) → StandAsTrees kind_of bytes_of X good said
  stand_of_adds said p at stop scopes end word a kn run x =
      let r = (p at).adds [] scopes scopes word stop (a, end) kn run (λ k v e f. f) x in
      let whole : AreSaid kind_of bytes_of (r.0 nothing) (tokens_of word ++ []) scopes end = r.1 nothing [] end (tt, refl) in (
        r.2.0,
        subst (λ (z : Said). AreSaid kind_of bytes_of z (tokens_of word) scopes end) (sym (r.2.1 nothing) ∙ said_nothing (said a))
            (subst (λ (z : List KeptToken). AreSaid kind_of bytes_of (r.0 nothing) z scopes end) (append-nil (tokens_of word)) whole),
      )
