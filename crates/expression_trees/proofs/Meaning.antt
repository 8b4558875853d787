-- Rules whose words are trees, by themselves and before the rest.

use Rattle.std.proofs.Common.{◌≡◌, ℕ, zero, suc, ◌≤◌, Bool, List, [], ◌∷◌, ◌++◌, Option, Some, refl, sym, ap, ◌∙◌, subst, append_assoc, append-nil, arith}
use Rattle.c_lexer.specs.declared.token.Kind.{Kind}
use Rattle.c_scopes.specs.Scopes.{OpenScopes}
use Rattle.c_scopes.specs.Events.{Event, after_event}
use Rattle.c_tree.specs.Spell.{Symbols}
use Rattle.reading.specs.Languages.{Leveled, tokens_of, no_word}
use Rattle.reading.specs.Rules.{Rule}
use Rattle.reading.specs.Nesting.{nested}
use Rattle.c_reading.specs.Kept.{KeptToken}
use Rattle.c_syntax.specs.Scoping.{Part}
use Rattle.expression_trees.specs.Saying.{Said, nothing, ◌and◌, IsKnown, AreKnown, FitTokens, AreMet, AreSaid, AreTrees, IsWord, AreWords}
use Rattle.expression_trees.proofs.Front.{Open, Adds}
use Rattle.expression_trees.proofs.FrontRules.{Made}
use Rattle.expression_trees.proofs.Back.{Back, Cut, back_later}

pub met_then : (scopes middle end : OpenScopes) (first second : List Event) → AreMet scopes first middle → AreMet middle second end → AreMet scopes (first ++ second) end
met_then scopes middle end [] second h g = subst (λ s. AreMet s second end) h g
met_then scopes middle end (event ∷ first) second h g = (h.0, met_then (after_event scopes event) middle end first second h.1 g)

pub met_cut : (scopes end : OpenScopes) (first second : List Event) → AreMet scopes (first ++ second) end → (middle : OpenScopes) × AreMet scopes first middle × AreMet middle second end
met_cut scopes end [] second h = (scopes, refl, h)
met_cut scopes end (event ∷ first) second h = let r = met_cut (after_event scopes event) end first second h.1 in (r.0, (h.0, r.1), r.2)

said_nothing : (a : Said) → a and nothing ≡ a
said_nothing a = ap (λ (s : Symbols). record { symbols = s; events = a.events ++ [] }) (append-nil a.symbols) ∙ ap (λ (e : List Event). record { symbols = a.symbols; events = e }) (append-nil a.events)

module _ (kind_of : ℕ → Option Kind) (bytes_of : ℕ → List ℕ) where
  fit_then : (s t : Symbols) (u v : List KeptToken) → FitTokens kind_of bytes_of s u → FitTokens kind_of bytes_of t v → FitTokens kind_of bytes_of (s ++ t) (u ++ v)
  fit_then [] t [] v h g = g
  fit_then [] t (x ∷ u) v h g = absurd h
  fit_then (y ∷ s) t [] v h g = absurd h
  fit_then (y ∷ s) t (x ∷ u) v h g = (h.0, fit_then s t u v h.1 g)

  record FitCut (s t : Symbols) (ts : List KeptToken) : Type 0 where
    front : List KeptToken
    back : List KeptToken
    split : ts ≡ front ++ back
    begin : FitTokens kind_of bytes_of s front
    rest : FitTokens kind_of bytes_of t back

  fit_cut : (s t : Symbols) (ts : List KeptToken) → FitTokens kind_of bytes_of (s ++ t) ts → FitCut s t ts
  fit_cut [] t ts h = record { front = []; back = ts; split = refl; begin = tt; rest = h }
  fit_cut (y ∷ s) t [] h = absurd h
  fit_cut (y ∷ s) t (x ∷ ts) h = let r = fit_cut s t ts h.1 in
      record { front = x ∷ r.front; back = r.back; split = ap (λ (z : List KeptToken). x ∷ z) r.split; begin = (h.0, r.begin); rest = r.rest }

  pub adds_of_trees : {A : Type 0} (X : Part A) (good : A → Type 0) (said : A → Said) → AreTrees kind_of bytes_of X good said → Adds kind_of bytes_of X (λ k. k) (Made kind_of bytes_of said good)
  adds_of_trees X good said h = record {
    adds = λ u start scopes w end kn pre x.
        let t = h scopes end.1 w end.0 kn x in (
          (λ k. said end.0 and k),
          (λ k v e f. subst (λ (z : List KeptToken). AreSaid kind_of bytes_of (said end.0 and k) z start e) (sym (append_assoc u (tokens_of w) v))
              (pre (said end.0 and k) (tokens_of w ++ v) e
              (fit_then (said end.0).symbols k.symbols (tokens_of w) v t.1.0 f.0, met_then scopes end.1 e (said end.0).events k.events t.1.1 f.1))),
          (t.0, λ k. refl),
        );
  }

  pub trees_of_adds : {A : Type 0} {X : Part A} {good : A → Type 0} (said : A → Said) → Adds kind_of bytes_of X (λ k. k) (Made kind_of bytes_of said good) → AreTrees kind_of bytes_of X good said
  trees_of_adds said p scopes end word a kn x =
      let r = p.adds [] scopes scopes word (a, end) kn (λ k v e f. f) x in
      let whole : AreSaid kind_of bytes_of (r.0 nothing) (tokens_of word ++ []) scopes end = r.1 nothing [] end (tt, refl) in (
        r.2.0,
        subst (λ (z : Said). AreSaid kind_of bytes_of z (tokens_of word) scopes end) (sym (r.2.1 nothing) ∙ said_nothing (said a))
            (subst (λ (z : List KeptToken). AreSaid kind_of bytes_of (r.0 nothing) z scopes end) (append-nil (tokens_of word)) whole),
      )

  pub back_of_words : {A : Type 0} (X : ℕ → Part A) (good : A → Type 0) (said : A → Said) → AreWords kind_of bytes_of X good said → (a : A) → good a → Back kind_of bytes_of X a (λ k. said a and k)
  back_of_words X good said h a g = record {
    reads = λ k ts scopes end f.
        let c = fit_cut (said a).symbols k.symbols ts f.0 in
        let m = met_cut scopes end (said a).events k.events f.1 in
        record { front = c.front; back = c.back; middle = m.0; split = c.split; begin = h a g scopes m.0 c.front (c.begin, m.1); rest = (c.rest, m.2) };
  }

  no_more : (ts front back : List KeptToken) → ts ≡ front ++ back → FitTokens kind_of bytes_of [] back → front ≡ ts
  no_more ts front [] e f = sym (e ∙ append-nil front)
  no_more ts front (t ∷ back) e f = absurd f

  pub words_of_back : {A : Type 0} {X : ℕ → Part A} {good : A → Type 0} (said : A → Said) → ((a : A) → good a → Back kind_of bytes_of X a (λ k. said a and k)) → AreWords kind_of bytes_of X good said
  words_of_back {X = X} said p a g scopes end tokens f =
      let c = (p a g).reads nothing tokens scopes end (subst (λ (z : Said). AreSaid kind_of bytes_of z tokens scopes end) (sym (said_nothing (said a))) f) in
      subst (λ (z : List KeptToken). IsWord X a z scopes end) (no_more tokens c.front c.back c.split c.rest.0)
      (subst (λ (z : OpenScopes). IsWord X a c.front scopes z) (sym c.rest.1) c.begin)

  -- ---- Knots: what the rules hold in brackets is one level deeper, and has a turn less

  module _ {Name : Type 0} {Value : Name → Type 0} (body : (n : Name) → ℕ → ℕ → ((m : Name) → Part (Value m)) → Part (Value n))
      (good : (n : Name) → ℕ → Value n → Type 0) (said : (n : Name) → Value n → Said) where
    pub knot_trees : ((turns level : ℕ) (inner : (m : Name) → Part (Value m)) → ((m : Name) → AreTrees kind_of bytes_of (inner m) (good m turns) (said m)) →
        (n : Name) → AreTrees kind_of bytes_of (body n turns level inner) (good n (suc turns)) (said n)) →
        (turns level : ℕ) (n : Name) → AreTrees kind_of bytes_of (nested body turns level n) (good n turns) (said n)
    unfolding nested
    knot_trees step zero level n = λ scopes end word a kn x. absurd x
    knot_trees step (suc turns) level n = step turns level (nested body turns (suc level)) (λ m. knot_trees step turns (suc level) m) n

    later : (n : Name) (level : ℕ) (a : Value n) (tokens : List KeptToken) (scopes end : OpenScopes) → IsWord (λ d. body n d level (nested body d (suc level))) a tokens scopes end →
        IsWord (λ d. nested body d level n) a tokens scopes end
    unfolding nested
    later n level a tokens scopes end x = record { word = x.word; turns = suc x.turns; is = x.is; holds = up x.turns x.word (x.holds) }
      where
        up : (t : ℕ) (w : List (Leveled KeptToken)) → ((e : ℕ) → t ≤ e → body n e level (nested body e (suc level)) scopes w (a, end)) → (e : ℕ) → suc t ≤ e → nested body e level n scopes w (a, end)
        up t w h zero l = absurd (omega arith)
        up t w h (suc e) l = h e (omega arith)

    pub knot_words : ((n : Name) (a : Value n) → good n 0 a → ⊥) →
        ((depth level : ℕ) (inner : ℕ → (m : Name) → Part (Value m)) → ((m : Name) → AreWords kind_of bytes_of (λ d. inner d m) (good m depth) (said m)) →
        (n : Name) → AreWords kind_of bytes_of (λ d. body n d level (inner d)) (good n (suc depth)) (said n)) →
        (depth level : ℕ) (n : Name) → AreWords kind_of bytes_of (λ d. nested body d level n) (good n depth) (said n)
    knot_words none step zero level n = λ a g scopes end tokens f. absurd (none n a g)
    knot_words none step (suc depth) level n = λ a g scopes end tokens f.
        later n level a tokens scopes end (step depth level (λ d. nested body d (suc level)) (λ m. knot_words none step depth (suc level) m) n a g scopes end tokens f)
