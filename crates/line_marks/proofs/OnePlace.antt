-- A text has one list of places and one list of files.
use Rattle.std.proofs.Common.{◌≡◌, ℕ, List, [], ◌∷◌, ◌++◌, Option, Some, None, refl, ap, sym, subst, ◌∙◌, inl, inr}
use Rattle.std.specs.List.{AllZip, Contains, slice_get}
use Rattle.c_lexer.specs.declared.token.Token.{Token}
use Rattle.c_lexer.proofs.Directives.{marker_once}
use Rattle.line_marks.specs.declared.place.Place.{Place}
use Rattle.line_marks.proofs.Names.{contains_at, get_push}
use Rattle.line_marks.specs.Presumed.{AddsNames, ArePlacesOf, IsPlaceOf, Presumed, Said, Says, first_presumption, names_said, presumed_places}

same_said : (s u : Said) → s.line ≡ u.line → s.file ≡ u.file → s ≡ u
same_said s u a b =
    let f : ℕ → Option (List ℕ) → Said = λ n o. record { line = n; file = o } in
    let g : f s.line s.file ≡ f u.line u.file = cc in
    g

-- A token says one thing.
said_once : (bytes : List ℕ) (token : Token) (s u : Option Said) → Says bytes token s → Says bytes token u → s ≡ u
said_once bytes token None None a b = refl
said_once bytes token None (Some u) a b = absurd (a b.0)
said_once bytes token (Some s) None a b = absurd (b a.0)
said_once bytes token (Some s) (Some u) a b =
    let h = marker_once bytes token.start token.end token.end s.line u.line s.file u.file a.1 b.1 in
    ap Some (same_said s u h.1 h.2)

says_once : (bytes : List ℕ) (tokens : List Token) (says more : List (Option Said)) → AllZip (Says bytes) tokens says → AllZip (Says bytes) tokens more → says ≡ more
says_once bytes [] [] [] a b = refl
says_once bytes [] [] (u ∷ more) a b = absurd b
says_once bytes [] (s ∷ says) more a b = absurd a
says_once bytes (t ∷ tokens) [] more a b = absurd a
says_once bytes (t ∷ tokens) (s ∷ says) [] a b = absurd b
says_once bytes (t ∷ tokens) (s ∷ says) (u ∷ more) a b =
    let first = said_once bytes t s u a.0 b.0 in
    let rest = says_once bytes tokens says more a.1 b.1 in
    cc

-- Names are added in one way.
adds_once : (a b c xs : List (List ℕ)) → AddsNames a xs b → AddsNames a xs c → b ≡ c
adds_once a b c xs AddsNames.none AddsNames.none = refl
adds_once a b c xs (AddsNames.known {names = ns} name there rest) (AddsNames.known name2 there2 rest2) = adds_once a b c ns rest rest2
adds_once a b c xs (AddsNames.known name there rest) (AddsNames.new name2 fresh rest2) = absurd (fresh there)
adds_once a b c xs (AddsNames.new name fresh rest) (AddsNames.known name2 there rest2) = absurd (fresh there)
adds_once a b c xs (AddsNames.new {names = ns} name fresh rest) (AddsNames.new name2 fresh2 rest2) = adds_once (a ++ name ∷ []) b c ns rest rest2

-- No name stands at two positions.
record Once (files : List (List ℕ)) : Type 0 where
  at : (i j : ℕ) (x : List ℕ) → slice_get files i ≡ Some x → slice_get files j ≡ Some x → i ≡ j

once_push : (a : List (List ℕ)) (y : List ℕ) → Once a → (Contains a y → ⊥) → Once (a ++ y ∷ [])
once_push a y once fresh = record {
  at = λ i j x h g. elim (get_push a y i x h) [
    | inl p ↦ elim (get_push a y j x g) [
      | inl q ↦ once.at i j x p q
      | inr q ↦ absurd (fresh (contains_at a i y (p ∙ ap Some q.1)))
    ]
    | inr p ↦ elim (get_push a y j x g) [
      | inl q ↦ absurd (fresh (contains_at a j y (q ∙ ap Some p.1)))
      | inr q ↦ p.0 ∙ sym q.0
    ]
  ];
}

adds_once_each : (a b xs : List (List ℕ)) → AddsNames a xs b → Once a → Once b
adds_once_each a b xs AddsNames.none once = once
adds_once_each a b xs (AddsNames.known {names = ns} name there rest) once = adds_once_each a b ns rest once
adds_once_each a b xs (AddsNames.new {names = ns} name fresh rest) once = adds_once_each (a ++ name ∷ []) b ns rest (once_push a name once fresh)

same_place : (p q : Place) → p.file ≡ q.file → p.line ≡ q.line → p ≡ q
same_place p q a b =
    let f : ℕ → ℕ → Place = λ n m. record { file = n; line = m } in
    let g : f p.file p.line ≡ f q.file q.line = cc in
    g

-- A presumed place has one position and line.
place_once : (files : List (List ℕ)) (ps qs : List Place) (presumed : List Presumed) → Once files → AllZip (IsPlaceOf files) ps presumed → AllZip (IsPlaceOf files) qs presumed → ps ≡ qs
place_once files [] [] [] once a b = refl
place_once files [] (q ∷ qs) [] once a b = absurd b
place_once files [] qs (x ∷ presumed) once a b = absurd a
place_once files (p ∷ ps) qs [] once a b = absurd a
place_once files (p ∷ ps) [] (x ∷ presumed) once a b = absurd b
place_once files (p ∷ ps) (q ∷ qs) (x ∷ presumed) once a b =
    let first = same_place p q (once.at p.file q.file x.file a.0.file b.0.file) (a.0.line ∙ sym b.0.line) in
    let rest = place_once files ps qs presumed once a.1 b.1 in
    cc

module _ (bytes : List ℕ) (tokens : List Token) (name : List ℕ) (places more : List Place) (files names : List (List ℕ))
    (a : ArePlacesOf bytes tokens name places files) (b : ArePlacesOf bytes tokens name more names) where
  same_says : a.says ≡ b.says
  same_says = says_once bytes tokens a.says b.says a.said b.said

  -- A text has one list of files.
  pub files_once : files ≡ names
  files_once = adds_once [] files names (name ∷ names_said b.says) (subst (λ s. AddsNames [] (name ∷ names_said s) files) same_says a.files_are) b.files_are

  none_twice : Once files
  none_twice = adds_once_each [] files (name ∷ names_said a.says) a.files_are (record { at = λ i j x h g. absurd (cc) })

  -- A text has one list of places.
  pub places_once : places ≡ more
  places_once =
      let these = subst (λ s. AllZip (IsPlaceOf files) places (presumed_places (first_presumption name) tokens s)) same_says a.places_are in
      let those = subst (λ f. AllZip (IsPlaceOf f) more (presumed_places (first_presumption name) tokens b.says)) (sym files_once) b.places_are in
      place_once files places more (presumed_places (first_presumption name) tokens b.says) none_twice these those
