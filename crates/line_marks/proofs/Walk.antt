-- The places of the tokens so far, and of one more.
use Rattle.std.proofs.Common.{◌≡◌, ℕ, ◌+◌, ◌-◌, List, [], ◌∷◌, ◌++◌, Option, Some, None, refl, ap, sym, subst, ◌∙◌}
use Rattle.std.specs.List.{AllZip, slice_get}
use Rattle.std.specs.Option.{MatchOption, unwrap_or}
use Rattle.std.proofs.lemmas.Grind.{flat_map-append}
use Rattle.std.proofs.lemmas.List.{append-nil}
use Rattle.c_lexer.specs.declared.token.Token.{Token}
use Rattle.c_lexer.specs.declared.token.Kind.TheVariants.{Line}
use Rattle.line_marks.specs.declared.place.Place.{Place}
use Rattle.line_marks.specs.declared.place.Presumption.{Presumption as Kept}
use Rattle.line_marks.specs.Naming.{IsBehind, names_of}
use Rattle.line_marks.specs.declared.file_names.FileNames.{FileNames}
use Rattle.line_marks.specs.Presumed.{AddsNames, IsPlaceOf, Presumed, Presumption, Said, Says, behind, first_presumption, name_said, names_said, presumed_at, presumed_places}
use Rattle.line_marks.proofs.Names.{adds_append, adds_keep}

-- What is presumed behind all the tokens.
abbrev pub behind_all : Presumption → List Token → List (Option Said) → Presumption
behind_all before (token ∷ tokens) (said ∷ says) = behind_all (behind before token said) tokens says
behind_all before _ _ = before

-- The tokens so far have these places, and the files and the presumption behind them are these.
pub record Walked (bytes name : List ℕ) (tokens : List Token) (places : List Place) (files : List (List ℕ)) (file from line : ℕ) : Type 0 where
  pub says : List (Option Said)
  pub said : AllZip (Says bytes) tokens says
  pub files_are : AddsNames [] (name ∷ names_said says) files
  pub places_are : AllZip (IsPlaceOf files) places (presumed_places (first_presumption name) tokens says)
  pub file_is : slice_get files file ≡ Some (behind_all (first_presumption name) tokens says).file
  pub from_is : from ≡ (behind_all (first_presumption name) tokens says).from
  pub line_is : line ≡ (behind_all (first_presumption name) tokens says).line

zip_push : {A B : Type 0} (R : A → B → Type 0) (xs : List A) (ys : List B) (x : A) (y : B) → AllZip R xs ys → R x y → AllZip R (xs ++ x ∷ []) (ys ++ y ∷ [])
zip_push R [] [] x y h r = (r, tt)
zip_push R [] (v ∷ ys) x y h r = absurd h
zip_push R (u ∷ xs) [] x y h r = absurd h
zip_push R (u ∷ xs) (v ∷ ys) x y h r = (h.0, zip_push R xs ys x y h.1 r)

zip_map : {A B : Type 0} (R S : A → B → Type 0) (f : (x : A) (y : B) → R x y → S x y) (xs : List A) (ys : List B) → AllZip R xs ys → AllZip S xs ys
zip_map R S f [] [] h = tt
zip_map R S f [] (v ∷ ys) h = absurd h
zip_map R S f (u ∷ xs) [] h = absurd h
zip_map R S f (u ∷ xs) (v ∷ ys) h = (f u v h.0, zip_map R S f xs ys h.1)

module _ (bytes : List ℕ) (token : Token) (said : Option Said) where
  places_push : (p : Presumption) (tokens : List Token) (says : List (Option Said)) → AllZip (Says bytes) tokens says →
      presumed_places p (tokens ++ token ∷ []) (says ++ said ∷ []) ≡ presumed_places p tokens says ++ presumed_at (behind_all p tokens says) token ∷ []
  places_push p [] [] h = refl
  places_push p [] (v ∷ says) h = absurd h
  places_push p (u ∷ tokens) [] h = absurd h
  places_push p (u ∷ tokens) (v ∷ says) h = ap (λ rest. presumed_at p u ∷ rest) (places_push (behind p u v) tokens says h.1)

  behind_push : (p : Presumption) (tokens : List Token) (says : List (Option Said)) → AllZip (Says bytes) tokens says →
      behind_all p (tokens ++ token ∷ []) (says ++ said ∷ []) ≡ behind (behind_all p tokens says) token said
  behind_push p [] [] h = refl
  behind_push p [] (v ∷ says) h = absurd h
  behind_push p (u ∷ tokens) [] h = absurd h
  behind_push p (u ∷ tokens) (v ∷ says) h = behind_push (behind p u v) tokens says h.1

names_push : (says : List (Option Said)) (said : Option Said) → names_said (says ++ said ∷ []) ≡ names_said says ++ name_said said
names_push says said = flat_map-append name_said says (said ∷ []) ∙ ap (λ names. names_said says ++ names) (append-nil (name_said said))

-- Nothing is walked at first.
pub walked_none : (bytes name : List ℕ) (files : List (List ℕ)) (file : ℕ) → AddsNames [] (name ∷ []) files → slice_get files file ≡ Some name → Walked bytes name [] [] files file 1 1
walked_none bytes name files file added here = record {
  says = [];
  said = tt;
  files_are = added;
  places_are = tt;
  file_is = here;
  from_is = refl;
  line_is = refl;
}

-- One more token.
walked_more : (bytes name : List ℕ) (tokens : List Token) (places : List Place) (files more : List (List ℕ)) (file from line file2 from2 line2 : ℕ)
    (token : Token) (said : Option Said) (place : Place) → (w : Walked bytes name tokens places files file from line) → Says bytes token said → AddsNames files (name_said said) more →
    place.file ≡ file → place.line ≡ line + (token.line - from) →
    slice_get more file2 ≡ Some (behind (behind_all (first_presumption name) tokens w.says) token said).file →
    from2 ≡ (behind (behind_all (first_presumption name) tokens w.says) token said).from →
    line2 ≡ (behind (behind_all (first_presumption name) tokens w.says) token said).line →
    Walked bytes name (tokens ++ token ∷ []) (places ++ place ∷ []) more file2 from2 line2
walked_more bytes name tokens places files more file from line file2 from2 line2 token said place w says added at_file at_line file_now from_now line_now =
    let first = first_presumption name in
    let p = behind_all first tokens w.says in
    let here : IsPlaceOf files place (presumed_at p token) = record {
      file = ap (slice_get files) at_file ∙ w.file_is;
      line = at_line ∙ (ap (λ n. n + (token.line - from)) w.line_is ∙ ap (λ n. p.line + (token.line - n)) w.from_is);
    } in
    let stays : (x : Place) (y : Presumed) → IsPlaceOf files x y → IsPlaceOf more x y = λ x y h. record { file = adds_keep files more (name_said said) x.file y.file added h.file; line = h.line } in
    let all = zip_push (IsPlaceOf more) places (presumed_places first tokens w.says) place (presumed_at p token)
    (zip_map (IsPlaceOf files) (IsPlaceOf more) stays places (presumed_places first tokens w.says) w.places_are) (stays place (presumed_at p token) here) in
    let last = behind_push bytes token said first tokens w.says w.said in
    record {
      says = w.says ++ said ∷ [];
      said = zip_push (Says bytes) tokens w.says token said w.said says;
      files_are = subst (λ names. AddsNames [] (name ∷ names) more) (sym (names_push w.says said)) (adds_append [] files more (name ∷ names_said w.says) (name_said said) w.files_are added);
      places_are = subst (λ ps. AllZip (IsPlaceOf more) (places ++ place ∷ []) ps) (sym (places_push bytes token said first tokens w.says w.said)) all;
      file_is = file_now ∙ ap (λ (q : Presumption). Some q.file) (sym last);
      from_is = from_now ∙ ap (λ (q : Presumption). q.from) (sym last);
      line_is = line_now ∙ ap (λ (q : Presumption). q.line) (sym last);
    }

-- One more token that is no line marker.
pub walked_other : (bytes name : List ℕ) (tokens : List Token) (places : List Place) (files : List (List ℕ)) (file from line : ℕ) (token : Token) (place : Place) →
    Walked bytes name tokens places files file from line → (token.kind ≡ Line → ⊥) → place.file ≡ file → place.line ≡ line + (token.line - from) →
    Walked bytes name (tokens ++ token ∷ []) (places ++ place ∷ []) files file from line
walked_other bytes name tokens places files file from line token place w other at_file at_line =
    walked_more bytes name tokens places files files file from line file from line token None place w other AddsNames.none at_file at_line w.file_is w.from_is w.line_is

-- The name of the file behind a marker.
file_behind : (files more names : List (List ℕ)) (before after : ℕ) (o : Option (List ℕ)) (old : List ℕ) → AddsNames files names more → slice_get files before ≡ Some old →
    MatchOption o (after ≡ before) (λ name. slice_get more after ≡ Some name) → slice_get more after ≡ Some (unwrap_or o old)
file_behind files more names before after None old added here same = ap (slice_get more) same ∙ adds_keep files more names before old added here
file_behind files more names before after (Some name) old added here found = found

-- One more token that is a line marker.
pub walked_marker : (bytes name : List ℕ) (tokens : List Token) (places : List Place) (files more : FileNames) (before after : Kept) (token : Token) (place : Place) →
    Walked bytes name tokens places (names_of files) before.file before.from before.line → token.kind ≡ Line → IsBehind bytes token (names_of files) (names_of more) before after →
    place.file ≡ before.file → place.line ≡ before.line + (token.line - before.from) →
    Walked bytes name (tokens ++ token ∷ []) (places ++ place ∷ []) (names_of more) after.file after.from after.line
walked_marker bytes name tokens places files more before after token place w marker b at_file at_line =
    let p = behind_all (first_presumption name) tokens w.says in
    walked_more bytes name tokens places (names_of files) (names_of more) before.file before.from before.line after.file after.from after.line token (Some b.said) place w (marker, b.marker) b.added at_file at_line
    (file_behind (names_of files) (names_of more) (name_said (Some b.said)) before.file after.file b.said.file p.file b.added w.file_is b.file) b.from b.line

-- The same, of other names for the parts.
pub walked_as : (bytes name : List ℕ) (tokens ts : List Token) (places ps : List Place) (files fs : List (List ℕ)) (before after : Kept) →
    Walked bytes name tokens places files before.file before.from before.line → ts ≡ tokens → ps ≡ places → fs ≡ files → after ≡ before →
    Walked bytes name ts ps fs after.file after.from after.line
walked_as bytes name tokens ts places ps files fs before after w a b c e =
    subst (λ (k : Kept). Walked bytes name ts ps fs k.file k.from k.line) (sym e)
    (subst (λ x. Walked bytes name ts ps x before.file before.from before.line) (sym c)
    (subst (λ x. Walked bytes name ts x files before.file before.from before.line) (sym b)
    (subst (λ x. Walked bytes name x places files before.file before.from before.line) (sym a) w)))
