-- What is held of a source is what it is read as: the places are the presumed ones.
use Rattle.std.proofs.Common.{◌≡◌, ℕ, List, [], ◌∷◌, Option, refl, sym, ◌∙◌, ap, map}
use Rattle.std.specs.Option.{unwrap_or}
use Rattle.std.specs.List.{AllZip}
use Rattle.c_lexer.specs.declared.token.Token.{Token}
use Rattle.c_lexer.specs.Reading.{AreTokensOf}
use Rattle.line_marks.specs.declared.place.Place.{Place}
use Rattle.line_marks.specs.Kept.{AreKept, items_at}
use Rattle.line_marks.specs.Presumed.{Presumed, ArePlacesOf, IsPlaceOf, first_presumption, presumed_places}
use Rattle.line_marks.proofs.ItemsAt.{map-items_at}
use Rattle.c_tree.specs.declared.tree.Unit.{Unit}
use Rattle.first_grammar.specs.FirstUnit.{IsFirstUnit}
use Rattle.graph_forest.specs.Forest.{Forest}
use Rattle.ast_layer.specs.declared.source.Source.{Source}
use Rattle.ast_layer.specs.Source.{file, presumed_of}
use Rattle.ast_layer.specs.Forests.{file_forest}
use Rattle.joern_top.specs.Reading.{IsReadSource}

-- A presumed place, of its parts.
abbrev presumed : List ℕ → ℕ → Presumed
presumed file line = record { file = file; line = line }

-- A place stands for one presumed place.
stands_for : (files : List (List ℕ)) (place : Place) (at : Presumed) → IsPlaceOf files place at → presumed_of files place ≡ at
stands_for files place at is =
    ap (λ (name : Option (List ℕ)). presumed (unwrap_or name []) place.line) is.file ∙ ap (λ line. presumed at.file line) is.line

-- Places stand for one list of presumed places.
stand_for : (files : List (List ℕ)) (places : List Place) (ats : List Presumed) → AllZip (IsPlaceOf files) places ats → map (presumed_of files) places ≡ ats
stand_for files [] [] are = refl
stand_for files [] (at ∷ ats) are = absurd are
stand_for files (place ∷ places) [] are = absurd are
stand_for files (place ∷ places) (at ∷ ats) (is, are) =
    ap (λ first. first ∷ map (presumed_of files) places) (stands_for files place at is) ∙ ap (λ rest. at ∷ rest) (stand_for files places ats are)

-- What is held of a source of this name with these bytes.
pub record Holds (name bytes : List ℕ) (source : Source) : Type 0 where
  pub named : source.name ≡ name
  pub whole : source.bytes ≡ bytes
  pub lexed : AreTokensOf bytes source.tokens
  pub stripped : AreKept source.tokens source.kept
  pub places : ArePlacesOf bytes source.tokens name source.places.places source.places.files
  pub parsed : IsFirstUnit bytes (items_at source.tokens source.kept) source.unit

-- The forest of a tree over these tokens with these places.
abbrev forest_with : Unit → List Token → List ℕ → List ℕ → List Presumed → Forest
forest_with unit tokens name bytes places = file_forest (file name bytes tokens places) unit

-- That is what it is read as.
pub read_source_is : (name bytes : List ℕ) (source : Source) → Holds name bytes source → IsReadSource name bytes source
read_source_is name bytes source holds =
    let kept = source.kept in
    let files = source.places.files in
    let places = source.places.places in
    let ats = presumed_places (first_presumption name) source.tokens holds.places.says in
    let all : map (presumed_of files) places ≡ ats = stand_for files places ats holds.places.places_are in
    let shown = map (presumed_of files) (items_at places kept) in
    let same : shown ≡ items_at ats kept =
    map-items_at (presumed_of files) places kept ∙ ap (λ places. items_at places kept) all in
    let forest = forest_with source.unit (items_at source.tokens kept) in
    record {
      parts = record { tokens = source.tokens; kept = kept; places = ats; unit = source.unit };
      is = record {
        stripped = record { lexed = holds.lexed; stripped = holds.stripped };
        presumed = record { says = holds.places.says; said = holds.places.said; are = refl };
        parsed = holds.parsed;
      };
      forest = ap (λ name. forest name source.bytes shown) holds.named ∙ ap (λ bytes. forest name bytes shown) holds.whole
          ∙ ap (λ places. forest name bytes places) same;
    }
