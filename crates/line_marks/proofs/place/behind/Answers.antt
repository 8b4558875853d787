use Rattle.std.proofs.Common.{ℕ, ◌≡◌, ◌+◌, [], List, Option, Some, None, refl, sym, subst, ap}
use Rattle.std.specs.Borrow.{Bor}
use Rattle.c_lexer.specs.Directives.{IsMarkerOf}
use Rattle.c_lexer.specs.Scanning.{name_of}
use Rattle.c_lexer.specs.declared.token.Token.{Token}
use Rattle.line_marks.specs.declared.place.Presumption.{Presumption}
use Rattle.line_marks.specs.Naming.{IsBehind, Mentions, names_of}
use Rattle.line_marks.specs.Presumed.{AddsNames}
use Rattle.line_marks.proofs.place.behind.Goals as goal
use Rattle.line_marks.proofs.place.behind.Goals.{in-Some+in_ok-file-in-Some, in-None}

module _ (bytes : List ℕ) (token : Token) (files more : List (List ℕ)) (before : Presumption) (file line : ℕ) (said : Option (Bor (List ℕ)))
    (marker : IsMarkerOf bytes token.start token.end line (name_of said)) where
  with_name : (name : Bor (List ℕ)) → said ≡ Some name → Mentions files more name.now file →
      IsBehind bytes token files more before (record { file = file; from = token.line + 1; line = line })
  with_name name e mentions = record {
    said = record { line = line; file = Some name.now };
    marker = subst (λ (o : Option (Bor (List ℕ))). IsMarkerOf bytes token.start token.end line (name_of o)) e marker;
    added = mentions.added;
    file = mentions.stands;
    from = refl;
    line = refl;
    small = marker.line_number.small;
  }

  without_name : said ≡ None → more ≡ files → file ≡ before.file →
      IsBehind bytes token files more before (record { file = file; from = token.line + 1; line = line })
  without_name e same kept = record {
    said = record { line = line; file = None };
    marker = subst (λ (o : Option (Bor (List ℕ))). IsMarkerOf bytes token.start token.end line (name_of o)) e marker;
    added = subst (λ names. AddsNames files [] names) (sym same) AddsNames.none;
    file = kept;
    from = refl;
    line = refl;
    small = marker.line_number.small;
  }

pub returns : goal.returns
returns c =
    let bytes = c.args.text.bytes.now in
    let token = c.args.token.now in
    let files = names_of c.args.files.now in
    let more = names_of c.match-marker.files in
    let marker = c.marker_of-marker.ensures in
    elim c.match-marker.branch [
      | in-Some+in_ok-file-in-Some w ↦
          let names = sym (ap (λ set. names_of set) w.files-is) in
          let mentions = subst (λ n. Mentions files more w.in-Some.name.now n) (sym w.file-is)
          (subst (λ set. Mentions files set w.in-Some.name.now w.in_ok-file-in-Some.file) names w.in_ok-file-in-Some.ensures) in
          with_name bytes token files more c.args.before c.match-marker.file c.marker_of-marker.result.line c.marker_of-marker.result.file marker
          w.in-Some.name w.in-Some.is mentions
      | in-None w ↦
          without_name bytes token files more c.args.before c.match-marker.file c.marker_of-marker.result.line c.marker_of-marker.result.file marker
          w.in-None.is (ap (λ set. names_of set) w.files-is) w.file-is
    ]
