-- What the parts of the lexer find at an offset.

use Rattle.std.specs.Prelude.{ℕ, ◌≡◌, ◌⊎◌, ◌<◌, ◌≤◌, List, Option, Some, None, length, slice_index}
use Rattle.std.specs.Borrow.{Bor}
use Rattle.c_lexer.specs.declared.token.Kind.{Kind}
use Rattle.c_lexer.specs.declared.token.Kind.TheVariants.{Char, Text, Line, Pragma}
use Rattle.c_lexer.specs.declared.token.FoundToken.{FoundToken}
use Rattle.c_lexer.specs.declared.mark.FoundMark.{FoundMark}
use Rattle.c_lexer.specs.declared.marker.FoundFile.{FoundFile}
use Rattle.c_lexer.specs.declared.marker.FoundLine.{FoundLine}
use Rattle.c_lexer.specs.declared.marker.FoundMarker.{FoundMarker}
use Rattle.c_lexer.specs.declared.marker.Marker.{Marker}
use Rattle.c_lexer.specs.Bytes.{double_quote, IsDigit, IsLineBlank}
use Rattle.c_lexer.specs.Literals.{IsQuoted}
use Rattle.c_lexer.specs.Marks.{IsMarkAt}
use Rattle.c_lexer.specs.Directives.{IsFilePart, IsGap, IsLineNumber, IsMarkerOf}
use Rattle.c_lexer.specs.Reading.{IsLongest}
use Rattle.c_lexer.specs.Spelling.{Spells}

-- A literal, or a line that begins with `#`.
abbrev pub IsLiteralKind : Kind → Type 0
IsLiteralKind kind = (kind ≡ Char) ⊎ (kind ≡ Text)

abbrev pub IsDirectiveKind : Kind → Type 0
IsDirectiveKind kind = (kind ≡ Line) ⊎ (kind ≡ Pragma)

-- The token is the longest at the offset.
abbrev pub IsLongestToken : List ℕ → ℕ → FoundToken → Type 0
IsLongestToken bytes at token = IsLongest bytes at token.end token.kind

-- The token is a literal that stands at the offset.
pub record IsLiteralAt (bytes : List ℕ) (at : ℕ) (token : FoundToken) : Type 0 where
  pub is : IsLiteralKind token.kind
  pub within : token.end ≤ length bytes
  pub spelled : Spells bytes at token.end token.kind

-- The same, of a line that begins with `#`.
pub record IsDirectiveAt (bytes : List ℕ) (at : ℕ) (token : FoundToken) : Type 0 where
  pub is : IsDirectiveKind token.kind
  pub within : token.end ≤ length bytes
  pub spelled : Spells bytes at token.end token.kind

-- The quotes that open at the one offset are closed at the other.
pub record ClosesQuotes (bytes : List ℕ) (opening closing : ℕ) : Type 0 where
  pub within : closing < length bytes
  pub quoted : IsQuoted bytes (slice_index bytes opening) opening closing

-- The mark is the longest at the offset.
pub record IsLongestMark (bytes : List ℕ) (at : ℕ) (mark : FoundMark) : Type 0 where
  pub some : at < mark.end
  pub within : mark.end ≤ length bytes
  pub spelled : IsMarkAt bytes at mark.end mark.number
  pub longest : (number past : ℕ) → mark.end < past → past ≤ length bytes →
      ¬ IsMarkAt bytes at past number

-- What may be the second byte of a mark: `%`, `&`, `+`, `-`, `.`, `:`, `<`, `=`, `>` or `|`.
abbrev pub IsSecond : ℕ → Type 0
IsSecond byte =
    (byte ≡ 37) ⊎ (byte ≡ 38) ⊎ (byte ≡ 43) ⊎ (byte ≡ 45) ⊎ (byte ≡ 46) ⊎ (byte ≡ 58) ⊎ (byte ≡ 60)
    ⊎ (byte ≡ 61) ⊎ (byte ≡ 62) ⊎ (byte ≡ 124)

-- The gap is the longest from `from` on.
pub record EndsGap (bytes : List ℕ) (from to : ℕ) : Type 0 where
  pub within : to ≤ length bytes
  pub gap : IsGap bytes from to
  pub ends : to < length bytes → ¬ IsLineBlank (slice_index bytes to)

-- The number of a line stands there, up to where no digit does.
pub record IsLineNumberAt (bytes : List ℕ) (from : ℕ) (found : FoundLine) : Type 0 where
  pub within : found.end ≤ length bytes
  pub ends : found.end < length bytes → ¬ IsDigit (slice_index bytes found.end)
  pub number : IsLineNumber bytes from found.end found.line

-- A gap and a digit from 1 to 4 stand there.
pub record BeginsFlag (bytes : List ℕ) (from : ℕ) : Type 0 where
  pub digit : ℕ
  pub inside : digit < length bytes
  pub gap : IsGap bytes from digit
  pub low : 49 ≤ slice_index bytes digit
  pub high : slice_index bytes digit ≤ 52

-- The name of the file in a marker that was read.
abbrev pub name_of : Option (Bor (List ℕ)) → Option (List ℕ)
name_of None = None
name_of (Some name) = Some name.now

abbrev pub file_of : Marker → Option (List ℕ)
file_of marker = name_of marker.file

-- A gap and a quote stand there.
pub record BeginsName (bytes : List ℕ) (from : ℕ) : Type 0 where
  pub opening : ℕ
  pub gap : IsGap bytes from opening
  pub quote : slice_index bytes opening ≡ double_quote

-- The name of a file stands there, or nothing where none begins.
pub record IsFileAt (bytes : List ℕ) (from : ℕ) (found : FoundFile) : Type 0 where
  pub within : found.end ≤ length bytes
  pub part : IsFilePart bytes from found.end (name_of found.name)
  pub none : found.name ≡ None → ¬ BeginsName bytes from

-- The line marker stands there.
pub record IsMarkerAt (bytes : List ℕ) (from : ℕ) (found : FoundMarker) : Type 0 where
  pub within : found.end ≤ length bytes
  pub marker : IsMarkerOf bytes from found.end found.marker.line (file_of found.marker)

-- A text and an offset in it.
pub record Point : Type 0 where
  pub bytes : List ℕ
  pub at : ℕ

abbrev pub point : List ℕ → ℕ → Point
point bytes at = record { bytes = bytes; at = at }
