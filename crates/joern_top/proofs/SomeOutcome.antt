-- The words and the held files have an outcome. That a comment is left open, and that tokens have a
-- tree, is not decided here, so it is shown that there cannot be none.
use Rattle.std.proofs.Common.{◌≡◌, ℕ, ◌<◌, ◌≤◌, ◌⊎◌, inl, inr, List, [], ◌∷◌, length, Option, Some, None, refl}
use Rattle.std.specs.List.{AllZip}
use Rattle.std.proofs.lemmas.Bool.{cases_lt}
use Rattle.joern_io.specs.Held.{Held, file_of}
use Rattle.c_lexer.specs.declared.source_text.TheConstants.{MAX_FILE_BYTES}
use Rattle.c_lexer.specs.declared.token.Token.{Token}
use Rattle.c_lexer.specs.declared.token.Kind.{Kind}
use Rattle.c_lexer.specs.declared.token.Kind.TheVariants as kind
use Rattle.c_lexer.specs.Reading.{AreTokensOf, Reads, StopsAt}
use Rattle.c_lexer.specs.Spelling.{Spells}
use Rattle.line_marks.specs.Presumed.{Presumed, Said, Says, first_presumption, presumed_places}
use Rattle.joern_top.specs.Words.{Command, Dump, command}
use Rattle.joern_top.specs.Source.{IsStrippedTo, ArePresumed}
use Rattle.joern_top.specs.Refusals.IsRefusedAt.{byte, unclosed, attribute, unbuilt}
use Rattle.joern_top.specs.Run.{Outcome, IsOutcome, IsCommandOutcome, IsFileOutcome, IsSourceOutcome, usage_outcome, read_fault_outcome, large_file_outcome}
use Rattle.joern_top.specs.Run.IsSourceOutcome.{refused, read}
use Rattle.joern_top.proofs.Fate.{Unique, Fate, fate}
use Rattle.joern_top.proofs.Fate.Fate.{stops, spoilt, stripped}

-- It cannot be that nothing has P.
abbrev pub CannotBeNone : (Outcome → Type 0) → Type 0
CannotBeNone P = ¬ ((o : Outcome) → ¬ P o)

-- A token says something: a line marker what stands in it, and any other nothing.
says_of_kind : (bytes : List ℕ) (token : Token) (kind : Kind) → token.kind ≡ kind → Spells bytes token.start token.end kind → (said : Option Said) × Says bytes token said
says_of_kind bytes token kind.Line is (line, file, marker) = (Some (record { line = line; file = file }), (is, marker))
says_of_kind bytes token kind.Word is spelled = (None, λ line. cc)
says_of_kind bytes token (kind.Key number) is spelled = (None, λ line. cc)
says_of_kind bytes token kind.Number is spelled = (None, λ line. cc)
says_of_kind bytes token kind.Char is spelled = (None, λ line. cc)
says_of_kind bytes token kind.Text is spelled = (None, λ line. cc)
says_of_kind bytes token (kind.Mark number) is spelled = (None, λ line. cc)
says_of_kind bytes token kind.Pragma is spelled = (None, λ line. cc)

-- So tokens do.
some_says : (bytes : List ℕ) (from to : ℕ) (tokens : List Token) → Reads bytes from tokens to → (says : List (Option Said)) × AllZip (Says bytes) tokens says
some_says bytes from to [] reads = ([], tt)
some_says bytes from to (token ∷ tokens) reads =
    let (says, said) = some_says bytes token.end to tokens reads.2 in
    let (one, is) = says_of_kind bytes token token.kind refl reads.1.longest.spelled in
    (one ∷ says, (is, said))

-- Tokens have places.
some_places : (name bytes : List ℕ) (tokens : List Token) → AreTokensOf bytes tokens → (places : List Presumed) × ArePresumed name bytes tokens places
some_places name bytes tokens lexed =
    let (says, said) = some_says bytes 0 (length bytes) tokens lexed in
    (presumed_places (first_presumption name) tokens says, record { says = says; said = said; are = refl })

-- Where the reading stops, something is left open or not.
outcome_at_stop : (name bytes : List ℕ) (at : ℕ) → StopsAt bytes at → CannotBeNone (IsSourceOutcome name bytes)
outcome_at_stop name bytes at stop = λ none.
    none _ (refused at _ (byte at stop (λ left. none _ (refused at _ (unclosed at stop left)))))

-- Where tokens are kept, they have a tree or not.
outcome_of_kept : (name bytes : List ℕ) (tokens : List Token) (kept : List ℕ) → IsStrippedTo bytes tokens kept → CannotBeNone (IsSourceOutcome name bytes)
outcome_of_kept name bytes tokens kept is = λ none.
    let (places, presumed) = some_places name bytes tokens is.lexed in
    none _ (refused 0 _ (unbuilt tokens kept is (λ unit parsed.
    none _ (read (record { tokens = tokens; kept = kept; places = places; unit = unit }) (record { stripped = is; presumed = presumed; parsed = parsed })))))

-- A source has an outcome.
some_source_outcome : (name bytes : List ℕ) → Fate bytes → CannotBeNone (IsSourceOutcome name bytes)
some_source_outcome name bytes (stops at stop) = outcome_at_stop name bytes at stop
some_source_outcome name bytes (spoilt tokens token bad) = λ none.
    none _ (refused token.start _ (attribute tokens bad.number token bad.lexed bad.stops bad.is))
some_source_outcome name bytes (stripped tokens kept is) = outcome_of_kept name bytes tokens kept is

-- A file has one, within the limit or past it.
some_outcome_of_bytes : Unique → (name bytes : List ℕ) → (MAX_FILE_BYTES < length bytes) ⊎ (length bytes ≤ MAX_FILE_BYTES) → CannotBeNone (IsFileOutcome name (Some bytes))
some_outcome_of_bytes unique name bytes (inl large) = λ none. none large_file_outcome (inl (large, refl))
some_outcome_of_bytes unique name bytes (inr small) = λ none.
    some_source_outcome name bytes (fate unique bytes) (λ o is. none o (inr (small, is)))

some_file_outcome : Unique → (name : List ℕ) (file : Option (List ℕ)) → CannotBeNone (IsFileOutcome name file)
some_file_outcome unique name None = λ none. none (read_fault_outcome name) refl
some_file_outcome unique name (Some bytes) = some_outcome_of_bytes unique name bytes (cases_lt MAX_FILE_BYTES (length bytes))

some_command_outcome : Unique → (c : Option Command) (held : Held) → CannotBeNone (IsCommandOutcome c held)
some_command_outcome unique None held = λ none. none usage_outcome refl
some_command_outcome unique (Some (Dump name)) held = some_file_outcome unique name (file_of held name)

pub some_outcome : Unique → (words : List (List ℕ)) (held : Held) → CannotBeNone (IsOutcome words held)
some_outcome unique words held = some_command_outcome unique (command words) held
