-- The words and the held files have one outcome.
use Rattle.std.proofs.Common.{◌≡◌, ℕ, ◌≤◌, inl, inr, List, [], ◌∷◌, length, Option, Some, None, refl, sym, ◌∙◌, ap, subst, arith}
use Rattle.std.specs.Prelude.{IsSome, IsOk, Result, Ok, Err, All, Contains}
use Rattle.std.specs.List.{AllZip}
use Rattle.joern_io.specs.Held.{Held, file_of}
use Rattle.c_lexer.specs.declared.source_text.TheConstants.{MAX_FILE_BYTES}
use Rattle.c_lexer.specs.declared.token.Token.{Token}
use Rattle.c_lexer.specs.Directives.{IsMarkerOf}
use Rattle.line_marks.specs.Presumed.{Presumed, Said, Says, first_presumption, presumed_places}
use Rattle.c_tree.specs.declared.tree.Unit.{Unit}
use Rattle.first_grammar.specs.FirstUnit.{IsFirstUnit}
use Rattle.line_marks.specs.Kept.{items_at}
use Rattle.cpg_schema.specs.Graph.{PlainGraph}
use Rattle.cpg_schema.specs.Sequence.{Cap}
use Rattle.joern_top.specs.declared.status.Status.TheVariants as status
use Rattle.joern_top.specs.Words.{Command, Dump, command, files_of}
use Rattle.joern_top.specs.Source.{Parts, ArePresumed, IsReadAs, IsAccepted, forest_of}
use Rattle.joern_top.specs.Graph.{built_alone}
use Rattle.joern_top.specs.Run.{Outcome, IsOutcome, IsCommandOutcome, IsFileOutcome, IsSourceOutcome, refused_outcome, built_outcome}
use Rattle.joern_top.specs.Run.IsSourceOutcome.{refused, read}
use Rattle.joern_top.specs.Headline.{IsReadable, CanAnswer}
use Rattle.joern_top.proofs.Fate.{Unique, one_stripping, one_refusal, never_refused}

-- What a marker says is one.
abbrev pub OneMarker : Type 0
OneMarker = (bytes : List ℕ) (from p q l m : ℕ) (f g : Option (List ℕ)) →
    IsMarkerOf bytes from p l f → IsMarkerOf bytes from q m g → (p ≡ q) × (l ≡ m) × (f ≡ g)

-- The tree of tokens is one.
abbrev pub OneUnit : Type 0
OneUnit = (bytes : List ℕ) (tokens : List Token) (first second : Unit) → IsFirstUnit bytes tokens first → IsFirstUnit bytes tokens second → first ≡ second

-- What a marker says, of its parts.
abbrev said_of : ℕ → Option (List ℕ) → Said
said_of line file = record { line = line; file = file }

-- A token says one thing.
said_once : OneMarker → (bytes : List ℕ) (token : Token) (x y : Option Said) → Says bytes token x → Says bytes token y → x ≡ y
said_once one_marker bytes token None None first second = refl
said_once one_marker bytes token None (Some y) first second = absurd (first second.0)
said_once one_marker bytes token (Some x) None first second = absurd (second first.0)
said_once one_marker bytes token (Some x) (Some y) first second =
    let same = one_marker bytes token.start token.end token.end x.line y.line x.file y.file first.1 second.1 in
    let line : x.line ≡ y.line = same.1 in
    let file : x.file ≡ y.file = same.2 in
    ap (λ line. Some (said_of line x.file)) line ∙ ap (λ file. Some (said_of y.line file)) file

-- Tokens say one list of things.
says_once : OneMarker → (bytes : List ℕ) (tokens : List Token) (xs ys : List (Option Said)) →
    AllZip (Says bytes) tokens xs → AllZip (Says bytes) tokens ys → xs ≡ ys
says_once one_marker bytes [] [] [] first second = refl
says_once one_marker bytes [] [] (y ∷ ys) first second = absurd second
says_once one_marker bytes [] (x ∷ xs) ys first second = absurd first
says_once one_marker bytes (token ∷ tokens) [] ys first second = absurd first
says_once one_marker bytes (token ∷ tokens) (x ∷ xs) [] first second = absurd second
says_once one_marker bytes (token ∷ tokens) (x ∷ xs) (y ∷ ys) (is, first) (also, second) =
    ap (λ z. z ∷ xs) (said_once one_marker bytes token x y is also) ∙ ap (λ zs. y ∷ zs) (says_once one_marker bytes tokens xs ys first second)

-- The places are one list.
one_places : OneMarker → (name bytes : List ℕ) (tokens : List Token) (xs ys : List Presumed) →
    ArePresumed name bytes tokens xs → ArePresumed name bytes tokens ys → xs ≡ ys
one_places one_marker name bytes tokens xs ys first second =
    let same = says_once one_marker bytes tokens first.says second.says first.said second.said in
    first.are ∙ ap (λ says. presumed_places (first_presumption name) tokens says) same ∙ sym second.are

-- The parts, of theirs.
abbrev parts_of : List Token → List ℕ → List Presumed → Unit → Parts
parts_of tokens kept places unit = record { tokens = tokens; kept = kept; places = places; unit = unit }

-- A source is read in one way.
one_reading : Unique → OneMarker → OneUnit → (name bytes : List ℕ) (x y : Parts) → IsReadAs name bytes x → IsReadAs name bytes y → x ≡ y
one_reading unique one_marker one_unit name bytes x y first second =
    let same = one_stripping unique bytes x.tokens y.tokens x.kept y.kept first.stripped second.stripped in
    let tokens : x.tokens ≡ y.tokens = same.0 in
    let kept : x.kept ≡ y.kept = same.1 in
    let P : List Token → Type 0 = λ t. ArePresumed name bytes t x.places in
    let places : x.places ≡ y.places = one_places one_marker name bytes y.tokens x.places y.places (subst P tokens first.presumed) second.presumed in
    let Q : List Token → Type 0 = λ t. IsFirstUnit bytes t x.unit in
    let kept_tokens : items_at x.tokens x.kept ≡ items_at y.tokens y.kept =
    ap (λ t. items_at t x.kept) tokens ∙ ap (λ k. items_at y.tokens k) kept in
    let unit : x.unit ≡ y.unit = one_unit bytes (items_at y.tokens y.kept) x.unit y.unit (subst Q kept_tokens first.parsed) second.parsed in
    ap (λ t. parts_of t x.kept x.places x.unit) tokens ∙ ap (λ k. parts_of y.tokens k x.places x.unit) kept
    ∙ ap (λ p. parts_of y.tokens y.kept p x.unit) places ∙ ap (λ u. parts_of y.tokens y.kept y.places u) unit

-- A source has one outcome.
one_source_outcome : Unique → OneMarker → OneUnit → (name bytes : List ℕ) (o p : Outcome) → IsSourceOutcome name bytes o → IsSourceOutcome name bytes p → o ≡ p
one_source_outcome unique marker tree name bytes o p (refused at why is) (refused also because again) =
    let same = one_refusal unique bytes at also why because is again in
    ap (λ at. refused_outcome name bytes at why) same.0 ∙ ap (λ why. refused_outcome name bytes also why) same.1
one_source_outcome unique marker tree name bytes o p (refused at why is) (read parts how) =
    absurd (never_refused unique bytes parts.tokens parts.kept parts.unit how.stripped how.parsed at why is)
one_source_outcome unique marker tree name bytes o p (read parts how) (refused at why is) =
    absurd (never_refused unique bytes parts.tokens parts.kept parts.unit how.stripped how.parsed at why is)
one_source_outcome unique marker tree name bytes o p (read parts how) (read others again) =
    ap (λ parts. built_outcome (built_alone (forest_of name bytes parts))) (one_reading unique marker tree name bytes parts others how again)

one_file_outcome : Unique → OneMarker → OneUnit → (name : List ℕ) (file : Option (List ℕ)) (o p : Outcome) → IsFileOutcome name file o → IsFileOutcome name file p → o ≡ p
one_file_outcome unique marker tree name None o p first second = first ∙ sym second
one_file_outcome unique marker tree name (Some bytes) o p (inl (large, first)) (inl (again, second)) = first ∙ sym second
one_file_outcome unique marker tree name (Some bytes) o p (inl (large, first)) (inr (small, second)) = absurd (omega arith)
one_file_outcome unique marker tree name (Some bytes) o p (inr (small, first)) (inl (large, second)) = absurd (omega arith)
one_file_outcome unique marker tree name (Some bytes) o p (inr (small, first)) (inr (again, second)) = one_source_outcome unique marker tree name bytes o p first second

one_command_outcome : Unique → OneMarker → OneUnit → (c : Option Command) (held : Held) (o p : Outcome) → IsCommandOutcome c held o → IsCommandOutcome c held p → o ≡ p
one_command_outcome unique marker tree None held o p first second = first ∙ sym second
one_command_outcome unique marker tree (Some (Dump name)) held o p first second = one_file_outcome unique marker tree name (file_of held name) o p first second

pub one_outcome : Unique → OneMarker → OneUnit → (words : List (List ℕ)) (held : Held) (o p : Outcome) → IsOutcome words held o → IsOutcome words held p → o ≡ p
one_outcome unique marker tree words held o p first second = one_command_outcome unique marker tree (command words) held o p first second

-- A graph that passes no cap is printed.
built_is_ok : (graph : Result PlainGraph Cap) → IsOk graph → (built_outcome graph).status ≡ status.Ok
built_is_ok (Ok graph) within = refl
built_is_ok (Err cap) within = absurd cc

-- The graph of a source of this name with these bytes passes no cap.
abbrev IsWithinCaps : List ℕ → List ℕ → Type 0
IsWithinCaps name bytes = (parts : Parts) → IsReadAs name bytes parts → IsOk (built_alone (forest_of name bytes parts))

-- The outcome for an accepted source.
accepted_source_is_ok : Unique → (name bytes : List ℕ) (o : Outcome) → IsAccepted bytes → IsWithinCaps name bytes → IsSourceOutcome name bytes o → o.status ≡ status.Ok
accepted_source_is_ok unique name bytes o can within (refused at why is) =
    absurd (never_refused unique bytes can.tokens can.kept can.unit can.stripped can.parsed at why is)
accepted_source_is_ok unique name bytes o can within (read parts is) = built_is_ok (built_alone (forest_of name bytes parts)) (within parts is)

-- The same, of a file within the limit.
accepted_is_ok : Unique → (name bytes : List ℕ) (o : Outcome) → length bytes ≤ MAX_FILE_BYTES → IsAccepted bytes → IsWithinCaps name bytes → IsFileOutcome name (Some bytes) o → o.status ≡ status.Ok
accepted_is_ok unique name bytes o small accepted within (inl (large, is)) = absurd (omega arith)
accepted_is_ok unique name bytes o small accepted within (inr (again, is)) = accepted_source_is_ok unique name bytes o accepted within is

command_is_ok : Unique → (c : Option Command) (held : Held) (o : Outcome) → IsSome c → All (IsReadable held) (files_of c) →
    ((name bytes : List ℕ) → Contains (files_of c) name → file_of held name ≡ Some bytes → IsAccepted bytes) →
    ((name bytes : List ℕ) (parts : Parts) → Contains (files_of c) name → file_of held name ≡ Some bytes → IsReadAs name bytes parts → IsOk (built_alone (forest_of name bytes parts))) →
    IsCommandOutcome c held o → o.status ≡ status.Ok
command_is_ok unique None held o commanded readable accepted within is = absurd cc
command_is_ok unique (Some (Dump name)) held o commanded readable accepted within is =
    let (bytes, there, small) : IsReadable held name = readable 0 [] (omega arith) in
    let Q : Option (List ℕ) → Type 0 = λ file. IsFileOutcome name file o in
    accepted_is_ok unique name bytes o small (accepted name bytes (0, omega arith, refl) there)
    (λ parts is. within name bytes parts (0, omega arith, refl) there is) (subst Q there is)

pub can_answer : Unique → (words : List (List ℕ)) (held : Held) (o : Outcome) → CanAnswer words held → IsOutcome words held o → o.status ≡ status.Ok
can_answer unique words held o can is = command_is_ok unique (command words) held o can.commanded can.readable can.accepted can.within_caps is
