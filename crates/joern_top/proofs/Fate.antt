-- What becomes of a text: its reading stops, or the dropping of tokens stops, or the tokens that are
-- kept for the parser are there.
use Rattle.std.proofs.Common.{◌≡◌, ℕ, ◌<◌, ◌⊎◌, inl, inr, List, length, Option, Some, None, refl, sym, ◌∙◌, ap, subst}
use Rattle.std.specs.Prelude.{slice_get}
use Rattle.std.proofs.lemmas.Option.{same_Some, slice_get_within}
use Rattle.c_lexer.specs.declared.token.Token.{Token}
use Rattle.c_lexer.specs.Reading.{AreTokensOf, StopsAt, LeavesOpen}
use Rattle.line_marks.specs.Balance.{kind_at}
use Rattle.line_marks.specs.Kept.{AreKept, StopsStripping, items_at}
use Rattle.c_tree.specs.declared.tree.Unit.{Unit}
use Rattle.first_grammar.specs.FirstUnit.{IsFirstUnit}
use Rattle.joern_top.specs.declared.status.Reason.{Reason}
use Rattle.joern_top.specs.declared.status.Reason.TheVariants as reason
use Rattle.joern_top.specs.Source.{IsStrippedTo}
use Rattle.joern_top.specs.Refusals.{IsRefusedAt}
use Rattle.joern_top.specs.Refusals.IsRefusedAt.{byte, unclosed, attribute, unbuilt}

-- A text has tokens or a stop, and tokens are stripped or stop the stripping: one of the two, and in
-- one way.
pub record Unique : Type 0 where
  pub reading : (bytes : List ℕ) → ((tokens : List Token) × AreTokensOf bytes tokens) ⊎ ((at : ℕ) × StopsAt bytes at)
  pub tokens : (bytes : List ℕ) (first second : List Token) → AreTokensOf bytes first → AreTokensOf bytes second → first ≡ second
  pub stop : (bytes : List ℕ) (first second : ℕ) → StopsAt bytes first → StopsAt bytes second → first ≡ second
  pub tokens_or_stop : (bytes : List ℕ) (tokens : List Token) (at : ℕ) → AreTokensOf bytes tokens → ¬ StopsAt bytes at
  pub stripping : (tokens : List Token) → ((kept : List ℕ) × AreKept tokens kept) ⊎ ((at : ℕ) × StopsStripping tokens at)
  pub kept : (tokens : List Token) (first second : List ℕ) → AreKept tokens first → AreKept tokens second → first ≡ second
  pub bad : (tokens : List Token) (first second : ℕ) → StopsStripping tokens first → StopsStripping tokens second → first ≡ second
  pub kept_or_bad : (tokens : List Token) (kept : List ℕ) (bad : ℕ) → AreKept tokens kept → ¬ StopsStripping tokens bad

-- The token of a number at which the stripping stops.
pub record IsBadToken (bytes : List ℕ) (tokens : List Token) (token : Token) : Type 0 where
  pub number : ℕ
  pub lexed : AreTokensOf bytes tokens
  pub stops : StopsStripping tokens number
  pub is : slice_get tokens number ≡ Some token

pub data Fate (bytes : List ℕ) : Type 0 where
  stops : (at : ℕ) → StopsAt bytes at → Fate bytes
  spoilt : (tokens : List Token) (token : Token) → IsBadToken bytes tokens token → Fate bytes
  stripped : (tokens : List Token) (kept : List ℕ) → IsStrippedTo bytes tokens kept → Fate bytes

-- What has a kind is a token.
has_token : (tokens : List Token) (at : ℕ) (found : Option Token) → slice_get tokens at ≡ found → (kind : _) → kind_at tokens at ≡ Some kind →
    (token : Token) × (slice_get tokens at ≡ Some token)
unfolding kind_at
has_token tokens at None is kind has = absurd cc
has_token tokens at (Some token) is kind has = (token, is)

-- The bad token is there.
pub bad_within : (tokens : List Token) (at : ℕ) → StopsStripping tokens at → at < length tokens
bad_within tokens at stop =
    let (token, is) = has_token tokens at (slice_get tokens at) refl _ stop.bad.word in
    slice_get_within tokens at token is

fate_of_tokens : (bytes : List ℕ) (tokens : List Token) → AreTokensOf bytes tokens →
    ((kept : List ℕ) × AreKept tokens kept) ⊎ ((at : ℕ) × StopsStripping tokens at) → Fate bytes
fate_of_tokens bytes tokens lexed (inl (kept, are)) = stripped tokens kept (record { lexed = lexed; stripped = are })
fate_of_tokens bytes tokens lexed (inr (number, stop)) =
    let (token, is) = has_token tokens number (slice_get tokens number) refl _ stop.bad.word in
    spoilt tokens token (record { number = number; lexed = lexed; stops = stop; is = is })

fate_of_reading : Unique → (bytes : List ℕ) → ((tokens : List Token) × AreTokensOf bytes tokens) ⊎ ((at : ℕ) × StopsAt bytes at) → Fate bytes
fate_of_reading unique bytes (inl (tokens, lexed)) = fate_of_tokens bytes tokens lexed (unique.stripping tokens)
fate_of_reading unique bytes (inr (at, stop)) = stops at stop

pub fate : Unique → (bytes : List ℕ) → Fate bytes
fate unique bytes = fate_of_reading unique bytes (unique.reading bytes)

-- A text is stripped in one way.
pub one_stripping : Unique → (bytes : List ℕ) (tokens others : List Token) (kept also : List ℕ) →
    IsStrippedTo bytes tokens kept → IsStrippedTo bytes others also → (tokens ≡ others) × (kept ≡ also)
one_stripping unique bytes tokens others kept also first second =
    let same : tokens ≡ others = unique.tokens bytes tokens others first.lexed second.lexed in
    let P : List Token → Type 0 = λ t. AreKept t kept in
    (same, unique.kept others kept also (subst P same first.stripped) second.stripped)

-- The bad token of a text is one.
one_bad_token : Unique → (bytes : List ℕ) (tokens others : List Token) (token other : Token) →
    IsBadToken bytes tokens token → IsBadToken bytes others other → token ≡ other
one_bad_token unique bytes tokens others token other first second =
    let same : tokens ≡ others = unique.tokens bytes tokens others first.lexed second.lexed in
    let P : List Token → Type 0 = λ t. StopsStripping t first.number in
    let at : first.number ≡ second.number = unique.bad others first.number second.number (subst P same first.stops) second.stops in
    same_Some token other (sym first.is ∙ ap (λ t. slice_get t first.number) same ∙ ap (λ n. slice_get others n) at ∙ second.is)

-- Tokens are kept, or one of them is bad.
never_both : Unique → (bytes : List ℕ) (tokens others : List Token) (kept : List ℕ) (token : Token) →
    IsStrippedTo bytes tokens kept → ¬ IsBadToken bytes others token
never_both unique bytes tokens others kept token first second =
    let same : others ≡ tokens = unique.tokens bytes others tokens second.lexed first.lexed in
    let P : List Token → Type 0 = λ t. StopsStripping t second.number in
    unique.kept_or_bad tokens kept second.number first.stripped (subst P same second.stops)

-- A refusal, as it is where the reading stops there.
data AtStop (bytes : List ℕ) (stop : ℕ) : ℕ → Reason → Type 0 where
  closed : ¬ LeavesOpen bytes stop → AtStop bytes stop stop reason.Byte
  open_there : LeavesOpen bytes stop → AtStop bytes stop stop reason.Unclosed

-- Where the reading stops, that is why.
refused_at_stop : Unique → (bytes : List ℕ) (stop : ℕ) → StopsAt bytes stop → (at : ℕ) (why : Reason) → IsRefusedAt bytes at why → AtStop bytes stop at why
refused_at_stop unique bytes stop there at why (byte also here none) =
    let P : ℕ → Type 0 = λ stop. AtStop bytes stop also reason.Byte in
    subst P (unique.stop bytes also stop here there) (closed none)
refused_at_stop unique bytes stop there at why (unclosed also here left) =
    let P : ℕ → Type 0 = λ stop. AtStop bytes stop also reason.Unclosed in
    subst P (unique.stop bytes also stop here there) (open_there left)
refused_at_stop unique bytes stop there at why (attribute tokens number token lexed bad is) =
    absurd (unique.tokens_or_stop bytes tokens stop lexed there)
refused_at_stop unique bytes stop there at why (unbuilt tokens kept is none) =
    absurd (unique.tokens_or_stop bytes tokens stop is.lexed there)

-- Where the stripping stops, that is why.
refused_at_bad_token : Unique → (bytes : List ℕ) (tokens : List Token) (bad : Token) → IsBadToken bytes tokens bad →
    (at : ℕ) (why : Reason) → IsRefusedAt bytes at why → (at ≡ bad.start) × (why ≡ reason.Attribute)
refused_at_bad_token unique bytes tokens bad there at why (byte also here none) =
    absurd (unique.tokens_or_stop bytes tokens also there.lexed here)
refused_at_bad_token unique bytes tokens bad there at why (unclosed also here left) =
    absurd (unique.tokens_or_stop bytes tokens also there.lexed here)
refused_at_bad_token unique bytes tokens bad there at why (attribute others number token lexed stop is) =
    let same = one_bad_token unique bytes others tokens token bad (record { number = number; lexed = lexed; stops = stop; is = is }) there in
    (ap (λ (token : Token). token.start) same, refl)
refused_at_bad_token unique bytes tokens bad there at why (unbuilt others kept is none) =
    absurd (never_both unique bytes others tokens kept bad is there)

-- Where tokens are kept, they have no tree.
refused_at_tree : Unique → (bytes : List ℕ) (tokens : List Token) (kept : List ℕ) → IsStrippedTo bytes tokens kept →
    (at : ℕ) (why : Reason) → IsRefusedAt bytes at why →
    (at ≡ 0) × (why ≡ reason.Unbuilt) × ((unit : Unit) → ¬ IsFirstUnit bytes (items_at tokens kept) unit)
refused_at_tree unique bytes tokens kept there at why (byte also here none) =
    absurd (unique.tokens_or_stop bytes tokens also there.lexed here)
refused_at_tree unique bytes tokens kept there at why (unclosed also here left) =
    absurd (unique.tokens_or_stop bytes tokens also there.lexed here)
refused_at_tree unique bytes tokens kept there at why (attribute others number token lexed stop is) =
    absurd (never_both unique bytes tokens others kept token there (record { number = number; lexed = lexed; stops = stop; is = is }))
refused_at_tree unique bytes tokens kept there at why (unbuilt others also is none) =
    let same = one_stripping unique bytes others tokens also kept is there in
    let P : List Token → Type 0 = λ t. (unit : Unit) → ¬ IsFirstUnit bytes (items_at t also) unit in
    let Q : List ℕ → Type 0 = λ k. (unit : Unit) → ¬ IsFirstUnit bytes (items_at tokens k) unit in
    (refl, refl, subst Q same.1 (subst P same.0 none))

-- The same refusal.
abbrev pub Same : ℕ → Reason → ℕ → Reason → Type 0
Same at why also because = (at ≡ also) × (why ≡ because)

one_at_stop : (bytes : List ℕ) (stop at also : ℕ) (why because : Reason) → AtStop bytes stop at why → AtStop bytes stop also because → Same at why also because
one_at_stop bytes stop at also why because (closed none) (closed never) = (refl, refl)
one_at_stop bytes stop at also why because (closed none) (open_there left) = absurd (none left)
one_at_stop bytes stop at also why because (open_there left) (closed none) = absurd (none left)
one_at_stop bytes stop at also why because (open_there left) (open_there more) = (refl, refl)

one_refusal_of : Unique → (bytes : List ℕ) (at also : ℕ) (why because : Reason) → Fate bytes → IsRefusedAt bytes at why → IsRefusedAt bytes also because → Same at why also because
one_refusal_of unique bytes at also why because (stops stop there) first second =
    one_at_stop bytes stop at also why because (refused_at_stop unique bytes stop there at why first) (refused_at_stop unique bytes stop there also because second)
one_refusal_of unique bytes at also why because (spoilt tokens token there) first second =
    let one = refused_at_bad_token unique bytes tokens token there at why first in
    let two = refused_at_bad_token unique bytes tokens token there also because second in
    (one.0 ∙ sym two.0, one.1 ∙ sym two.1)
one_refusal_of unique bytes at also why because (stripped tokens kept there) first second =
    let one = refused_at_tree unique bytes tokens kept there at why first in
    let two = refused_at_tree unique bytes tokens kept there also because second in
    (one.0 ∙ sym two.0, one.1 ∙ sym two.1)

-- A text is refused in one way.
pub one_refusal : Unique → (bytes : List ℕ) (at also : ℕ) (why because : Reason) → IsRefusedAt bytes at why → IsRefusedAt bytes also because → Same at why also because
one_refusal unique bytes at also why because first second = one_refusal_of unique bytes at also why because (fate unique bytes) first second

-- A text that has a tree is not refused.
pub never_refused : Unique → (bytes : List ℕ) (tokens : List Token) (kept : List ℕ) (unit : Unit) → IsStrippedTo bytes tokens kept →
    IsFirstUnit bytes (items_at tokens kept) unit → (at : ℕ) (why : Reason) → ¬ IsRefusedAt bytes at why
never_refused unique bytes tokens kept unit there parsed at why refused =
    (refused_at_tree unique bytes tokens kept there at why refused).2 unit parsed
