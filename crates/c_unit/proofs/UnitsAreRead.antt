-- Files are read exactly (C11 6.9), a term a rule.

use Rattle.std.proofs.Common.{◌≡◌, ℕ, zero, suc, ◌-◌, ◌≤◌, ◌<◌, Bool, true, false, nat_lt, if◌then◌else◌, List, [], ◌∷◌, ◌++◌, length, Ok, Err, refl, sym, ap, ◌∙◌, subst}
use Rattle.std.proofs.Common.{append-nil, append_assoc, length-append, arith}
use Rattle.std.proofs.lemmas.Bool.Decides.{nat_tests}
use Rattle.c_lexer.specs.declared.mark.TheConstants.{MARK_LEFT_BRACKET, MARK_LEFT_PAREN}
use Rattle.c_tree.specs.declared.tree.Block.{Block}
use Rattle.c_tree.specs.declared.tree.Declaration.{Declaration}
use Rattle.c_tree.specs.declared.tree.Item.{Item}
use Rattle.c_tree.specs.declared.tree.Item.TheVariants as item_
use Rattle.c_tree.specs.declared.tree.Unit.{Unit}
use Rattle.c_scopes.specs.Scopes.{OpenScopes, left}
use Rattle.reading.specs.Terminals.{has, is_within}
use Rattle.reading.specs.Languages.{Leveled, tokens_of}
use Rattle.reading.specs.Rules.{Rule}
use Rattle.reading.specs.Readers as reader
use Rattle.reading.specs.Readers.{Reader, Input, Outcome, and_then, is_ahead, go_on, many, offends}
use Rattle.reading.specs.Exact.{room_on, IsExact, reads}
use Rattle.reading.specs.Exact as exact
use Rattle.reading.proofs.Sets.{never, both, both_left, both_right, within, within_itself, within_right}
use Rattle.reading.proofs.Cutting.{Cut, cut, equal, earlier, tokens_append}
use Rattle.reading.proofs.Cutting as cutting
use Rattle.reading.proofs.Predictive.{predictive_weaker}
use Rattle.reading.proofs.ReadBy.{Stage, whole, Nullable, no, keeping, IsReadBy}
use Rattle.reading.proofs.ReadOne.{HasRoom}
use Rattle.reading.proofs.ReadThen.{read_then, read_map}
use Rattle.reading.proofs.ReadSteps.{read_many}
use Rattle.reading.proofs.ReadChanging.{read_changing}
use Rattle.c_reading.specs.Kept.{KeptToken}
use Rattle.c_reading.specs.Cursors.{Around, number_ahead}
use Rattle.c_reading.specs.Terminals.{mark}
use Rattle.c_syntax.specs.Scoping.{Part, PartReader, terminal_of}
use Rattle.c_stmt.specs.StatementSets.{a_left_brace, begins_declaration}
use Rattle.c_stmt.specs.Below.{Below, BelowReaders}
use Rattle.c_stmt.specs.Statements.{block, read_block}
use Rattle.c_stmt.proofs.StatementReadings.{Tokens, IsRead, BelowAreRead, fixed, nothing}
use Rattle.c_stmt.proofs.Apart.{NoneBegins}
use Rattle.c_stmt.proofs.WholeStatements.{block_is_read_on}
use Rattle.c_unit.specs.declared.forms.Head.{Head}
use Rattle.c_unit.specs.UnitRules as lang
use Rattle.c_unit.specs.UnitRules.{defined, behind_function}
use Rattle.c_unit.specs.UnitSets.{begins_external}
use Rattle.c_unit.specs.Later as two
use Rattle.c_unit.specs.UnitReaders as read
use Rattle.c_unit.specs.ExactFiles.{IsExactFile, accepts, refuses, is_too_deep}
use Rattle.c_unit.proofs.ReadLater.{is_shorter, shorter_true, shorter_false, behind_stop, behind_first, either_way, read_later}

-- The same with another list of the same first tokens.
read_first : {Token Scope Around : Type 0} {terminal_of : Scope → Token → ℕ} {IsLexeme : Token → Type 0} {stage : Stage} {given A : Type 0} {X : ℕ → Rule Token Scope A} {p : Reader Token Scope Around A}
    {null : Nullable} {first : List ℕ} {last : A → List ℕ} (first' : List ℕ) → is_within first first' ≡ true → is_within first' first ≡ true →
    IsReadBy terminal_of IsLexeme stage given X p null first last → IsReadBy terminal_of IsLexeme stage given X p null first' last
read_first {terminal_of = terminal_of} {first = first} first' to from r = record {
  predictive = λ d h scope. predictive_weaker (r.predictive d h scope) (λ w a x. x) (λ e. e) (λ t. within first first' to (terminal_of scope t)) (λ end t e. e);
  keeps = r.keeps;
  some = r.some;
  exact = r.exact;
  ready = λ s g scope t h. r.ready s g scope t (within first' first from (terminal_of scope t) h);
  empty = r.empty;
}

-- What goes on behind a declarator (6.7.6).
abbrev pub begins_suffix : List ℕ
begins_suffix = mark MARK_LEFT_BRACKET ∷ mark MARK_LEFT_PAREN ∷ []

-- A definition's head is read exactly, no declaration goes on from one with `{`, and none begins one.
pub record HeadIsRead (tokens : Tokens) (below : Below) (head : ℕ → Part Head) (reader : ℕ → PartReader Head) : Type 1 where
  pub begins : List ℕ
  pub within_declaration : is_within begins begins_declaration ≡ true
  pub is_read : (stage : Stage) (given : Type 0) {room : ℕ} → HasRoom stage 0 room → IsRead tokens stage given head (reader room) no begins (λ h. begins_suffix)
  pub not_declaration : (turns : ℕ) (scopes : OpenScopes) (v w : List (Leveled KeptToken)) (a : Head × OpenScopes) (b : Declaration × OpenScopes) (t : KeptToken) (us : List KeptToken) →
      head turns scopes v a → below.declaration turns 0 scopes w b → has a_left_brace (terminal_of scopes t) ≡ true → tokens_of w ≡ tokens_of v ++ t ∷ us → ⊥
  pub not_beyond : (turns : ℕ) (scopes : OpenScopes) → NoneBegins (head turns scopes) (below.declaration turns 0 scopes)

within_both : (set middle all : List ℕ) → is_within set middle ≡ true → is_within middle all ≡ true → is_within set all ≡ true
within_both [] middle all h k = refl
within_both (n ∷ set) middle all h k =
    both _ _ (within middle all k n (both_left (has middle n) _ h)) (within_both set middle all (both_right (has middle n) _ h) k)

within_second : (set all other : List ℕ) → is_within all other ≡ true → is_within all (set ++ other) ≡ true
within_second set all other h = within_both all other (set ++ other) h (within_right set other)

within_union : (set other all : List ℕ) → is_within set all ≡ true → is_within other all ≡ true → is_within (set ++ other) all ≡ true
within_union [] other all h k = k
within_union (n ∷ set) other all h k = both _ _ (both_left (has all n) _ h) (within_union set other all (both_right (has all n) _ h) k)

abbrev Word' : Type 0
Word' = List (Leveled KeptToken)

-- What is left behind the front is nothing.
all_front : (w front back : Word') → w ≡ front ++ back → back ≡ [] → w ≡ front
all_front w front back e f = e ∙ (ap (λ r. front ++ r) f ∙ append-nil front)

module _ (tokens : Tokens) (below : Below) (below_readers : BelowReaders) (rb : BelowAreRead tokens below below_readers) (head : ℕ → Part Head) (read_head : ℕ → PartReader Head)
    (rh : HeadIsRead tokens below head read_head) where
  -- ---- Function definitions (6.9.1)

  abbrev room : ℕ
  room = room_on 0

  fits : HasRoom whole 0 room
  fits = record { is = λ s. refl }

  body_is_read : {given : Type 0} → IsRead tokens whole given (λ d. block below d 0) (read_block below_readers room) no a_left_brace nothing
  body_is_read = block_is_read_on tokens below below_readers rb 0 room refl

  definition_is_read : {given : Type 0} → IsRead tokens whole given (λ d. lang.definition below head d) (read.definition below_readers read_head room) no rh.begins nothing
  unfolding lang.definition read.definition
  definition_is_read =
      read_then nothing (rh.is_read whole _ fits) (λ h. read_changing (λ b. behind_function) (defined h) nothing body_is_read (λ b. fixed [] refl) (λ b. refl)) (λ h. refl) (λ b. refl) (λ h b. refl)

  declaration_item_is_read : {given : Type 0} →
      IsRead tokens whole given (λ d. lang.declaration_item below head d) (read.declaration_item below_readers read_head room) no begins_declaration nothing
  unfolding lang.declaration_item read.declaration_item
  declaration_item_is_read = read_map item_.Declare nothing (rb.declaration whole _ fits) (λ d. refl)

  -- ---- No declaration begins a definition, nor the other way round

  -- A head and a brace behind it.
  record IsFunction (d : ℕ) (scopes : OpenScopes) (w : Word') : Type 0 where
    front : Word'
    value : Head × OpenScopes
    brace : KeptToken
    rest : List KeptToken
    is : tokens_of w ≡ tokens_of front ++ brace ∷ rest
    begin : head d scopes front value
    fits : has a_left_brace (terminal_of scopes brace) ≡ true

  with_brace : (d : ℕ) (scopes scopes' : OpenScopes) (w front back : Word') (a : Head × OpenScopes) (b : Block × OpenScopes) → head d scopes front a → tokens_of w ≡ tokens_of front ++ tokens_of back →
      block below d 0 scopes' back b → IsFunction d scopes w
  with_brace d scopes scopes' w front [] a b h e x = never (((body_is_read {given = Prim.Unit {0}}).predictive d tt scopes').nullable b x)
  with_brace d scopes scopes' w front (s ∷ back) a b h e x = record {
    front = front;
    value = a;
    brace = s.0;
    rest = tokens_of back;
    is = e;
    begin = h;
    fits = fixed a_left_brace refl scopes scopes' s.0 ∙ ((body_is_read {given = Prim.Unit {0}}).predictive d tt scopes').begins s back b x;
  }

  function_of : (d : ℕ) (scopes : OpenScopes) (w : Word') (a : Item × OpenScopes) → lang.definition below head d scopes w a → IsFunction d scopes w
  unfolding lang.definition
  function_of d scopes w a x =
      let back : x.back ≡ x.rest.front = all_front x.back x.rest.front x.rest.back x.rest.split x.rest.rest.none in
      with_brace d scopes x.value.1 w x.front x.rest.front x.value x.rest.value x.begin
      (ap tokens_of (x.split ∙ ap (λ r. x.front ++ r) back) ∙ tokens_append x.front x.rest.front) x.rest.begin

  record IsDeclaration (d : ℕ) (scopes : OpenScopes) (w : Word') : Type 0 where
    value : Declaration × OpenScopes
    is : below.declaration d 0 scopes w value

  declaration_of : (d : ℕ) (scopes : OpenScopes) (w : Word') (a : Item × OpenScopes) → lang.declaration_item below head d scopes w a → IsDeclaration d scopes w
  unfolding lang.declaration_item
  declaration_of d scopes w a x =
      record { value = x.value; is = subst (λ r. below.declaration d 0 scopes r x.value) (sym (all_front w x.front x.back x.split x.rest.none)) x.begin }

  begins_head : (d : ℕ) (scopes : OpenScopes) (w : Word') (u : List KeptToken) (b : Declaration × OpenScopes) (f : Word') (a : Head × OpenScopes) (t : KeptToken) (r : List KeptToken) →
      head d scopes f a → below.declaration d 0 scopes w b → has a_left_brace (terminal_of scopes t) ≡ true → Cut (tokens_of f) (t ∷ r) (tokens_of w) u → ⊥
  begins_head d scopes w u b f a t r h x k (equal p q) = rh.not_beyond d scopes f w a b [] (p ∙ sym (append-nil (tokens_of w))) h x
  begins_head d scopes w u b f a t r h x k (earlier s m p q) =
      let same : t ≡ s = cc in rh.not_declaration d scopes f w a b t m h x k (p ∙ ap (λ z. tokens_of f ++ z ∷ m) (sym same))
  begins_head d scopes w u b f a t r h x k (cutting.later s m p q) = rh.not_beyond d scopes f w a b (s ∷ m) p h x

  definition_first : (d : ℕ) (scopes : OpenScopes) → NoneBegins (lang.definition below head d scopes) (lang.declaration_item below head d scopes)
  definition_first d scopes v w a b u e x y =
      let f = function_of d scopes v a x in let g = declaration_of d scopes w b y in
      begins_head d scopes w u g.value f.front f.value f.brace f.rest f.begin g.is f.fits (cut (tokens_of f.front) (f.brace ∷ f.rest) (tokens_of w) u (sym f.is ∙ e))

  declaration_first : (d : ℕ) (scopes : OpenScopes) → NoneBegins (lang.declaration_item below head d scopes) (lang.definition below head d scopes)
  declaration_first d scopes v w a b u e y x =
      let f = function_of d scopes w b x in let g = declaration_of d scopes v a y in
      rh.not_declaration d scopes f.front v f.value g.value f.brace (f.rest ++ u) f.begin g.is f.fits
      (e ∙ (ap (λ r. r ++ u) f.is ∙ append_assoc (tokens_of f.front) (f.brace ∷ f.rest) u))

  -- ---- External declarations (6.9)

  module _ (is_definition : ℕ → Bool) where
    -- The same readings, of which the one counts of which fewer tokens are left.
    abbrev either_first : PartReader Item
    either_first = either_way (λ input. is_definition (number_ahead input)) (read.definition below_readers read_head room) (read.declaration_item below_readers read_head room)

    abbrev one_more : List Item → PartReader (List Item)
    one_more items input = and_then (either_first input) (λ next. reader.pure (items ++ next ∷ []))

    abbrev all_of : PartReader (List Item)
    all_of = many terminal_of begins_external one_more []

    external_is_read : {given : Type 0} → IsRead tokens whole given (λ d. lang.external below head d) either_first no begins_external nothing
    unfolding lang.external
    external_is_read =
        read_first begins_external
        (within_union rh.begins begins_declaration begins_external (within_both rh.begins begins_declaration begins_external rh.within_declaration refl) refl)
        (within_second rh.begins begins_external begins_declaration refl)
        (read_later (λ input. is_definition (number_ahead input)) nothing definition_is_read declaration_item_is_read (λ d h scopes. definition_first d scopes) (λ d h scopes. declaration_first d scopes)
        (λ a. refl) (λ a. refl))

    one_more_is_read : {given : Type 0} (items : List Item) → IsRead tokens whole given (λ d. lang.more_items below head d items) (one_more items) no begins_external nothing
    unfolding lang.more_items
    one_more_is_read items = read_map (λ i. items ++ i ∷ []) nothing external_is_read (λ i. refl)

    all_are_read : {given : Type 0} → IsRead tokens whole given (λ d. lang.all_items below head d) all_of keeping begins_external (λ items. begins_external)
    unfolding lang.all_items
    all_are_read = read_many [] begins_external one_more_is_read refl refl refl []

    -- ---- The later stop has the higher number

    abbrev At : Around → OpenScopes → List KeptToken → Input KeptToken OpenScopes Around
    At around scopes ts = record { tokens = ts; scope = scopes; around = around }

    same_shorter : (end : ℕ) (l m : List KeptToken) → length l ≤ end → length m ≤ end → nat_lt (end - length m) (end - length l) ≡ is_shorter l m
    same_shorter end l m h k = by (is_shorter l m) refl
      where
        by : (b : Bool) → is_shorter l m ≡ b → nat_lt (end - length m) (end - length l) ≡ b
        by true e = let f = shorter_true l m e in grind (arith, nat_tests)
        by false e = let f = shorter_false l m e in grind (arith, nat_tests)

    left_within : (end : ℕ) (ts : List KeptToken) (run : Word') (left : List KeptToken) → length ts ≤ end → ts ≡ tokens_of run ++ left → length left ≤ end
    left_within end ts run left h e = let k = ap length e ∙ length-append (tokens_of run) left in omega arith

    same_later : (around : Around) (X Y : ℕ → Word' → Item × OpenScopes → Type 0) (ts : List KeptToken) (o o' : Outcome KeptToken OpenScopes Around Item) → length ts ≤ around.end →
        IsExact tokens.IsToken around X ts o → IsExact tokens.IsToken around Y ts o' → two.behind_first o o' ≡ behind_first o o'
    same_later around X Y ts o o' h (reads run left d a sc e sh x long) q = refl
    same_later around X Y ts o o' h (exact.is_too_deep run more t level left d a sc e sh k lex x) q = refl
    same_later around X Y ts o o' h (exact.refuses run more left d a sc e sh lex x long none) q = same_second o' q
      where
        same_second : (o' : Outcome KeptToken OpenScopes Around Item) → IsExact tokens.IsToken around Y ts o' → two.behind_stop (At around sc left) o' ≡ behind_stop (At around sc left) o'
        same_second o' (reads run' left' d' a' sc' e' sh' x' long') = refl
        same_second o' (exact.is_too_deep run' more' t' level' left' d' a' sc' e' sh' k' lex' x') = refl
        same_second o' (exact.refuses run' more' left' d' a' sc' e' sh' lex' x' long' none') =
            ap (λ (b : Bool). let r : Outcome KeptToken OpenScopes Around Item = Err (offends (if b then At around sc left else At around sc' left')) in r) (same_shorter around.end left left' (left_within around.end ts run left h e) (left_within around.end ts run' left' h e'))

    same_external : (around : Around) (scopes : OpenScopes) (ts : List KeptToken) → length ts ≤ around.end →
        read.external below_readers read_head room is_definition (At around scopes ts) ≡ either_first (At around scopes ts)
    unfolding read.external
    same_external around scopes ts h = by (is_definition (number_ahead (At around scopes ts)))
      where
        by : (b : Bool) → read.read_twice below_readers read_head room b (At around scopes ts) ≡
            (if b then behind_first (read.definition below_readers read_head room (At around scopes ts)) (read.declaration_item below_readers read_head room (At around scopes ts))
            else behind_first (read.declaration_item below_readers read_head room (At around scopes ts)) (read.definition below_readers read_head room (At around scopes ts)))
        by true = same_later around (λ d. lang.definition below head d scopes) (λ d. lang.declaration_item below head d scopes) ts _ _ h
            ((definition_is_read {given = Prim.Unit {0}}).exact tt tt around scopes ts) ((declaration_item_is_read {given = Prim.Unit {0}}).exact tt tt around scopes ts)
        by false = same_later around (λ d. lang.declaration_item below head d scopes) (λ d. lang.definition below head d scopes) ts _ _ h
            ((declaration_item_is_read {given = Prim.Unit {0}}).exact tt tt around scopes ts) ((definition_is_read {given = Prim.Unit {0}}).exact tt tt around scopes ts)

    same_more : (items : List Item) (around : Around) (scopes : OpenScopes) (ts : List KeptToken) → length ts ≤ around.end →
        read.more_items below_readers read_head room is_definition items (At around scopes ts) ≡ one_more items (At around scopes ts)
    unfolding read.more_items
    same_more items around scopes ts h = ap (λ (o : Outcome KeptToken OpenScopes Around Item). and_then o (λ next. reader.pure (items ++ next ∷ []))) (same_external around scopes ts h)

    -- The same from some items on.
    abbrev SameFrom : ℕ → Around → Type 0
    SameFrom turns around = (items : List Item) (scopes : OpenScopes) (ts : List KeptToken) → length ts ≤ around.end →
        go_on terminal_of begins_external (read.more_items below_readers read_head room is_definition) turns items (At around scopes ts)
        ≡ go_on terminal_of begins_external one_more turns items (At around scopes ts)

    same_turns : (turns : ℕ) (items : List Item) (around : Around) (scopes : OpenScopes) (ts : List KeptToken) → length ts ≤ around.end →
        go_on terminal_of begins_external (read.more_items below_readers read_head room is_definition) turns items (At around scopes ts)
        ≡ go_on terminal_of begins_external one_more turns items (At around scopes ts)
    unfolding go_on
    same_turns zero items around scopes ts h = refl
    same_turns (suc turns) items around scopes ts h = by (λ a sc left k. same_turns turns a around sc left k) (is_ahead terminal_of begins_external (At around scopes ts))
      where
        behind : SameFrom turns around → (o : Outcome KeptToken OpenScopes Around (List Item)) → IsExact tokens.IsToken around (λ d. lang.more_items below head d items scopes) ts o →
            and_then o (go_on terminal_of begins_external (read.more_items below_readers read_head room is_definition) turns) ≡ and_then o (go_on terminal_of begins_external one_more turns)
        behind more o (reads run left d a sc e sh x long) = more a sc left (left_within around.end ts run left h e)
        behind next o (exact.refuses run more left d a sc e sh lex x long none) = refl
        behind next o (exact.is_too_deep run more t level left d a sc e sh k lex x) = refl

        by : SameFrom turns around → (b : Bool) →
            (if b then and_then (read.more_items below_readers read_head room is_definition items (At around scopes ts))
            (go_on terminal_of begins_external (read.more_items below_readers read_head room is_definition) turns) else Ok (items, At around scopes ts))
            ≡ (if b then and_then (one_more items (At around scopes ts)) (go_on terminal_of begins_external one_more turns) else Ok (items, At around scopes ts))
        by next false = refl
        by next true =
            ap (λ (o : Outcome KeptToken OpenScopes Around (List Item)). and_then o (go_on terminal_of begins_external (read.more_items below_readers read_head room is_definition) turns))
            (same_more items around scopes ts h)
            ∙ behind next (one_more items (At around scopes ts)) ((one_more_is_read {given = Prim.Unit {0}} items).exact tt tt around scopes ts)

    same_all : (around : Around) (scopes : OpenScopes) (ts : List KeptToken) → length ts ≤ around.end →
        read.all_items below_readers read_head room is_definition (At around scopes ts) ≡ all_of (At around scopes ts)
    unfolding read.all_items many
    same_all around scopes ts h = same_turns (length ts) [] around scopes ts h

    -- ---- Files

    abbrev as_unit : List Item → Unit
    as_unit items = record { items = items }

    unit_is_read : {given : Type 0} → IsRead tokens whole given (λ d. lang.unit below head d) (λ input. and_then (all_of input) (λ all. reader.pure (as_unit all))) keeping begins_external (λ all. begins_external)
    unfolding lang.unit
    unit_is_read = read_map as_unit (λ (all : Unit). begins_external) all_are_read (λ items. refl)

    abbrev unit_of : PartReader Unit
    unit_of input = and_then (all_of input) (λ all. reader.pure (as_unit all))

    same_unit : (around : Around) (scopes : OpenScopes) (ts : List KeptToken) → length ts ≤ around.end →
        read.unit below_readers read_head room is_definition (At around scopes ts) ≡ unit_of (At around scopes ts)
    unfolding read.unit
    same_unit around scopes ts h = ap (λ (o : Outcome KeptToken OpenScopes Around (List Item)). and_then o (λ all. reader.pure (as_unit all))) (same_all around scopes ts h)

    to_end : (around : Around) (X : ℕ → Word' → Unit × OpenScopes → Type 0) (ts : List KeptToken) (o : Outcome KeptToken OpenScopes Around Unit) →
        IsExact tokens.IsToken around X ts o → IsExactFile tokens.IsToken around X ts (and_then o (λ all rest. read.at_end all rest.tokens rest))
    to_end around X ts o (reads run [] d a sc e sh x long) = accepts run d a sc (e ∙ append-nil (tokens_of run)) sh x
    to_end around X ts o (reads run (t ∷ left) d a sc e sh x long) =
        refuses run [] (t ∷ left) d (a, sc) sc e sh tt (subst (λ r. X d r (a, sc)) (sym (append-nil run)) x) long (λ f. absurd (cc))
    to_end around X ts o (exact.refuses run more left d a sc e sh lex x long none) = refuses run more left d a sc e sh lex x long (λ f. none)
    to_end around X ts o (exact.is_too_deep run more t level left d a sc e sh k lex x) = is_too_deep run more t level left d a sc e sh k lex x

    -- A file is read exactly.
    pub file_is_exact : (around : Around) (scopes : OpenScopes) (left : List KeptToken) → length left ≤ around.end →
        IsExactFile tokens.IsToken around (λ d. lang.unit below head d scopes) left (read.file below_readers read_head room is_definition (At around scopes left))
    unfolding read.file
    file_is_exact around scopes left h =
        subst (λ (o : Outcome KeptToken OpenScopes Around Unit). IsExactFile tokens.IsToken around (λ d. lang.unit below head d scopes) left (and_then o (λ all rest. read.at_end all rest.tokens rest)))
        (sym (same_unit around scopes left h))
        (to_end around (λ d. lang.unit below head d scopes) left (unit_of (At around scopes left)) ((unit_is_read {given = Prim.Unit {0}}).exact tt tt around scopes left))
