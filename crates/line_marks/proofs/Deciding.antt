-- Each list of tokens is stripped, or has a bad attribute.
use Rattle.std.proofs.Common.{◌≡◌, ◌⊎◌, ℕ, zero, suc, ◌+◌, ◌<◌, ◌≤◌, List, [], ◌∷◌, Option, Some, None, length, refl, subst, arith, inl, inr}
use Rattle.std.proofs.lemmas.Bool.{cases_eq, cases_lt}
use Rattle.c_lexer.specs.declared.token.Kind.{Kind}
use Rattle.c_lexer.specs.declared.token.Kind.TheVariants.{Word, Key, Number, Char, Text, Mark, Line, Pragma}
use Rattle.c_lexer.specs.declared.token.Token.{Token}
use Rattle.line_marks.specs.Balance.{Closes, IsBracket, IsGroup, kind_at}
use Rattle.line_marks.specs.Kept as kept
use Rattle.line_marks.specs.Kept.{AreKept, AreParens, MayEndDeclarator, IsAbsent, IsBadAttribute, IsDropped, IsKept, StopsStripping, Strips}
use Rattle.line_marks.specs.Stripping.{IsBalancedTo}
use Rattle.line_marks.proofs.Groups.{balanced_end, balanced_group, balanced_none, balanced_plain, group_closed, kind_here, kind_once, kind_past, kind_within, no_group_at}
use Rattle.line_marks.proofs.Dropping.{absent_at, parens_later}

bracket_or_not : (k : Kind) → IsBracket k ⊎ (IsBracket k → ⊥)
bracket_or_not (Mark n) = elim (cases_lt n 6) [
  | inl l ↦ inl (omega arith)
  | inr l ↦ inr (λ h. omega arith)
]
bracket_or_not Word = inr (λ h. h)
bracket_or_not (Key n) = inr (λ h. h)
bracket_or_not Number = inr (λ h. h)
bracket_or_not Char = inr (λ h. h)
bracket_or_not Text = inr (λ h. h)
bracket_or_not Line = inr (λ h. h)
bracket_or_not Pragma = inr (λ h. h)

absent_or_not : (k : Kind) → IsAbsent k ⊎ (IsAbsent k → ⊥)
absent_or_not (Key n) = cases_eq n 58
absent_or_not Line = inl tt
absent_or_not Pragma = inl tt
absent_or_not (Mark n) = inr (λ h. h)
absent_or_not Word = inr (λ h. h)
absent_or_not Number = inr (λ h. h)
absent_or_not Char = inr (λ h. h)
absent_or_not Text = inr (λ h. h)

key_or_not : (k : Kind) (n : ℕ) → (k ≡ Key n) ⊎ (k ≡ Key n → ⊥)
key_or_not (Key m) n = elim (cases_eq m n) [
  | inl e ↦ inl (cc)
  | inr d ↦ inr (λ e. d (cc))
]
key_or_not (Mark m) n = inr (λ e. cc)
key_or_not Word n = inr (λ e. cc)
key_or_not Number n = inr (λ e. cc)
key_or_not Char n = inr (λ e. cc)
key_or_not Text n = inr (λ e. cc)
key_or_not Line n = inr (λ e. cc)
key_or_not Pragma n = inr (λ e. cc)

mark_or_not : (k : Kind) → ((n : ℕ) × (k ≡ Mark n)) ⊎ ((n : ℕ) → k ≡ Mark n → ⊥)
mark_or_not (Mark m) = inl (m, refl)
mark_or_not (Key m) = inr (λ n e. cc)
mark_or_not Word = inr (λ n e. cc)
mark_or_not Number = inr (λ n e. cc)
mark_or_not Char = inr (λ n e. cc)
mark_or_not Text = inr (λ n e. cc)
mark_or_not Line = inr (λ n e. cc)
mark_or_not Pragma = inr (λ n e. cc)

declarator_or_not : (before : Option Kind) → MayEndDeclarator before ⊎ (MayEndDeclarator before → ⊥)
declarator_or_not None = inr (λ h. h)
declarator_or_not (Some Word) = inl tt
declarator_or_not (Some (Mark n)) = elim (cases_eq n 3) [
  | inl e ↦ inl (inl e)
  | inr d ↦ elim (cases_eq n 1) [
    | inl e ↦ inl (inr e)
    | inr f ↦ inr (λ h. elim h [ inl e ↦ d e | inr e ↦ f e ])
  ]
]
declarator_or_not (Some (Key n)) = inr (λ h. h)
declarator_or_not (Some Number) = inr (λ h. h)
declarator_or_not (Some Char) = inr (λ h. h)
declarator_or_not (Some Text) = inr (λ h. h)
declarator_or_not (Some Line) = inr (λ h. h)
declarator_or_not (Some Pragma) = inr (λ h. h)

-- A closing bracket is the one behind its opening one.
pair_is : (o c : ℕ) → Closes o c → (c ≡ o + 1) × ((o ≡ 0) ⊎ (o ≡ 2) ⊎ (o ≡ 4))
pair_is o c h = grind arith

pair_from : (o c : ℕ) → c ≡ o + 1 → (o ≡ 0) ⊎ (o ≡ 2) ⊎ (o ≡ 4) → Closes o c
pair_from o c e h = grind arith

closes_or_not : (o c : ℕ) → Closes o c ⊎ (Closes o c → ⊥)
closes_or_not o c = elim (cases_eq c (o + 1)) [
  | inr d ↦ inr (λ h. d (pair_is o c h).0)
  | inl e ↦ elim (cases_eq o 0) [
    | inl z ↦ inl (pair_from o c e (inl z))
    | inr a ↦ elim (cases_eq o 2) [
      | inl z ↦ inl (pair_from o c e (inr (inl z)))
      | inr b ↦ elim (cases_eq o 4) [
        | inl z ↦ inl (pair_from o c e (inr (inr z)))
        | inr d ↦ inr (λ h. elim ((pair_is o c h).1) [ inl z ↦ a z | inr (inl z) ↦ b z | inr (inr z) ↦ d z ])
      ]
    ]
  ]
]

-- A token stands at a position, or none.
token_or_none : (tokens : List Token) (at : ℕ) → ((k : Kind) × (kind_at tokens at ≡ Some k)) ⊎ (kind_at tokens at ≡ None)
token_or_none tokens at = elim (cases_lt at (length tokens)) [
  | inl l ↦ inl (kind_here tokens at l)
  | inr l ↦ inr (kind_past tokens at l)
]

-- A mark stands at a position, or none.
mark_at_or_none : (tokens : List Token) (at : ℕ) → ((n : ℕ) × (kind_at tokens at ≡ Some (Mark n))) ⊎ ((n : ℕ) → kind_at tokens at ≡ Some (Mark n) → ⊥)
mark_at_or_none tokens at = elim (token_or_none tokens at) [
  | inr e ↦ inr (λ n h. cc)
  | inl k ↦ elim (mark_or_not k.0) [
    | inl m ↦ inl (m.0, let is = k.1 in let mark = m.1 in cc)
    | inr no_mark ↦ inr (λ n h. no_mark n (kind_once tokens at k.0 (Mark n) k.1 h))
  ]
]

record Group (tokens : List Token) (at end : ℕ) : Type 0 where
  within : end + 1 ≤ length tokens
  group : IsGroup tokens at (end + 1)

-- A group begins at a position, or none.
group_or_none : (tokens : List Token) (at end : ℕ) → IsBalancedTo tokens (at + 1) end → Group tokens at end ⊎ ((to : ℕ) → IsGroup tokens at to → ⊥)
group_or_none tokens at end h = elim (mark_at_or_none tokens at) [
  | inr no_mark ↦ inr (λ to g. no_mark g.opening g.opens)
  | inl o ↦ elim (mark_at_or_none tokens end) [
    | inr no_mark ↦ inr (λ to g. no_mark g.closing (group_closed tokens at end to h g))
    | inl c ↦ elim (closes_or_not o.0 c.0) [
      | inr apart ↦ inr (no_group_at tokens at end o.0 c.0 h o.1 c.1 apart)
      | inl pair ↦ inl (record {
        within = let l = kind_within tokens end (Mark c.0) c.1 in omega arith;
        group = record { opening = o.0; closing = c.0; end = end; opens = o.1; inside = h.balanced; closes = c.1; pair = pair; past = refl };
      })
    ]
  ]
]

-- The longest balanced text that begins at a position, from those that begin later.
end_exists : (tokens : List Token) (at : ℕ) → at < length tokens → ((k : ℕ) → at + 1 ≤ k → k ≤ length tokens → (to : ℕ) × IsBalancedTo tokens k to) → (to : ℕ) × IsBalancedTo tokens at to
end_exists tokens at l later =
    let k = kind_here tokens at l in
    let inner = later (at + 1) (omega arith) (omega arith) in
    let low = inner.1.low in
    elim (bracket_or_not k.0) [
      | inr bare ↦ (inner.0, balanced_plain tokens at inner.0 k.0 k.1 bare inner.1)
      | inl b ↦ elim (group_or_none tokens at inner.0 inner.1) [
        | inl g ↦
            let rest = later (inner.0 + 1) (omega arith) g.within in
            (rest.0, balanced_group tokens at inner.0 (inner.0 + 1) rest.0 inner.1 refl g.group rest.1)
        | inr none ↦ (at, balanced_none tokens at k.0 k.1 b none)
      ]
    ]

ends_exist : (tokens : List Token) (n at : ℕ) → at + n ≡ length tokens → (k : ℕ) → at ≤ k → k ≤ length tokens → (to : ℕ) × IsBalancedTo tokens k to
ends_exist tokens zero at e k low high =
    let same : length tokens ≡ k = omega arith in
    (k, subst (λ m. IsBalancedTo tokens m m) same (balanced_end tokens))
ends_exist tokens (suc n) at e k low high =
    let later = ends_exist tokens n (at + 1) (omega arith) in
    elim (cases_eq at k) [
      | inl same ↦ let here = end_exists tokens at (omega arith) later in (here.0, subst (λ m. IsBalancedTo tokens m here.0) same here.1)
      | inr d ↦ later k (omega arith) high
    ]

-- From each position the longest balanced text ends somewhere.
balanced_exists : (tokens : List Token) (k : ℕ) → k ≤ length tokens → (to : ℕ) × IsBalancedTo tokens k to
balanced_exists tokens k high = ends_exist tokens (length tokens) 0 (omega arith) k (omega arith) high

record Parens (tokens : List Token) (from : ℕ) : Type 0 where
  to : ℕ
  low : from < to
  parens : AreParens tokens from to

no_parens : (tokens : List Token) (from to : ℕ) → kind_at tokens from ≡ None → AreParens tokens from to → ⊥
no_parens tokens from to e (kept.AreParens.absent k is gone rest) = cc
no_parens tokens from to e (kept.AreParens.parens is g) = cc

other_parens : (tokens : List Token) (from to : ℕ) (k : Kind) → kind_at tokens from ≡ Some k → (IsAbsent k → ⊥) → ((to : ℕ) → IsGroup tokens from to → ⊥) → AreParens tokens from to → ⊥
other_parens tokens from to k e here group (kept.AreParens.absent j is gone rest) = here (absent_at tokens from k j e is gone)
other_parens tokens from to k e here group (kept.AreParens.parens is g) = group to g

unopened_parens : (tokens : List Token) (from to : ℕ) (k : Kind) → kind_at tokens from ≡ Some k → (IsAbsent k → ⊥) → (k ≡ Mark 2 → ⊥) → AreParens tokens from to → ⊥
unopened_parens tokens from to k e here unlike (kept.AreParens.absent j is gone rest) = here (absent_at tokens from k j e is gone)
unopened_parens tokens from to k e here unlike (kept.AreParens.parens is g) = unlike (kind_once tokens from k (Mark 2) e is)

paren_or_not : (k : Kind) → (k ≡ Mark 2) ⊎ (k ≡ Mark 2 → ⊥)
paren_or_not k = elim (mark_or_not k) [
  | inr other ↦ inr (other 2)
  | inl m ↦ elim (cases_eq m.0 2) [
    | inl e ↦ inl (let is = m.1 in cc)
    | inr d ↦ inr (λ h. d (let is = m.1 in cc))
  ]
]

-- Parentheses follow from a position on, or none.
parens_or_none : (tokens : List Token) (n from : ℕ) → length tokens ≤ from + n → Parens tokens from ⊎ ((to : ℕ) → AreParens tokens from to → ⊥)
parens_or_none tokens zero from l = inr (λ to. no_parens tokens from to (kind_past tokens from (omega arith)))
parens_or_none tokens (suc n) from l = elim (token_or_none tokens from) [
  | inr e ↦ inr (λ to. no_parens tokens from to e)
  | inl k ↦
      let inside = kind_within tokens from k.0 k.1 in
      elim (absent_or_not k.0) [
        | inl gone ↦ elim (parens_or_none tokens n (from + 1) (omega arith)) [
          | inl p ↦ inl (record { to = p.to; low = let low = p.low in omega arith; parens = kept.AreParens.absent k.0 k.1 gone p.parens })
          | inr none ↦ inr (λ to p. none to (parens_later tokens from to k.0 k.1 gone p))
        ]
        | inr here ↦ elim (paren_or_not k.0) [
          | inr other ↦ inr (λ to. unopened_parens tokens from to k.0 k.1 here other)
          | inl paren ↦
              let inner = balanced_exists tokens (from + 1) (omega arith) in
              let low = inner.1.low in
              elim (group_or_none tokens from inner.0 inner.1) [
                | inr none ↦ inr (λ to. other_parens tokens from to k.0 k.1 here none)
                | inl g ↦ inl (record { to = inner.0 + 1; low = omega arith; parens = kept.AreParens.parens (let is = k.1 in cc) g.group })
              ]
        ]
      ]
]

record Dropped (tokens : List Token) (before : Option Kind) (at : ℕ) : Type 0 where
  to : ℕ
  low : at < to
  dropped : IsDropped tokens before at to

-- What is done with a token that is neither absent nor an attribute, nor names a symbol.
other_kept : (tokens : List Token) (before : Option Kind) (at to : ℕ) (k : Kind) → kind_at tokens at ≡ Some k → (IsAbsent k → ⊥) → (k ≡ Key 57 → ⊥) →
    (k ≡ Key 59 → MayEndDeclarator before → (to : ℕ) → AreParens tokens (at + 1) to → ⊥) → IsDropped tokens before at to → ⊥
other_kept tokens before at to k e here attribute asm (kept.IsDropped.absent j is gone) = here (absent_at tokens at k j e is gone)
other_kept tokens before at to k e here attribute asm (kept.IsDropped.attribute is round) = attribute (kind_once tokens at k (Key 57) e is)
other_kept tokens before at to k e here attribute asm (kept.IsDropped.symbol is ends round) = asm (kind_once tokens at k (Key 59) e is) ends to round

kept_from : (tokens : List Token) (before : Option Kind) (at : ℕ) (k : Kind) → kind_at tokens at ≡ Some k → (IsAbsent k → ⊥) → (k ≡ Key 57 → ⊥) →
    (k ≡ Key 59 → MayEndDeclarator before → (to : ℕ) → AreParens tokens (at + 1) to → ⊥) → IsKept tokens before at k
kept_from tokens before at k e here attribute asm = record {
  token = e;
  stays = λ to. other_kept tokens before at to k e here attribute asm;
  good = λ bad. attribute (kind_once tokens at k (Key 57) e bad.word);
}

-- A token is dropped, bad or kept.
treatment_exists : (tokens : List Token) (before : Option Kind) (at : ℕ) (k : Kind) → kind_at tokens at ≡ Some k → Dropped tokens before at ⊎ IsBadAttribute tokens at ⊎ IsKept tokens before at k
treatment_exists tokens before at k e =
    let follow = parens_or_none tokens (length tokens) (at + 1) (omega arith) in
    elim (absent_or_not k) [
      | inl gone ↦ inl (record { to = at + 1; low = omega arith; dropped = kept.IsDropped.absent k e gone })
      | inr here ↦ elim (key_or_not k 57) [
        | inl attribute ↦ elim follow [
          | inl p ↦ inl (record { to = p.to; low = let low = p.low in omega arith; dropped = kept.IsDropped.attribute (cc) p.parens })
          | inr none ↦ inr (inl (record { word = cc; alone = none }))
        ]
        | inr other ↦ elim (key_or_not k 59) [
          | inr plain ↦ inr (inr (kept_from tokens before at k e here other (λ h. absurd (plain h))))
          | inl asm ↦ elim (declarator_or_not before) [
            | inr statement ↦ inr (inr (kept_from tokens before at k e here other (λ _ h. absurd (statement h))))
            | inl ends ↦ elim follow [
              | inl p ↦ inl (record { to = p.to; low = let low = p.low in omega arith; dropped = kept.IsDropped.symbol (cc) ends p.parens })
              | inr none ↦ inr (inr (kept_from tokens before at k e here other (λ _ _. none)))
            ]
          ]
        ]
      ]
    ]

record Stripped (tokens : List Token) (before : Option Kind) (at : ℕ) : Type 0 where
  list : List ℕ
  stop : ℕ
  strips : Strips tokens before at list stop
  ends : (kind_at tokens stop ≡ None) ⊎ IsBadAttribute tokens stop

-- From each position the stripping ends somewhere.
strips_exist : (tokens : List Token) (n : ℕ) (before : Option Kind) (at : ℕ) → length tokens ≤ at + n → Stripped tokens before at
strips_exist tokens zero before at l =
    let end = kind_past tokens at (omega arith) in
    record { list = []; stop = at; strips = kept.Strips.ends end; ends = inl end }
strips_exist tokens (suc n) before at l = elim (token_or_none tokens at) [
  | inr end ↦ record { list = []; stop = at; strips = kept.Strips.ends end; ends = inl end }
  | inl k ↦ elim (treatment_exists tokens before at k.0 k.1) [
    | inl d ↦
        let low = d.low in
        let rest = strips_exist tokens n before d.to (omega arith) in
        record { list = rest.list; stop = rest.stop; strips = kept.Strips.drops d.to d.dropped rest.strips; ends = rest.ends }
    | inr (inl bad) ↦ record { list = []; stop = at; strips = kept.Strips.stops bad; ends = inr bad }
    | inr (inr is) ↦
        let rest = strips_exist tokens n (Some k.0) (at + 1) (omega arith) in
        record { list = at ∷ rest.list; stop = rest.stop; strips = kept.Strips.keeps k.0 is rest.strips; ends = rest.ends }
  ]
]

-- Tokens have a list that is kept, or a bad attribute.
pub some_stripping : (tokens : List Token) → ((list : List ℕ) × AreKept tokens list) ⊎ ((at : ℕ) × StopsStripping tokens at)
some_stripping tokens =
    let all = strips_exist tokens (length tokens) None 0 (omega arith) in
    elim all.ends [
      | inl end ↦ inl (all.list, record { stop = all.stop; strips = all.strips; end = end })
      | inr bad ↦ inr (all.stop, record { kept = all.list; strips = all.strips; bad = bad })
    ]
