-- An `if` with its arms: what it says, where its arms are one scope, and where each is one in the
-- scope of the one before (C11 6.8.4.1).

use Rattle.std.proofs.Common.{◌≡◌, ◌≢◌, ℕ, ◌+◌, ◌*◌, List, [], ◌∷◌, ◌++◌, Option, Some, None, map, length, refl, sym, ap, ◌∙◌, subst, append_assoc, append-nil, arith}
use Rattle.std.specs.Option.{option_map, MatchOption}
use Rattle.c_lexer.specs.declared.token.Kind.{Kind}
use Rattle.c_lexer.specs.declared.keyword.TheConstants.{KEY_ELSE, KEY_IF}
use Rattle.c_lexer.specs.declared.mark.TheConstants.{MARK_LEFT_PAREN, MARK_RIGHT_PAREN}
use Rattle.c_scopes.specs.Scopes.{OpenScopes}
use Rattle.c_scopes.specs.Events.{Opens}
use Rattle.c_tree.specs.declared.symbol.Want.TheVariants as want
use Rattle.c_tree.specs.declared.tree.Expr.{Expr}
use Rattle.c_tree.specs.declared.tree.Stmt.{Stmt}
use Rattle.c_tree.specs.declared.tree.StmtKind.{StmtKind}
use Rattle.c_tree.specs.declared.tree.StmtKind.TheVariants as kind
use Rattle.c_tree.specs.Folds.{stmt_fold}
use Rattle.c_tree.specs.Spell.{Symbols, other_arms, if_arms, stmt_spelling, stmt_kind_spelling, expr_spelling}
use Rattle.c_tree.specs.TreeEvents.{Events, if_events, scoped, expr_events}
use Rattle.c_tree.proofs.Folds as fold
use Rattle.c_tree.proofs.Spellings as spell
use Rattle.c_reading.specs.Kept.{KeptToken}
use Rattle.expression_trees.specs.Saying.{Said, ◌and◌, nothing, token, FitTokens, AreMet, AreSaid}
use Rattle.expression_trees.specs.Trees.{of_expr}
use Rattle.expression_trees.proofs.Lists.{Every}
use Rattle.statement_trees.specs.Trees.{stmt_steps_of, of_stmt, of_kind, of_body}
use Rattle.statement_trees.proofs.FormsSay.{opens, closes}
use Rattle.statement_trees.specs.Innermost.{IsFree}
use Rattle.statement_trees.proofs.Scoped.{IsSame, shut_scoped, shut_none, same_shut, same_step, nested_from_flat, flat_from_nested}

-- A condition in parentheses, and its body, with the tokens `if`, `(` and `)`.
pub record Branch : Type 0 where
  pub cond : Expr
  pub body : Stmt
  pub key : ℕ
  pub left : ℕ
  pub right : ℕ

-- Branches, each with the `else` behind it.
abbrev pub Steps : Type 0
Steps = List (Branch × ℕ)

-- What stands behind the last branch: `else` and a statement, or nothing.
abbrev pub Tail : Type 0
Tail = Option (ℕ × Stmt)

abbrev pub arm_in : Branch → Expr × Stmt
arm_in b = (b.cond, b.body)

abbrev pub arms_done : Steps → List (Expr × Stmt)
arms_done [] = []
arms_done (s ∷ ss) = arm_in s.0 ∷ arms_done ss

abbrev pub marks_done : Steps → List ℕ
marks_done [] = []
marks_done (s ∷ ss) = s.0.key ∷ s.0.left ∷ s.0.right ∷ s.1 ∷ marks_done ss

abbrev pub tail_marks : Tail → List ℕ
tail_marks None = []
tail_marks (Some t) = t.0 ∷ []

abbrev pub tail_stmt : Tail → Option Stmt
tail_stmt None = None
tail_stmt (Some t) = Some t.1

abbrev pub arms_in : Steps → Branch → List (Expr × Stmt)
arms_in ss last = arms_done ss ++ arm_in last ∷ []

abbrev pub marks_in : Steps → Branch → Tail → List ℕ
marks_in ss last tail = marks_done ss ++ (last.key ∷ last.left ∷ last.right ∷ tail_marks tail)

abbrev pub if_tree : Steps → Branch → Tail → StmtKind
if_tree ss last tail = kind.If (arms_in ss last) (tail_stmt tail) (marks_in ss last tail)

-- Each list of arms with its marks is one of these.
pub by_chain : (Q : List (Expr × Stmt) → Option Stmt → List ℕ → Type 0) → ((ss : Steps) (last : Branch) (tail : Tail) → Q (arms_in ss last) (tail_stmt tail) (marks_in ss last tail)) →
    (arms : List (Expr × Stmt)) (other : Option Stmt) (marks : List ℕ) → arms ≢ [] → MatchOption other (1 + length marks ≡ 4 * length arms) (λ stmt. length marks ≡ 4 * length arms) → Q arms other marks
by_chain Q q [] other marks h e = absurd (h refl)
by_chain Q q (a ∷ []) None [] h e = absurd (omega arith)
by_chain Q q (a ∷ []) None (k ∷ []) h e = absurd (omega arith)
by_chain Q q (a ∷ []) None (k ∷ l ∷ []) h e = absurd (omega arith)
by_chain Q q (a ∷ []) None (k ∷ l ∷ r ∷ []) h e = q [] (record { cond = a.0; body = a.1; key = k; left = l; right = r }) None
by_chain Q q (a ∷ []) None (k ∷ l ∷ r ∷ m ∷ marks) h e = absurd (omega arith)
by_chain Q q (a ∷ []) (Some o) [] h e = absurd (omega arith)
by_chain Q q (a ∷ []) (Some o) (k ∷ []) h e = absurd (omega arith)
by_chain Q q (a ∷ []) (Some o) (k ∷ l ∷ []) h e = absurd (omega arith)
by_chain Q q (a ∷ []) (Some o) (k ∷ l ∷ r ∷ []) h e = absurd (omega arith)
by_chain Q q (a ∷ []) (Some o) (k ∷ l ∷ r ∷ m ∷ []) h e = q [] (record { cond = a.0; body = a.1; key = k; left = l; right = r }) (Some (m, o))
by_chain Q q (a ∷ []) (Some o) (k ∷ l ∷ r ∷ m ∷ n ∷ marks) h e = absurd (omega arith)
by_chain Q q (a ∷ b ∷ arms) None [] h e = absurd (omega arith)
by_chain Q q (a ∷ b ∷ arms) None (k ∷ []) h e = absurd (omega arith)
by_chain Q q (a ∷ b ∷ arms) None (k ∷ l ∷ []) h e = absurd (omega arith)
by_chain Q q (a ∷ b ∷ arms) None (k ∷ l ∷ r ∷ []) h e = absurd (omega arith)
by_chain Q q (a ∷ b ∷ arms) None (k ∷ l ∷ r ∷ m ∷ marks) h e =
    by_chain (λ bs o ms. Q (a ∷ bs) o (k ∷ l ∷ r ∷ m ∷ ms)) (λ ss last tail. q ((record { cond = a.0; body = a.1; key = k; left = l; right = r }, m) ∷ ss) last tail) (b ∷ arms) None marks
    (λ f. absurd (cc)) (omega (arith, e))
by_chain Q q (a ∷ b ∷ arms) (Some o) [] h e = absurd (omega arith)
by_chain Q q (a ∷ b ∷ arms) (Some o) (k ∷ []) h e = absurd (omega arith)
by_chain Q q (a ∷ b ∷ arms) (Some o) (k ∷ l ∷ []) h e = absurd (omega arith)
by_chain Q q (a ∷ b ∷ arms) (Some o) (k ∷ l ∷ r ∷ []) h e = absurd (omega arith)
by_chain Q q (a ∷ b ∷ arms) (Some o) (k ∷ l ∷ r ∷ m ∷ marks) h e =
    by_chain (λ bs x ms. Q (a ∷ bs) x (k ∷ l ∷ r ∷ m ∷ ms)) (λ ss last tail. q ((record { cond = a.0; body = a.1; key = k; left = l; right = r }, m) ∷ ss) last tail) (b ∷ arms) (Some o) marks
    (λ f. absurd (cc)) (omega (arith, e))

pub arms_snoc : (ss : Steps) (x : Branch × ℕ) → arms_done (ss ++ x ∷ []) ≡ arms_in ss x.0
arms_snoc [] x = refl
arms_snoc (s ∷ ss) x = ap (λ (z : List (Expr × Stmt)). arm_in s.0 ∷ z) (arms_snoc ss x)

pub marks_snoc : (ss : Steps) (x : Branch × ℕ) (m : ℕ) → marks_done (ss ++ x ∷ []) ++ m ∷ [] ≡ ((marks_done ss ++ x.0.key ∷ []) ++ x.0.left ∷ x.0.right ∷ []) ++ x.1 ∷ m ∷ []
marks_snoc [] x m = refl
marks_snoc (s ∷ ss) x m = ap (λ (z : List ℕ). s.0.key ∷ s.0.left ∷ s.0.right ∷ s.1 ∷ z) (marks_snoc ss x m)

module _ (kind_of : ℕ → Option Kind) (bytes_of : ℕ → List ℕ) where
  abbrev pub arm_said : Branch → Said → Said
  arm_said b k = token b.key (want.Key KEY_IF) (token b.left (want.Mark MARK_LEFT_PAREN) (of_expr kind_of bytes_of b.cond and token b.right (want.Mark MARK_RIGHT_PAREN) (of_body kind_of bytes_of b.body and k)))

  abbrev pub steps_said : Steps → Said → Said
  steps_said [] k = k
  steps_said (s ∷ ss) k = arm_said s.0 (token s.1 (want.Key KEY_ELSE) (steps_said ss k))

  abbrev pub tail_said : Tail → Said → Said
  tail_said None k = k
  tail_said (Some t) k = token t.0 (want.Key KEY_ELSE) (of_body kind_of bytes_of t.1 and k)

  pub steps_snoc : (ss : Steps) (x : Branch × ℕ) (k : Said) → steps_said (ss ++ x ∷ []) k ≡ steps_said ss (arm_said x.0 (token x.1 (want.Key KEY_ELSE) k))
  steps_snoc [] x k = refl
  steps_snoc (s ∷ ss) x k = ap (λ (z : Said). arm_said s.0 (token s.1 (want.Key KEY_ELSE) z)) (steps_snoc ss x k)

  -- ---- Symbols

  abbrev spelled_arms : List (Expr × Stmt) → List (Expr × Symbols)
  spelled_arms arms = map (λ (t : Expr × Stmt). (t.0, stmt_spelling t.1)) arms

  tail_spelled : (tail : Tail) (k : Said) → other_arms (option_map stmt_spelling (tail_stmt tail)) [] (tail_marks tail) ++ k.symbols ≡ (tail_said tail k).symbols
  tail_spelled None k = refl
  tail_spelled (Some t) k = refl

  branch_spelled : (e r b o k : Symbols) → (((e ++ r) ++ b) ++ o) ++ k ≡ e ++ (r ++ (b ++ (o ++ k)))
  branch_spelled e r b o k = simp append_assoc

  abbrev paren : ℕ → ℕ → Symbols
  paren n m = record { token = n; want = want.Mark m } ∷ []

  others_spelled : (ss : Steps) (last : Branch) (tail : Tail) (e : ℕ) (k : Said) →
      other_arms (option_map stmt_spelling (tail_stmt tail)) (spelled_arms (arms_in ss last)) (e ∷ marks_in ss last tail) ++ k.symbols ≡
      (token e (want.Key KEY_ELSE) (steps_said ss (arm_said last (tail_said tail k)))).symbols
  others_spelled [] last tail e k =
      ap (λ (z : Symbols). record { token = e; want = want.Key KEY_ELSE } ∷ (record { token = last.key; want = want.Key KEY_IF } ∷ (record { token = last.left; want = want.Mark MARK_LEFT_PAREN } ∷ z)))
      (branch_spelled (expr_spelling last.cond) (paren last.right MARK_RIGHT_PAREN) (stmt_spelling last.body) (other_arms (option_map stmt_spelling (tail_stmt tail)) [] (tail_marks tail)) k.symbols ∙
      ap (λ (z : Symbols). expr_spelling last.cond ++ (record { token = last.right; want = want.Mark MARK_RIGHT_PAREN } ∷ (stmt_spelling last.body ++ z))) (tail_spelled tail k))
  others_spelled (s ∷ ss) last tail e k =
      ap (λ (z : Symbols). record { token = e; want = want.Key KEY_ELSE } ∷ (record { token = s.0.key; want = want.Key KEY_IF } ∷ (record { token = s.0.left; want = want.Mark MARK_LEFT_PAREN } ∷ z)))
      (branch_spelled (expr_spelling s.0.cond) (paren s.0.right MARK_RIGHT_PAREN) (stmt_spelling s.0.body)
      (other_arms (option_map stmt_spelling (tail_stmt tail)) (spelled_arms (arms_in ss last)) (s.1 ∷ marks_in ss last tail)) k.symbols ∙
      ap (λ (z : Symbols). expr_spelling s.0.cond ++ (record { token = s.0.right; want = want.Mark MARK_RIGHT_PAREN } ∷ (stmt_spelling s.0.body ++ z))) (others_spelled ss last tail s.1 k))

  arms_spelled : (ss : Steps) (last : Branch) (tail : Tail) (k : Said) →
      if_arms (option_map stmt_spelling (tail_stmt tail)) (spelled_arms (arms_in ss last)) (marks_in ss last tail) ++ k.symbols ≡ (steps_said ss (arm_said last (tail_said tail k))).symbols
  arms_spelled [] last tail k =
      ap (λ (z : Symbols). record { token = last.key; want = want.Key KEY_IF } ∷ (record { token = last.left; want = want.Mark MARK_LEFT_PAREN } ∷ z))
      (branch_spelled (expr_spelling last.cond) (paren last.right MARK_RIGHT_PAREN) (stmt_spelling last.body) (other_arms (option_map stmt_spelling (tail_stmt tail)) [] (tail_marks tail)) k.symbols ∙
      ap (λ (z : Symbols). expr_spelling last.cond ++ (record { token = last.right; want = want.Mark MARK_RIGHT_PAREN } ∷ (stmt_spelling last.body ++ z))) (tail_spelled tail k))
  arms_spelled (s ∷ ss) last tail k =
      ap (λ (z : Symbols). record { token = s.0.key; want = want.Key KEY_IF } ∷ (record { token = s.0.left; want = want.Mark MARK_LEFT_PAREN } ∷ z))
      (branch_spelled (expr_spelling s.0.cond) (paren s.0.right MARK_RIGHT_PAREN) (stmt_spelling s.0.body)
      (other_arms (option_map stmt_spelling (tail_stmt tail)) (spelled_arms (arms_in ss last)) (s.1 ∷ marks_in ss last tail)) k.symbols ∙
      ap (λ (z : Symbols). expr_spelling s.0.cond ++ (record { token = s.0.right; want = want.Mark MARK_RIGHT_PAREN } ∷ (stmt_spelling s.0.body ++ z))) (others_spelled ss last tail s.1 k))

  if_spelled : (ss : Steps) (last : Branch) (tail : Tail) (k : Said) →
      stmt_kind_spelling (if_tree ss last tail) ++ k.symbols ≡ (steps_said ss (arm_said last (tail_said tail k))).symbols
  if_spelled ss last tail k = ap (λ (z : Symbols). z ++ k.symbols) (spell.stmt_kind_if_spelling_lem (arms_in ss last) (tail_stmt tail) (marks_in ss last tail)) ∙ arms_spelled ss last tail k

  -- It begins with `if`.
  pub if_begins : (ss : Steps) (last : Branch) (tail : Tail) → (n : ℕ) × (rest : Symbols) × (stmt_kind_spelling (if_tree ss last tail) ≡ record { token = n; want = want.Key KEY_IF } ∷ rest)
  if_begins [] last tail = (last.key, _, sym (append-nil _) ∙ if_spelled [] last tail nothing)
  if_begins (s ∷ ss) last tail = (s.0.key, _, sym (append-nil _) ∙ if_spelled (s ∷ ss) last tail nothing)

  -- ---- Names

  abbrev met_arms : List (Expr × Stmt) → List (Expr × Events)
  met_arms arms = map (λ (t : Expr × Stmt). (t.0, stmt_fold (stmt_steps_of kind_of bytes_of) t.1)) arms

  abbrev pub nested_events : Steps → Branch → Tail → Events
  nested_events ss last tail = if_events kind_of bytes_of (met_arms (arms_in ss last)) (option_map (stmt_fold (stmt_steps_of kind_of bytes_of)) (tail_stmt tail))

  abbrev tail_met : Tail → Events
  tail_met None = []
  tail_met (Some t) = scoped (stmt_fold (stmt_steps_of kind_of bytes_of) t.1)

  abbrev branch_met : Branch → Events → Events
  branch_met b events = (of_expr kind_of bytes_of b.cond).events ++ (scoped (stmt_fold (stmt_steps_of kind_of bytes_of) b.body) ++ events)

  abbrev flat_events : Steps → Branch → Tail → Events
  flat_events [] last tail = branch_met last (tail_met tail)
  flat_events (s ∷ ss) last tail = branch_met s.0 (flat_events ss last tail)

  branch_then : (b : Branch) (events more : Events) → branch_met b events ++ more ≡ branch_met b (events ++ more)
  branch_then b events more =
      append_assoc (of_expr kind_of bytes_of b.cond).events _ more ∙ ap (λ (z : Events). (of_expr kind_of bytes_of b.cond).events ++ z) (append_assoc (scoped (stmt_fold (stmt_steps_of kind_of bytes_of) b.body)) events more)

  tail_then : (tail : Tail) (k : Said) → (tail_said tail k).events ≡ tail_met tail ++ k.events
  tail_then None k = refl
  tail_then (Some t) k = refl

  flat_then : (ss : Steps) (last : Branch) (tail : Tail) (k : Said) → (steps_said ss (arm_said last (tail_said tail k))).events ≡ flat_events ss last tail ++ k.events
  flat_then [] last tail k = ap (branch_met last) (tail_then tail k) ∙ sym (branch_then last (tail_met tail) k.events)
  flat_then (s ∷ ss) last tail k = ap (branch_met s.0) (flat_then ss last tail k) ∙ sym (branch_then s.0 (flat_events ss last tail) k.events)

  abbrev pub IsFreeBranch : Branch → Type 0
  IsFreeBranch b = IsFree (of_expr kind_of bytes_of b.cond).events × IsFree (of_stmt kind_of bytes_of b.body).events

  abbrev pub IsFreeTail : Tail → Type 0
  IsFreeTail None = Prim.Unit {0}
  IsFreeTail (Some t) = IsFree (of_stmt kind_of bytes_of t.1).events

  same_tail : (tail : Tail) → IsFreeTail tail → IsSame (tail_met tail) (if_events kind_of bytes_of [] (option_map (stmt_fold (stmt_steps_of kind_of bytes_of)) (tail_stmt tail)))
  same_tail None g = same_shut [] shut_none
  same_tail (Some t) g = same_shut _ (shut_scoped (stmt_fold (stmt_steps_of kind_of bytes_of) t.1) g)

  pub same_if : (ss : Steps) (last : Branch) (tail : Tail) → Every (λ (x : Branch × ℕ). IsFreeBranch x.0) ss → IsFreeBranch last → IsFreeTail tail → IsSame (flat_events ss last tail) (nested_events ss last tail)
  unfolding expr_events
  same_if [] last tail f g h = same_step (of_expr kind_of bytes_of last.cond).events (stmt_fold (stmt_steps_of kind_of bytes_of) last.body) _ _ g.0 g.1 (same_tail tail h)
  same_if (s ∷ ss) last tail f g h = same_step (of_expr kind_of bytes_of s.0.cond).events (stmt_fold (stmt_steps_of kind_of bytes_of) s.0.body) _ _ f.0.0 f.0.1 (same_if ss last tail f.1 g h)

  pub if_met : (ss : Steps) (last : Branch) (tail : Tail) → (of_kind kind_of bytes_of (if_tree ss last tail)).events ≡ nested_events ss last tail
  if_met ss last tail = fold.stmt_kind_if_folds (stmt_steps_of kind_of bytes_of) (arms_in ss last) (tail_stmt tail) (marks_in ss last tail)

  pub nested_if : (ss : Steps) (last : Branch) (tail : Tail) → Every (λ (x : Branch × ℕ). IsFreeBranch x.0) ss → IsFreeBranch last → IsFreeTail tail → (k : Said) (ts : List KeptToken) (scopes end : OpenScopes) →
      AreSaid kind_of bytes_of (opens (steps_said ss (arm_said last (tail_said tail (closes k))))) ts scopes end → AreSaid kind_of bytes_of (of_kind kind_of bytes_of (if_tree ss last tail) and k) ts scopes end
  nested_if ss last tail u v w k ts scopes end f = (
    subst (λ (z : Symbols). FitTokens kind_of bytes_of z ts) (sym (if_spelled ss last tail (closes k))) f.0,
    subst (λ (z : Events). AreMet scopes (z ++ k.events) end) (sym (if_met ss last tail))
        (nested_from_flat (flat_events ss last tail) (nested_events ss last tail) k.events (same_if ss last tail u v w) scopes end
        (subst (λ (z : Events). AreMet scopes (Opens ∷ z) end) (flat_then ss last tail (closes k)) f.1)),
  )

  pub flat_if : (ss : Steps) (last : Branch) (tail : Tail) → Every (λ (x : Branch × ℕ). IsFreeBranch x.0) ss → IsFreeBranch last → IsFreeTail tail → (k : Said) (ts : List KeptToken) (scopes end : OpenScopes) →
      AreSaid kind_of bytes_of (of_kind kind_of bytes_of (if_tree ss last tail) and k) ts scopes end → AreSaid kind_of bytes_of (opens (steps_said ss (arm_said last (tail_said tail (closes k))))) ts scopes end
  flat_if ss last tail u v w k ts scopes end f = (
    subst (λ (z : Symbols). FitTokens kind_of bytes_of z ts) (if_spelled ss last tail (closes k)) f.0,
    subst (λ (z : Events). AreMet scopes (Opens ∷ z) end) (sym (flat_then ss last tail (closes k)))
        (flat_from_nested (flat_events ss last tail) (nested_events ss last tail) k.events (same_if ss last tail u v w) scopes end
        (subst (λ (z : Events). AreMet scopes (z ++ k.events) end) (if_met ss last tail) f.1)),
  )
