use Rattle.std.proofs.Common.{rules, ◌≡◌, ℕ, List, [], map, Err, true, sym, ap, ◌∙◌, subst, arith}
use Rattle.std.proofs.lemmas.Grind.{common_steps}
use Rattle.std.proofs.lemmas.Result.{err_from_is_err_and}
use Rattle.std.specs.Borrow.{Bor}
use Rattle.c_tree.specs.Fits.{kinds_of}
use Rattle.line_marks.specs.Kept.{items_at}
use Rattle.first_grammar.specs.Rest.{Rest, numbered}
use Rattle.first_grammar.specs.Reads.{Reads}
use Rattle.first_grammar.specs.FirstUnit.{Differ, name_of}
use Rattle.first_grammar.specs.Grammar.{ItemsAt}
use Rattle.first_grammar.specs.declared.stop.GrammarStop.{GrammarStop}
use Rattle.first_grammar.specs.declared.stop.GrammarStop.TheVariants.{Unbuilt}
use Rattle.first_grammar.proofs.Inward.{unit_in}
use Rattle.first_grammar.proofs.Outward.{items_out}
use Rattle.first_grammar.proofs.Unique.{items_unique}
use Rattle.first_grammar.proofs.unit.read_unit.Goals as goal

pub returns-in_err-items-clause-unbuilt : goal.returns-in_err-items-clause-unbuilt
returns-in_err-items-clause-unbuilt c = λ stop unit h.
    let err = err_from_is_err_and c.from_residual.result c.from_residual.ensures.1 in
    let is : c.in_err-items.field-0.0 ≡ Unbuilt = cc (err.1, err.2, stop) in
    let tokens = items_at c.args.tokens.now c.args.kept.now in
    let refused = subst (λ (s : GrammarStop). Reads ItemsAt c.new.result (Err s) c.items.new.self) is
    c.in_err-items.ensures in
    refused unit.items [] (subst (λ (r : Rest). ItemsAt unit.items r []) (sym c.new.ensures)
    (unit_in c.args.text.bytes.now tokens unit h))

pub returns-then-not-branch-clause-unbuilt : goal.returns-then-not-branch-clause-unbuilt
returns-then-not-branch-clause-unbuilt c = λ stop unit h.
    let bytes = c.args.text.bytes.now in
    let tokens = items_at c.args.tokens.now c.args.kept.now in
    let read = subst (λ (r : Rest). ItemsAt c.in_ok-items.items r c.items.new.self) c.new.ensures
    c.in_ok-items.ensures in
    let same = items_unique unit.items c.in_ok-items.items (numbered 0 (kinds_of tokens)) [] c.items.new.self
    (unit_in bytes tokens unit h) read in
    let listed : map (λ (name : Bor (List ℕ)). name.now) c.deref.result.now ≡
    map (name_of bytes tokens) c.in_ok-items.items = first_of (search rules, grind (arith, common_steps)) in
    let differ : Differ (map (λ (name : Bor (List ℕ)). name.now) c.deref.result.now) =
    subst Differ (ap (map (name_of bytes tokens)) same.0 ∙ sym listed) h.names in
    let yes = c.in_ok-names_differ.ensures.1 differ in
    absurd (cc (yes, c.if-not-branch.true))

pub returns-clause-ok : goal.returns-clause-ok
returns-clause-ok c =
    let bytes = c.args.text.bytes.now in
    let tokens = items_at c.args.tokens.now c.args.kept.now in
    let read = subst (λ (r : Rest). ItemsAt c.in_ok-items.items r c.items.new.self) c.new.ensures
    c.in_ok-items.ensures in
    let out = items_out (kinds_of tokens) c.in_ok-items.items c.items.new.self read in
    let listed : map (λ (name : Bor (List ℕ)). name.now) c.deref.result.now ≡
    map (name_of bytes tokens) c.in_ok-items.items = first_of (search rules, grind (arith, common_steps)) in
    let yes : c.in_ok-names_differ.field-0 ≡ true = grind arith in
    let differ = c.in_ok-names_differ.ensures.0 yes in
    record { spells = out.1; functions = out.0; names = subst Differ listed differ }
