use Rattle.std.proofs.Common.{rules, ◌≡◌, ◌∙◌, ℕ, List, Some, sym, ap, subst}
use Rattle.std.specs.List.{All, slice_get}
use Rattle.std.proofs.lemmas.Option.{get_or_from_slice_get, slice_get_within}
use Rattle.c_lexer.specs.Reading.{IsWithin}
use Rattle.c_lexer.specs.declared.token.Token.{Token}
use Rattle.c_tree.specs.declared.tree.BaseForm.TheOpen as o
use Rattle.c_tree.specs.declared.tree.Core.{out-Core, out-roll-Core}
use Rattle.c_tree.specs.declared.tree.Core.TheVariants as core
use Rattle.line_marks.specs.Kept.{items_at}
use Rattle.line_marks.proofs.ItemsAt.{All-items_at}
use Rattle.first_grammar.specs.FirstUnit.{name_in, name_of_core, text_at}
use Rattle.first_grammar.proofs.names.text_of_core.Goals as goal

-- A token that is found stands in the text.
found_within : (bytes : List ℕ) (tokens : List Token) (number : ℕ) (token : Token) → All (IsWithin bytes) tokens → slice_get tokens number ≡ Some token → IsWithin bytes token
found_within bytes tokens number token all is =
    subst (IsWithin bytes) (get_or_from_slice_get tokens number token token is) (all number token (slice_get_within tokens number token is))

-- A name is opened into its token.
opened : (number : ℕ) → out-Core (core.Name number) ≡ o.Core-F.Core::Name number
opened number =
    ap out-Core (sym (core.rolls-Name number)) ∙ out-roll-Core (o.Core-F.Core::Name number)

pub text-requires-clause-forward : goal.text-requires-clause-forward
text-requires-clause-forward c =
    let all = All-items_at (IsWithin c.args.bytes.now) c.args.tokens.now c.args.kept.now c.requires.within in
    (found_within c.args.bytes.now (items_at c.args.tokens.now c.args.kept.now) c.in-Name.number c.in-Some.token all (sym c.in-Some.ensures)).forward

pub text-requires-clause-within : goal.text-requires-clause-within
text-requires-clause-within c =
    let all = All-items_at (IsWithin c.args.bytes.now) c.args.tokens.now c.args.kept.now c.requires.within in
    (found_within c.args.bytes.now (items_at c.args.tokens.now c.args.kept.now) c.in-Name.number c.in-Some.token all (sym c.in-Some.ensures)).inside

pub returns-in-Some : goal.returns-in-Some
returns-in-Some c =
    let kept = items_at c.args.tokens.now c.args.kept.now in
    let name : c.args.core.now ≡ core.Name c.in-Name.number = search rules in
    c.text.ensures ∙ (ap (text_at c.args.bytes.now) c.in-Some.ensures ∙ sym (ap (name_of_core c.args.bytes.now kept) name ∙ ap (name_in c.args.bytes.now kept) (opened c.in-Name.number)))

pub returns-in-None : goal.returns-in-None
returns-in-None c =
    let kept = items_at c.args.tokens.now c.args.kept.now in
    let name : c.args.core.now ≡ core.Name c.in-Name.number = search rules in
    ap (text_at c.args.bytes.now) c.in-None.ensures ∙ sym (ap (name_of_core c.args.bytes.now kept) name ∙ ap (name_in c.args.bytes.now kept) (opened c.in-Name.number))
