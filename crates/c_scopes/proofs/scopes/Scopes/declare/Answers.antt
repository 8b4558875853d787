-- A name is declared under its number.

use Rattle.std.proofs.Common.{◌≡◌, ◌∙◌, ap, Result, Ok, Err, List, ℕ, Bool, false}
use Rattle.std.specs.Prelude.{OnErr, OnOk, Contains, IfNone, is_some, Option, Some, None}
use Rattle.std.specs.declared.alloc.AllocError.{AllocError}
use Rattle.c_scopes.specs.KeptScopes.{scopes_in, IsKept, AddsOther}
use Rattle.c_scopes.specs.Scopes.{OpenScopes, declared}
use Rattle.c_scopes.specs.declared.scopes.Step.{Step}
use Rattle.c_scopes.proofs.Stepping.{IsKept-other, scopes_in-other}
use Rattle.c_scopes.proofs.Stepping.{IsKept-extends, IsKept-declares, scopes_in-extends}
use Rattle.c_scopes.proofs.Stepping.{scopes_in-declares, within_typedefs, within_names, read_as}
use Rattle.c_scopes.proofs.scopes.Scopes.declare.Goals as goal

on_err : {T E : Type 0} {P : Type 0} (r : Result T E) → P → OnErr r P
on_err (Ok t) p = tt
on_err (Err e) p = p

kept_other : (result : Result (Unit {0}) AllocError) (names : List (List ℕ))
    (typedefs : List Bool) (texts new_texts : List ℕ) (steps new_steps : List Step)
    (name : List ℕ) → OnOk result (AddsOther texts new_texts steps new_steps name) →
    OnErr result ((new_texts ≡ texts) × (new_steps ≡ steps)) → ¬ Contains names name →
    IsKept names typedefs texts steps → IsKept names typedefs new_texts new_steps
kept_other (Ok u) names typedefs texts new_texts steps new_steps name adds same absent kept =
    rw (adds.texts, adds.step) (IsKept-other names typedefs texts steps name absent kept)
kept_other (Err e) names typedefs texts new_texts steps new_steps name adds same absent kept =
    rw (same.0, same.1) kept

said_other : (result : Result (Unit {0}) AllocError) (names : List (List ℕ))
    (texts new_texts : List ℕ) (steps new_steps : List Step) (name : List ℕ) (was : OpenScopes)
    (typedef : Bool) → OnOk result (AddsOther texts new_texts steps new_steps name) →
    scopes_in names texts steps ≡ was → typedef ≡ false →
    OnOk result (scopes_in names new_texts new_steps ≡ declared was name typedef)
said_other (Ok u) names texts new_texts steps new_steps name was typedef adds is none =
    rw (adds.texts, adds.step, none) (scopes_in-other names texts steps name
    ∙ ap (λ s. declared s name false) is)
said_other (Err e) names texts new_texts steps new_steps name was typedef adds is none = tt

lacking : (known : Option ℕ) (P : Type 0) → IfNone known P → is_some known ≡ false → P
lacking None P holds is = holds
lacking (Some number) P holds is = cc

pub invariant_of-self : goal.invariant_of-self
invariant_of-self c = kept_other c.declare_other.result c.self.inside.names
    c.self.inside.typedefs.items c.self.inside.texts.items c.declare_other.new.texts.items
    c.self.inside.steps.items c.declare_other.new.steps.items c.args.name.now
    c.declare_other.ensures.ok c.declare_other.ensures.err
    (lacking c.number_of-known.result (¬ Contains c.self.inside.names c.args.name.now)
    c.number_of-known.ensures.none c.if-is_none.ensures) c.self.invariant

pub returns-then-is_none-clause-ok : goal.returns-then-is_none-clause-ok
returns-then-is_none-clause-ok c = said_other c.declare_other.result c.self.inside.names
    c.self.inside.texts.items c.declare_other.new.texts.items c.self.inside.steps.items
    c.declare_other.new.steps.items c.args.name.now c.args.self.now c.args.typedef
    c.declare_other.ensures.ok c.self.view_is c.if-not-typedef.true

pub invariant_of-self-in_err-number : goal.invariant_of-self-in_err-number
invariant_of-self-in_err-number c = IsKept-extends c.self.inside.names c.number_for.new.names
    c.self.inside.typedefs.items c.number_for.new.typedefs.items c.self.inside.texts.items
    c.self.inside.steps.items
    c.number_for.ensures.extends c.number_for.ensures.keeps c.self.invariant

pub returns-in_err-number-clause-err : goal.returns-in_err-number-clause-err
returns-in_err-number-clause-err c = on_err c.from_residual.result
    (scopes_in-extends c.self.inside.names c.number_for.new.names c.self.inside.typedefs.items
    c.self.inside.texts.items c.self.inside.steps.items c.number_for.ensures.extends c.self.invariant
    ∙ c.self.view_is)

pub index-was-requires : goal.index-was-requires
index-was-requires c = rw c.number_for.new.typedefs.ok.0 (within_typedefs c.number_for.new.names c.number_for.new.typedefs.items
    c.in_ok-number.number c.args.name.now
    (c.number_for.ensures.keeps.enough c.self.invariant.enough) c.in_ok-number.ensures.number)

pub invariant_of-self-in_err-push : goal.invariant_of-self-in_err-push
invariant_of-self-in_err-push c = rw c.in_err-push.ensures.items
    (IsKept-extends c.self.inside.names c.number_for.new.names c.self.inside.typedefs.items
    c.number_for.new.typedefs.items c.self.inside.texts.items c.self.inside.steps.items
    c.number_for.ensures.extends c.number_for.ensures.keeps c.self.invariant)

pub returns-in_err-push-clause-err : goal.returns-in_err-push-clause-err
returns-in_err-push-clause-err c = on_err c.from_residual-in_err-push.result
    (ap (scopes_in c.number_for.new.names c.self.inside.texts.items) c.in_err-push.ensures.items
    ∙ scopes_in-extends c.self.inside.names c.number_for.new.names c.self.inside.typedefs.items
    c.self.inside.texts.items c.self.inside.steps.items c.number_for.ensures.extends c.self.invariant
    ∙ c.self.view_is)

pub index_mut-requires : goal.index_mut-requires
index_mut-requires c = rw c.number_for.new.typedefs.ok.0 (within_typedefs c.number_for.new.names c.number_for.new.typedefs.items
    c.in_ok-number.number c.args.name.now
    (c.number_for.ensures.keeps.enough c.self.invariant.enough) c.in_ok-number.ensures.number)

pub invariant_of-self-2 : goal.invariant_of-self-2
invariant_of-self-2 c =
    let names = c.number_for.new.names in
    let typedefs = c.number_for.new.typedefs.items in
    let number = c.in_ok-number.number in
    let kept = IsKept-extends c.self.inside.names names c.self.inside.typedefs.items typedefs
    c.self.inside.texts.items c.self.inside.steps.items c.number_for.ensures.extends c.number_for.ensures.keeps
    c.self.invariant in
    let inside = within_typedefs names typedefs number c.args.name.now kept.enough
    c.in_ok-number.ensures.number in
    let was = read_as typedefs number c.index-was.result.now inside c.index-was.ensures in
    rw (c.in_ok-push.ensures.items, was) (IsKept-declares names typedefs c.self.inside.texts.items c.self.inside.steps.items
    number c.args.typedef (within_names names number c.args.name.now
    c.in_ok-number.ensures.number) kept)

pub returns-clause-ok : goal.returns-clause-ok
returns-clause-ok c =
    ap (scopes_in c.number_for.new.names c.self.inside.texts.items) c.in_ok-push.ensures.items
    ∙ scopes_in-declares c.self.inside.names c.number_for.new.names c.self.inside.typedefs.items
    c.self.inside.texts.items c.self.inside.steps.items c.in_ok-number.number c.args.name.now c.args.typedef
    c.index-was.result.now c.number_for.ensures.extends c.self.invariant
    c.in_ok-number.ensures.number
    ∙ ap (λ s. declared s c.args.name.now c.args.typedef) c.self.view_is
