-- What is found in the parts of a function, one after the other.

use Rattle.std.proofs.Common.{◌≡◌, ℕ, suc, ◌+◌, ◌<◌, ◌≤◌, true, ◌||◌, List, [], ◌∷◌, ◌++◌, Option, Some, None, map, take, drop, get_or, length, refl, sym, ap, ◌∙◌, arith, append_assoc, append-nil}
use Rattle.std.specs.Prelude.{slice_get}
use Rattle.std.proofs.lemmas.Grind.{flat_map-append}
use Rattle.std.proofs.lemmas.List.{take_all, take_more, map_push}
use Rattle.c_tree.specs.declared.tree.Block.{Block}
use Rattle.c_tree.specs.declared.tree.Declaration.{Declaration}
use Rattle.c_tree.specs.declared.tree.Expr.{Expr}
use Rattle.c_tree.specs.declared.tree.ForInit.{ForInit}
use Rattle.c_tree.specs.declared.tree.Stmt.{Stmt}
use Rattle.c_tree.specs.declared.tree.BlockItem.TheVariants as v_block_item
use Rattle.c_tree.specs.declared.tree.StmtKind.TheVariants as v_kind
use Rattle.c_tree.specs.declared.tree.Mark.TheVariants as v_mark
use Rattle.c_tree.specs.Jumps.{Jumps, Blames, block_jumps, in_parts, in_switch, no_jumps, jump_steps, stray_unless, StrayBreak, StrayCase, StrayContinue, StrayDefault}
use Rattle.c_tree.proofs.Folds.{block_folds, block_item_declare_folds, block_item_do_folds, stmt_folds, stmt_kind_empty_folds, stmt_kind_value_folds, stmt_kind_braced_folds, stmt_kind_if_folds, stmt_kind_while_folds, stmt_kind_do_while_folds, stmt_kind_for_folds, stmt_kind_switch_folds, stmt_kind_break_folds, stmt_kind_continue_folds, stmt_kind_goto_folds, stmt_kind_return_folds}
use Rattle.c_jumps.specs.declared.around.Around.{Around}
use Rattle.c_jumps.specs.Walk.{FoundJumps, block_item_jumps, stmt_jumps, stmt_kind_jumps, arm_jumps, mark_jumps, with_blames, with_default, with_goto, with_label, with_part, with_parts, after_switch}

-- ---- Parts one after the other

pub with_parts-nil : (found : FoundJumps) (around : Around) → with_parts found [] around ≡ found
unfolding with_parts with_part
with_parts-nil found around = simp append-nil

pub with_parts-push : (found : FoundJumps) (parts : List Jumps) (part : Jumps) (around : Around) →
    with_parts found (parts ++ part ∷ []) around ≡ with_part (with_parts found parts around) part around
unfolding with_parts with_part
with_parts-push found parts part around = simp (flat_map-append, append-nil, append_assoc)

pub one_more : {A : Type 0} (jumps_of : A → Jumps) (found : FoundJumps) (items : List A) (i : ℕ) (item : A) (around : Around) → i < length items → item ≡ get_or items i item →
    with_parts found (map jumps_of (take (i + 1) items)) around ≡ with_part (with_parts found (map jumps_of (take i items)) around) (jumps_of item) around
one_more jumps_of found items i item around inside is =
    ap (λ parts. with_parts found parts around)
    (ap (map jumps_of) (take_more items i item inside) ∙ (map_push jumps_of (take i items) (get_or items i item) ∙
    ap (λ v. map jumps_of (take i items) ++ jumps_of v ∷ []) (sym is))) ∙
    with_parts-push found (map jumps_of (take i items)) (jumps_of item) around

-- One more of the items was added.
pub one_more_added : {A : Type 0} (jumps_of : A → Jumps) (found before after : FoundJumps) (items : List A) (i : ℕ) (item : A) (around : Around) → i < length items → item ≡ get_or items i item →
    before ≡ with_parts found (map jumps_of (take i items)) around → after ≡ with_part before (jumps_of item) around →
    after ≡ with_parts found (map jumps_of (take (i + 1) items)) around
one_more_added jumps_of found before after items i item around inside is so_far then =
    then ∙ (ap (λ (f : FoundJumps). with_part f (jumps_of item) around) so_far ∙ sym (one_more jumps_of found items i item around inside is))

-- All of the items were added.
pub all_added : {A : Type 0} (jumps_of : A → Jumps) (found end : FoundJumps) (items : List A) (i : ℕ) (around : Around) → length items ≤ i →
    end ≡ with_parts found (map jumps_of (take i items)) around → end ≡ with_parts found (map jumps_of items) around
all_added {A} jumps_of found end items i around past so_far =
    so_far ∙ ap (λ (list : List A). with_parts found (map jumps_of list) around) (take_all i items past)

-- ---- Blocks and their items

pub block_found : (found : FoundJumps) (block : Block) (around : Around) →
    with_part found (block_jumps block) around ≡ with_parts found (map block_item_jumps block.items) around
unfolding block_jumps block_item_jumps with_parts
block_found found block around = ap (λ part. with_part found part around) (block_folds jump_steps block)

nothing_found : (found : FoundJumps) (around : Around) → with_part found no_jumps around ≡ found
unfolding with_part
nothing_found found around = simp append-nil

pub declaration_found : (found : FoundJumps) (declaration : Declaration) (around : Around) →
    with_part found (block_item_jumps (v_block_item.Declare declaration)) around ≡ found
unfolding block_item_jumps
declaration_found found declaration around =
    ap (λ part. with_part found part around) (block_item_declare_folds jump_steps declaration) ∙ nothing_found found around

pub item_found : (found : FoundJumps) (stmt : Stmt) (around : Around) →
    with_part found (block_item_jumps (v_block_item.Do stmt)) around ≡ with_part found (stmt_jumps stmt) around
unfolding block_item_jumps stmt_jumps
item_found found stmt around = ap (λ part. with_part found part around) (block_item_do_folds jump_steps stmt)

-- ---- Statements

pub stmt_found : (found : FoundJumps) (stmt : Stmt) (around : Around) →
    with_part found (stmt_jumps stmt) around ≡ with_part (with_parts found (map mark_jumps stmt.labels) around) (stmt_kind_jumps stmt.kind) around
unfolding stmt_jumps stmt_kind_jumps mark_jumps with_parts
stmt_found found stmt around =
    let e = ap (λ part. with_part found part around) (stmt_folds jump_steps stmt) in
    e ∙ with_parts-push found (map mark_jumps stmt.labels) (stmt_kind_jumps stmt.kind) around

pub empty_found : (found : FoundJumps) (marks : List ℕ) (around : Around) →
    with_part found (stmt_kind_jumps (v_kind.Empty marks)) around ≡ found
unfolding stmt_kind_jumps
empty_found found marks around =
    ap (λ part. with_part found part around) (stmt_kind_empty_folds jump_steps marks) ∙ nothing_found found around

pub value_found : (found : FoundJumps) (expr : Expr) (marks : List ℕ) (around : Around) →
    with_part found (stmt_kind_jumps (v_kind.Value expr marks)) around ≡ found
unfolding stmt_kind_jumps
value_found found expr marks around =
    ap (λ part. with_part found part around) (stmt_kind_value_folds jump_steps expr marks) ∙ nothing_found found around

pub return_found : (found : FoundJumps) (expr : Option Expr) (marks : List ℕ) (around : Around) →
    with_part found (stmt_kind_jumps (v_kind.Return expr marks)) around ≡ found
unfolding stmt_kind_jumps
return_found found expr marks around =
    ap (λ part. with_part found part around) (stmt_kind_return_folds jump_steps expr marks) ∙ nothing_found found around

pub braced_found : (found : FoundJumps) (block : Block) (around : Around) →
    with_part found (stmt_kind_jumps (v_kind.Braced block)) around ≡ with_part found (block_jumps block) around
unfolding stmt_kind_jumps block_jumps
braced_found found block around = ap (λ part. with_part found part around) (stmt_kind_braced_folds jump_steps block)

arms_same : (arms : List (Expr × Stmt)) →
    map (λ (arm : Expr × Jumps). arm.1) (map (λ t. (t.0, stmt_jumps t.1)) arms) ≡ map arm_jumps arms
unfolding arm_jumps
arms_same [] = refl
arms_same (arm ∷ arms) = ap (λ rest. stmt_jumps arm.1 ∷ rest) (arms_same arms)

pub if_found : (found : FoundJumps) (arms : List (Expr × Stmt)) (marks : List ℕ) (around : Around) →
    with_part found (stmt_kind_jumps (v_kind.If arms None marks)) around ≡ with_parts found (map arm_jumps arms) around
unfolding stmt_kind_jumps stmt_jumps with_parts
if_found found arms marks around =
    ap (λ part. with_part found part around) (stmt_kind_if_folds jump_steps arms None marks) ∙
    ap (λ parts. with_part found (in_parts parts) around) (ap (λ parts. parts ++ []) (arms_same arms) ∙ append-nil (map arm_jumps arms))

pub if_else_found : (found : FoundJumps) (arms : List (Expr × Stmt)) (other : Stmt) (marks : List ℕ) (around : Around) →
    with_part found (stmt_kind_jumps (v_kind.If arms (Some other) marks)) around ≡ with_part (with_parts found (map arm_jumps arms) around) (stmt_jumps other) around
unfolding stmt_kind_jumps stmt_jumps with_parts
if_else_found found arms other marks around =
    ap (λ part. with_part found part around) (stmt_kind_if_folds jump_steps arms (Some other) marks) ∙
    (ap (λ parts. with_part found (in_parts (parts ++ stmt_jumps other ∷ [])) around) (arms_same arms) ∙
    with_parts-push found (map arm_jumps arms) (stmt_jumps other) around)

pub while_found : (found : FoundJumps) (expr : Expr) (body : Stmt) (marks : List ℕ) (around : Around) →
    with_part found (stmt_kind_jumps (v_kind.While expr body marks)) around ≡ with_part found (stmt_jumps body) (record around { in_loop = true })
unfolding stmt_kind_jumps stmt_jumps with_part
while_found found expr body marks around =
    ap (λ part. with_part found part around) (stmt_kind_while_folds jump_steps expr body marks)

pub do_while_found : (found : FoundJumps) (body : Stmt) (expr : Expr) (marks : List ℕ) (around : Around) →
    with_part found (stmt_kind_jumps (v_kind.DoWhile body expr marks)) around ≡ with_part found (stmt_jumps body) (record around { in_loop = true })
unfolding stmt_kind_jumps stmt_jumps with_part
do_while_found found body expr marks around =
    ap (λ part. with_part found part around) (stmt_kind_do_while_folds jump_steps body expr marks)

pub for_found : (found : FoundJumps) (init : ForInit) (cond : Option Expr) (step : Option Expr) (body : Stmt) (marks : List ℕ) (around : Around) →
    with_part found (stmt_kind_jumps (v_kind.For init cond step body marks)) around ≡ with_part found (stmt_jumps body) (record around { in_loop = true })
unfolding stmt_kind_jumps stmt_jumps with_part
for_found found init cond step body marks around =
    ap (λ part. with_part found part around) (stmt_kind_for_folds jump_steps init cond step body marks)

pub switch_found : (found : FoundJumps) (expr : Expr) (body : Stmt) (marks : List ℕ) (around : Around) →
    with_part found (stmt_kind_jumps (v_kind.Switch expr body marks)) around ≡ with_part found (in_switch (stmt_jumps body)) around
unfolding stmt_kind_jumps stmt_jumps
switch_found found expr body marks around =
    ap (λ part. with_part found part around) (stmt_kind_switch_folds jump_steps expr body marks)

strays_found : (found : FoundJumps) (blames : Blames) (around : Around) →
    with_part found (record no_jumps { strays = λ loop switch. blames }) around ≡ with_blames found blames
unfolding with_part with_blames
strays_found found blames around = simp append-nil

pub break_found : (found : FoundJumps) (marks : List ℕ) (around : Around) →
    with_part found (stmt_kind_jumps (v_kind.Break marks)) around ≡ with_blames found (stray_unless (around.in_loop || around.in_switch) StrayBreak (slice_get marks 0))
unfolding stmt_kind_jumps with_part
break_found found marks around =
    ap (λ part. with_part found part around) (stmt_kind_break_folds jump_steps marks) ∙
    strays_found found (stray_unless (around.in_loop || around.in_switch) StrayBreak (slice_get marks 0)) around

pub continue_found : (found : FoundJumps) (marks : List ℕ) (around : Around) →
    with_part found (stmt_kind_jumps (v_kind.Continue marks)) around ≡ with_blames found (stray_unless around.in_loop StrayContinue (slice_get marks 0))
unfolding stmt_kind_jumps with_part
continue_found found marks around =
    ap (λ part. with_part found part around) (stmt_kind_continue_folds jump_steps marks) ∙
    strays_found found (stray_unless around.in_loop StrayContinue (slice_get marks 0)) around

pub goto_found : (found : FoundJumps) (name : ℕ) (marks : List ℕ) (around : Around) →
    with_part found (stmt_kind_jumps (v_kind.Goto name marks)) around ≡ with_goto found name
unfolding stmt_kind_jumps with_part with_goto
goto_found found name marks around =
    ap (λ part. with_part found part around) (stmt_kind_goto_folds jump_steps name marks) ∙ simp append-nil

-- ---- Labels

pub label_found : (found : FoundJumps) (name : ℕ) (marks : List ℕ) (around : Around) →
    with_part found (mark_jumps (v_mark.Label name marks)) around ≡ with_label found name
unfolding mark_jumps with_part with_label
label_found found name marks around = simp append-nil

pub case_found : (found : FoundJumps) (expr : Expr) (marks : List ℕ) (around : Around) →
    with_part found (mark_jumps (v_mark.Case expr marks)) around ≡ with_blames found (stray_unless around.in_switch StrayCase (slice_get marks 0))
unfolding mark_jumps with_part with_blames
case_found found expr marks around = simp append-nil

pub default_found : (found : FoundJumps) (token : ℕ) (marks : List ℕ) (around : Around) →
    with_part found (mark_jumps (v_mark.Default token marks)) around ≡ with_default (with_blames found (stray_unless around.in_switch StrayDefault (Some token))) token
unfolding mark_jumps with_part with_blames with_default
default_found found token marks around = simp append-nil

-- ---- The end of a `switch`

drop_behind : (before after : List ℕ) → drop (length before + 1) (before ++ after) ≡ drop 1 after
drop_behind [] after = refl
drop_behind (first ∷ before) after =
    ap (λ n. drop n (first ∷ before ++ after)) (let e : length (first ∷ before) + 1 ≡ suc (length before + 1) = omega arith in e) ∙ drop_behind before after

take_before : (before after : List ℕ) → take (length before) (before ++ after) ≡ before
take_before [] after = refl
take_before (first ∷ before) after = ap (λ rest. first ∷ rest) (take_before before after)

pub switch_ends : (found : FoundJumps) (body : Jumps) (around : Around) →
    after_switch (length found.defaults) (with_part found body (record around { in_switch = true })) ≡ with_part found (in_switch body) around
unfolding with_part after_switch
switch_ends found body around =
    simp (drop_behind found.defaults body.defaults, take_before found.defaults body.defaults, append-nil, append_assoc)

pub switch_done : (old between : FoundJumps) (body : Jumps) (outer : ℕ) (around inner : Around) → outer ≡ length old.defaults →
    between ≡ with_part old body inner → inner ≡ record around { in_switch = true } → after_switch outer between ≡ with_part old (in_switch body) around
switch_done old between body outer around inner before found stands =
    ap (λ (n : ℕ). after_switch n between) before ∙
    (ap (λ (f : FoundJumps). after_switch (length old.defaults) f) (found ∙ ap (λ (a : Around). with_part old body a) stands) ∙
    switch_ends old body around)

pub ruleset label_laws = (label_found, case_found, default_found)

pub ruleset block_laws = (with_parts-nil, block_found, declaration_found, item_found, stmt_found)

pub ruleset kind_laws = (with_parts-nil, empty_found, value_found, return_found, braced_found, if_found, if_else_found, while_found, do_while_found, for_found, switch_found, break_found, continue_found, goto_found)
