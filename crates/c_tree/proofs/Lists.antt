-- Lists that are put on the stack from their ends, and how a list with commas ends.

use Rattle.std.proofs.Common.{◌≡◌, ℕ, zero, suc, ◌+◌, ◌-◌, ◌<◌, List, [], ◌∷◌, ◌++◌, length, map, get_or, drop, refl, ap, ◌∙◌, arith, append_assoc}
use Rattle.std.proofs.lemmas.List.{drop_more, drop-drop}
use Rattle.c_lexer.specs.declared.mark.TheConstants.{MARK_COMMA}
use Rattle.c_tree.specs.declared.symbol.Want.{Want}
use Rattle.c_tree.specs.Spell.{Symbols, wanted, mark, all_wanted, joined, others, separated}
use Rattle.c_tree.specs.Walk.{after_commas, with_commas}
use Rattle.c_tree.specs.Weights.{listed}

-- ---- One more item from the end

pub tokens_more : (want : Want) (tokens : List ℕ) (i : ℕ) → i < length tokens →
    all_wanted want (drop i tokens) ≡ wanted (get_or tokens i 0) want ++ all_wanted want (drop (i + 1) tokens)
tokens_more want tokens i inside = ap (all_wanted want) (drop_more tokens i 0 inside)

pub joined_more : {T : Type 0} (spelling : T → Symbols) (items : List T) (i : ℕ) (d : T) → i < length items →
    joined (map spelling (drop i items)) ≡ spelling (get_or items i d) ++ joined (map spelling (drop (i + 1) items))
joined_more spelling items i d inside =
    ap (λ rest. joined (map spelling rest)) (drop_more items i d inside)

pub listed_more : {T : Type 0} (weight : T → ℕ) (items : List T) (i : ℕ) (d : T) → i < length items →
    listed (map weight (drop i items)) ≡ 8 + (weight (get_or items i d) + listed (map weight (drop (i + 1) items)))
listed_more weight items i d inside =
    ap (λ rest. listed (map weight rest)) (drop_more items i d inside)

mark_past : (marks : List ℕ) (i number : ℕ) → mark (drop i marks) 0 number ≡ mark marks i number
mark_past marks zero number = refl
mark_past [] (suc i) number = refl
mark_past (first ∷ marks) (suc i) number = mark_past marks i number

pub commas_more : {T : Type 0} (spelling : T → Symbols) (items : List T) (marks : List ℕ) (i : ℕ) (d : T) →
    i < length items →
    after_commas (map spelling (drop i items)) (drop i marks) ≡ mark marks i MARK_COMMA ++ (spelling (get_or items i d) ++ after_commas (map spelling (drop (i + 1) items)) (drop (i + 1) marks))
commas_more spelling items marks i d inside =
    let more = ap (λ rest. after_commas (map spelling rest) (drop i marks)) (drop_more items i d inside) in
    more ∙
    (ap (λ s. s ++ (spelling (get_or items i d) ++ after_commas (map spelling (drop (i + 1) items)) (drop 1 (drop i marks)))) (mark_past marks i MARK_COMMA) ∙
    ap (λ m. mark marks i MARK_COMMA ++ (spelling (get_or items i d) ++ after_commas (map spelling (drop (i + 1) items)) m)) (drop-drop 1 i marks))

-- ---- How a list ends

others_end : (ends : List ℕ → Symbols) (parts : List Symbols) (marks : List ℕ) →
    others ends parts marks ≡ after_commas parts marks ++ ends (drop (length parts) marks)
others_end ends [] marks = refl
others_end ends (part ∷ parts) marks =
    let rest : drop (length parts) (drop 1 marks) ≡ drop (suc (length parts)) marks =
    drop-drop (length parts) 1 marks ∙ ap (λ n. drop n marks) (let e : 1 + length parts ≡ suc (length parts) = omega arith in e) in
    rw (others_end ends parts (drop 1 marks), rest) (simp append_assoc)

-- The parts, and then what ends the list, by the marks after the commas.
pub separated_end : (ends : List ℕ → Symbols) (parts : List Symbols) (marks : List ℕ) →
    separated ends parts marks ≡ with_commas parts marks ++ ends (drop (length parts - 1) marks)
separated_end ends [] marks = refl
separated_end ends (part ∷ parts) marks =
    let one : suc (length parts) - 1 ≡ length parts = omega arith in
    rw (others_end ends parts marks, one) (simp append_assoc)
