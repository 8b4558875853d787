-- Escaped values, front by front.
use Rattle.std.proofs.Common.{◌≡◌, ℕ, ◌+◌, ◌<◌, List, [], ◌∷◌, ◌++◌, length, take, drop, get_or, ◌∙◌, ap, add-one}
use Rattle.std.proofs.Math.Seq.{take-add, take-suc}
use Rattle.std.proofs.lemmas.List.{append-nil}
use Rattle.std.proofs.lemmas.Grind.{flat_map-append}
use Rattle.cpg_schema.specs.Values.{escape, escaped}

pub escaped-take-add : (at count : ℕ) (bytes : List ℕ) →
    escaped (take (at + count) bytes) ≡ escaped (take at bytes) ++ escaped (take count (drop at bytes))
escaped-take-add at count bytes = ap escaped (take-add at count bytes) ∙ flat_map-append escape (take at bytes) (take count (drop at bytes))

-- Plain bytes and one more byte.
pub escaped-plain_and_one : (plain : ℕ) (bytes : List ℕ) → plain < length bytes → escaped (take plain bytes) ≡ take plain bytes →
    escaped (take (plain + 1) bytes) ≡ take plain bytes ++ escape (get_or bytes plain 0)
escaped-plain_and_one plain bytes below same =
    ap escaped (ap (λ n. take n bytes) (add-one plain) ∙ take-suc bytes plain 0 below)
    ∙ flat_map-append escape (take plain bytes) (get_or bytes plain 0 ∷ [])
    ∙ ap (λ front. front ++ escaped (get_or bytes plain 0 ∷ [])) same
    ∙ ap (λ last. take plain bytes ++ last) (append-nil (escape (get_or bytes plain 0)))
