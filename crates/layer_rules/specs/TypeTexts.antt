-- Type texts (ours): the spellings of specifiers, without storage classes, function specifiers and
-- alignment, and those of a declarator, without its name and width.
use Rattle.std.specs.Prelude.{ℕ, List, [], ◌∷◌, ◌++◌, Option, Some, None, slice_get}
use Rattle.std.specs.List.{flat_map}
use Rattle.c_tree.specs.declared.tree.Pointer.{Pointer}
use Rattle.c_tree.specs.declared.tree.BaseForm.TheOpen as o
use Rattle.c_tree.specs.Folds.{SpecLevel, SuffixLevel}
use Rattle.layer_rules.specs.Files.{File, spelling_at, spellings_between, spellings_of}
use Rattle.layer_rules.specs.Nodes.{tagged}

abbrev pub Spellings : Type 0
Spellings = List (List ℕ)

-- The last of the tokens from this one on.
abbrev pub last_from : ℕ → List ℕ → ℕ
last_from token [] = token
last_from token (next ∷ tokens) = last_from next tokens

abbrev pub last_of : List ℕ → Option ℕ
last_of [] = None
last_of (token ∷ tokens) = Some (last_from token tokens)

-- The spellings of the tokens from the first mark of a form to its last.
abbrev pub whole : File → List ℕ → Spellings
whole file marks = spellings_between file (slice_get marks 0) (last_of marks)

-- A specifier. A record or an enumeration of the list itself is its keyword and its tag; one inside
-- of `_Atomic ( )` stays as it is spelled (6.7.2.4).
abbrev pub spec_text : {A : Type 0} → File → SpecLevel A → Spellings
spec_text file (o.Spec-F.Storage token) = []
spec_text file (o.Spec-F.Function token) = []
spec_text file (o.Spec-F.Qualifier token) = spelling_at file (Some token) ∷ []
spec_text file (o.Spec-F.Basic token) = spelling_at file (Some token) ∷ []
spec_text file (o.Spec-F.Named token) = spelling_at file (Some token) ∷ []
spec_text file (o.Spec-F.Atomic type_name marks) = whole file marks
spec_text file (o.Spec-F.AlignType type_name marks) = []
spec_text file (o.Spec-F.AlignExpr expr marks) = []
spec_text file (o.Spec-F.Record key tag body marks) = tagged file key tag
spec_text file (o.Spec-F.Enumeration key tag body marks) = tagged file key tag

-- Pointers, each with its qualifiers (6.7.6.1).
abbrev pub pointers_text : File → List Pointer → Spellings
pointers_text file pointers =
    flat_map (λ (pointer : Pointer). spellings_of file (pointer.star ∷ pointer.qualifiers)) pointers

-- A suffix: from its bracket to the one that closes it (6.7.6.2, 6.7.6.3).
abbrev pub suffix_text : {A : Type 0} → File → SuffixLevel A → Spellings
suffix_text file (o.Suffix-F.Array words size star marks) = whole file marks
suffix_text file (o.Suffix-F.Params list dots marks) = whole file marks

-- What stands in parentheses, with them.
abbrev pub group_text : File → List ℕ → Spellings → Spellings
group_text file marks inner =
    spelling_at file (slice_get marks 0) ∷ (inner ++ spelling_at file (slice_get marks 1) ∷ [])
