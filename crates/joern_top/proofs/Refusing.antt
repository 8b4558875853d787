-- What was read or refused is answered by the rules.
use Rattle.std.proofs.Common.{◌≡◌, ℕ, ◌≤◌, List, length, Some, inr, sym, ◌∙◌, ap, subst}
use Rattle.c_lexer.specs.declared.source_text.TheConstants.{MAX_FILE_BYTES}
use Rattle.graph_forest.specs.Forest.{Forest}
use Rattle.ast_layer.specs.declared.source.Source.{Source}
use Rattle.ast_layer.specs.Parts.{source_forest}
use Rattle.joern_top.specs.declared.refusal.Refusal.{Refusal}
use Rattle.joern_top.specs.Source.{forest_of}
use Rattle.joern_top.specs.Graph.{built_alone}
use Rattle.joern_top.specs.Run.{Outcome, IsSourceOutcome, IsFileOutcome, built_outcome, refused_outcome}
use Rattle.joern_top.specs.Run.IsSourceOutcome.{refused, read}
use Rattle.joern_top.specs.Reading.{IsReadSource, IsRefusal}
use Rattle.joern_top.specs.Answers.{refusal_outcome}

-- A source that was read has the outcome of building its graph.
pub decided_read : (name bytes : List ℕ) (source : Source) (o : Outcome) → length bytes ≤ MAX_FILE_BYTES → IsReadSource name bytes source →
    o ≡ built_outcome (built_alone (source_forest (Some source))) → IsFileOutcome name (Some bytes) o
decided_read name bytes source o small is same =
    let P : Outcome → Type 0 = λ o. IsSourceOutcome name bytes o in
    let built : o ≡ built_outcome (built_alone (forest_of name bytes is.parts)) =
    same ∙ ap (λ (forest : Forest). built_outcome (built_alone forest)) is.forest in
    inr (small, subst P (sym built) (read is.parts is.is))

-- Its line and its column are those of the byte.
same_outcome : (name bytes : List ℕ) (refusal : Refusal) → IsRefusal bytes refusal →
    refused_outcome name bytes refusal.at refusal.reason ≡ refusal_outcome name refusal
same_outcome name bytes refusal is =
    let line = is.line in
    let column = is.column in
    cc

pub decided_refusal : (name bytes : List ℕ) (refusal : Refusal) → length bytes ≤ MAX_FILE_BYTES → IsRefusal bytes refusal →
    IsFileOutcome name (Some bytes) (refusal_outcome name refusal)
decided_refusal name bytes refusal small is =
    let P : Outcome → Type 0 = λ o. IsSourceOutcome name bytes o in
    inr (small, subst P (same_outcome name bytes refusal is) (refused refusal.at refusal.reason is.refused))
