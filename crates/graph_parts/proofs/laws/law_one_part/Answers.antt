use Rattle.cpg_schema.specs.Graph.{PlainNode}
use Rattle.graph_parts.specs.Parts.{IsArgumentWith, IsChildWith, HasLabel, HasOrder}
use Rattle.graph_parts.proofs.Least.{one_least}
use Rattle.graph_parts.proofs.laws.law_one_part.Goals as goal

pub returns-clause-part : goal.returns-clause-part
returns-clause-part c = λ graph k parent. one_least (IsChildWith graph (HasOrder k) parent)

pub returns-clause-child : goal.returns-clause-child
returns-clause-child c = λ graph label parent. one_least (IsChildWith graph (HasLabel label) parent)

pub returns-clause-numbered : goal.returns-clause-numbered
returns-clause-numbered c = λ graph label i parent.
    one_least (IsChildWith graph (λ (node : PlainNode). HasLabel label node × HasOrder i node) parent)

pub returns-clause-argument : goal.returns-clause-argument
returns-clause-argument c = λ graph i call. one_least (IsArgumentWith graph i call)
