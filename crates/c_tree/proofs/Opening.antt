-- The laws by which a level of a tree opens, by the files of the code.

use Rattle.std.proofs.Common.{append_assoc, append-nil}
use Rattle.std.proofs.lemmas.List.{length-map}
use Rattle.c_tree.proofs.Lists.{separated_end}
use Rattle.c_tree.proofs.Spellings.{declaration_laws, statement_laws, expression_laws}
use Rattle.c_tree.proofs.Weights.{declaration_weights, statement_weights, expression_weights}

pub ruleset opens_list = (append_assoc, append-nil, separated_end, length-map)

pub ruleset opens_declaration = (opens_list, declaration_laws, declaration_weights)

pub ruleset opens_statement = (opens_list, statement_laws, statement_weights)

pub ruleset opens_expression = (opens_list, expression_laws, expression_weights)
