-- The schema (ours, after the Code Property Graph specification 1.1): which labels an edge of each
-- kind may join.
use Rattle.std.specs.Prelude.{◌&&◌, ◌==◌, Bool, List, [], ◌∷◌, ◌++◌}
use Rattle.std.specs.List.{list_any}
use Rattle.cpg_schema.specs.declared.label.Label.{Label}
use Rattle.cpg_schema.specs.declared.label.Label.TheVariants.{File, NamespaceBlock, Method}
use Rattle.cpg_schema.specs.declared.label.Label.TheVariants.{MethodParameterIn, MethodParameterOut}
use Rattle.cpg_schema.specs.declared.label.Label.TheVariants.{MethodReturn, TypeNode, TypeDecl}
use Rattle.cpg_schema.specs.declared.label.Label.TheVariants.{Member, Block, Call, ControlStructure}
use Rattle.cpg_schema.specs.declared.label.Label.TheVariants.{Identifier, FieldIdentifier, Literal}
use Rattle.cpg_schema.specs.declared.label.Label.TheVariants.{Local, MethodRef, TypeRef, JumpTarget}
use Rattle.cpg_schema.specs.declared.label.Label.TheVariants.{Return}
use Rattle.cpg_schema.specs.declared.edge_kind.EdgeKind.{EdgeKind}
use Rattle.cpg_schema.specs.declared.edge_kind.EdgeKind.TheVariants as edge_kind
use Rattle.cpg_schema.specs.Names.{label_rank}

-- A row of the table: an edge may lead from each of some labels to each of others.
pub record Row : Type 0 where
  pub from : List Label
  pub to : List Label

abbrev pub row : List Label → List Label → Row
row from to = record { from = from; to = to }

-- An expression.
abbrev pub expr : List Label
expr = Call ∷ Identifier ∷ Literal ∷ []

-- What may stand as a statement.
abbrev pub body : List Label
body = expr ++ Block ∷ ControlStructure ∷ JumpTarget ∷ Return ∷ []

-- What a call may take.
abbrev pub operand : List Label
operand = expr ++ TypeRef ∷ FieldIdentifier ∷ []

-- What control flows through within a method.
abbrev pub step : List Label
step = expr ++ FieldIdentifier ∷ Return ∷ ControlStructure ∷ JumpTarget ∷ []

-- What has a type.
abbrev pub typed : List Label
typed =
    Local ∷ MethodParameterIn ∷ MethodParameterOut ∷ MethodReturn ∷ Member ∷ TypeRef ∷ TypeDecl ∷ []

-- The table.
abbrev pub rows : EdgeKind → List Row
rows edge_kind.Ast =
    row (File ∷ []) (NamespaceBlock ∷ [])
    ∷ row (NamespaceBlock ∷ []) (Method ∷ [])
    ∷ row (Method ∷ []) (MethodParameterIn ∷ MethodParameterOut ∷ Block ∷ MethodReturn ∷ [])
    ∷ row (MethodParameterIn ∷ TypeRef ∷ []) (TypeDecl ∷ [])
    ∷ row (TypeDecl ∷ []) (TypeDecl ∷ Member ∷ [])
    ∷ row (Block ∷ []) (body ++ Local ∷ Method ∷ MethodRef ∷ TypeDecl ∷ [])
    ∷ row (ControlStructure ∷ JumpTarget ∷ []) body
    ∷ row (Return ∷ []) expr
    ∷ row (Call ∷ []) operand
    ∷ []
rows edge_kind.Condition = row (ControlStructure ∷ []) expr ∷ []
rows edge_kind.Argument = row (Call ∷ []) operand ∷ []
rows edge_kind.SourceFile = row (Method ∷ NamespaceBlock ∷ TypeDecl ∷ []) (File ∷ []) ∷ []
rows edge_kind.Contains =
    row (File ∷ []) (Method ∷ TypeDecl ∷ [])
    ∷ row (Method ∷ []) (Call ∷ [])
    ∷ []
rows edge_kind.ParameterLink = row (MethodParameterIn ∷ []) (MethodParameterOut ∷ []) ∷ []
rows edge_kind.EvalType = row typed (TypeNode ∷ []) ∷ []
rows edge_kind.Ref =
    row (Identifier ∷ []) (Local ∷ MethodParameterIn ∷ Method ∷ MethodRef ∷ Member ∷ [])
    ∷ row (Call ∷ []) (Local ∷ MethodParameterIn ∷ Member ∷ [])
    ∷ row (MethodRef ∷ []) (Method ∷ [])
    ∷ []
rows edge_kind.Call = row (Call ∷ []) (Method ∷ []) ∷ []
rows edge_kind.Cfg = row (Method ∷ step) (step ++ MethodReturn ∷ []) ∷ []
rows edge_kind.ReachingDef =
    row (Identifier ∷ MethodParameterIn ∷ []) (Identifier ∷ MethodParameterOut ∷ []) ∷ []

-- The label is one of these.
abbrev pub is_among : Label → List Label → Bool
is_among label labels = list_any (λ other. label_rank label == label_rank other) labels

-- Some row of the kind has both labels.
abbrev pub allows : EdgeKind → Label → Label → Bool
allows kind from to = list_any (λ row. is_among from row.from && is_among to row.to) (rows kind)
