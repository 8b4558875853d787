-- What declarators and parameters have in the graph (C11 6.7.6).
use Rattle.std.specs.Prelude.{ℕ, ◌&&◌, Bool, true, false, List, [], ◌∷◌, ◌++◌, Option, Some, None}
use Rattle.std.specs.Prelude.{if◌then◌else◌}
use Rattle.std.specs.List.{flat_map}
use Rattle.c_tree.specs.declared.tree.BaseForm.TheOpen as o
use Rattle.c_tree.specs.Folds.{CoreLevel, SuffixLevel, DeclaratorLevel, ParamLevel}
use Rattle.layer_rules.specs.Files.{File}
use Rattle.layer_rules.specs.Nodes.{type_text}
use Rattle.layer_rules.specs.Functions.{Parameter}
use Rattle.layer_rules.specs.TypeTexts.{Spellings, pointers_text, suffix_text, group_text}
use Rattle.layer_rules.specs.Meanings.{Signature, Meaning, nothing}

abbrev pub is_nil : {A : Type 0} → List A → Bool
is_nil [] = true
is_nil (item ∷ items) = false

-- A signature with spellings around those that it has.
abbrev pub within : (Spellings → Spellings) → Option Signature → Option Signature
within around None = None
within around (Some signature) =
    Some (record signature { text = around signature.text })

-- A name has no spelling in a type text. What stands in parentheses is as it would be without them.
abbrev pub core_meaning : File → CoreLevel Meaning → Meaning
core_meaning file (o.Core-F.Core::Name token) =
    record nothing { name = Some token; bare = true }
core_meaning file (o.Core-F.Core::Group declarator marks) = record declarator {
  text = group_text file marks declarator.text;
  function = within (group_text file marks) declarator.function;
}
core_meaning file o.Core-F.Empty = nothing

-- The parameters of a list: `(void)` and `()` have none, and `...` is none (6.7.6.3 p9, p10).
abbrev pub declared_parameters : Option ℕ → List Parameter → List Parameter
declared_parameters None (parameter ∷ []) =
    if parameter.is_void then [] else parameter ∷ []
declared_parameters dots parameters = parameters

abbrev pub some_parameter : Option Parameter → List Parameter
some_parameter None = []
some_parameter (Some parameter) = parameter ∷ []

abbrev pub suffix_parameters : SuffixLevel Meaning → Option (List Parameter)
suffix_parameters (o.Suffix-F.Array words size star marks) = None
suffix_parameters (o.Suffix-F.Params list dots marks) =
    Some (declared_parameters dots
    (flat_map (λ (part : Meaning). some_parameter part.parameter) list))

abbrev pub suffix_meaning : File → SuffixLevel Meaning → Meaning
suffix_meaning file level =
    record nothing { text = suffix_text file level; parameters = suffix_parameters level }

abbrev pub suffixes_text : List Meaning → Spellings
suffixes_text suffixes = flat_map (λ (suffix : Meaning). suffix.text) suffixes

-- Parameters and the spellings of the declarator that are left are a signature.
abbrev pub signature : Option (List Parameter) → Spellings → Option Signature
signature None text = None
signature (Some parameters) text = Some (record { parameters = parameters; text = text })

-- To a declarator's name are applied first the suffixes of its declarator, from left to right, and
-- then the pointers; then those of the declarator around it (6.7.6).
abbrev pub function_of : Spellings → Meaning → List Meaning → Option Signature
function_of pointers core [] = within (λ text. pointers ++ text) core.function
function_of pointers core (suffix ∷ suffixes) =
    if core.bare
    then signature suffix.parameters (pointers ++ (core.text ++ suffixes_text suffixes))
    else within (λ text. pointers ++ (text ++ suffixes_text (suffix ∷ suffixes))) core.function

-- A declarator. Its width has no spelling in a type text (6.7.2.1).
abbrev pub declarator_meaning : File → DeclaratorLevel Meaning → Meaning
declarator_meaning file level = record nothing {
  name = level.core.name;
  text =
      pointers_text file level.pointers ++ (level.core.text ++ suffixes_text level.suffixes);
  bare = level.core.bare && (is_nil level.suffixes && is_nil level.pointers);
  function = function_of (pointers_text file level.pointers) level.core level.suffixes;
}

-- There is a name.
abbrev pub is_named : Option ℕ → Bool
is_named None = false
is_named (Some token) = true

-- A parameter. It is `void` alone where its declarator is empty too.
abbrev pub parameter_of : Meaning → Meaning → Parameter
parameter_of specs declarator = record {
  name = declarator.name;
  first = specs.first;
  text = type_text (specs.text ++ declarator.text);
  bodies = specs.bodies;
  is_void =
      specs.void && (is_nil declarator.text && (if is_named declarator.name then false else true));
}

abbrev pub param_meaning : ParamLevel Meaning → Meaning
param_meaning level =
    record nothing { parameter = Some (parameter_of level.specs level.declarator) }
