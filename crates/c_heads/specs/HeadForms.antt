-- The parts of which the trees of heads are made (C11 6.9.1).

use Rattle.std.specs.Prelude.{ℕ, false, []}
use Rattle.c_specifiers.specs.Words.{NamedToken}
use Rattle.c_specifiers.specs.SpecifierForms.{specs_of}
use Rattle.c_specifiers.specs.declared.forms.Named.{Named}
use Rattle.c_specifiers.specs.declared.forms.Specified.{Specified}
use Rattle.c_declarators.specs.DeclaratorForms.{no_pointers, named_of, group_of}
use Rattle.c_heads.specs.declared.forms.NamedHead.{NamedHead}

-- A name alone.
abbrev pub bare_name : NamedToken → Named
bare_name word = named_of (no_pointers false) word []

-- A name in parentheses.
abbrev pub bare_group : ℕ → Named → ℕ → Named
bare_group left inside right = group_of (no_pointers false) left inside right []

abbrev pub named_head : Specified → Named → NamedHead
named_head specified declared = record {
  head = record { specs = specs_of specified; declarator = declared.declarator };
  name = declared.name;
}
