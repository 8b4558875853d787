-- Function values that read what stands in brackets.

use Rattle.std.specs.Prelude.{ℕ, ◌+◌, ◌<◌, ◌^◌, Result}
use Rattle.std.specs.declared.alloc.Global.{Global}
use denote.Ref.{MutBor}
use Rattle.c_tree.specs.declared.tree.Assign.{Assign}
use Rattle.c_tree.specs.declared.tree.TypeName.{TypeName}
use Rattle.c_tree.specs.declared.tree.Param.{Param}
use Rattle.c_tree.specs.declared.tree.Declaration.{Declaration}
use Rattle.c_tree.specs.declared.tree.InitItem.{InitItem}
use Rattle.c_reading.specs.declared.stop.Stop.{Stop}
use Rattle.c_reading.specs.Reads.{Reads}
use Rattle.c_syntax.specs.declared.source.Source.{Source}
use Rattle.c_syntax.specs.declared.forms.AssignForm.{AssignForm}
use Rattle.c_syntax.specs.Scoping.{input_from}
use Rattle.c_specifiers.specs.declared.forms.Naming.{Naming}
use Rattle.c_specifiers.specs.declared.forms.Named.{Named}
use Rattle.c_parts.specs.PartNames.{assigns, type_names, params, members, groups, items}
use Rattle.c_parts.specs.PartReaders.{part}

-- When a value may be called, and what it gives then.
abbrev pub Pre : Type 1
Pre = Global → ℕ → MutBor Source → Type 0

abbrev pub Post : Type 0 → Type 1
Post A = Global → ℕ → MutBor Source → Result A Stop → MutBor Source → Type 0

-- Of a value that reads parts of several kinds.
abbrev pub PreOf : Type 0 → Type 1
PreOf Kind = Global → Kind → ℕ → MutBor Source → Type 0

abbrev pub PostOf : Type 0 → Type 0 → Type 1
PostOf Kind A = Global → Kind → ℕ → MutBor Source → Result A Stop → MutBor Source → Type 0

-- The values that expressions call may be called where so many levels are left, and give what the
-- readers give.
pub record InnerTies (room : ℕ)
    (assign_pre : PreOf AssignForm) (assign_post : PostOf AssignForm Assign)
    (type_name_pre : Pre) (type_name_post : Post TypeName)
    (item_pre : Pre) (item_post : Post InitItem) : Type 0 where
  pub assign_callable : (alloc : Global) (form : AssignForm) (old : MutBor Source) →
      assign_pre alloc form room old
  pub assign_reads : (alloc : Global) (form : AssignForm) (old new : MutBor Source)
      (r : Result Assign Stop) → assign_post alloc form room old r new →
      Reads (part room (assigns form) (input_from old.now)) r (input_from new.now)
  pub type_name_callable : (alloc : Global) (old : MutBor Source) → type_name_pre alloc room old
  pub type_name_reads : (alloc : Global) (old new : MutBor Source) (r : Result TypeName Stop) →
      type_name_post alloc room old r new →
      Reads (part room type_names (input_from old.now)) r (input_from new.now)
  pub item_callable : (alloc : Global) (old : MutBor Source) → item_pre alloc room old
  pub item_reads : (alloc : Global) (old new : MutBor Source) (r : Result InitItem Stop) →
      item_post alloc room old r new →
      Reads (part room items (input_from old.now)) r (input_from new.now)

-- Those that declarations call.
pub record InsideTies (room : ℕ)
    (assign_pre : PreOf AssignForm) (assign_post : PostOf AssignForm Assign)
    (type_name_pre : Pre) (type_name_post : Post TypeName)
    (param_pre : Pre) (param_post : Post Param)
    (member_pre : Pre) (member_post : Post Declaration)
    (group_pre : PreOf Naming) (group_post : PostOf Naming Named)
    (item_pre : Pre) (item_post : Post InitItem) : Type 0 where
  pub assign_callable : (alloc : Global) (form : AssignForm) (old : MutBor Source) →
      assign_pre alloc form room old
  pub assign_reads : (alloc : Global) (form : AssignForm) (old new : MutBor Source)
      (r : Result Assign Stop) → assign_post alloc form room old r new →
      Reads (part room (assigns form) (input_from old.now)) r (input_from new.now)
  pub type_name_callable : (alloc : Global) (old : MutBor Source) → type_name_pre alloc room old
  pub type_name_reads : (alloc : Global) (old new : MutBor Source) (r : Result TypeName Stop) →
      type_name_post alloc room old r new →
      Reads (part room type_names (input_from old.now)) r (input_from new.now)
  pub param_callable : (alloc : Global) (old : MutBor Source) → param_pre alloc room old
  pub param_reads : (alloc : Global) (old new : MutBor Source) (r : Result Param Stop) →
      param_post alloc room old r new →
      Reads (part room params (input_from old.now)) r (input_from new.now)
  pub member_callable : (alloc : Global) (old : MutBor Source) → member_pre alloc room old
  pub member_reads : (alloc : Global) (old new : MutBor Source) (r : Result Declaration Stop) →
      member_post alloc room old r new →
      Reads (part room members (input_from old.now)) r (input_from new.now)
  pub group_callable : (alloc : Global) (naming : Naming) (old : MutBor Source) →
      group_pre alloc naming room old
  pub group_reads : (alloc : Global) (naming : Naming) (old new : MutBor Source)
      (r : Result Named Stop) → group_post alloc naming room old r new →
      Reads (part room (groups naming) (input_from old.now)) r (input_from new.now)
  pub item_callable : (alloc : Global) (old : MutBor Source) → item_pre alloc room old
  pub item_reads : (alloc : Global) (old new : MutBor Source) (r : Result InitItem Stop) →
      item_post alloc room old r new →
      Reads (part room items (input_from old.now)) r (input_from new.now)

-- The one that reads an assignment expression on the level of a rule with room for so many levels.
pub record ValueTies (room : ℕ) (pre : PreOf AssignForm) (post : PostOf AssignForm Assign) :
    Type 0 where
  pub fits : room + 1 < 2 ^ 64
  pub callable : (alloc : Global) (form : AssignForm) (old : MutBor Source) →
      pre alloc form (room + 1) old
  pub reads : (alloc : Global) (form : AssignForm) (old new : MutBor Source)
      (r : Result Assign Stop) → post alloc form (room + 1) old r new →
      Reads (part (room + 1) (assigns form) (input_from old.now)) r (input_from new.now)
