-- Records and enumerations with a body (C11 6.7.2.1, 6.7.2.2): what a body holds, and its forest.
use Rattle.std.specs.Prelude.{ℕ, ◌+◌, List, [], ◌∷◌, Option, Some}
use Rattle.graph_forest.specs.declared.hang.Hang.TheVariants.{Plain}
use Rattle.graph_forest.specs.Forest.{Forest, none, branch, leaf, beside}
use Rattle.layer_rules.specs.Files.{File}
use Rattle.layer_rules.specs.Nodes.{body_node, member_node}

-- What stands in a body, in the order of the source: a member or an enumerator, of which the
-- latter has no type text, or a record or an enumeration with a body of its own, by its keyword and
-- tag.
pub data Members : Type 0 where
  no_members : Members
  Member : (name : ℕ) → (text : Option (List ℕ)) → (more : Members) → Members
  Inner : (key : ℕ) → (tag : Option ℕ) → (inside more : Members) → Members

-- A record or an enumeration with a body.
pub record Body : Type 0 where
  pub key : ℕ
  pub tag : Option ℕ
  pub inside : Members

-- What stands in one place and then what stands in another.
abbrev pub members_beside : Members → Members → Members
members_beside no_members second = second
members_beside (Member name text more) second = Member name text (members_beside more second)
members_beside (Inner key tag inside more) second =
    Inner key tag inside (members_beside more second)

-- The bodies of a list of specifiers, and then what stands behind it.
abbrev pub behind_bodies : List Body → Members → Members
behind_bodies [] members = members
behind_bodies (body ∷ bodies) members =
    Inner body.key body.tag body.inside (behind_bodies bodies members)

-- What stands in a body, with ranks from `order` on: MEMBERs, and TYPE_DECLs of further bodies.
abbrev pub members_forest : File → ℕ → Members → Forest
members_forest file order no_members = none
members_forest file order (Member name text more) =
    beside (leaf Plain (member_node file (Some name) text order))
    (members_forest file (order + 1) more)
members_forest file order (Inner key tag inside more) =
    beside (branch Plain (body_node file key tag order) (members_forest file 1 inside))
    (members_forest file (order + 1) more)

-- The TYPE_DECL of a body.
abbrev pub body_forest : File → ℕ → Body → Forest
body_forest file order body =
    branch Plain (body_node file body.key body.tag order) (members_forest file 1 body.inside)

-- The TYPE_DECLs of a parameter or of a type name, with ranks from `order` on.
abbrev pub bodies_forest : File → ℕ → List Body → Forest
bodies_forest file order [] = none
bodies_forest file order (body ∷ bodies) =
    beside (body_forest file order body) (bodies_forest file (order + 1) bodies)
