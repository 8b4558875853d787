-- Names that stand twice and names that do not stand, and which faults they are.

use Rattle.std.specs.Prelude.{ℕ, ◌≡◌, ◌↔◌, ◌⊎◌, List, [], ◌∷◌, ◌++◌, Option, map, Contains}
use Rattle.c_lexer.specs.declared.token.Kind.{Kind}
use Rattle.c_tree.specs.declared.tree.Block.{Block}
use Rattle.c_tree.specs.declared.tree.Core.{Core}
use Rattle.c_tree.specs.declared.tree.Declarator.{Declarator}
use Rattle.c_tree.specs.Folds.{core_fold, declarator_fold}
use Rattle.c_tree.specs.Jumps.{Blames, Blamed, Fault, IsSecond, IsFaultOf, blame}
use Rattle.c_tree.specs.TreeEvents.{tree_steps}

-- Faults are added of which this holds, and no others.
abbrev pub Adds : (Blamed → Type 0) → Blames → Blames → Type 0
Adds IsAdded old new =
    (blamed : Blamed) → Contains new blamed ↔ (Contains old blamed ⊎ IsAdded blamed)

-- A name is met. Where it is among the names, the fault is added, and else the name.
pub data MeetsName (name : List ℕ) (fault : Blamed) (names more_names : List (List ℕ))
    (faults more_faults : Blames) : Type 0 where
  known : Contains names name → more_names ≡ names → more_faults ≡ faults ++ fault ∷ [] →
      MeetsName name fault names more_names faults more_faults
  new : ¬ Contains names name → more_names ≡ names ++ name ∷ [] → more_faults ≡ faults →
      MeetsName name fault names more_names faults more_faults

-- A name behind `goto` is met. Where it is not among the names, the fault is added.
pub data MeetsGoto (name : List ℕ) (fault : Blamed) (names : List (List ℕ))
    (faults more_faults : Blames) : Type 0 where
  known : Contains names name → more_faults ≡ faults →
      MeetsGoto name fault names faults more_faults
  missing : ¬ Contains names name → more_faults ≡ faults ++ fault ∷ [] →
      MeetsGoto name fault names faults more_faults

module _ (bytes_of : ℕ → List ℕ) where
  -- These are the names of the tokens.
  abbrev pub AreNamesOf : List ℕ → List (List ℕ) → Type 0
  AreNamesOf tokens names =
      (name : List ℕ) → Contains names name ↔ Contains (map bytes_of tokens) name

  -- It blames one of the tokens, which stands behind another one of its name.
  pub record IsSecondName (fault : Fault) (tokens : List ℕ) (blamed : Blamed) : Type 0 where
    pub second : IsSecond bytes_of tokens blamed.token
    pub is : blamed ≡ blame fault blamed.token

  -- It blames one of the tokens, whose name is none of these.
  pub record IsMissingName (fault : Fault) (tokens : List ℕ) (names : List (List ℕ))
      (blamed : Blamed) : Type 0 where
    pub stands : Contains tokens blamed.token
    pub missing : ¬ Contains names (bytes_of blamed.token)
    pub is : blamed ≡ blame fault blamed.token

  -- It is a fault of a function that has one of these bodies.
  pub record IsFaultIn (bodies : List Block) (blamed : Blamed) : Type 0 where
    pub body : Block
    pub stands : Contains bodies body
    pub fault : IsFaultOf bytes_of body blamed

module _ (kind_of : ℕ → Option Kind) (bytes_of : ℕ → List ℕ) where
  -- The name that a declarator, or what stands in its middle, declares (6.7.6).
  unfoldable pub declarator_name : Declarator → Option ℕ
  declarator_name declarator = (declarator_fold (tree_steps kind_of bytes_of) declarator).name

  unfoldable pub core_name : Core → Option ℕ
  core_name core = (core_fold (tree_steps kind_of bytes_of) core).name
