-- What a planter does in several steps is one step: callers' goals close by `search planting`.
use Rattle.std.proofs.Common.{◌≡◌, ℕ, ◌+◌, ◌<◌, List, [], ◌∷◌, ◌++◌, length, map, take, get_or, Option, Some, refl, ap, sym, subst, ◌∙◌, arith}
use Rattle.std.proofs.lemmas.List.{append_assoc, map-append, take_more}
use Rattle.cpg_schema.specs.Graph.{PlainNode}
use Rattle.cpg_schema.specs.Deltas.{PlainDelta}
use Rattle.graph_forest.specs.declared.hang.Hang.{Hang}
use Rattle.graph_forest.specs.Forest.{Forest, none, tree, branch, leaf, beside, joined, with_forest, planted, IsAllowed, IsPlanted}
use Rattle.graph_forest.specs.Planting.{Planting, innermost, outer_of, Plants, Enters, Leaves, fresh}
use Rattle.graph_forest.proofs.Growing.{with_none, with_beside, with_branch}

pub plants_none : (a : Planting) → Plants a a none
plants_none a = record { delta = sym (with_none (innermost a.opened) a.delta); opened = refl }

pub plants_beside : (a b c : Planting) (f g : Forest) → Plants a b f → Plants b c g → Plants a c (beside f g)
plants_beside a b c f g p q = record {
  delta =
      q.delta
      ∙ (ap (λ (o : List ℕ). with_forest (innermost o) g b.delta) p.opened
      ∙ (ap (λ (d : PlainDelta). with_forest (innermost a.opened) g d) p.delta ∙ with_beside (innermost a.opened) f g a.delta));
  opened = q.opened ∙ p.opened;
}

pub plants_branch : (a b c d : Planting) (h : Hang) (n : PlainNode) (f : Forest) → Enters a b h n → Plants b c f → Leaves c d → Plants a d (branch h n f)
plants_branch a b c d h n f e p l = record {
  delta =
      l.delta
      ∙ (p.delta
      ∙ (ap (λ (o : List ℕ). with_forest (innermost o) f b.delta) e.opened
      ∙ (ap (λ (x : PlainDelta). with_forest (Some (length a.delta.nodes)) f x) e.delta ∙ with_branch (innermost a.opened) h n f a.delta)));
  opened = l.opened ∙ ap outer_of (p.opened ∙ e.opened);
}

-- A tree that is planted node by node, and what is planted after it.
pub plants_branch_beside : (a b c d e : Planting) (h : Hang) (n : PlainNode) (f g : Forest) → Enters a b h n → Plants b c f → Leaves c d → Plants d e g →
    Plants a e (beside (branch h n f) g)
plants_branch_beside a b c d e h n f g enters p leaves q = plants_beside a d e (branch h n f) g (plants_branch a b c d h n f enters p leaves) q

-- For a caller's goal: list this set.
pub ruleset planting = (plants_none, plants_beside, plants_branch, plants_branch_beside)

-- What a planter has planted from the start on is its delta.
pub plants_whole : (b : Planting) (f : Forest) → Plants fresh b f → b.delta ≡ planted f
unfolding with_forest planted
plants_whole b f p = p.delta

pub plants_planted : (a b : Planting) (f : Forest) → a ≡ fresh → Plants a b f → IsAllowed f → IsPlanted b.delta
plants_planted a b f start p allowed = record {
  forest = f;
  allowed = allowed;
  is = plants_whole b f (subst (λ (x : Planting). Plants x b f) start p);
}

-- A tree and what comes after it.
pub plants_tree : (a b c : Planting) (h : Hang) (n : PlainNode) (f g : Forest) → Plants a b (branch h n f) → Plants b c g → Plants a c (tree h n f g)
unfolding beside
plants_tree a b c h n f g p q = plants_beside a b c (branch h n f) g p q

pub beside-none : (f : Forest) → beside f none ≡ f
unfolding beside
beside-none none = refl
beside-none (tree h n c a) = ap (λ (x : Forest). tree h n c x) (beside-none a)

pub beside_assoc : (f g h : Forest) → beside (beside f g) h ≡ beside f (beside g h)
unfolding beside
beside_assoc none g h = refl
beside_assoc (tree k n c a) g h = ap (λ (x : Forest). tree k n c x) (beside_assoc a g h)

pub none-beside : (f : Forest) → beside none f ≡ f
unfolding beside
none-beside f = refl

pub joined-append : (fs gs : List Forest) → joined (fs ++ gs) ≡ beside (joined fs) (joined gs)
joined-append [] gs = sym (none-beside (joined gs))
joined-append (f ∷ fs) gs = ap (λ (x : Forest). beside f x) (joined-append fs gs) ∙ sym (beside_assoc f (joined fs) (joined gs))

pub joined-push : (fs : List Forest) (f : Forest) → joined (fs ++ f ∷ []) ≡ beside (joined fs) f
joined-push fs f = joined-append fs (f ∷ []) ∙ ap (λ (x : Forest). beside (joined fs) x) (beside-none f)

-- A loop's step: the forest of one item more.
pub plants_more : {X : Type 0} (forest : X → Forest) (xs : List X) (i : ℕ) (x : X) (a b c : Planting) → i < length xs →
    Plants a b (joined (map forest (take i xs))) → Plants b c (forest (get_or xs i x)) → Plants a c (joined (map forest (take (i + 1) xs)))
plants_more forest xs i x a b c low p q =
    let f = forest (get_or xs i x) in
    let items =
    ap (λ (ys : List _). map forest ys) (take_more xs i x low) ∙ map-append forest (take i xs) (get_or xs i x ∷ []) in
    let same = ap joined items ∙ joined-push (map forest (take i xs)) f in
    subst (λ (g : Forest). Plants a c g) (sym same) (plants_beside a b c (joined (map forest (take i xs))) f p q)
