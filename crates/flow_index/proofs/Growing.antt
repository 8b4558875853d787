-- Sets of vertices that grow.
use Rattle.std.proofs.Common.{ℕ, List, [], ◌++◌, refl, sym, ap, ◌∙◌, subst, append_assoc}
use Rattle.std.specs.List.{Contains}
use Rattle.std.proofs.lemmas.List.{append-nil}
use Rattle.std.proofs.lemmas.List.Elements.{All-append, All-weaker, All-nil, Contains-append_left}
use Rattle.flow_index.specs.Vertices.{Grows, Vertices}

-- nothing new
pub grows_none : (IsSo : ℕ → Type 0) (set : Vertices) → Grows IsSo set set
grows_none IsSo set = record { count = refl; more = []; kept = sym (append-nil set.met); new = All-nil IsSo }

pub grows_then : (IsSo : ℕ → Type 0) (a b c : Vertices) → Grows IsSo a b → Grows IsSo b c → Grows IsSo a c
grows_then IsSo a b c front back = record {
  count = back.count ∙ front.count;
  more = front.more ++ back.more;
  kept = back.kept ∙ (ap (λ xs. xs ++ back.more) front.kept ∙ append_assoc a.met front.more back.more);
  new = All-append IsSo front.more back.more front.new back.new;
}

pub grows_map : (P Q : ℕ → Type 0) (a b : Vertices) → ((vertex : ℕ) → P vertex → Q vertex) → Grows P a b → Grows Q a b
grows_map P Q a b same grows = record { count = grows.count; more = grows.more; kept = grows.kept; new = All-weaker P Q same grows.more grows.new }

-- what was met stays
pub grows_keeps : (IsSo : ℕ → Type 0) (a b : Vertices) (vertex : ℕ) → Grows IsSo a b → Contains a.met vertex → Contains b.met vertex
grows_keeps IsSo a b vertex grows has = subst (λ (xs : List ℕ). Contains xs vertex) (sym grows.kept) (Contains-append_left a.met grows.more vertex has)
