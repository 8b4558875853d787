-- A property that a node is given leaves it without those that it lacks otherwise.
use Rattle.std.proofs.Common.{◌≡◌, ℕ, List, refl, ◌∙◌}
use Rattle.cpg_schema.specs.declared.key.Key.{Key}
use Rattle.cpg_schema.specs.declared.key.Key.TheVariants.{Name, Code, Filename, LineNumber, Order, ArgumentIndex, TypeFullName, ControlStructureType, Linkage}
use Rattle.cpg_schema.specs.Graph.{PlainNode}
use Rattle.cpg_schema.specs.Properties.{Property, LacksKey, text_of, number_of, with_text, with_number, with_property}

text_kept : (key set : Key) (v : List ℕ) (x : PlainNode) → ¬ (set ≡ key) → text_of key (with_text set v x) ≡ text_of key x
text_kept Name Name v x other = absurd (other refl)
text_kept Code Code v x other = absurd (other refl)
text_kept Filename Filename v x other = absurd (other refl)
text_kept TypeFullName TypeFullName v x other = absurd (other refl)
text_kept ControlStructureType ControlStructureType v x other = absurd (other refl)
text_kept Linkage Linkage v x other = absurd (other refl)
text_kept _ _ v x other = refl

number_kept : (key set : Key) (v : ℕ) (x : PlainNode) → ¬ (set ≡ key) → number_of key (with_number set v x) ≡ number_of key x
number_kept LineNumber LineNumber v x other = absurd (other refl)
number_kept Order Order v x other = absurd (other refl)
number_kept ArgumentIndex ArgumentIndex v x other = absurd (other refl)
number_kept _ _ v x other = refl

-- a text leaves the numbers, and a number the texts
number_beside : (key set : Key) (v : List ℕ) (x : PlainNode) → number_of key (with_text set v x) ≡ number_of key x
number_beside LineNumber Name v x = refl
number_beside Order Name v x = refl
number_beside ArgumentIndex Name v x = refl
number_beside _ _ v x = refl

text_beside : (key set : Key) (v : ℕ) (x : PlainNode) → text_of key (with_number set v x) ≡ text_of key x
text_beside Name Order v x = refl
text_beside Code Order v x = refl
text_beside Filename Order v x = refl
text_beside TypeFullName Order v x = refl
text_beside ControlStructureType Order v x = refl
text_beside Linkage Order v x = refl
text_beside _ _ v x = refl

pub lacks_still : (key set : Key) (v : Property) (x : PlainNode) → ¬ (set ≡ key) → LacksKey key x → LacksKey key (with_property set v x)
lacks_still key set (Property.text v) x other h = (text_kept key set v x other ∙ h.0, number_beside key set v x ∙ h.1)
lacks_still key set (Property.number v) x other h = (text_beside key set v x ∙ h.0, number_kept key set v x other ∙ h.1)
