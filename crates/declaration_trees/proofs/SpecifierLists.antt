-- Structures, unions, enumerations and whole lists of specifiers: well-formed trees that say their
-- tokens. One term a rule.

use Rattle.std.proofs.Common.{◌≡◌, ◌≢◌, ◌⊎◌, inl, inr, ℕ, suc, false, List, [], ◌∷◌, ◌++◌, Option, Some, None, length, refl, sym, ap, ◌∙◌, subst, append_assoc, arith}
use Rattle.std.specs.Prelude.{IfSome}
use Rattle.std.specs.Option.{MatchOption}
use Rattle.c_lexer.specs.declared.token.Kind.{Kind}
use Rattle.c_lexer.specs.declared.keyword.TheConstants.{KEY_ENUM}
use Rattle.c_lexer.specs.declared.mark.TheConstants.{MARK_LEFT_BRACE, MARK_RIGHT_BRACE}
use Rattle.c_lexer.specs.declared.mark.TheConstants.{MARK_EQUAL, MARK_COMMA}
use Rattle.c_scopes.specs.Events.{Declares}
use Rattle.c_tree.specs.declared.symbol.Want.TheVariants as want
use Rattle.c_tree.specs.declared.symbol.Slot.TheVariants as slot
use Rattle.c_tree.specs.declared.tree.Spec.{Spec}
use Rattle.c_tree.specs.declared.tree.Spec.TheVariants as spec
use Rattle.c_tree.specs.declared.tree.Enumerator.{Enumerator, roll-Enumerator, out-roll-Enumerator}
use Rattle.c_tree.specs.declared.tree.Declaration.{Declaration}
use Rattle.c_tree.specs.declared.tree.Expr.{Expr}
use Rattle.c_tree.specs.declared.tree.BaseForm.TheOpen as o
use Rattle.c_tree.specs.Forms.{sole}
use Rattle.c_tree.specs.Shape.{Inner as Contents, HasMarks, HasBraces}
use Rattle.c_tree.specs.Expressions.{IsConstant}
use Rattle.c_tree.specs.Declarations.{MayStandIn, IsEnumerator}
use Rattle.c_tree.specs.TreeEvents.{Met}
use Rattle.c_tree.proofs.Folds as fold
use Rattle.reading.specs.declared.turn.Turn.TheVariants.{Again, Done}
use Rattle.c_specifiers.specs.declared.forms.Place.{Place}
use Rattle.c_specifiers.specs.declared.forms.Place.TheVariants.{Ordinary, Definition, Parameter, Member, Nameless}
use Rattle.c_specifiers.specs.declared.forms.Specified.{Specified}
use Rattle.c_specifiers.specs.declared.forms.NamedEnumerator.{NamedEnumerator}
use Rattle.c_specifiers.specs.declared.forms.Members.{Members}
use Rattle.c_specifiers.specs.declared.forms.Enumerators.{Enumerators}
use Rattle.c_specifiers.specs.SpecifierForms.{with_spec, first_member, with_member, members_to, named_enumerator, first_enumerator, with_enumerator, enumerators_to}
use Rattle.c_specifiers.specs.Inside.{Inside}
use Rattle.c_specifiers.specs.SpecifierRules as lang
use Rattle.expression_trees.specs.Saying.{Said, ◌and◌, token}
use Rattle.expression_trees.specs.Trees.{steps_of}
use Rattle.expression_trees.proofs.FormsSay as law
use Rattle.expression_trees.proofs.FormsSay.{each, pairs, values, commas, brace_ends}
use Rattle.expression_trees.proofs.Lists.{Every, all_of, every_snoc, length_marks}
use Rattle.expression_trees.proofs.Front.{Open}
use Rattle.expression_trees.proofs.Tokens.{says_mark, says_key, says_any}
use Rattle.declaration_trees.specs.Numbering.{IsNoParen}
use Rattle.declaration_trees.specs.SpecifiersAreTrees.{standing}
use Rattle.declaration_trees.specs.Trees.{of_enumerator, of_member}
use Rattle.declaration_trees.proofs.FormsSay as say
use Rattle.declaration_trees.proofs.FormsSay.{tagged}
use Rattle.declaration_trees.proofs.Words.{not_nil, says_record}
use Rattle.declaration_trees.proofs.Standing.{Adds, Made, meets, word_at, adds_pure, adds_then, adds_or, adds_part, adds_token, adds_named, adds_declaring, adds_repeat, no_paren}
use Rattle.declaration_trees.proofs.SpecifierFront.{is_constant, InsideAdds, Words, Word, word, Extends, extended, IsTypeWord}

module _ (kind_of : ℕ → Option Kind) (bytes_of : ℕ → List ℕ) (inner : Contents) where
  may_record : (at : Place) (key : ℕ) (tag : Option ℕ) (body : Option (List Declaration)) (ms : List ℕ) → MayStandIn kind_of (standing at) (o.Spec-F.Record key tag body ms)
  may_record Ordinary key tag body ms = tt
  may_record Definition key tag body ms = tt
  may_record Parameter key tag body ms = tt
  may_record Member key tag body ms = tt
  may_record Nameless key tag body ms = tt

  may_enumeration : (at : Place) (key : ℕ) (tag : Option ℕ) (body : Option (List Enumerator)) (ms : List ℕ) → MayStandIn kind_of (standing at) (o.Spec-F.Enumeration key tag body ms)
  may_enumeration Ordinary key tag body ms = tt
  may_enumeration Definition key tag body ms = tt
  may_enumeration Parameter key tag body ms = tt
  may_enumeration Member key tag body ms = tt
  may_enumeration Nameless key tag body ms = tt

  module _ (d level : ℕ) (rules : Inside) (fi : InsideAdds kind_of bytes_of inner rules) (at : Place) where
    -- A word behind a token that is no `(`.
    abbrev pub WordIs : ℕ → Spec → ℕ → Open → Type 0
    WordIs first w stop f = Word kind_of bytes_of inner at (IsTypeWord kind_of bytes_of inner) w f × IsNoParen kind_of first

    -- ---- Structures and unions (6.7.2.1)

    pub record MembersAre (start : Open) (m : Members) (stop : ℕ) (f : Open) : Type 0 where
      pub left : ℕ
      pub good : Every inner.IsMember m.list
      pub some : m.list ≢ []
      pub marks_are : m.marks ≡ left ∷ []
      pub writes : (k : Said) → f k ≡ start (token left (want.Mark MARK_LEFT_BRACE) (each (of_member kind_of bytes_of) m.list k))

    pub record BodyIs (start : Open) (m : Members) (stop : ℕ) (f : Open) : Type 0 where
      pub left : ℕ
      pub right : ℕ
      pub good : Every inner.IsMember m.list
      pub some : m.list ≢ []
      pub marks_are : m.marks ≡ left ∷ right ∷ []
      pub writes : (k : Said) → f k ≡ start (token left (want.Mark MARK_LEFT_BRACE) (each (of_member kind_of bytes_of) m.list (token right (want.Mark MARK_RIGHT_BRACE) k)))

    adds_members : (start : Open) (m : Members) (stop : ℕ) (f : Open) → MembersAre start m stop f → Adds kind_of bytes_of (lang.all_members d level rules m) stop f (BodyIs start)
    unfolding lang.all_members lang.member_turn lang.last_member lang.next_member
    adds_members start m stop f x = adds_repeat d {fine = MembersAre start} (λ q n g y. adds_or
        (adds_token (says_mark kind_of bytes_of MARK_RIGHT_BRACE) (λ r e i. adds_pure (Done (members_to q r))
        (record { left = y.left; right = r; good = y.good; some = y.some; marks_are = ap (λ (z : List ℕ). z ++ r ∷ []) y.marks_are; writes = λ k. y.writes (token r (want.Mark MARK_RIGHT_BRACE) k) })))
        (adds_part (fi.member n) (λ b p h made. adds_pure (Again (with_member q b))
        (record {
          left = y.left;
          good = every_snoc inner.IsMember q.list b y.good made.0;
          some = not_nil q.list b;
          marks_are = y.marks_are;
          writes = λ k. y.writes (h k) ∙ ap (λ (z : Said). start (token y.left (want.Mark MARK_LEFT_BRACE) z))
              (ap (each (of_member kind_of bytes_of) q.list) (sym (made.1 k)) ∙ sym (law.each_snoc (of_member kind_of bytes_of) q.list b k));
        }))))
        m x

    record_is : (key : ℕ) (tag : Option ℕ) (m : Members) (stop : ℕ) (f : Open) → BodyIs (λ k. token key (want.Among slot.RecordKey) (tagged tag k)) m stop f →
        Word kind_of bytes_of inner at (IsTypeWord kind_of bytes_of inner) (spec.Record key tag (Some m.list) m.marks) f
    record_is key tag m stop f y =
        let ms = y.left ∷ y.right ∷ [] in
        let same : spec.Record key tag (Some m.list) m.marks ≡ spec.Record key tag (Some m.list) ms = ap (λ (z : List ℕ). spec.Record key tag (Some m.list) z) y.marks_are in
        subst (λ (w : Spec). Word kind_of bytes_of inner at (IsTypeWord kind_of bytes_of inner) w f) (sym same)
        (word kind_of bytes_of inner at (IsTypeWord kind_of bytes_of inner) (o.Spec-F.Record key tag (Some m.list) ms) _ f (spec.rolls-Record key tag (Some m.list) ms)
        (inr refl, record { each = all_of inner.IsMember m.list y.good; some = y.some; marks = refl }) (may_record at key tag (Some m.list) ms) (tt, λ q. q)
        (ap (λ (z : Met). z.typedef) (fold.spec_record_folds (steps_of kind_of bytes_of) key tag (Some m.list) ms))
        (λ k. say.record_body_before kind_of bytes_of key tag y.left y.right m.list k ∙ sym (y.writes k)))

    adds_record_with : (key : ℕ) (tag : Option ℕ) (stop first : ℕ) → IsNoParen kind_of first → Adds kind_of bytes_of (lang.record_with d level rules key tag) stop (λ k. token key (want.Among slot.RecordKey) (tagged tag k)) (WordIs first)
    unfolding lang.record_with lang.record_body
    adds_record_with key tag stop first apart = adds_then {fine = BodyIs (λ k. token key (want.Among slot.RecordKey) (tagged tag k))}
        (adds_token (says_mark kind_of bytes_of MARK_LEFT_BRACE) (λ l e i. adds_part (fi.member (suc l)) (λ b p h made.
        adds_members (λ k. token key (want.Among slot.RecordKey) (tagged tag k)) (first_member b l) p (λ k. token key (want.Among slot.RecordKey) (tagged tag (token l (want.Mark MARK_LEFT_BRACE) (h k))))
        (record {
          left = l;
          good = (made.0, tt);
          some = not_nil [] b;
          marks_are = refl;
          writes = λ k. ap (λ (z : Said). token key (want.Among slot.RecordKey) (tagged tag (token l (want.Mark MARK_LEFT_BRACE) z))) (sym (made.1 k));
        }))))
        (λ m n f y. adds_pure (spec.Record key tag (Some m.list) m.marks) (record_is key tag m n f y, apart))

    adds_record : (stop : ℕ) → Adds kind_of bytes_of (lang.record_spec d level rules) stop (λ k. k) (WordIs stop)
    unfolding lang.record_spec lang.tagged_record
    adds_record stop = adds_token (says_record kind_of bytes_of) (λ key e i. adds_or
        (adds_token (says_any kind_of bytes_of) (λ n e' i'. adds_or
        (adds_record_with key (Some n) (suc n) stop (subst (IsNoParen kind_of) e (no_paren refl i)))
        (adds_pure (spec.Record key (Some n) None []) (
          word kind_of bytes_of inner at (IsTypeWord kind_of bytes_of inner) (o.Spec-F.Record key (Some n) None []) _ _ (spec.rolls-Record key (Some n) None []) (inl refl, refl) (may_record at key (Some n) None []) (tt, λ q. q)
              (ap (λ (z : Met). z.typedef) (fold.spec_record_folds (steps_of kind_of bytes_of) key (Some n) None [])) (say.record_tag_before kind_of bytes_of key n),
          subst (IsNoParen kind_of) e (no_paren refl i),
        ))))
        (adds_record_with key None (suc key) stop (subst (IsNoParen kind_of) e (no_paren refl i))))

    pub adds_record_word : (s : Specified) (stop : ℕ) (f : Open) → Words kind_of bytes_of inner at s stop f →
        Adds kind_of bytes_of (lang.record_word d level rules s) stop f (Extends kind_of bytes_of inner at (IsTypeWord kind_of bytes_of inner) s)
    unfolding lang.record_word
    adds_record_word s stop f x = adds_part (adds_record stop) (λ w n g y. adds_pure (with_spec s w)
        (extended kind_of bytes_of inner s stop n f x (x.each_ (λ h. y.1)) w g y.0))

    -- ---- Enumerations (6.7.2.2)

    abbrev NamedIs : NamedEnumerator → ℕ → Open → Type 0
    NamedIs e stop f = IsEnumerator kind_of inner e.enumerator × ((k : Said) → of_enumerator kind_of bytes_of e.enumerator and k ≡ f (meets (Declares e.name.bytes false) k))

    plain_enumerator : (n : ℕ) → IsEnumerator kind_of inner (roll-Enumerator (record { name = n; value = None; marks = [] }))
    plain_enumerator n =
        let out = out-roll-Enumerator (record { name = n; value = None; marks = [] }) in
        record {
          value = subst (λ (y : _). IfSome y.value (IsConstant kind_of inner)) (sym out) tt;
          marks = subst (λ (y : _). MatchOption y.value (HasMarks 0 y.marks) (λ value. HasMarks 1 y.marks)) (sym out) refl;
        }

    valued_enumerator : (n q : ℕ) (v : Expr) → IsConstant kind_of inner v → IsEnumerator kind_of inner (roll-Enumerator (record { name = n; value = Some v; marks = q ∷ [] }))
    valued_enumerator n q v g =
        let out = out-roll-Enumerator (record { name = n; value = Some v; marks = q ∷ [] }) in
        record {
          value = subst (λ (y : _). IfSome y.value (IsConstant kind_of inner)) (sym out) g;
          marks = subst (λ (y : _). MatchOption y.value (HasMarks 0 y.marks) (λ value. HasMarks 1 y.marks)) (sym out) refl;
        }

    adds_undeclared : (stop : ℕ) → Adds kind_of bytes_of (lang.undeclared_enumerator d level rules) stop (λ k. k) NamedIs
    unfolding lang.undeclared_enumerator lang.enumerator_value
    adds_undeclared stop = adds_named _ (says_any kind_of bytes_of) (λ n e i. adds_or
        (adds_token (says_mark kind_of bytes_of MARK_EQUAL) (λ q e' i'. adds_part (fi.constant (suc q)) (λ v p g made.
        adds_pure (named_enumerator (word_at bytes_of n) (Some v) (q ∷ [])) (
          valued_enumerator n q (sole v) (is_constant kind_of bytes_of inner v made.0.0 made.0.1),
          λ k. say.valued_before kind_of bytes_of n q (sole v) k ∙ ap (λ (z : Said). token n want.Word (token q (want.Mark MARK_EQUAL) z))
              (say.sole_before kind_of bytes_of v (meets (Declares (bytes_of n) false) k) ∙ made.1 (meets (Declares (bytes_of n) false) k)),
        ))))
        (adds_pure (named_enumerator (word_at bytes_of n) None []) (plain_enumerator n, say.enumerator_before kind_of bytes_of n)))

    adds_enumerator : (stop : ℕ) → Adds kind_of bytes_of (lang.enumerator d level rules) stop (λ k. k) (Made (of_enumerator kind_of bytes_of) (λ e stop. IsEnumerator kind_of inner e))
    unfolding lang.enumerator
    adds_enumerator stop = adds_then (adds_undeclared stop) (λ e n f y. adds_declaring (Some e.name) false e.enumerator (y.0, y.1))

    pub record ListIs (start : Open) (p : Enumerators) (stop : ℕ) (f : Open) : Type 0 where
      pub left : ℕ
      pub head : Enumerator
      pub others : List (ℕ × Enumerator)
      pub list_are : p.list ≡ head ∷ values others
      pub marks_are : p.marks ≡ left ∷ commas others
      pub good : IsEnumerator kind_of inner head
      pub goods : Every (IsEnumerator kind_of inner) (values others)
      pub writes : (k : Said) → f k ≡ start (token left (want.Mark MARK_LEFT_BRACE) (of_enumerator kind_of bytes_of head and pairs (of_enumerator kind_of bytes_of) others k))

    -- With what ends it: a comma or none, and the brace.
    pub record EndIs (start : Open) (p : Enumerators) (stop : ℕ) (f : Open) : Type 0 where
      pub left : ℕ
      pub head : Enumerator
      pub others : List (ℕ × Enumerator)
      pub ends : List ℕ
      pub ending : (length ends ≡ 1) ⊎ (length ends ≡ 2)
      pub list_are : p.list ≡ head ∷ values others
      pub marks_are : p.marks ≡ left ∷ (commas others ++ ends)
      pub good : IsEnumerator kind_of inner head
      pub goods : Every (IsEnumerator kind_of inner) (values others)
      pub writes : (k : Said) → f k ≡ start (token left (want.Mark MARK_LEFT_BRACE) (of_enumerator kind_of bytes_of head and pairs (of_enumerator kind_of bytes_of) others (brace_ends ends k)))

    one_more : (start : Open) (q : Enumerators) (n : ℕ) (g : Open) → ListIs start q n g → (m : ℕ) (b : Enumerator) (p : ℕ) (h : Open) → Made (of_enumerator kind_of bytes_of) (λ e stop. IsEnumerator kind_of inner e) b p h →
        ListIs start (with_enumerator (enumerators_to q m) b) p (λ k. g (token m (want.Mark MARK_COMMA) (h k)))
    one_more start q n g y m b p h made = record {
      left = y.left;
      head = y.head;
      others = y.others ++ (m, b) ∷ [];
      list_are = ap (λ (z : List Enumerator). z ++ b ∷ []) y.list_are ∙ ap (λ (z : List Enumerator). y.head ∷ z) (sym (law.values_snoc y.others (m, b)));
      marks_are = ap (λ (z : List ℕ). z ++ m ∷ []) y.marks_are ∙ ap (λ (z : List ℕ). y.left ∷ z) (sym (law.commas_snoc y.others (m, b)));
      good = y.good;
      goods = subst (Every (IsEnumerator kind_of inner)) (sym (law.values_snoc y.others (m, b))) (every_snoc (IsEnumerator kind_of inner) (values y.others) b y.goods made.0);
      writes = λ k. y.writes (token m (want.Mark MARK_COMMA) (h k)) ∙ ap (λ (z : Said). start (token y.left (want.Mark MARK_LEFT_BRACE) (of_enumerator kind_of bytes_of y.head and z)))
          (ap (λ (z : Said). pairs (of_enumerator kind_of bytes_of) y.others (token m (want.Mark MARK_COMMA) z)) (sym (made.1 k)) ∙ sym (law.pairs_snoc (of_enumerator kind_of bytes_of) y.others (m, b) k));
    }

    adds_enumerators : (start : Open) (m : Enumerators) (stop : ℕ) (f : Open) → ListIs start m stop f → Adds kind_of bytes_of (lang.all_enumerators d level rules m) stop f (EndIs start)
    unfolding lang.all_enumerators lang.enumerator_turn lang.comma_enumerator lang.last_enumerator lang.next_enumerator
    adds_enumerators start m stop f x = adds_repeat d {fine = ListIs start} (λ q n g y. adds_or
        (adds_token (says_mark kind_of bytes_of MARK_COMMA) (λ c e i. adds_or
        (adds_token (says_mark kind_of bytes_of MARK_RIGHT_BRACE) (λ r e' i'. adds_pure (Done (enumerators_to (enumerators_to q c) r))
        (record {
          left = y.left;
          head = y.head;
          others = y.others;
          ends = c ∷ r ∷ [];
          ending = inr refl;
          list_are = y.list_are;
          marks_are = ap (λ (z : List ℕ). (z ++ c ∷ []) ++ r ∷ []) y.marks_are ∙ ap (λ (z : List ℕ). y.left ∷ z) (append_assoc (commas y.others) (c ∷ []) (r ∷ []));
          good = y.good;
          goods = y.goods;
          writes = λ k. y.writes (token c (want.Mark MARK_COMMA) (token r (want.Mark MARK_RIGHT_BRACE) k));
        })))
        (adds_part (adds_enumerator (suc c)) (λ b p h made. adds_pure (Again (with_enumerator (enumerators_to q c) b)) (one_more start q n g y c b p h made)))))
        (adds_token (says_mark kind_of bytes_of MARK_RIGHT_BRACE) (λ r e i. adds_pure (Done (enumerators_to q r))
        (record {
          left = y.left;
          head = y.head;
          others = y.others;
          ends = r ∷ [];
          ending = inl refl;
          list_are = y.list_are;
          marks_are = ap (λ (z : List ℕ). z ++ r ∷ []) y.marks_are;
          good = y.good;
          goods = y.goods;
          writes = λ k. y.writes (token r (want.Mark MARK_RIGHT_BRACE) k);
        }))))
        m x

    braces_right : (l : ℕ) (a : Enumerator) (ps : List (ℕ × Enumerator)) (rs : List ℕ) → (length rs ≡ 1) ⊎ (length rs ≡ 2) → HasBraces (length (a ∷ values ps)) (l ∷ (commas ps ++ rs))
    braces_right l a ps rs (inl e) = record { some = omega arith; count = inl (omega (arith, length_marks ps rs, e)) }
    braces_right l a ps rs (inr e) = record { some = omega arith; count = inr (omega (arith, length_marks ps rs, e)) }

    enumeration_is : (key : ℕ) (tag : Option ℕ) (m : Enumerators) (stop : ℕ) (f : Open) → EndIs (λ k. token key (want.Key KEY_ENUM) (tagged tag k)) m stop f →
        Word kind_of bytes_of inner at (IsTypeWord kind_of bytes_of inner) (spec.Enumeration key tag (Some m.list) m.marks) f
    enumeration_is key tag m stop f y =
        let ms = y.left ∷ (commas y.others ++ y.ends) in
        let list = y.head ∷ values y.others in
        let same : spec.Enumeration key tag (Some m.list) m.marks ≡ spec.Enumeration key tag (Some list) ms =
        ap (λ (z : List Enumerator). spec.Enumeration key tag (Some z) m.marks) y.list_are ∙ ap (λ (z : List ℕ). spec.Enumeration key tag (Some list) z) y.marks_are in
        subst (λ (w : Spec). Word kind_of bytes_of inner at (IsTypeWord kind_of bytes_of inner) w f) (sym same)
        (word kind_of bytes_of inner at (IsTypeWord kind_of bytes_of inner) (o.Spec-F.Enumeration key tag (Some list) ms) _ f (spec.rolls-Enumeration key tag (Some list) ms)
        (inr refl, record { each = all_of (IsEnumerator kind_of inner) list (y.good, y.goods); marks = braces_right y.left y.head y.others y.ends y.ending }) (may_enumeration at key tag (Some list) ms) (tt, λ q. q)
        (ap (λ (z : Met). z.typedef) (fold.spec_enumeration_folds (steps_of kind_of bytes_of) key tag (Some list) ms))
        (λ k. say.enumeration_body_before kind_of bytes_of key tag y.left y.head y.others y.ends k ∙ sym (y.writes k)))

    adds_enumeration_with : (key : ℕ) (tag : Option ℕ) (stop first : ℕ) → IsNoParen kind_of first → Adds kind_of bytes_of (lang.enumeration_with d level rules key tag) stop (λ k. token key (want.Key KEY_ENUM) (tagged tag k)) (WordIs first)
    unfolding lang.enumeration_with lang.enumeration_body
    adds_enumeration_with key tag stop first apart = adds_then {fine = EndIs (λ k. token key (want.Key KEY_ENUM) (tagged tag k))}
        (adds_token (says_mark kind_of bytes_of MARK_LEFT_BRACE) (λ l e i. adds_part (adds_enumerator (suc l)) (λ b p h made.
        adds_enumerators (λ k. token key (want.Key KEY_ENUM) (tagged tag k)) (first_enumerator b l) p (λ k. token key (want.Key KEY_ENUM) (tagged tag (token l (want.Mark MARK_LEFT_BRACE) (h k))))
        (record {
          left = l;
          head = b;
          others = [];
          list_are = refl;
          marks_are = refl;
          good = made.0;
          goods = tt;
          writes = λ k. ap (λ (z : Said). token key (want.Key KEY_ENUM) (tagged tag (token l (want.Mark MARK_LEFT_BRACE) z))) (sym (made.1 k));
        }))))
        (λ m n f y. adds_pure (spec.Enumeration key tag (Some m.list) m.marks) (enumeration_is key tag m n f y, apart))

    adds_enumeration : (stop : ℕ) → Adds kind_of bytes_of (lang.enumeration_spec d level rules) stop (λ k. k) (WordIs stop)
    unfolding lang.enumeration_spec lang.tagged_enumeration
    adds_enumeration stop = adds_token (says_key kind_of bytes_of KEY_ENUM) (λ key e i. adds_or
        (adds_token (says_any kind_of bytes_of) (λ n e' i'. adds_or
        (adds_enumeration_with key (Some n) (suc n) stop (subst (IsNoParen kind_of) e (no_paren refl i)))
        (adds_pure (spec.Enumeration key (Some n) None []) (
          word kind_of bytes_of inner at (IsTypeWord kind_of bytes_of inner) (o.Spec-F.Enumeration key (Some n) None []) _ _ (spec.rolls-Enumeration key (Some n) None []) (inl refl, refl) (may_enumeration at key (Some n) None []) (tt, λ q. q)
              (ap (λ (z : Met). z.typedef) (fold.spec_enumeration_folds (steps_of kind_of bytes_of) key (Some n) None [])) (say.enumeration_tag_before kind_of bytes_of key n),
          subst (IsNoParen kind_of) e (no_paren refl i),
        ))))
        (adds_enumeration_with key None (suc key) stop (subst (IsNoParen kind_of) e (no_paren refl i))))

    pub adds_enumeration_word : (s : Specified) (stop : ℕ) (f : Open) → Words kind_of bytes_of inner at s stop f →
        Adds kind_of bytes_of (lang.enumeration_word d level rules s) stop f (Extends kind_of bytes_of inner at (IsTypeWord kind_of bytes_of inner) s)
    unfolding lang.enumeration_word
    adds_enumeration_word s stop f x = adds_part (adds_enumeration stop) (λ w n g y. adds_pure (with_spec s w)
        (extended kind_of bytes_of inner s stop n f x (x.each_ (λ h. y.1)) w g y.0))
