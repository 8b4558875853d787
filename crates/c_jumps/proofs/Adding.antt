-- Faults that are added one after the other, and names that stand twice or do not stand.

use Rattle.std.proofs.Common.{◌≡◌, ℕ, ◌+◌, ◌<◌, ◌⊎◌, ◌↔◌, inl, inr, List, [], ◌∷◌, ◌++◌, Some, map, take, length, get_or, refl, sym, ap, ◌∙◌, subst, arith, append_assoc}
use Rattle.std.specs.List.{Contains, slice_get}
use Rattle.std.proofs.lemmas.List.Elements.{Contains-push, Contains-push_cases, Contains-append_left, Contains-append_right, Contains-append_cases}
use Rattle.std.proofs.lemmas.List.{map_push, take_more, length-map, get_or-map}
use Rattle.std.proofs.lemmas.Option.{get_or_from_slice_get, slice_get_within}
use Rattle.c_tree.specs.Jumps.{Blamed, Blames, Fault, IsSecond, blame}
use Rattle.c_jumps.specs.Names.{Adds, AreNamesOf, IsSecondName, IsMissingName, MeetsName, MeetsGoto}
use Rattle.c_jumps.specs.Names as meets

-- ---- Adding

pub adds_none : (IsAdded : Blamed → Type 0) (old : Blames) → ((b : Blamed) → ¬ IsAdded b) → Adds IsAdded old old
adds_none IsAdded old none b = (λ h. inl h, λ h. elim h [ inl x ↦ x | inr x ↦ absurd (none b x) ])

pub adds_push : (IsAdded More : Blamed → Type 0) (old new : Blames) (x : Blamed) → Adds IsAdded old new →
    ((b : Blamed) → More b ↔ (IsAdded b ⊎ (x ≡ b))) → Adds More old (new ++ x ∷ [])
adds_push IsAdded More old new x adds more b = (
  λ h. elim (Contains-push_cases new x b h) [ inl y ↦ (elim ((adds b).0 y) [ inl z ↦ inl z | inr z ↦ inr ((more b).1 (inl z)) ]) | inr e ↦ inr ((more b).1 (inr e)) ],
  λ h. elim h [
    | inl y ↦ Contains-append_left new (x ∷ []) b ((adds b).1 (inl y))
    | inr y ↦ (elim ((more b).0 y) [
      | inl z ↦ Contains-append_left new (x ∷ []) b ((adds b).1 (inr z))
      | inr e ↦ subst (λ v. Contains (new ++ x ∷ []) v) e (Contains-push new x)
    ])
  ],
)

pub adds_same : (IsAdded More : Blamed → Type 0) (old new : Blames) → Adds IsAdded old new →
    ((b : Blamed) → More b ↔ IsAdded b) → Adds More old new
adds_same IsAdded More old new adds more b = (
  λ h. elim ((adds b).0 h) [ inl z ↦ inl z | inr z ↦ inr ((more b).1 z) ],
  λ h. elim h [ inl y ↦ (adds b).1 (inl y) | inr y ↦ (adds b).1 (inr ((more b).0 y)) ],
)

pub adds_both : (First Second Both : Blamed → Type 0) (old between new : Blames) → Adds First old between → Adds Second between new →
    ((b : Blamed) → Both b ↔ (First b ⊎ Second b)) → Adds Both old new
adds_both First Second Both old between new first second both b = (
  λ h. elim ((second b).0 h) [
    | inl y ↦ (elim ((first b).0 y) [ inl z ↦ inl z | inr z ↦ inr ((both b).1 (inl z)) ])
    | inr y ↦ inr ((both b).1 (inr y))
  ],
  λ h. elim h [
    | inl y ↦ (second b).1 (inl ((first b).1 (inl y)))
    | inr y ↦ (elim ((both b).0 y) [ inl z ↦ (second b).1 (inl ((first b).1 (inr z))) | inr z ↦ (second b).1 (inr z) ])
  ],
)

pub adds_list : (old more : Blames) → Adds (Contains more) old (old ++ more)
adds_list old more b = (
  Contains-append_cases old more b,
  λ h. elim h [ inl y ↦ Contains-append_left old more b y | inr y ↦ Contains-append_right old more b y ],
)

-- ---- A list whose last item is taken away

nothing_behind : {A : Type 0} (before : List A) (t : A) (after : List A) → ¬ ([] ≡ before ++ t ∷ after)
nothing_behind [] t after e = cc
nothing_behind (first ∷ before) t after e = cc

abbrev Splits : {A : Type 0} → List A → A → List A → A → List A → Type 0
Splits {A} tokens x before t after = ((more : List A) × (tokens ≡ before ++ t ∷ more)) ⊎ ((tokens ≡ before) × (x ≡ t))

split_last : {A : Type 0} (tokens : List A) (x : A) (before : List A) (t : A) (after : List A) →
    tokens ++ x ∷ [] ≡ before ++ t ∷ after → Splits tokens x before t after
split_last [] x [] t after e = inr (refl, cc)
split_last [] x (first ∷ before) t after e = absurd (nothing_behind before t after (cc))
split_last (token ∷ tokens) x [] t after e = inl (tokens, let same : token ≡ t = cc in ap (λ v. v ∷ tokens) same)
split_last (token ∷ tokens) x (first ∷ before) t after e =
    let same : token ≡ first = cc in
    let rest : tokens ++ x ∷ [] ≡ before ++ t ∷ after = cc in
    elim (split_last tokens x before t after rest) [
      | inl h ↦ inl (h.0, let e2 = h.1 in cc)
      | inr h ↦ inr (let e2 = h.0 in cc, h.1)
    ]

-- ---- Names

module _ (bytes_of : ℕ → List ℕ) where
  seconds_last : (tokens : List ℕ) (x t : ℕ) → IsSecond bytes_of (tokens ++ x ∷ []) t →
      IsSecond bytes_of tokens t ⊎ ((x ≡ t) × Contains (map bytes_of tokens) (bytes_of x))
  seconds_last tokens x t second =
      elim (split_last tokens x second.before t second.after second.stands) [
        | inl h ↦ inl (record { before = second.before; after = h.0; stands = h.1; named = second.named })
        | inr h ↦ inr (h.1, named_so h.0 h.1)
      ]
    where
      named_so : tokens ≡ second.before → x ≡ t → Contains (map bytes_of tokens) (bytes_of x)
      named_so e same =
          subst (λ ts. Contains (map bytes_of ts) (bytes_of x)) (sym e)
          (subst (λ v. Contains (map bytes_of second.before) (bytes_of v)) (sym same) second.named)

  seconds_before : (tokens : List ℕ) (x t : ℕ) → IsSecond bytes_of tokens t → IsSecond bytes_of (tokens ++ x ∷ []) t
  seconds_before tokens x t second = record {
    before = second.before;
    after = second.after ++ x ∷ [];
    stands = ap (λ ts. ts ++ x ∷ []) second.stands ∙ append_assoc second.before (t ∷ second.after) (x ∷ []);
    named = second.named;
  }

  module _ (fault : Fault) (tokens : List ℕ) (x : ℕ) where
    pub second_more : Contains (map bytes_of tokens) (bytes_of x) → (b : Blamed) →
        IsSecondName bytes_of fault (tokens ++ x ∷ []) b ↔ (IsSecondName bytes_of fault tokens b ⊎ (blame fault x ≡ b))
    second_more named b = (
      λ h. elim (seconds_last tokens x b.token h.second) [
        | inl s ↦ inl (record { second = s; is = h.is })
        | inr s ↦ inr (ap (blame fault) s.0 ∙ sym h.is)
      ],
      λ h. elim h [
        | inl s ↦ record { second = seconds_before tokens x b.token s.second; is = s.is }
        | inr e ↦ subst (λ v. IsSecondName bytes_of fault (tokens ++ x ∷ []) v) e
            (record { second = record { before = tokens; after = []; stands = refl; named = named }; is = refl })
      ],
    )

    pub second_same : ¬ Contains (map bytes_of tokens) (bytes_of x) → (b : Blamed) →
        IsSecondName bytes_of fault (tokens ++ x ∷ []) b ↔ IsSecondName bytes_of fault tokens b
    second_same new b = (
      λ h. elim (seconds_last tokens x b.token h.second) [
        | inl s ↦ record { second = s; is = h.is }
        | inr s ↦ absurd (new s.1)
      ],
      λ s. record { second = seconds_before tokens x b.token s.second; is = s.is },
    )

  pub second_none : (fault : Fault) (b : Blamed) → ¬ IsSecondName bytes_of fault [] b
  second_none fault b h = nothing_behind h.second.before b.token h.second.after h.second.stands

  pub no_names : (names : List (List ℕ)) → names ≡ [] → AreNamesOf bytes_of [] names
  no_names names e = subst (AreNamesOf bytes_of []) (sym e) (λ name. (λ h. absurd (omega (arith, h.1)), λ h. absurd (omega (arith, h.1))))

  module _ (names : List (List ℕ)) (tokens : List ℕ) (x : ℕ) (are : AreNamesOf bytes_of tokens names) where
    pub names_more : AreNamesOf bytes_of (tokens ++ x ∷ []) (names ++ bytes_of x ∷ [])
    names_more name = (
      λ h. elim (Contains-push_cases names (bytes_of x) name h) [
        | inl y ↦ whole (Contains-append_left (map bytes_of tokens) (bytes_of x ∷ []) name ((are name).0 y))
        | inr e ↦ whole (subst (λ v. Contains (map bytes_of tokens ++ bytes_of x ∷ []) v) e (Contains-push (map bytes_of tokens) (bytes_of x)))
      ],
      λ h. elim (Contains-push_cases (map bytes_of tokens) (bytes_of x) name (parts h)) [
        | inl y ↦ Contains-append_left names (bytes_of x ∷ []) name ((are name).1 y)
        | inr e ↦ subst (λ v. Contains (names ++ bytes_of x ∷ []) v) e (Contains-push names (bytes_of x))
      ],
    )
      where
        whole : Contains (map bytes_of tokens ++ bytes_of x ∷ []) name → Contains (map bytes_of (tokens ++ x ∷ [])) name
        whole h = subst (λ ns. Contains ns name) (sym (map_push bytes_of tokens x)) h

        parts : Contains (map bytes_of (tokens ++ x ∷ [])) name → Contains (map bytes_of tokens ++ bytes_of x ∷ []) name
        parts h = subst (λ ns. Contains ns name) (map_push bytes_of tokens x) h

    pub names_same : Contains names (bytes_of x) → AreNamesOf bytes_of (tokens ++ x ∷ []) names
    names_same known name = (
      λ h. subst (λ ns. Contains ns name) (sym (map_push bytes_of tokens x))
          (Contains-append_left (map bytes_of tokens) (bytes_of x ∷ []) name ((are name).0 h)),
      λ h. elim (Contains-push_cases (map bytes_of tokens) (bytes_of x) name (subst (λ ns. Contains ns name) (map_push bytes_of tokens x) h)) [
        | inl y ↦ (are name).1 y
        | inr e ↦ subst (λ v. Contains names v) e known
      ],
    )

  -- ---- Names that do not stand

  module _ (fault : Fault) (tokens : List ℕ) (names : List (List ℕ)) (x : ℕ) where
    pub missing_more : ¬ Contains names (bytes_of x) → (b : Blamed) →
        IsMissingName bytes_of fault (tokens ++ x ∷ []) names b ↔ (IsMissingName bytes_of fault tokens names b ⊎ (blame fault x ≡ b))
    missing_more new b = (
      λ h. elim (Contains-push_cases tokens x b.token h.stands) [
        | inl s ↦ inl (record { stands = s; missing = h.missing; is = h.is })
        | inr e ↦ inr (ap (blame fault) e ∙ sym h.is)
      ],
      λ h. elim h [
        | inl s ↦ record { stands = Contains-append_left tokens (x ∷ []) b.token s.stands; missing = s.missing; is = s.is }
        | inr e ↦ subst (λ v. IsMissingName bytes_of fault (tokens ++ x ∷ []) names v) e
            (record { stands = Contains-push tokens x; missing = new; is = refl })
      ],
    )

    pub missing_same : Contains names (bytes_of x) → (b : Blamed) →
        IsMissingName bytes_of fault (tokens ++ x ∷ []) names b ↔ IsMissingName bytes_of fault tokens names b
    missing_same known b = (
      λ h. elim (Contains-push_cases tokens x b.token h.stands) [
        | inl s ↦ record { stands = s; missing = h.missing; is = h.is }
        | inr e ↦ absurd (h.missing (subst (λ t. Contains names (bytes_of t)) e known))
      ],
      λ s. record { stands = Contains-append_left tokens (x ∷ []) b.token s.stands; missing = s.missing; is = s.is },
    )

  pub missing_none : (fault : Fault) (names : List (List ℕ)) (b : Blamed) → ¬ IsMissingName bytes_of fault [] names b
  missing_none fault names b h = absurd (omega (arith, h.stands.1))

  -- ---- Steps

  pub name_step : (fault : Fault) (tokens : List ℕ) (i token : ℕ) (names more_names : List (List ℕ)) (old faults more_faults : Blames) →
      i < length tokens → token ≡ get_or tokens i 0 →
      AreNamesOf bytes_of (take i tokens) names → Adds (IsSecondName bytes_of fault (take i tokens)) old faults →
      MeetsName (bytes_of token) (blame fault token) names more_names faults more_faults →
      AreNamesOf bytes_of (take (i + 1) tokens) more_names × Adds (IsSecondName bytes_of fault (take (i + 1) tokens)) old more_faults
  name_step fault tokens i token names more_names old faults more_faults inside is are adds met =
      subst (λ list. AreNamesOf bytes_of list more_names × Adds (IsSecondName bytes_of fault list) old more_faults)
      (sym (take_more tokens i 0 inside ∙ ap (λ v. take i tokens ++ v ∷ []) (sym is))) (of_step met)
    where
      of_step : MeetsName (bytes_of token) (blame fault token) names more_names faults more_faults →
          AreNamesOf bytes_of (take i tokens ++ token ∷ []) more_names × Adds (IsSecondName bytes_of fault (take i tokens ++ token ∷ [])) old more_faults
      of_step (meets.MeetsName.known known same more) = (
        subst (AreNamesOf bytes_of (take i tokens ++ token ∷ [])) (sym same) (names_same names (take i tokens) token are known),
        subst (Adds (IsSecondName bytes_of fault (take i tokens ++ token ∷ [])) old) (sym more)
            (adds_push (IsSecondName bytes_of fault (take i tokens)) (IsSecondName bytes_of fault (take i tokens ++ token ∷ [])) old faults (blame fault token) adds
            (second_more fault (take i tokens) token ((are (bytes_of token)).0 known))),
      )
      of_step (meets.MeetsName.new new more same) = (
        subst (AreNamesOf bytes_of (take i tokens ++ token ∷ [])) (sym more) (names_more names (take i tokens) token are),
        subst (Adds (IsSecondName bytes_of fault (take i tokens ++ token ∷ [])) old) (sym same)
            (adds_same (IsSecondName bytes_of fault (take i tokens)) (IsSecondName bytes_of fault (take i tokens ++ token ∷ [])) old faults adds
            (second_same fault (take i tokens) token (λ h. new ((are (bytes_of token)).1 h)))),
      )

  pub goto_step : (fault : Fault) (tokens : List ℕ) (i token : ℕ) (names : List (List ℕ)) (old faults more_faults : Blames) →
      i < length tokens → token ≡ get_or tokens i 0 →
      Adds (IsMissingName bytes_of fault (take i tokens) names) old faults →
      MeetsGoto (bytes_of token) (blame fault token) names faults more_faults →
      Adds (IsMissingName bytes_of fault (take (i + 1) tokens) names) old more_faults
  goto_step fault tokens i token names old faults more_faults inside is adds met =
      subst (λ list. Adds (IsMissingName bytes_of fault list names) old more_faults)
      (sym (take_more tokens i 0 inside ∙ ap (λ v. take i tokens ++ v ∷ []) (sym is))) (of_step met)
    where
      of_step : MeetsGoto (bytes_of token) (blame fault token) names faults more_faults →
          Adds (IsMissingName bytes_of fault (take i tokens ++ token ∷ []) names) old more_faults
      of_step (meets.MeetsGoto.known known same) =
          subst (Adds (IsMissingName bytes_of fault (take i tokens ++ token ∷ []) names) old) (sym same)
          (adds_same (IsMissingName bytes_of fault (take i tokens) names) (IsMissingName bytes_of fault (take i tokens ++ token ∷ []) names) old faults adds
          (missing_same fault (take i tokens) names token known))
      of_step (meets.MeetsGoto.missing missing more) =
          subst (Adds (IsMissingName bytes_of fault (take i tokens ++ token ∷ []) names) old) (sym more)
          (adds_push (IsMissingName bytes_of fault (take i tokens) names) (IsMissingName bytes_of fault (take i tokens ++ token ∷ []) names) old faults (blame fault token) adds
          (missing_more fault (take i tokens) names token missing))

-- ---- Lists

-- A name that has a number stands among the names.
pub known_name : (names : List (List ℕ)) (name : List ℕ) (number : ℕ) → slice_get names number ≡ Some name → Contains names name
known_name names name number is = (number, slice_get_within names number name is, get_or_from_slice_get names number name name is)

pub contains_map : {A B : Type 0} (f : A → B) (xs : List A) (x : A) → Contains xs x → Contains (map f xs) (f x)
contains_map f xs x h =
    (h.0, rw length-map h.1, get_or-map f xs h.0 x (f x) h.1 ∙ ap f h.2)
