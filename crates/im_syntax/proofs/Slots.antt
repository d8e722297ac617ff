-- Each keyword stands in the slot of its letters, so a word is a keyword exactly where the one in its slot is spelled so.
use Rattle.std.proofs.Common.{◌≡◌, ℕ, zero, suc, Bool, true, false, List, [], ◌∷◌, map, Option, Some, None, ◌⊎◌, inl, inr, ⊎_elim, refl, sym, ap, ◌∙◌}
use Rattle.std.specs.Prelude.{slice_index, slice_get, cond}
use Rattle.std.specs.Str.{bytes_eq}
use Rattle.std.proofs.lemmas.Slice.Eq.{bytes_eq-Decides}
use Rattle.im_syntax.specs.declared.keyword.Keyword.{Keyword}
use Rattle.im_syntax.specs.declared.keyword.TheConstants.{KEYWORDS, PLACES}
use Rattle.im_syntax.specs.Keywords.{look_up, keyword_of}
use Rattle.im_syntax.specs.inner.Slots.{slot_of, if_spelled, keyword_at}

abbrev Entry : Type 0
Entry = List ℕ × Keyword

-- ---- any table

module _ (at : List ℕ → Option Entry) (w : List ℕ) where
  -- an entry that has the letters, or that has not, before the others
  finds_behind : (e : Entry) (spelled : Bool) (others : Option Keyword) → bytes_eq e.0 w ≡ spelled → at e.0 ≡ Some e
      → (others ≡ None) ⊎ (others ≡ if_spelled (at w) w)
      → (cond spelled (Some e.1) others ≡ None) ⊎ (cond spelled (Some e.1) others ≡ if_spelled (at w) w)
  finds_behind e true others is here more =
      let letters : e.0 ≡ w = (bytes_eq-Decides e.0 w).0 is in
      let slot : at w ≡ Some e = sym (ap at letters) ∙ here in
      inr (sym (ap (λ (x : Option Entry). if_spelled x w) slot ∙ ap (λ (b : Bool). cond b (Some e.1) None) is))
  finds_behind e false others is here more = more

  -- where each entry is the one at its letters, a look-up finds nothing, or what stands at the word
  finds : (es : List Entry) → map (λ (e : Entry). at e.0) es ≡ map (λ (e : Entry). Some e) es
      → (look_up es w ≡ None) ⊎ (look_up es w ≡ if_spelled (at w) w)
  finds [] h = inl refl
  finds (e ∷ es) h =
      let here : at e.0 ≡ Some e = cc in
      let behind : map (λ (e : Entry). at e.0) es ≡ map (λ (e : Entry). Some e) es = cc in
      finds_behind e (bytes_eq e.0 w) (look_up es w) refl here (finds es behind)

-- an entry with the letters is found, or one before it
missed_behind : (f : Entry) (spelled : Bool) (others : Option Keyword) → cond spelled (Some f.1) others ≡ None → others ≡ None
missed_behind f true others h = absurd cc
missed_behind f false others h = h

is_missed : (e : Entry) (w : List ℕ) (others : Option Keyword) → bytes_eq e.0 w ≡ true → cond (bytes_eq e.0 w) (Some e.1) others ≡ None → ⊥
is_missed e w others is h =
    let found : Some e.1 ≡ None = sym (ap (λ (b : Bool). cond b (Some e.1) others) is) ∙ h in cc

missed : (es : List Entry) (i : ℕ) (e : Entry) (w : List ℕ) → slice_get es i ≡ Some e → bytes_eq e.0 w ≡ true → look_up es w ≡ None → ⊥
missed [] i e w there is h = cc
missed (f ∷ es) zero e w there is h =
    let same : e ≡ f = cc in
    is_missed f w (look_up es w) (ap (λ (x : Entry). bytes_eq x.0 w) (sym same) ∙ is) h
missed (f ∷ es) (suc i) e w there is h = missed es i e w there is (missed_behind f (bytes_eq f.0 w) (look_up es w) h)

-- so where nothing is found, no entry has the letters
none_spelled : (es : List Entry) (i : ℕ) (e : Entry) (w : List ℕ) (spelled : Bool) → slice_get es i ≡ Some e → bytes_eq e.0 w ≡ spelled
    → look_up es w ≡ None → look_up es w ≡ cond spelled (Some e.1) None
none_spelled es i e w true there is h = absurd (missed es i e w there is h)
none_spelled es i e w false there is h = h

none_at : (es : List Entry) (i : ℕ) (w : List ℕ) (found : Option Entry) → slice_get es i ≡ found → look_up es w ≡ None
    → look_up es w ≡ if_spelled found w
none_at es i w None there h = h
none_at es i w (Some e) there h = none_spelled es i e w (bytes_eq e.0 w) there refl h

-- ---- the table of keywords

table : List Entry
table = map (λ entry. (entry.0.now, entry.1)) KEYWORDS

slotted : List ℕ → Option Entry
slotted word = slice_get table (slice_index PLACES (slot_of word))

all_slotted : map (λ (e : Entry). slotted e.0) table ≡ map (λ (e : Entry). Some e) table
unfolding table slotted
all_slotted = refl

in_slot : (w : List ℕ) → look_up table w ≡ if_spelled (slotted w) w
unfolding slotted
in_slot w =
    ⊎_elim
    (λ (none : look_up table w ≡ None). none_at table (slice_index PLACES (slot_of w)) w (slotted w) refl none)
    (λ (found : look_up table w ≡ if_spelled (slotted w) w). found)
    (finds slotted w table all_slotted)

pub keyword_of_slot : (w : List ℕ)
    → keyword_at (map (λ entry. (entry.0.now, entry.1)) KEYWORDS) (slice_index PLACES (slot_of w)) w ≡ keyword_of w
unfolding keyword_of table slotted
keyword_of_slot w = sym (in_slot w)
