-- The tests of a condition are read as they are spelled.
use Rattle.std.proofs.Common.{◌≡◌, ◌≢◌, Bool, true, false, List, [], ◌∷◌, ◌++◌, Option, Some, None, refl}
use Rattle.std.specs.Prelude.{is_some}
use Rattle.im_readers.specs.Reading.{Read, made}
use Rattle.im_readers.specs.Grammar.{at_other, begins_with, Reads, never, Any, GoodBoth, GoodOptional, spell_optional, goes_optional}
use Rattle.im_readers.proofs.Parts.{Makes, both_law, made_law, after_law, before_law, optional_law, GoodFirst, Choice, chosen, none_chosen, FirstKind, first_kind, picked_law}
use Rattle.im_readers.proofs.Joined.{joined_law, goes_joined-false}
use Rattle.im_values.specs.declared.comparison.Cmp.{Cmp}
use Rattle.im_values.specs.declared.comparison.Cmp.TheVariants as cmp
use Rattle.im_syntax.specs.declared.keyword.Keyword.{Keyword}
use Rattle.im_syntax.specs.declared.keyword.Keyword.TheVariants as key
use Rattle.im_syntax.specs.declared.token.Token.{Token}
use Rattle.im_syntax.specs.declared.token.Token.TheVariants as token
use Rattle.im_syntax.specs.declared.token.Sign.TheVariants as sign
use Rattle.im_syntax.specs.declared.literal.Lit.{Lit}
use Rattle.im_syntax.specs.declared.literal.Lit.TheVariants as lit
use Rattle.im_syntax.specs.Rules.{IsTuple}
use Rattle.im_syntax.specs.Spelling.{word, comma, lit_token, spell_tuple, spell_not}
use Rattle.im_parse.specs.inner.Marks.{is_key, Lead, keyword, relation, lead, is_comma}
use Rattle.im_parse.specs.inner.Conditions.{Range, from_to, among, Tail, compared, is_null, ranged, tuple_at, not_at, between_at, in_at, range_by, range_at, comparison_at, null_at, not_ranged_at, tail_by, tail_at}
use Rattle.im_parse.proofs.MarkLaws.{left_mark, right_mark, comma_mark, word_law, after_word_law, before_word_law, lit_law, cmp_law, cmp_token, unknown}

-- ---- tuples

abbrev lit_tokens : Lit → List Token
lit_tokens v = lit_token v ∷ []

pub tuple_law : Reads spell_tuple IsTuple never tuple_at
unfolding tuple_at
tuple_law =
    after_law left_mark
    (before_law right_mark (joined_law comma_mark lit_law (λ a g. refl))
    (λ xs good. goes_joined-false comma is_comma lit_tokens Any never (token.Sign sign.RightParen) refl (λ a g. refl) xs good))

-- ---- NOT

abbrev pub goes_not : Bool → Token → Bool
goes_not false t = is_key key.Not t
goes_not true t = false

not_back : (b : Bool) → Unit {0} → Makes (is_some {T = Unit {0}}) (GoodOptional Any) b
not_back true u = record { of = Some tt; is = refl; is_good = tt }
not_back false u = record { of = None; is = refl; is_good = tt }

not_spells : (o : Option (Unit {0})) → spell_not (is_some o) ≡ spell_optional (λ (u : Unit {0}). word key.Not ∷ []) o
not_spells None = refl
not_spells (Some u) = refl

not_goes : (o : Option (Unit {0})) (t : Token) → goes_not (is_some o) t ≡ goes_optional (is_key key.Not) never o t
not_goes None t = refl
not_goes (Some u) t = refl

pub not_law : Reads spell_not Any goes_not not_at
unfolding not_at
not_law =
    made_law spell_not Any goes_not (is_some {T = Unit {0}})
    (optional_law (is_key key.Not) (word_law key.Not) (λ u g. begins_with (word key.Not) [] refl))
    (λ o g. tt) not_back not_spells not_goes

-- ---- ranges

abbrev pub spell_range : Range → List Token
spell_range (from_to low high) = word key.Between ∷ lit_token low ∷ word key.And ∷ lit_token high ∷ []
spell_range (among values) = word key.In ∷ spell_tuple values

abbrev pub GoodRange : Range → Type 0
GoodRange (from_to low high) = Unit {0}
GoodRange (among values) = IsTuple values

abbrev first_range : Range → Lead
first_range (from_to low high) = (keyword key.Between)
first_range (among values) = (keyword key.In)

range_firsts : (r : Range) → GoodRange r → FirstKind lead (first_range r) (spell_range r)
range_firsts (from_to low high) g = first_kind (word key.Between) (lit_token low ∷ word key.And ∷ lit_token high ∷ []) refl
range_firsts (among values) g = first_kind (word key.In) (spell_tuple values) refl

between_back : (r : Range) → GoodFirst GoodRange first_range (keyword key.Between) r → Makes (λ (x : Lit × Lit). from_to x.0 x.1) (GoodBoth Any Any) r
between_back (from_to low high) g = record { of = (low, high); is = refl; is_good = (tt, tt) }
between_back (among values) g = absurd (let e = g.is_first in cc)

between_law : Reads spell_range (GoodFirst GoodRange first_range (keyword key.Between)) never between_at
unfolding between_at
between_law =
    made_law spell_range (GoodFirst GoodRange first_range (keyword key.Between)) never (λ x. from_to x.0 x.1)
    (after_word_law key.Between (both_law lit_law (after_word_law key.And lit_law) (λ a b g h. at_other (word key.And) (lit_token b ∷ []) refl)))
    (λ x g. record { is_good = tt; is_first = refl }) between_back (λ x. refl) (λ x t. refl)

in_back : (r : Range) → GoodFirst GoodRange first_range (keyword key.In) r → Makes among IsTuple r
in_back (from_to low high) g = absurd (let e = g.is_first in cc)
in_back (among values) g = record { of = values; is = refl; is_good = g.is_good }

in_law : Reads spell_range (GoodFirst GoodRange first_range (keyword key.In)) never in_at
unfolding in_at
in_law =
    made_law spell_range (GoodFirst GoodRange first_range (keyword key.In)) never among (after_word_law key.In tuple_law)
    (λ x g. record { is_good = g; is_first = refl }) in_back (λ x. refl) (λ x t. refl)

abbrev is_range : Lead → Bool
is_range (keyword key.Between) = true
is_range (keyword key.In) = true
is_range l = false

all_ranges : (r : Range) → GoodRange r → is_range (first_range r) ≡ true
all_ranges (from_to low high) g = refl
all_ranges (among values) g = refl

range_choices : (l : Lead) → Choice spell_range GoodRange never first_range l (range_by l)
range_choices (keyword key.Between) = chosen between_law
range_choices (keyword key.In) = chosen in_law
range_choices l = none_chosen (λ ts. refl) (unknown is_range GoodRange first_range all_ranges l refl)

pub range_law : Reads spell_range GoodRange never range_at
unfolding range_at
range_law =
    picked_law spell_range GoodRange never lead range_by first_range (from_to lit.Null lit.Null) tt range_firsts range_choices

-- ---- what stands behind the column

abbrev pub spell_tail : Tail → List Token
spell_tail (compared c v) = cmp_token c ∷ lit_token v ∷ []
spell_tail (is_null negated) = word key.Is ∷ (spell_not negated ++ word key.Null ∷ [])
spell_tail (ranged negated r) = spell_not negated ++ spell_range r

abbrev pub GoodTail : Tail → Type 0
GoodTail (compared c v) = Unit {0}
GoodTail (is_null negated) = Unit {0}
GoodTail (ranged negated r) = GoodRange r

abbrev first_tail : Tail → Lead
first_tail (compared c v) = relation
first_tail (is_null negated) = keyword key.Is
first_tail (ranged true r) = keyword key.Not
first_tail (ranged false r) = first_range r

lead_of_cmp : (c : Cmp) → lead (cmp_token c) ≡ relation
lead_of_cmp cmp.Eq = refl
lead_of_cmp c = refl

tail_firsts : (t : Tail) → GoodTail t → FirstKind lead (first_tail t) (spell_tail t)
tail_firsts (compared c v) g = first_kind (cmp_token c) (lit_token v ∷ []) (lead_of_cmp c)
tail_firsts (is_null negated) g = first_kind (word key.Is) (spell_not negated ++ word key.Null ∷ []) refl
tail_firsts (ranged true r) g = first_kind (word key.Not) (spell_range r) refl
tail_firsts (ranged false r) g = range_firsts r g

comparison_back : (t : Tail) → GoodFirst GoodTail first_tail relation t → Makes (λ (x : Cmp × Lit). compared x.0 x.1) (GoodBoth Any Any) t
comparison_back (compared c v) g = record { of = (c, v); is = refl; is_good = (tt, tt) }
comparison_back (is_null negated) g = absurd (let e = g.is_first in cc)
comparison_back (ranged true r) g = absurd (let e = g.is_first in cc)
comparison_back (ranged false (from_to low high)) g = absurd (let e = g.is_first in cc)
comparison_back (ranged false (among values)) g = absurd (let e = g.is_first in cc)

comparison_law : Reads spell_tail (GoodFirst GoodTail first_tail relation) never comparison_at
unfolding comparison_at
comparison_law =
    made_law spell_tail (GoodFirst GoodTail first_tail relation) never (λ x. compared x.0 x.1)
    (both_law cmp_law lit_law (λ a b g h. at_other (lit_token b) [] refl))
    (λ x g. record { is_good = tt; is_first = refl }) comparison_back (λ x. refl) (λ x t. refl)

null_back : (t : Tail) → GoodFirst GoodTail first_tail (keyword key.Is) t → Makes is_null Any t
null_back (compared c v) g = absurd (let e = g.is_first in cc)
null_back (is_null negated) g = record { of = negated; is = refl; is_good = tt }
null_back (ranged true r) g = absurd (let e = g.is_first in cc)
null_back (ranged false (from_to low high)) g = absurd (let e = g.is_first in cc)
null_back (ranged false (among values)) g = absurd (let e = g.is_first in cc)

not_before : (negated : Bool) → Any negated → goes_not negated (word key.Null) ≡ false
not_before true u = refl
not_before false u = refl

null_law : Reads spell_tail (GoodFirst GoodTail first_tail (keyword key.Is)) never null_at
unfolding null_at
null_law =
    made_law spell_tail (GoodFirst GoodTail first_tail (keyword key.Is)) never is_null
    (after_word_law key.Is (before_word_law key.Null not_law not_before))
    (λ x g. record { is_good = tt; is_first = refl }) null_back (λ x. refl) (λ x t. refl)

not_ranged_back : (t : Tail) → GoodFirst GoodTail first_tail (keyword key.Not) t → Makes (ranged true) GoodRange t
not_ranged_back (compared c v) g = absurd (let e = g.is_first in cc)
not_ranged_back (is_null negated) g = absurd (let e = g.is_first in cc)
not_ranged_back (ranged true r) g = record { of = r; is = refl; is_good = g.is_good }
not_ranged_back (ranged false (from_to low high)) g = absurd (let e = g.is_first in cc)
not_ranged_back (ranged false (among values)) g = absurd (let e = g.is_first in cc)

not_ranged_law : Reads spell_tail (GoodFirst GoodTail first_tail (keyword key.Not)) never not_ranged_at
unfolding not_ranged_at
not_ranged_law =
    made_law spell_tail (GoodFirst GoodTail first_tail (keyword key.Not)) never (ranged true) (after_word_law key.Not range_law)
    (λ r g. record { is_good = g; is_first = refl }) not_ranged_back (λ r. refl) (λ r t. refl)

-- a range that has no NOT before it
plain_back : (k : Keyword) → key.Is ≢ k → key.Not ≢ k → (t : Tail) → GoodFirst GoodTail first_tail (keyword k) t
    → Makes (ranged false) (GoodFirst GoodRange first_range (keyword k)) t
plain_back k is not (compared c v) g = absurd (let e = g.is_first in cc)
plain_back k is not (is_null negated) g = absurd (is (let e = g.is_first in cc))
plain_back k is not (ranged true r) g = absurd (not (let e = g.is_first in cc))
plain_back k is not (ranged false r) g = record { of = r; is = refl; is_good = record { is_good = g.is_good; is_first = g.is_first } }

plain_law : (k : Keyword) {p : List Token → Read Token Range} → key.Is ≢ k → key.Not ≢ k
    → Reads spell_range (GoodFirst GoodRange first_range (keyword k)) never p
    → Reads spell_tail (GoodFirst GoodTail first_tail (keyword k)) never (made (ranged false) p)
plain_law k is not law =
    made_law spell_tail (GoodFirst GoodTail first_tail (keyword k)) never (ranged false) law
    (λ r g. record { is_good = g.is_good; is_first = g.is_first }) (plain_back k is not) (λ r. refl) (λ r t. refl)

abbrev is_tail : Lead → Bool
is_tail (keyword key.Is) = true
is_tail (keyword key.Not) = true
is_tail (keyword key.Between) = true
is_tail (keyword key.In) = true
is_tail relation = true
is_tail l = false

all_tails : (t : Tail) → GoodTail t → is_tail (first_tail t) ≡ true
all_tails (ranged false (from_to low high)) g = refl
all_tails t g = refl

tail_choices : (l : Lead) → Choice spell_tail GoodTail never first_tail l (tail_by l)
tail_choices relation = chosen comparison_law
tail_choices (keyword key.Is) = chosen null_law
tail_choices (keyword key.Not) = chosen not_ranged_law
tail_choices (keyword key.Between) = chosen (plain_law key.Between (λ e. cc) (λ e. cc) between_law)
tail_choices (keyword key.In) = chosen (plain_law key.In (λ e. cc) (λ e. cc) in_law)
tail_choices l = none_chosen (λ ts. refl) (unknown is_tail GoodTail first_tail all_tails l refl)

pub tail_law : Reads spell_tail GoodTail never tail_at
unfolding tail_at
tail_law = picked_law spell_tail GoodTail never lead tail_by first_tail (is_null false) tt tail_firsts tail_choices
