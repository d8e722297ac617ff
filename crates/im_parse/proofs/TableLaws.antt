-- The parts of CREATE TABLE and ALTER TABLE are read as they are spelled.
use Rattle.std.proofs.Common.{◌≡◌, ℕ, ◌-◌, Bool, true, false, List, [], ◌∷◌, Option, Some, None, refl, arith}
use Rattle.std.specs.Prelude.{is_some}
use Rattle.im_readers.specs.Grammar.{Ends, at_end, at_other, BeginsWith, begins_with, Reads, never, Any, GoodBoth, GoodJoinedUpTo, GoodOptional, spell_both, spell_joined, goes_both, spell_optional, goes_optional, goes_behind}
use Rattle.im_readers.proofs.Parts.{Makes, both_law, made_law, after_law, before_law, optional_law, GoodFirst, Choice, chosen, none_chosen, FirstKind, first_kind, picked_law}
use Rattle.im_readers.proofs.Joined.{joined_up_to_law, goes_joined_up_to-false}
use Rattle.im_syntax.specs.declared.keyword.Keyword.{Keyword}
use Rattle.im_syntax.specs.declared.keyword.Keyword.TheVariants as key
use Rattle.im_syntax.specs.declared.token.Token.{Token}
use Rattle.im_syntax.specs.declared.token.Token.TheVariants as token
use Rattle.im_syntax.specs.declared.token.Sign.TheVariants as sign
use Rattle.im_syntax.specs.declared.table.KindWord.{KindWord}
use Rattle.im_syntax.specs.declared.table.KindWord.TheVariants as kind
use Rattle.im_syntax.specs.declared.table.ColumnPart.{ColumnPart}
use Rattle.im_values.specs.declared.limits.TheConstants.{MOST_COLUMNS, MOST_IN_SHAPE}
use Rattle.im_values.specs.declared.priority.Priority.{Priority}
use Rattle.im_syntax.specs.declared.limits.TheConstants.{MOST_TEXT_BYTES}
use Rattle.im_syntax.specs.declared.table.MemoryPart.{MemoryPart}
use Rattle.im_syntax.specs.declared.literal.Lit.{Lit}
use Rattle.im_syntax.specs.Rules.{IsWithin, IsKind, IsColumn}
use Rattle.im_syntax.specs.Spelling.{word, comma, number, in_parens, lit_token, spell_kind, spell_column, level_word, spell_compress, spell_memory, spell_option, spell_default, spell_added}
use Rattle.im_parse.specs.inner.Marks.{is_key, is_comma, Lead, keyword, lead}
use Rattle.im_parse.specs.inner.Tables.{varchar2_at, kind_by, kind_at, column_of, column_at, columns_at, compress_at, priority_at, memory_of, memory_at, option_at, memory_option_at, default_at, added_of, added_at, altered_by, altered_at}
use Rattle.im_parse.specs.declared.tables.Alteration.{Alteration}
use Rattle.im_parse.specs.declared.tables.Alteration.TheVariants as altered
use Rattle.im_parse.proofs.MarkLaws.{Ends-never, left_mark, right_mark, comma_mark, word_law, after_word_law, name_law, number_law, lit_law, level_law, unknown}

-- ---- columns

abbrev first_column : KindWord → Lead
first_column kind.Number = keyword key.Number
first_column kind.Integer = keyword key.Integer
first_column (kind.Varchar2 n) = keyword key.Varchar2

kind_firsts : (k : KindWord) → IsKind k → FirstKind lead (first_column k) (spell_kind k)
kind_firsts kind.Number g = first_kind (word key.Number) [] refl
kind_firsts kind.Integer g = first_kind (word key.Integer) [] refl
kind_firsts (kind.Varchar2 n) g = first_kind (word key.Varchar2) _ refl

number_back : (k : KindWord) → IsKind k → first_column k ≡ (keyword key.Number) → Makes (λ (u : Unit {0}). kind.Number) Any k
number_back kind.Number g e = record { of = tt; is = refl; is_good = tt }
number_back kind.Integer g e = absurd cc
number_back (kind.Varchar2 n) g e = absurd cc

integer_back : (k : KindWord) → IsKind k → first_column k ≡ (keyword key.Integer) → Makes (λ (u : Unit {0}). kind.Integer) Any k
integer_back kind.Number g e = absurd cc
integer_back kind.Integer g e = record { of = tt; is = refl; is_good = tt }
integer_back (kind.Varchar2 n) g e = absurd cc

varchar2_back : (k : KindWord) → IsKind k → first_column k ≡ (keyword key.Varchar2) → Makes kind.Varchar2 (IsWithin 1 MOST_TEXT_BYTES) k
varchar2_back kind.Number g e = absurd cc
varchar2_back kind.Integer g e = absurd cc
varchar2_back (kind.Varchar2 n) g e = record { of = n; is = refl; is_good = g }

varchar2_law : Reads (λ n. word key.Varchar2 ∷ in_parens (number n ∷ [])) (IsWithin 1 MOST_TEXT_BYTES) never varchar2_at
unfolding varchar2_at
varchar2_law = after_word_law key.Varchar2 (after_law left_mark (before_law right_mark (number_law 1 MOST_TEXT_BYTES (omega arith)) (λ a g. refl)))

abbrev is_kind : Lead → Bool
is_kind (keyword key.Number) = true
is_kind (keyword key.Integer) = true
is_kind (keyword key.Varchar2) = true
is_kind l = false

all_kinds : (k : KindWord) → IsKind k → is_kind (first_column k) ≡ true
all_kinds kind.Number g = refl
all_kinds kind.Integer g = refl
all_kinds (kind.Varchar2 n) g = refl

kind_choices : (l : Lead) → Choice spell_kind IsKind never first_column l (kind_by l)
kind_choices (keyword key.Number) =
    chosen (made_law spell_kind (GoodFirst IsKind first_column (keyword key.Number)) never (λ u. kind.Number) (word_law key.Number)
    (λ u g. record { is_good = tt; is_first = refl }) (λ k g. number_back k g.is_good g.is_first) (λ u. refl) (λ u t. refl))
kind_choices (keyword key.Integer) =
    chosen (made_law spell_kind (GoodFirst IsKind first_column (keyword key.Integer)) never (λ u. kind.Integer) (word_law key.Integer)
    (λ u g. record { is_good = tt; is_first = refl }) (λ k g. integer_back k g.is_good g.is_first) (λ u. refl) (λ u t. refl))
kind_choices (keyword key.Varchar2) =
    chosen (made_law spell_kind (GoodFirst IsKind first_column (keyword key.Varchar2)) never kind.Varchar2 varchar2_law
    (λ n g. record { is_good = g; is_first = refl }) (λ k g. varchar2_back k g.is_good g.is_first) (λ n. refl) (λ n t. refl))
kind_choices l = none_chosen (λ ts. refl) (unknown is_kind IsKind first_column all_kinds l refl)

kind_law : Reads spell_kind IsKind never kind_at
unfolding kind_at
kind_law = picked_law spell_kind IsKind never lead kind_by first_column kind.Number tt kind_firsts kind_choices

column_goes : (k : KindWord) (t : Token) → false ≡ goes_behind (spell_kind k) (λ (u : Token). false) (λ (u : Token). false) t
column_goes kind.Number t = refl
column_goes kind.Integer t = refl
column_goes (kind.Varchar2 n) t = refl

column_law : Reads spell_column IsColumn never column_at
unfolding column_at
column_law =
    made_law spell_column IsColumn never column_of (both_law name_law kind_law (λ n k _ _. Ends-never n (spell_kind k)))
    (λ x g. g) (λ c g. record { of = (c.name, c.kind); is = refl; is_good = g }) (λ x. refl) (λ x t. column_goes x.1 t)

abbrev pub spell_table_columns : List ColumnPart → List Token
spell_table_columns cs = in_parens (spell_joined comma spell_column cs)

pub columns_law : Reads spell_table_columns (GoodJoinedUpTo (MOST_COLUMNS - 1) IsColumn) never columns_at
unfolding columns_at
columns_law =
    after_law left_mark
    (before_law right_mark (joined_up_to_law comma_mark column_law (λ a g. refl) (MOST_COLUMNS - 1))
    (λ cs g. goes_joined_up_to-false comma is_comma spell_column IsColumn never (token.Sign sign.RightParen) refl (λ a h. refl) (MOST_COLUMNS - 1) cs g))

-- ---- options

abbrev pub goes_option : Keyword → Option ℕ → Token → Bool
goes_option k = goes_optional (is_key k) never

pub option_law : (k : Keyword) → ((n : ℕ) → BeginsWith (is_key k) (word k ∷ number n ∷ []))
    → Reads (spell_option k) (GoodOptional (IsWithin 1 MOST_IN_SHAPE)) (goes_option k) (option_at k)
unfolding option_at
option_law k starts = optional_law (is_key k) (after_word_law k (number_law 1 MOST_IN_SHAPE (omega arith))) (λ n g. starts n)

abbrev goes_compress : Bool → Token → Bool
goes_compress true t = false
goes_compress false t = is_key key.MemCompress t

compress_back : (b : Bool) → Unit {0} → Makes (is_some {T = Unit {0}}) (GoodOptional Any) b
compress_back true u = record { of = Some tt; is = refl; is_good = tt }
compress_back false u = record { of = None; is = refl; is_good = tt }

abbrev compress_tokens : Unit {0} → List Token
compress_tokens u = word key.MemCompress ∷ word key.For ∷ word key.Query ∷ word key.Low ∷ []

compress_spells : (o : Option (Unit {0})) → spell_compress (is_some o) ≡ spell_optional compress_tokens o
compress_spells None = refl
compress_spells (Some u) = refl

compress_goes : (o : Option (Unit {0})) (t : Token) → goes_compress (is_some o) t ≡ goes_optional (is_key key.MemCompress) never o t
compress_goes None t = refl
compress_goes (Some u) t = refl

compress_law : Reads spell_compress Any goes_compress compress_at
unfolding compress_at
compress_law =
    made_law spell_compress Any goes_compress (is_some {T = Unit {0}})
    (optional_law (is_key key.MemCompress) (after_word_law key.MemCompress (after_word_law key.For (after_word_law key.Query (word_law key.Low))))
    (λ u g. begins_with (word key.MemCompress) _ refl))
    (λ o g. tt) compress_back compress_spells compress_goes

abbrev spell_priority : Option Priority → List Token
spell_priority = spell_optional (λ l. word key.Priority ∷ word (level_word l) ∷ [])

abbrev goes_priority : Option Priority → Token → Bool
goes_priority = goes_optional (is_key key.Priority) never

priority_law : Reads spell_priority (GoodOptional Any) goes_priority priority_at
unfolding priority_at
priority_law = optional_law (is_key key.Priority) (after_word_law key.Priority level_law)
    (λ l g. begins_with (word key.Priority) (word (level_word l) ∷ []) refl)

compress_apart : (b : Bool) (o : Option Priority) → Ends (goes_compress b) (spell_priority o)
compress_apart b None = at_end
compress_apart true (Some l) = at_other (word key.Priority) (word (level_word l) ∷ []) refl
compress_apart false (Some l) = at_other (word key.Priority) (word (level_word l) ∷ []) refl

abbrev pub goes_memory : MemoryPart → Token → Bool
goes_memory m = goes_both spell_priority goes_compress goes_priority (m.compress, m.level)

any_level : (o : Option Priority) → GoodOptional Any o
any_level None = tt
any_level (Some l) = tt

pub memory_law : Reads spell_memory Any goes_memory memory_at
unfolding memory_at
memory_law =
    made_law spell_memory Any goes_memory memory_of
    (after_word_law key.InMemory (both_law compress_law priority_law (λ b o _ _. compress_apart b o)))
    (λ x g. tt) (λ m g. record { of = (m.compress, m.level); is = refl; is_good = (tt, any_level m.level) }) (λ x. refl) (λ x t. refl)

abbrev pub spell_memory_option : Option MemoryPart → List Token
spell_memory_option = spell_optional spell_memory

abbrev pub goes_memory_option : Option MemoryPart → Token → Bool
goes_memory_option = goes_optional (is_key key.InMemory) goes_memory

pub memory_option_law : Reads spell_memory_option (GoodOptional Any) goes_memory_option memory_option_at
unfolding memory_option_at
memory_option_law = optional_law (is_key key.InMemory) memory_law (λ m g. begins_with (word key.InMemory) _ refl)

-- ---- ALTER TABLE

abbrev goes_default : Option Lit → Token → Bool
goes_default = goes_optional (is_key key.Default) never

default_law : Reads spell_default (GoodOptional Any) goes_default default_at
unfolding default_at
default_law = optional_law (is_key key.Default) (after_word_law key.Default lit_law) (λ v g. begins_with (word key.Default) (lit_token v ∷ []) refl)

any_default : (d : Option Lit) → GoodOptional Any d
any_default None = tt
any_default (Some v) = tt

abbrev spell_defaulted : ColumnPart × Option Lit → List Token
spell_defaulted = spell_both spell_column spell_default

abbrev goes_defaulted : ColumnPart × Option Lit → Token → Bool
goes_defaulted = goes_both spell_default never goes_default

-- a closing parenthesis ends a column and its default
defaulted_ends : (c : ColumnPart) (d : Option Lit) → goes_defaulted (c, d) (token.Sign sign.RightParen) ≡ false
defaulted_ends c None = refl
defaulted_ends c (Some v) = refl

abbrev pub spell_altered : Alteration → List Token
spell_altered altered.NoMemory = word key.No ∷ word key.InMemory ∷ []
spell_altered (altered.Memory m) = spell_memory m
spell_altered (altered.Column c d) = spell_added c d

abbrev pub goes_altered : Alteration → Token → Bool
goes_altered altered.NoMemory t = false
goes_altered (altered.Memory m) t = goes_memory m t
goes_altered (altered.Column c d) t = false

-- which of them may stand behind the name of a table
abbrev pub IsAlteration : Alteration → Type 0
IsAlteration altered.NoMemory = Unit {0}
IsAlteration (altered.Memory m) = Unit {0}
IsAlteration (altered.Column c d) = IsColumn c

abbrev first_altered : Alteration → Lead
first_altered altered.NoMemory = keyword key.No
first_altered (altered.Memory m) = keyword key.InMemory
first_altered (altered.Column c d) = keyword key.Add

altered_firsts : (x : Alteration) → IsAlteration x → FirstKind lead (first_altered x) (spell_altered x)
altered_firsts altered.NoMemory g = first_kind (word key.No) _ refl
altered_firsts (altered.Memory m) g = first_kind (word key.InMemory) _ refl
altered_firsts (altered.Column c d) g = first_kind (word key.Add) _ refl

memory_back : (x : Alteration) → first_altered x ≡ (keyword key.InMemory) → Makes altered.Memory Any x
memory_back altered.NoMemory e = absurd cc
memory_back (altered.Memory m) e = record { of = m; is = refl; is_good = tt }
memory_back (altered.Column c d) e = absurd cc

no_memory_back : (x : Alteration) → first_altered x ≡ (keyword key.No) → Makes (λ (u : Unit {0}). altered.NoMemory) Any x
no_memory_back altered.NoMemory e = record { of = tt; is = refl; is_good = tt }
no_memory_back (altered.Memory m) e = absurd cc
no_memory_back (altered.Column c d) e = absurd cc

added_back : (x : Alteration) → IsAlteration x → first_altered x ≡ (keyword key.Add) → Makes added_of (GoodBoth IsColumn (GoodOptional Any)) x
added_back altered.NoMemory g e = absurd cc
added_back (altered.Memory m) g e = absurd cc
added_back (altered.Column c d) g e = record { of = (c, d); is = refl; is_good = (g, any_default d) }

added_law : Reads spell_altered (GoodFirst IsAlteration first_altered (keyword key.Add)) goes_altered added_at
unfolding added_at
added_law =
    made_law spell_altered (GoodFirst IsAlteration first_altered (keyword key.Add)) goes_altered added_of
    (after_word_law key.Add (after_law left_mark
    (before_law right_mark (both_law column_law default_law (λ c d _ _. Ends-never c (spell_default d))) (λ x g. defaulted_ends x.0 x.1))))
    (λ x g. record { is_good = g.0; is_first = refl }) (λ x g. added_back x g.is_good g.is_first) (λ x. refl) (λ x t. refl)

abbrev is_altered : Lead → Bool
is_altered (keyword key.InMemory) = true
is_altered (keyword key.No) = true
is_altered (keyword key.Add) = true
is_altered l = false

all_altered : (x : Alteration) → IsAlteration x → is_altered (first_altered x) ≡ true
all_altered altered.NoMemory g = refl
all_altered (altered.Memory m) g = refl
all_altered (altered.Column c d) g = refl

altered_choices : (l : Lead) → Choice spell_altered IsAlteration goes_altered first_altered l (altered_by l)
altered_choices (keyword key.InMemory) =
    chosen (made_law spell_altered (GoodFirst IsAlteration first_altered (keyword key.InMemory)) goes_altered altered.Memory memory_law
    (λ m g. record { is_good = tt; is_first = refl }) (λ x g. memory_back x g.is_first) (λ m. refl) (λ m t. refl))
altered_choices (keyword key.No) =
    chosen (made_law spell_altered (GoodFirst IsAlteration first_altered (keyword key.No)) goes_altered (λ u. altered.NoMemory)
    (after_word_law key.No (word_law key.InMemory))
    (λ u g. record { is_good = tt; is_first = refl }) (λ x g. no_memory_back x g.is_first) (λ u. refl) (λ u t. refl))
altered_choices (keyword key.Add) = chosen added_law
altered_choices l = none_chosen (λ ts. refl) (unknown is_altered IsAlteration first_altered all_altered l refl)

pub altered_law : Reads spell_altered IsAlteration goes_altered altered_at
unfolding altered_at
altered_law = picked_law spell_altered IsAlteration goes_altered lead altered_by first_altered altered.NoMemory tt altered_firsts altered_choices
