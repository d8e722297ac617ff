-- Statements are read as they are spelled.
use Rattle.std.proofs.Common.{◌≡◌, ℕ, ◌-◌, Bool, true, false, cond, List, [], ◌∷◌, Option, Some, None, refl, arith}
use Rattle.std.specs.Prelude.{is_some}
use Rattle.std.specs.List.{AllByRecursion}
use Rattle.im_readers.specs.Reading.{picked}
use Rattle.im_readers.specs.Grammar.{Ends, at_end, at_other, BeginsWith, begins_with, Reads, never, Any, GoodJoined, GoodJoinedUpTo, GoodBoth, GoodOptional, spell_joined, spell_both, goes_both, goes_joined}
use Rattle.im_readers.proofs.Parts.{Makes, both_law, made_law, agreed_law, after_law, before_law, GoodFirst, Choice, chosen, none_chosen, FirstKind, first_kind, picked_law}
use Rattle.im_readers.proofs.Joined.{joined_law, goes_joined-false}
use Rattle.im_values.specs.declared.limits.TheConstants.{MOST_COLUMNS, MOST_IN_SHAPE}
use Rattle.im_syntax.specs.declared.limits.TheConstants.{LAST_CURSOR, MOST_CREDITS, LAST_EXTENT}
use Rattle.im_syntax.specs.declared.keyword.Keyword.{Keyword}
use Rattle.im_syntax.specs.declared.keyword.Keyword.TheVariants as key
use Rattle.im_syntax.specs.declared.token.Token.{Token}
use Rattle.im_syntax.specs.declared.token.Token.TheVariants as token
use Rattle.im_syntax.specs.declared.token.Sign.TheVariants as sign
use Rattle.im_syntax.specs.declared.literal.Lit.{Lit}
use Rattle.im_syntax.specs.declared.table.ColumnPart.{ColumnPart}
use Rattle.im_syntax.specs.declared.table.MemoryPart.{MemoryPart}
use Rattle.im_syntax.specs.declared.query.Query.{Query}
use Rattle.im_syntax.specs.declared.statement.Stmt.{Stmt}
use Rattle.im_syntax.specs.declared.statement.Stmt.TheVariants as stmt
use Rattle.im_syntax.specs.Condition.{CondOf}
use Rattle.im_syntax.specs.Words.{IsName}
use Rattle.im_syntax.specs.Rules.{IsWithin, IsTuple, IsWhere, IsQuery, IsColumn, IsSet, IsStmt}
use Rattle.im_syntax.specs.Spelling.{word, comma, number, lit_token, spell_tuple, spell_where, spell_query, spell_option, spell_columns, spell_set, spelling}
use Rattle.im_parse.specs.inner.Marks.{is_key, Lead, keyword, other, lead, is_left, is_comma}
use Rattle.im_parse.specs.inner.Tables.{create_of, create_at, alter_of, alter_at}
use Rattle.im_parse.specs.inner.Statements.{insert_columns_at, insert_at, set_at, update_at, delete_at, level_by, isolation_at, mode_by, mode_at, transaction_at, single_at, cursor_at, explain_at, open_at, trickle_at, evict_at, statement_by, side_by, statement_at}
use Rattle.im_parse.proofs.MarkLaws.{Ends-never, left_mark, right_mark, comma_mark, equals_mark, word_law, after_word_law, name_law, number_law, lit_law, unknown}
use Rattle.im_parse.proofs.TestLaws.{tuple_law}
use Rattle.im_parse.proofs.ConditionLaws.{goes_where, where_law}
use Rattle.im_parse.proofs.QueryLaws.{goes_listed, listed_law, names_law, goes_query, query_law}
use Rattle.im_parse.proofs.TableLaws.{spell_table_columns, columns_law, goes_option, option_law, spell_memory_option, goes_memory_option, memory_option_law, spell_altered, goes_altered, IsAlteration, altered_law}
use Rattle.im_parse.specs.declared.tables.Alteration.{Alteration}
use Rattle.im_parse.specs.declared.tables.Alteration.TheVariants as altered

abbrev name_tokens : List ℕ → List Token
name_tokens n = token.Word n ∷ []

-- ---- what goes on behind a statement

abbrev Shape : Type 0
Shape = Option ℕ × (Option ℕ × Option MemoryPart)

abbrev spell_shape : Shape → List Token
spell_shape = spell_both (spell_option key.Block) (spell_both (spell_option key.Extent) spell_memory_option)

abbrev goes_shape : Shape → Token → Bool
goes_shape =
    goes_both (spell_both (spell_option key.Extent) spell_memory_option) (goes_option key.Block)
    (goes_both spell_memory_option (goes_option key.Extent) goes_memory_option)

abbrev spell_created : List ColumnPart × Shape → List Token
spell_created = spell_both spell_table_columns spell_shape

abbrev goes_created : List ℕ × (List ColumnPart × Shape) → Token → Bool
goes_created = goes_both spell_created never (goes_both spell_shape never goes_shape)

abbrev goes_altered_name : List ℕ × Alteration → Token → Bool
goes_altered_name = goes_both spell_altered never goes_altered

abbrev spell_tuples : List (List Lit) → List Token
spell_tuples ts = word key.Values ∷ spell_joined comma spell_tuple ts

abbrev goes_tuples : List (List Lit) → Token → Bool
goes_tuples = goes_joined comma is_comma spell_tuple never

abbrev goes_columns : List (List ℕ) → Token → Bool
goes_columns = goes_listed is_left never

abbrev goes_inserted : List ℕ × (List (List ℕ) × List (List Lit)) → Token → Bool
goes_inserted = goes_both (spell_both spell_columns spell_tuples) never (goes_both spell_tuples goes_columns goes_tuples)

abbrev spell_sets : List (List ℕ × Lit) → List Token
spell_sets ss = word key.Set ∷ spell_joined comma spell_set ss

abbrev goes_sets : List (List ℕ × Lit) → Token → Bool
goes_sets = goes_joined comma is_comma spell_set never

abbrev goes_updated : List ℕ × (List (List ℕ × Lit) × Option (CondOf (List ℕ) Lit)) → Token → Bool
goes_updated = goes_both (spell_both spell_sets spell_where) never (goes_both spell_where goes_sets goes_where)

abbrev goes_deleted : List ℕ × Option (CondOf (List ℕ) Lit) → Token → Bool
goes_deleted = goes_both spell_where never goes_where

abbrev spell_for : Query → List Token
spell_for q = word key.For ∷ spell_query q

abbrev goes_opened : ℕ × Query → Token → Bool
goes_opened = goes_both spell_for never goes_query

abbrev goes_evicted : List ℕ × ℕ → Token → Bool
goes_evicted = goes_both (λ n. number n ∷ []) never never

abbrev pub goes_stmt : Stmt → Token → Bool
goes_stmt (stmt.Select q) = goes_query q
goes_stmt (stmt.Explain q) = goes_query q
goes_stmt (stmt.Create name columns block extent memory) = goes_created (name, (columns, (block, (extent, memory))))
goes_stmt (stmt.AlterMemory name memory) = goes_altered_name (name, altered.Memory memory)
goes_stmt (stmt.AlterNoMemory name) = goes_altered_name (name, altered.NoMemory)
goes_stmt (stmt.AddColumn name column default) = goes_altered_name (name, altered.Column column default)
goes_stmt (stmt.Insert name columns tuples) = goes_inserted (name, (columns, tuples))
goes_stmt (stmt.Update name sets cond) = goes_updated (name, (sets, cond))
goes_stmt (stmt.Delete name cond) = goes_deleted (name, cond)
goes_stmt (stmt.OpenFor cursor q) = goes_opened (cursor, q)
goes_stmt (stmt.Evict name extent) = goes_evicted (name, extent)
goes_stmt s = λ t. false

-- ---- the kind of a statement

abbrev pub first_word : Stmt → Keyword
first_word (stmt.Select q) = key.Select
first_word (stmt.Explain q) = key.Explain
first_word (stmt.Create name columns block extent memory) = key.Create
first_word (stmt.AlterMemory name memory) = key.Alter
first_word (stmt.AlterNoMemory name) = key.Alter
first_word (stmt.AddColumn name column default) = key.Alter
first_word (stmt.Insert name columns tuples) = key.Insert
first_word (stmt.Update name sets cond) = key.Update
first_word (stmt.Delete name cond) = key.Delete
first_word stmt.SetReadOnly = key.Set
first_word stmt.SetSerializable = key.Set
first_word stmt.SetCommitted = key.Set
first_word stmt.Commit = key.Commit
first_word stmt.Rollback = key.Rollback
first_word (stmt.OpenFor cursor q) = key.Open
first_word (stmt.Step cursor) = key.Step
first_word (stmt.Fetch cursor) = key.Fetch
first_word (stmt.Close cursor) = key.Close
first_word stmt.Run = key.Run
first_word stmt.Begin = key.Begin
first_word stmt.Switch = key.Switch
first_word stmt.Cancel = key.Cancel
first_word (stmt.Trickle n) = key.Trickle
first_word (stmt.Evict name extent) = key.Evict
first_word stmt.Purge = key.Purge

abbrev pub first_stmt : Stmt → Lead
first_stmt s = keyword (first_word s)

pub stmt_firsts : (s : Stmt) → IsStmt s → FirstKind lead (first_stmt s) (spelling s)
stmt_firsts (stmt.Select q) g = first_kind (word key.Select) _ refl
stmt_firsts (stmt.Explain q) g = first_kind (word key.Explain) _ refl
stmt_firsts (stmt.Create name columns block extent memory) g = first_kind (word key.Create) _ refl
stmt_firsts (stmt.AlterMemory name memory) g = first_kind (word key.Alter) _ refl
stmt_firsts (stmt.AlterNoMemory name) g = first_kind (word key.Alter) _ refl
stmt_firsts (stmt.AddColumn name column default) g = first_kind (word key.Alter) _ refl
stmt_firsts (stmt.Insert name columns tuples) g = first_kind (word key.Insert) _ refl
stmt_firsts (stmt.Update name sets cond) g = first_kind (word key.Update) _ refl
stmt_firsts (stmt.Delete name cond) g = first_kind (word key.Delete) _ refl
stmt_firsts stmt.SetReadOnly g = first_kind (word key.Set) _ refl
stmt_firsts stmt.SetSerializable g = first_kind (word key.Set) _ refl
stmt_firsts stmt.SetCommitted g = first_kind (word key.Set) _ refl
stmt_firsts stmt.Commit g = first_kind (word key.Commit) _ refl
stmt_firsts stmt.Rollback g = first_kind (word key.Rollback) _ refl
stmt_firsts (stmt.OpenFor cursor q) g = first_kind (word key.Open) _ refl
stmt_firsts (stmt.Step cursor) g = first_kind (word key.Step) _ refl
stmt_firsts (stmt.Fetch cursor) g = first_kind (word key.Fetch) _ refl
stmt_firsts (stmt.Close cursor) g = first_kind (word key.Close) _ refl
stmt_firsts stmt.Run g = first_kind (word key.Run) _ refl
stmt_firsts stmt.Begin g = first_kind (word key.Begin) _ refl
stmt_firsts stmt.Switch g = first_kind (word key.Switch) _ refl
stmt_firsts stmt.Cancel g = first_kind (word key.Cancel) _ refl
stmt_firsts (stmt.Trickle n) g = first_kind (word key.Trickle) _ refl
stmt_firsts (stmt.Evict name extent) g = first_kind (word key.Evict) _ refl
stmt_firsts stmt.Purge g = first_kind (word key.Purge) _ refl

abbrev GoodOf : Keyword → Stmt → Type 0
GoodOf k = GoodFirst IsStmt first_stmt (keyword k)

-- ---- queries

select_back : (s : Stmt) → IsStmt s → first_stmt s ≡ keyword key.Select → Makes stmt.Select IsQuery s
select_back (stmt.Select q) g e = record { of = q; is = refl; is_good = g }
select_back s g e = absurd cc

select_law : Reads spelling (GoodOf key.Select) goes_stmt (statement_by (keyword key.Select))
select_law =
    made_law spelling (GoodOf key.Select) goes_stmt stmt.Select query_law
    (λ q g. record { is_good = g; is_first = refl }) (λ s g. select_back s g.is_good g.is_first) (λ q. refl) (λ q t. refl)

explain_back : (s : Stmt) → IsStmt s → first_stmt s ≡ keyword key.Explain → Makes stmt.Explain IsQuery s
explain_back (stmt.Explain q) g e = record { of = q; is = refl; is_good = g }
explain_back s g e = absurd cc

explain_law : Reads spelling (GoodOf key.Explain) goes_stmt explain_at
unfolding explain_at
explain_law =
    made_law spelling (GoodOf key.Explain) goes_stmt stmt.Explain (after_word_law key.Explain query_law)
    (λ q g. record { is_good = g; is_first = refl }) (λ s g. explain_back s g.is_good g.is_first) (λ q. refl) (λ q t. refl)

cursor_law : (k : Keyword) → Reads (λ n. word k ∷ number n ∷ []) (IsWithin 1 LAST_CURSOR) never (cursor_at k)
unfolding cursor_at
cursor_law k = after_word_law k (number_law 1 LAST_CURSOR (omega arith))

open_back : (s : Stmt) → IsStmt s → first_stmt s ≡ keyword key.Open
    → Makes (λ (x : ℕ × Query). stmt.OpenFor x.0 x.1) (GoodBoth (IsWithin 1 LAST_CURSOR) IsQuery) s
open_back (stmt.OpenFor cursor q) g e = record { of = (cursor, q); is = refl; is_good = g }
open_back s g e = absurd cc

open_law : Reads spelling (GoodOf key.Open) goes_stmt open_at
unfolding open_at
open_law =
    made_law spelling (GoodOf key.Open) goes_stmt (λ x. stmt.OpenFor x.0 x.1)
    (both_law (cursor_law key.Open) (after_word_law key.For query_law) (λ n q _ _. Ends-never n (spell_for q)))
    (λ x g. record { is_good = g; is_first = refl }) (λ s g. open_back s g.is_good g.is_first) (λ x. refl) (λ x t. refl)

step_back : (s : Stmt) → IsStmt s → first_stmt s ≡ keyword key.Step → Makes stmt.Step (IsWithin 1 LAST_CURSOR) s
step_back (stmt.Step n) g e = record { of = n; is = refl; is_good = g }
step_back s g e = absurd cc

step_law : Reads spelling (GoodOf key.Step) goes_stmt (statement_by (keyword key.Step))
step_law =
    made_law spelling (GoodOf key.Step) goes_stmt stmt.Step (cursor_law key.Step)
    (λ n g. record { is_good = g; is_first = refl }) (λ s g. step_back s g.is_good g.is_first) (λ n. refl) (λ n t. refl)

fetch_back : (s : Stmt) → IsStmt s → first_stmt s ≡ keyword key.Fetch → Makes stmt.Fetch (IsWithin 1 LAST_CURSOR) s
fetch_back (stmt.Fetch n) g e = record { of = n; is = refl; is_good = g }
fetch_back s g e = absurd cc

fetch_law : Reads spelling (GoodOf key.Fetch) goes_stmt (statement_by (keyword key.Fetch))
fetch_law =
    made_law spelling (GoodOf key.Fetch) goes_stmt stmt.Fetch (cursor_law key.Fetch)
    (λ n g. record { is_good = g; is_first = refl }) (λ s g. fetch_back s g.is_good g.is_first) (λ n. refl) (λ n t. refl)

close_back : (s : Stmt) → IsStmt s → first_stmt s ≡ keyword key.Close → Makes stmt.Close (IsWithin 1 LAST_CURSOR) s
close_back (stmt.Close n) g e = record { of = n; is = refl; is_good = g }
close_back s g e = absurd cc

close_law : Reads spelling (GoodOf key.Close) goes_stmt (statement_by (keyword key.Close))
close_law =
    made_law spelling (GoodOf key.Close) goes_stmt stmt.Close (cursor_law key.Close)
    (λ n g. record { is_good = g; is_first = refl }) (λ s g. close_back s g.is_good g.is_first) (λ n. refl) (λ n t. refl)

-- ---- tables

block_starts : (n : ℕ) → BeginsWith (is_key key.Block) (word key.Block ∷ number n ∷ [])
block_starts n = begins_with (word key.Block) (number n ∷ []) refl

extent_starts : (n : ℕ) → BeginsWith (is_key key.Extent) (word key.Extent ∷ number n ∷ [])
extent_starts n = begins_with (word key.Extent) (number n ∷ []) refl

extent_apart : (e : Option ℕ) (m : Option MemoryPart) → Ends (goes_option key.Extent e) (spell_memory_option m)
extent_apart e None = at_end
extent_apart None (Some m) = at_other (word key.InMemory) _ refl
extent_apart (Some n) (Some m) = at_other (word key.InMemory) _ refl

block_apart : (b e : Option ℕ) (m : Option MemoryPart) → Ends (goes_option key.Block b) (spell_both (spell_option key.Extent) spell_memory_option (e, m))
block_apart b None None = at_end
block_apart None (Some n) m = at_other (word key.Extent) _ refl
block_apart (Some k) (Some n) m = at_other (word key.Extent) _ refl
block_apart None None (Some m) = at_other (word key.InMemory) _ refl
block_apart (Some k) None (Some m) = at_other (word key.InMemory) _ refl

any_memory : (m : Option MemoryPart) → GoodOptional Any m
any_memory None = tt
any_memory (Some m) = tt

abbrev GoodCreated : List ℕ × (List ColumnPart × Shape) → Type 0
GoodCreated = GoodBoth IsName (GoodBoth (GoodJoinedUpTo (MOST_COLUMNS - 1) IsColumn)
    (GoodBoth (GoodOptional (IsWithin 1 MOST_IN_SHAPE)) (GoodBoth (GoodOptional (IsWithin 1 MOST_IN_SHAPE)) (GoodOptional Any))))

create_back : (s : Stmt) → IsStmt s → first_stmt s ≡ keyword key.Create → Makes create_of GoodCreated s
create_back (stmt.Create name columns block extent memory) g e =
    record { of = (name, (columns, (block, (extent, memory)))); is = refl; is_good = (g.name, (g.columns, (g.block, (g.extent, any_memory memory)))) }
create_back s g e = absurd cc

create_forth : (x : List ℕ × (List ColumnPart × Shape)) → GoodCreated x → GoodOf key.Create (create_of x)
create_forth x g = record { is_good = record { name = g.0; columns = g.1.0; block = g.1.1.0; extent = g.1.1.1.0 }; is_first = refl }

create_law : Reads spelling (GoodOf key.Create) goes_stmt create_at
unfolding create_at
create_law =
    made_law spelling (GoodOf key.Create) goes_stmt create_of
    (after_word_law key.Create (after_word_law key.Table
    (both_law name_law
    (both_law columns_law
    (both_law (option_law key.Block block_starts)
    (both_law (option_law key.Extent extent_starts) memory_option_law (λ e m _ _. extent_apart e m))
    (λ b x _ _. block_apart b x.0 x.1))
    (λ cs x _ _. Ends-never cs (spell_shape x)))
    (λ n x _ _. Ends-never n (spell_created x)))))
    create_forth (λ s g. create_back s g.is_good g.is_first) (λ x. refl) (λ x t. refl)

alter_back : (s : Stmt) → IsStmt s → first_stmt s ≡ keyword key.Alter → Makes alter_of (GoodBoth IsName IsAlteration) s
alter_back (stmt.AlterMemory name memory) g e = record { of = (name, altered.Memory memory); is = refl; is_good = (g, tt) }
alter_back (stmt.AlterNoMemory name) g e = record { of = (name, altered.NoMemory); is = refl; is_good = (g, tt) }
alter_back (stmt.AddColumn name column default) g e = record { of = (name, altered.Column column default); is = refl; is_good = g }
alter_back s g e = absurd cc

alter_forth : (n : List ℕ) (x : Alteration) → IsName n → IsAlteration x → GoodOf key.Alter (alter_of (n, x))
alter_forth n altered.NoMemory g h = record { is_good = g; is_first = refl }
alter_forth n (altered.Memory m) g h = record { is_good = g; is_first = refl }
alter_forth n (altered.Column c d) g h = record { is_good = (g, h); is_first = refl }

alter_spells : (n : List ℕ) (x : Alteration) → spelling (alter_of (n, x)) ≡ word key.Alter ∷ word key.Table ∷ token.Word n ∷ spell_altered x
alter_spells n altered.NoMemory = refl
alter_spells n (altered.Memory m) = refl
alter_spells n (altered.Column c d) = refl

alter_goes : (n : List ℕ) (x : Alteration) (t : Token) → goes_stmt (alter_of (n, x)) t ≡ goes_altered_name (n, x) t
alter_goes n altered.NoMemory t = refl
alter_goes n (altered.Memory m) t = refl
alter_goes n (altered.Column c d) t = refl

alter_law : Reads spelling (GoodOf key.Alter) goes_stmt alter_at
unfolding alter_at
alter_law =
    made_law spelling (GoodOf key.Alter) goes_stmt alter_of
    (after_word_law key.Alter (after_word_law key.Table (both_law name_law altered_law (λ n x _ _. Ends-never n (spell_altered x)))))
    (λ x g. alter_forth x.0 x.1 g.0 g.1) (λ s g. alter_back s g.is_good g.is_first) (λ x. alter_spells x.0 x.1) (λ x t. alter_goes x.0 x.1 t)

-- ---- rows

insert_columns_law : Reads spell_columns (AllByRecursion IsName) goes_columns insert_columns_at
unfolding insert_columns_at
insert_columns_law =
    listed_law is_left spell_columns
    (after_law left_mark (before_law right_mark names_law
    (λ xs g. goes_joined-false comma is_comma name_tokens IsName never (token.Sign sign.RightParen) refl (λ a h. refl) xs g)))
    (λ xs g. begins_with (token.Sign sign.LeftParen) _ refl) refl (λ a xs. refl)

columns_apart : (cs : List (List ℕ)) (ts : List (List Lit)) → Ends (goes_columns cs) (spell_tuples ts)
columns_apart [] ts = at_other (word key.Values) _ refl
columns_apart (c ∷ cs) ts = at_other (word key.Values) _ refl

insert_back : (s : Stmt) → IsStmt s → first_stmt s ≡ keyword key.Insert
    → Makes (λ (x : List ℕ × (List (List ℕ) × List (List Lit))). stmt.Insert x.0 x.1.0 x.1.1)
    (GoodBoth IsName (GoodBoth (AllByRecursion IsName) (GoodJoined IsTuple))) s
insert_back (stmt.Insert name columns tuples) g e = record { of = (name, (columns, tuples)); is = refl; is_good = (g.name, (g.columns, g.tuples)) }
insert_back s g e = absurd cc

insert_law : Reads spelling (GoodOf key.Insert) goes_stmt insert_at
unfolding insert_at
insert_law =
    made_law spelling (GoodOf key.Insert) goes_stmt (λ x. stmt.Insert x.0 x.1.0 x.1.1)
    (after_word_law key.Insert (after_word_law key.Into
    (both_law name_law
    (both_law insert_columns_law (after_word_law key.Values (joined_law comma_mark tuple_law (λ a g. refl))) (λ cs ts _ _. columns_apart cs ts))
    (λ n x _ _. Ends-never n (spell_both spell_columns spell_tuples x)))))
    (λ x g. record { is_good = record { name = g.0; columns = g.1.0; tuples = g.1.1 }; is_first = refl })
    (λ s g. insert_back s g.is_good g.is_first) (λ x. refl) (λ x t. refl)

set_law : Reads spell_set IsSet never set_at
unfolding set_at
set_law =
    agreed_law spell_set IsSet never
    (both_law name_law (after_law equals_mark lit_law) (λ n v _ _. Ends-never n (token.Sign sign.Eq ∷ lit_token v ∷ [])))
    (λ x g. g.0) (λ x g. (g, tt)) (λ x g. refl) (λ x g t. refl)

sets_apart : (ss : List (List ℕ × Lit)) (c : Option (CondOf (List ℕ) Lit)) → GoodJoined IsSet ss → Ends (goes_sets ss) (spell_where c)
sets_apart ss None g = at_end
sets_apart ss (Some c) g = at_other (word key.Where) _ (goes_joined-false comma is_comma spell_set IsSet never (word key.Where) refl (λ a h. refl) ss g)

update_back : (s : Stmt) → IsStmt s → first_stmt s ≡ keyword key.Update
    → Makes (λ (x : List ℕ × (List (List ℕ × Lit) × Option (CondOf (List ℕ) Lit))). stmt.Update x.0 x.1.0 x.1.1)
    (GoodBoth IsName (GoodBoth (GoodJoined IsSet) IsWhere)) s
update_back (stmt.Update name sets cond) g e = record { of = (name, (sets, cond)); is = refl; is_good = (g.name, (g.sets, g.cond)) }
update_back s g e = absurd cc

update_law : Reads spelling (GoodOf key.Update) goes_stmt update_at
unfolding update_at
update_law =
    made_law spelling (GoodOf key.Update) goes_stmt (λ x. stmt.Update x.0 x.1.0 x.1.1)
    (after_word_law key.Update
    (both_law name_law
    (both_law (after_word_law key.Set (joined_law comma_mark set_law (λ a g. refl))) where_law (λ ss c g _. sets_apart ss c g))
    (λ n x _ _. Ends-never n (spell_both spell_sets spell_where x))))
    (λ x g. record { is_good = record { name = g.0; sets = g.1.0; cond = g.1.1 }; is_first = refl })
    (λ s g. update_back s g.is_good g.is_first) (λ x. refl) (λ x t. refl)

delete_back : (s : Stmt) → IsStmt s → first_stmt s ≡ keyword key.Delete
    → Makes (λ (x : List ℕ × Option (CondOf (List ℕ) Lit)). stmt.Delete x.0 x.1) (GoodBoth IsName IsWhere) s
delete_back (stmt.Delete name cond) g e = record { of = (name, cond); is = refl; is_good = g }
delete_back s g e = absurd cc

delete_law : Reads spelling (GoodOf key.Delete) goes_stmt delete_at
unfolding delete_at
delete_law =
    made_law spelling (GoodOf key.Delete) goes_stmt (λ x. stmt.Delete x.0 x.1)
    (after_word_law key.Delete (after_word_law key.From (both_law name_law where_law (λ n c _ _. Ends-never n (spell_where c)))))
    (λ x g. record { is_good = g; is_first = refl }) (λ s g. delete_back s g.is_good g.is_first) (λ x. refl) (λ x t. refl)

-- ---- transactions

abbrev spell_level : Stmt → List Token
spell_level stmt.SetSerializable = word key.Serializable ∷ []
spell_level stmt.SetCommitted = word key.Read ∷ word key.Committed ∷ []
spell_level s = []

abbrev IsLevel : Stmt → Type 0
IsLevel stmt.SetSerializable = Unit {0}
IsLevel stmt.SetCommitted = Unit {0}
IsLevel s = ⊥

abbrev first_level : Stmt → Lead
first_level stmt.SetSerializable = keyword key.Serializable
first_level stmt.SetCommitted = keyword key.Read
first_level s = other

level_firsts : (s : Stmt) → IsLevel s → FirstKind lead (first_level s) (spell_level s)
level_firsts stmt.SetSerializable g = first_kind (word key.Serializable) [] refl
level_firsts stmt.SetCommitted g = first_kind (word key.Read) _ refl
level_firsts s g = absurd g

serializable_back : (s : Stmt) → IsLevel s → first_level s ≡ (keyword key.Serializable) → Makes (λ (u : Unit {0}). stmt.SetSerializable) Any s
serializable_back stmt.SetSerializable g e = record { of = tt; is = refl; is_good = tt }
serializable_back s g e = absurd cc

committed_back : (s : Stmt) → IsLevel s → first_level s ≡ (keyword key.Read) → Makes (λ (u : Unit {0}). stmt.SetCommitted) Any s
committed_back stmt.SetCommitted g e = record { of = tt; is = refl; is_good = tt }
committed_back s g e = absurd cc

abbrev is_level : Lead → Bool
is_level (keyword key.Serializable) = true
is_level (keyword key.Read) = true
is_level l = false

all_levels : (s : Stmt) → IsLevel s → is_level (first_level s) ≡ true
all_levels stmt.SetSerializable g = refl
all_levels stmt.SetCommitted g = refl
all_levels s g = absurd g

level_choices : (l : Lead) → Choice spell_level IsLevel never first_level l (level_by l)
level_choices (keyword key.Serializable) =
    chosen (made_law spell_level (GoodFirst IsLevel first_level (keyword key.Serializable)) never (λ u. stmt.SetSerializable) (word_law key.Serializable)
    (λ u g. record { is_good = tt; is_first = refl }) (λ s g. serializable_back s g.is_good g.is_first) (λ u. refl) (λ u t. refl))
level_choices (keyword key.Read) =
    chosen (made_law spell_level (GoodFirst IsLevel first_level (keyword key.Read)) never (λ u. stmt.SetCommitted)
    (after_word_law key.Read (word_law key.Committed))
    (λ u g. record { is_good = tt; is_first = refl }) (λ s g. committed_back s g.is_good g.is_first) (λ u. refl) (λ u t. refl))
level_choices l = none_chosen (λ ts. refl) (unknown is_level IsLevel first_level all_levels l refl)

level_law : Reads spell_level IsLevel never (picked lead level_by)
level_law = picked_law spell_level IsLevel never lead level_by first_level stmt.SetSerializable tt level_firsts level_choices

abbrev spell_mode : Stmt → List Token
spell_mode stmt.SetReadOnly = word key.Read ∷ word key.Only ∷ []
spell_mode s = word key.Isolation ∷ word key.Level ∷ spell_level s

abbrev IsMode : Stmt → Type 0
IsMode stmt.SetReadOnly = Unit {0}
IsMode s = IsLevel s

abbrev first_mode : Stmt → Lead
first_mode stmt.SetReadOnly = keyword key.Read
first_mode s = keyword key.Isolation

mode_firsts : (s : Stmt) → IsMode s → FirstKind lead (first_mode s) (spell_mode s)
mode_firsts stmt.SetReadOnly g = first_kind (word key.Read) _ refl
mode_firsts stmt.SetSerializable g = first_kind (word key.Isolation) _ refl
mode_firsts s g = first_kind (word key.Isolation) _ refl

read_only_back : (s : Stmt) → IsMode s → first_mode s ≡ (keyword key.Read) → Makes (λ (u : Unit {0}). stmt.SetReadOnly) Any s
read_only_back stmt.SetReadOnly g e = record { of = tt; is = refl; is_good = tt }
read_only_back s g e = absurd cc

isolation_forth : (s : Stmt) → IsLevel s → GoodFirst IsMode first_mode (keyword key.Isolation) s
isolation_forth stmt.SetSerializable g = record { is_good = tt; is_first = refl }
isolation_forth stmt.SetCommitted g = record { is_good = tt; is_first = refl }
isolation_forth s g = absurd g

isolation_back : (s : Stmt) → IsMode s → first_mode s ≡ (keyword key.Isolation) → IsLevel s
isolation_back stmt.SetReadOnly g e = absurd cc
isolation_back s g e = g

isolation_spells : (s : Stmt) → IsLevel s → spell_mode s ≡ word key.Isolation ∷ word key.Level ∷ spell_level s
isolation_spells stmt.SetReadOnly g = absurd g
isolation_spells s g = refl

isolation_law : Reads spell_mode (GoodFirst IsMode first_mode (keyword key.Isolation)) never isolation_at
unfolding isolation_at
isolation_law =
    agreed_law spell_mode (GoodFirst IsMode first_mode (keyword key.Isolation)) never (after_word_law key.Isolation (after_word_law key.Level level_law))
    isolation_forth (λ s g. isolation_back s g.is_good g.is_first) isolation_spells (λ s g t. refl)

abbrev is_mode : Lead → Bool
is_mode (keyword key.Read) = true
is_mode (keyword key.Isolation) = true
is_mode l = false

all_modes : (s : Stmt) → IsMode s → is_mode (first_mode s) ≡ true
all_modes stmt.SetReadOnly g = refl
all_modes s g = refl

mode_choices : (l : Lead) → Choice spell_mode IsMode never first_mode l (mode_by l)
mode_choices (keyword key.Read) =
    chosen (made_law spell_mode (GoodFirst IsMode first_mode (keyword key.Read)) never (λ u. stmt.SetReadOnly) (after_word_law key.Read (word_law key.Only))
    (λ u g. record { is_good = tt; is_first = refl }) (λ s g. read_only_back s g.is_good g.is_first) (λ u. refl) (λ u t. refl))
mode_choices (keyword key.Isolation) = chosen isolation_law
mode_choices l = none_chosen (λ ts. refl) (unknown is_mode IsMode first_mode all_modes l refl)

mode_law : Reads spell_mode IsMode never mode_at
unfolding mode_at
mode_law = picked_law spell_mode IsMode never lead mode_by first_mode stmt.SetReadOnly tt mode_firsts mode_choices

transaction_forth : (s : Stmt) → IsMode s → GoodOf key.Set s
transaction_forth stmt.SetReadOnly g = record { is_good = tt; is_first = refl }
transaction_forth stmt.SetSerializable g = record { is_good = tt; is_first = refl }
transaction_forth stmt.SetCommitted g = record { is_good = tt; is_first = refl }
transaction_forth s g = absurd g

transaction_back : (s : Stmt) → IsStmt s → first_stmt s ≡ keyword key.Set → IsMode s
transaction_back stmt.SetReadOnly g e = tt
transaction_back stmt.SetSerializable g e = tt
transaction_back stmt.SetCommitted g e = tt
transaction_back s g e = absurd cc

transaction_spells : (s : Stmt) → IsMode s → spelling s ≡ word key.Set ∷ word key.Transaction ∷ spell_mode s
transaction_spells stmt.SetReadOnly g = refl
transaction_spells stmt.SetSerializable g = refl
transaction_spells stmt.SetCommitted g = refl
transaction_spells s g = absurd g

transaction_goes : (s : Stmt) → IsMode s → (t : Token) → goes_stmt s t ≡ false
transaction_goes stmt.SetReadOnly g t = refl
transaction_goes stmt.SetSerializable g t = refl
transaction_goes stmt.SetCommitted g t = refl
transaction_goes s g t = absurd g

transaction_law : Reads spelling (GoodOf key.Set) goes_stmt transaction_at
unfolding transaction_at
transaction_law =
    agreed_law spelling (GoodOf key.Set) goes_stmt (after_word_law key.Set (after_word_law key.Transaction mode_law))
    transaction_forth (λ s g. transaction_back s g.is_good g.is_first) transaction_spells transaction_goes

-- ---- single words

commit_only : (s : Stmt) → first_stmt s ≡ keyword key.Commit → stmt.Commit ≡ s
commit_only stmt.Commit e = refl
commit_only s e = absurd cc

rollback_only : (s : Stmt) → first_stmt s ≡ keyword key.Rollback → stmt.Rollback ≡ s
rollback_only stmt.Rollback e = refl
rollback_only s e = absurd cc

run_only : (s : Stmt) → first_stmt s ≡ keyword key.Run → stmt.Run ≡ s
run_only stmt.Run e = refl
run_only s e = absurd cc

begin_only : (s : Stmt) → first_stmt s ≡ keyword key.Begin → stmt.Begin ≡ s
begin_only stmt.Begin e = refl
begin_only s e = absurd cc

switch_only : (s : Stmt) → first_stmt s ≡ keyword key.Switch → stmt.Switch ≡ s
switch_only stmt.Switch e = refl
switch_only s e = absurd cc

cancel_only : (s : Stmt) → first_stmt s ≡ keyword key.Cancel → stmt.Cancel ≡ s
cancel_only stmt.Cancel e = refl
cancel_only s e = absurd cc

purge_only : (s : Stmt) → first_stmt s ≡ keyword key.Purge → stmt.Purge ≡ s
purge_only stmt.Purge e = refl
purge_only s e = absurd cc

single_law : (k : Keyword) (s : Stmt) → IsStmt s → first_stmt s ≡ keyword k → ((x : Stmt) → first_stmt x ≡ keyword k → s ≡ x)
    → spelling s ≡ word k ∷ [] → ((t : Token) → goes_stmt s t ≡ false) → Reads spelling (GoodOf k) goes_stmt (single_at k s)
single_law k s good first only spells goes =
    made_law spelling (GoodOf k) goes_stmt (λ u. s) (word_law k) (λ u g. record { is_good = good; is_first = first })
    (λ x g. record { of = tt; is = only x g.is_first; is_good = tt }) (λ u. spells) (λ u t. goes t)

trickle_back : (s : Stmt) → IsStmt s → first_stmt s ≡ keyword key.Trickle → Makes stmt.Trickle (IsWithin 1 MOST_CREDITS) s
trickle_back (stmt.Trickle n) g e = record { of = n; is = refl; is_good = g }
trickle_back s g e = absurd cc

trickle_law : Reads spelling (GoodOf key.Trickle) goes_stmt trickle_at
unfolding trickle_at
trickle_law =
    made_law spelling (GoodOf key.Trickle) goes_stmt stmt.Trickle (after_word_law key.Trickle (number_law 1 MOST_CREDITS (omega arith)))
    (λ n g. record { is_good = g; is_first = refl }) (λ s g. trickle_back s g.is_good g.is_first) (λ n. refl) (λ n t. refl)

evict_back : (s : Stmt) → IsStmt s → first_stmt s ≡ keyword key.Evict
    → Makes (λ (x : List ℕ × ℕ). stmt.Evict x.0 x.1) (GoodBoth IsName (IsWithin 0 LAST_EXTENT)) s
evict_back (stmt.Evict name extent) g e = record { of = (name, extent); is = refl; is_good = g }
evict_back s g e = absurd cc

evict_law : Reads spelling (GoodOf key.Evict) goes_stmt evict_at
unfolding evict_at
evict_law =
    made_law spelling (GoodOf key.Evict) goes_stmt (λ x. stmt.Evict x.0 x.1)
    (after_word_law key.Evict (both_law name_law (number_law 0 LAST_EXTENT (omega arith)) (λ n e _ _. Ends-never n (number e ∷ []))))
    (λ x g. record { is_good = g; is_first = refl }) (λ s g. evict_back s g.is_good g.is_first) (λ x. refl) (λ x t. refl)

-- ---- statements

abbrev is_first : Lead → Bool
is_first l = is_some (side_by l)

all_first : (s : Stmt) → IsStmt s → is_first (first_stmt s) ≡ true
all_first stmt.Commit g = refl
all_first s g = refl

stmt_choices : (l : Lead) → Choice spelling IsStmt goes_stmt first_stmt l (statement_by l)
stmt_choices (keyword key.Select) = chosen select_law
stmt_choices (keyword key.Explain) = chosen explain_law
stmt_choices (keyword key.Create) = chosen create_law
stmt_choices (keyword key.Alter) = chosen alter_law
stmt_choices (keyword key.Insert) = chosen insert_law
stmt_choices (keyword key.Update) = chosen update_law
stmt_choices (keyword key.Delete) = chosen delete_law
stmt_choices (keyword key.Set) = chosen transaction_law
stmt_choices (keyword key.Commit) = chosen (single_law key.Commit stmt.Commit tt refl commit_only refl (λ t. refl))
stmt_choices (keyword key.Rollback) = chosen (single_law key.Rollback stmt.Rollback tt refl rollback_only refl (λ t. refl))
stmt_choices (keyword key.Open) = chosen open_law
stmt_choices (keyword key.Step) = chosen step_law
stmt_choices (keyword key.Fetch) = chosen fetch_law
stmt_choices (keyword key.Close) = chosen close_law
stmt_choices (keyword key.Run) = chosen (single_law key.Run stmt.Run tt refl run_only refl (λ t. refl))
stmt_choices (keyword key.Begin) = chosen (single_law key.Begin stmt.Begin tt refl begin_only refl (λ t. refl))
stmt_choices (keyword key.Switch) = chosen (single_law key.Switch stmt.Switch tt refl switch_only refl (λ t. refl))
stmt_choices (keyword key.Cancel) = chosen (single_law key.Cancel stmt.Cancel tt refl cancel_only refl (λ t. refl))
stmt_choices (keyword key.Trickle) = chosen trickle_law
stmt_choices (keyword key.Evict) = chosen evict_law
stmt_choices (keyword key.Purge) = chosen (single_law key.Purge stmt.Purge tt refl purge_only refl (λ t. refl))
stmt_choices l = none_chosen (λ ts. refl) (unknown is_first IsStmt first_stmt all_first l refl)

pub statement_law : Reads spelling IsStmt goes_stmt statement_at
unfolding statement_at
statement_law = picked_law spelling IsStmt goes_stmt lead statement_by first_stmt stmt.Commit tt stmt_firsts stmt_choices
