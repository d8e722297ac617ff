-- How a statement is read.
use Rattle.std.specs.Prelude.{ℕ, Bool, true, false, List, [], ◌∷◌, Option, Some, None}
use Rattle.im_readers.specs.Reading.{Read, nothing, both, made, after, before, optional, picked, joined, all_of}
use Rattle.im_syntax.specs.declared.keyword.Keyword.{Keyword}
use Rattle.im_syntax.specs.declared.keyword.Keyword.TheVariants as key
use Rattle.im_syntax.specs.declared.token.Token.{Token}
use Rattle.im_syntax.specs.declared.limits.TheConstants.{LAST_CURSOR, MOST_CREDITS, LAST_EXTENT}
use Rattle.im_syntax.specs.declared.literal.Lit.{Lit}
use Rattle.im_syntax.specs.declared.statement.Side.{Side}
use Rattle.im_syntax.specs.declared.statement.Side.TheVariants as side
use Rattle.im_syntax.specs.declared.statement.Stmt.{Stmt}
use Rattle.im_syntax.specs.declared.statement.Stmt.TheVariants as stmt
use Rattle.im_parse.specs.inner.Marks.{Lead, keyword, lead, is_left, is_right, is_comma, is_equals, word_at, after_word, name_at, number_at, lit_at}
use Rattle.im_parse.specs.inner.Conditions.{tuple_at}
use Rattle.im_parse.specs.inner.Queries.{listed, where_at, query_at}
use Rattle.im_parse.specs.inner.Tables.{create_at, alter_at}

-- ---- rows

unfoldable pub insert_columns_at : List Token → Read Token (List (List ℕ))
insert_columns_at = made listed (optional is_left (after is_left (before (joined is_comma name_at) is_right)))

unfoldable pub insert_at : List Token → Read Token Stmt
insert_at =
    made (λ x. stmt.Insert x.0 x.1.0 x.1.1)
    (after_word key.Insert (after_word key.Into (both name_at (both insert_columns_at (after_word key.Values (joined is_comma tuple_at))))))

unfoldable pub set_at : List Token → Read Token (List ℕ × Lit)
set_at = both name_at (after is_equals lit_at)

unfoldable pub update_at : List Token → Read Token Stmt
update_at =
    made (λ x. stmt.Update x.0 x.1.0 x.1.1)
    (after_word key.Update (both name_at (both (after_word key.Set (joined is_comma set_at)) where_at)))

unfoldable pub delete_at : List Token → Read Token Stmt
delete_at = made (λ x. stmt.Delete x.0 x.1) (after_word key.Delete (after_word key.From (both name_at where_at)))

-- ---- transactions

abbrev pub level_by : Lead → List Token → Read Token Stmt
level_by (keyword key.Serializable) = made (λ u. stmt.SetSerializable) (word_at key.Serializable)
level_by (keyword key.Read) = made (λ u. stmt.SetCommitted) (after_word key.Read (word_at key.Committed))
level_by l = nothing

unfoldable pub isolation_at : List Token → Read Token Stmt
isolation_at = after_word key.Isolation (after_word key.Level (picked lead level_by))

abbrev pub mode_by : Lead → List Token → Read Token Stmt
mode_by (keyword key.Read) = made (λ u. stmt.SetReadOnly) (after_word key.Read (word_at key.Only))
mode_by (keyword key.Isolation) = isolation_at
mode_by l = nothing

unfoldable pub mode_at : List Token → Read Token Stmt
mode_at = picked lead mode_by

unfoldable pub transaction_at : List Token → Read Token Stmt
transaction_at = after_word key.Set (after_word key.Transaction mode_at)

-- ---- statements

-- a statement of one keyword
abbrev pub single_at : Keyword → Stmt → List Token → Read Token Stmt
single_at k s = made (λ u. s) (word_at k)

-- the cursor behind a keyword
unfoldable pub cursor_at : Keyword → List Token → Read Token ℕ
cursor_at k = after_word k (number_at 1 LAST_CURSOR)

unfoldable pub explain_at : List Token → Read Token Stmt
explain_at = made stmt.Explain (after_word key.Explain query_at)

unfoldable pub open_at : List Token → Read Token Stmt
open_at = made (λ x. stmt.OpenFor x.0 x.1) (both (cursor_at key.Open) (after_word key.For query_at))

unfoldable pub trickle_at : List Token → Read Token Stmt
trickle_at = made stmt.Trickle (after_word key.Trickle (number_at 1 MOST_CREDITS))

unfoldable pub evict_at : List Token → Read Token Stmt
evict_at = made (λ x. stmt.Evict x.0 x.1) (after_word key.Evict (both name_at (number_at 0 LAST_EXTENT)))

-- a statement by its first keyword
abbrev pub statement_by : Lead → List Token → Read Token Stmt
statement_by (keyword key.Select) = made stmt.Select query_at
statement_by (keyword key.Explain) = explain_at
statement_by (keyword key.Create) = create_at
statement_by (keyword key.Alter) = alter_at
statement_by (keyword key.Insert) = insert_at
statement_by (keyword key.Update) = update_at
statement_by (keyword key.Delete) = delete_at
statement_by (keyword key.Set) = transaction_at
statement_by (keyword key.Commit) = single_at key.Commit stmt.Commit
statement_by (keyword key.Rollback) = single_at key.Rollback stmt.Rollback
statement_by (keyword key.Open) = open_at
statement_by (keyword key.Step) = made stmt.Step (cursor_at key.Step)
statement_by (keyword key.Fetch) = made stmt.Fetch (cursor_at key.Fetch)
statement_by (keyword key.Close) = made stmt.Close (cursor_at key.Close)
statement_by (keyword key.Run) = single_at key.Run stmt.Run
statement_by (keyword key.Begin) = single_at key.Begin stmt.Begin
statement_by (keyword key.Switch) = single_at key.Switch stmt.Switch
statement_by (keyword key.Cancel) = single_at key.Cancel stmt.Cancel
statement_by (keyword key.Trickle) = trickle_at
statement_by (keyword key.Evict) = evict_at
statement_by (keyword key.Purge) = single_at key.Purge stmt.Purge
statement_by l = nothing

unfoldable pub statement_at : List Token → Read Token Stmt
statement_at = picked lead statement_by

-- a statement of all the tokens
unfoldable pub whole_at : List Token → Read Token Stmt
whole_at = all_of statement_at

-- the next token is an opening parenthesis
abbrev pub begins_list : List Token → Bool
begins_list [] = false
begins_list (t ∷ ts) = is_left t

-- ---- the two sides

-- whose statements begin so
abbrev pub side_by : Lead → Option Side
side_by (keyword key.Select) = Some side.Session
side_by (keyword key.Explain) = Some side.Session
side_by (keyword key.Create) = Some side.Session
side_by (keyword key.Alter) = Some side.Session
side_by (keyword key.Insert) = Some side.Session
side_by (keyword key.Update) = Some side.Session
side_by (keyword key.Delete) = Some side.Session
side_by (keyword key.Set) = Some side.Session
side_by (keyword key.Commit) = Some side.Session
side_by (keyword key.Rollback) = Some side.Session
side_by (keyword key.Open) = Some side.Session
side_by (keyword key.Step) = Some side.Session
side_by (keyword key.Fetch) = Some side.Session
side_by (keyword key.Close) = Some side.Session
side_by (keyword key.Run) = Some side.Background
side_by (keyword key.Begin) = Some side.Background
side_by (keyword key.Switch) = Some side.Background
side_by (keyword key.Cancel) = Some side.Background
side_by (keyword key.Trickle) = Some side.Background
side_by (keyword key.Evict) = Some side.Background
side_by (keyword key.Purge) = Some side.Background
side_by l = None

abbrev pub is_side : Side → Option Side → Bool
is_side side.Session (Some side.Session) = true
is_side side.Background (Some side.Background) = true
is_side whose found = false

-- the token begins a statement of this side
abbrev pub begins_side : Side → Token → Bool
begins_side whose t = is_side whose (side_by (lead t))

-- the tokens begin as statements of this side do
abbrev pub begins_of : Side → List Token → Bool
begins_of whose [] = false
begins_of whose (t ∷ ts) = begins_side whose t
