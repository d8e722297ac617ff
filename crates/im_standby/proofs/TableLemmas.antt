-- The tables that the members of a history make: its tables, but for what the column store has of them.
use Rattle.std.proofs.Common.{◌≡◌, ℕ, zero, suc, List, [], ◌∷◌, ◌++◌, length, map, Option, refl, sym, ap, ◌∙◌}
use Rattle.std.specs.List.{fold}
use Rattle.std.specs.Option.{option_map}
use Rattle.std.proofs.lemmas.List.{length-map, map-append}
use Rattle.std.proofs.lemmas.List.Sums.{fold-append}
use Rattle.std.proofs.lemmas.Option.{slice_get-map}
use Rattle.im_values.specs.declared.content.Content.{Content as Value}
use Rattle.im_values.specs.declared.priority.Priority.{Priority}
use Rattle.im_values.specs.declared.schema.Column.{Column}
use Rattle.im_history.specs.declared.entry.Entry.{Entry}
use Rattle.im_history.specs.declared.entry.What.{What}
use Rattle.im_history.specs.declared.entry.What.TheVariants.{Create, Add, Memory, Commit}
use Rattle.im_history.specs.declared.look.TableInfo.{TableInfo}
use Rattle.im_history.specs.Commits.{member_by, members}
use Rattle.im_history.specs.History.{History, replay}
use Rattle.im_history.specs.Tables.{created, lengthened, new_table, remembered, table_among, tables, with_column, with_memory}
use Rattle.im_history.proofs.Laws.{members-push, tables-push}
use Rattle.im_history.proofs.RowLaws.{each_history}
use Rattle.im_standby.specs.Members.{tables_after, tables_of}
use Rattle.im_standby.specs.Store.{bare}

bare-column : (place : ℕ) (column : Column) (default : Value) (ts : List TableInfo) →
    map bare (with_column place column default ts) ≡ with_column place column default (map bare ts)
bare-column place column default [] = refl
bare-column zero column default (t ∷ ts) = refl
bare-column (suc place) column default (t ∷ ts) = ap (λ l. bare t ∷ l) (bare-column place column default ts)

bare-lengthened : (table : ℕ) (column : Column) (default : Value) (ts : List TableInfo) →
    map bare (lengthened table column default ts) ≡ lengthened table column default (map bare ts)
bare-lengthened zero column default ts = refl
bare-lengthened (suc place) column default ts = bare-column place column default ts

bare-memory : (place : ℕ) (priority : Option Priority) (ts : List TableInfo) → map bare (with_memory place priority ts) ≡ map bare ts
bare-memory place priority [] = refl
bare-memory zero priority (t ∷ ts) = refl
bare-memory (suc place) priority (t ∷ ts) = ap (λ l. bare t ∷ l) (bare-memory place priority ts)

bare-remembered : (table : ℕ) (priority : Option Priority) (ts : List TableInfo) → map bare (remembered table priority ts) ≡ map bare ts
bare-remembered zero priority ts = refl
bare-remembered (suc place) priority ts = bare-memory place priority ts

-- what an entry makes of tables, and what the member that it adds does
bare-created : (before : History) (who : ℕ) (what : What) (ts : List TableInfo) →
    fold tables_after (map bare ts) (member_by before who what) ≡ map bare (created ts what)
bare-created before who (Create name schema grid) ts = sym (map-append bare ts (new_table name schema grid ∷ []))
bare-created before who (Add table column default) ts = sym (bare-lengthened table column default ts)
bare-created before who (Memory table priority) ts = sym (bare-remembered table priority ts)
bare-created before who Commit ts = refl
bare-created before who _ ts = refl

record AreBare (h : History) : Type 0 where
  pub is : tables_of (members h) ≡ map bare (tables h)

AreBare-nil : AreBare []
unfolding tables_of members tables replay
AreBare-nil = record { is = refl }

AreBare-push : (h : History) (entry : Entry) → AreBare h → AreBare (h ++ entry ∷ [])
unfolding tables_of
AreBare-push h entry before = record {
  is =
      ap (fold tables_after []) (members-push h entry)
      ∙ (fold-append tables_after [] (members h) (member_by h entry.who entry.what)
      ∙ (ap (λ (ts : List TableInfo). fold tables_after ts (member_by h entry.who entry.what)) before.is
      ∙ (bare-created h entry.who entry.what (tables h) ∙ ap (map bare) (sym (tables-push h entry)))));
}

-- the tables that all members of a history make
pub tables_of-members : (h : History) → tables_of (members h) ≡ map bare (tables h)
tables_of-members h = (each_history AreBare AreBare-nil AreBare-push h).is

-- as many
pub tables_of-length : (h : History) → length (tables_of (members h)) ≡ length (tables h)
tables_of-length h = ap length (tables_of-members h) ∙ length-map (tables h) bare

-- a table of a number
pub bare-among : (ts : List TableInfo) (table : ℕ) → table_among (map bare ts) table ≡ option_map bare (table_among ts table)
bare-among ts zero = refl
bare-among ts (suc before) = slice_get-map bare ts before
