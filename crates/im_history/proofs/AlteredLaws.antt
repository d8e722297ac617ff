-- Where a table got its last column: behind what was known of it, if it has other columns than were known.
use Rattle.std.proofs.Common.{◌≡◌, ℕ, zero, suc, ◌+◌, ◌==◌, ◌≤◌, ◌⊎◌, inl, inr, true, false, List, [], ◌∷◌, ◌++◌, length, Some, slice_get, refl, ap, ◌∙◌, ⊎_elim, arith}
use Rattle.std.proofs.lemmas.Bool.Decides.{eqb_tells}
use Rattle.std.proofs.lemmas.List.{length_push}
use Rattle.im_values.specs.declared.content.Content.{Content as Value}
use Rattle.im_values.specs.declared.schema.Column.{Column}
use Rattle.im_history.specs.declared.entry.Entry.{Entry}
use Rattle.im_history.specs.declared.entry.What.{What}
use Rattle.im_history.specs.declared.entry.What.TheVariants.{Add}
use Rattle.im_history.specs.Columns.{columns_of}
use Rattle.im_history.specs.History.{History}
use Rattle.im_history.specs.Legal.{Exists}
use Rattle.im_history.specs.Tables.{last_added, last_added_after, table_at}
use Rattle.im_history.proofs.Laws.{last_added-push}
use Rattle.im_history.proofs.RowLaws.{each_longer}
use Rattle.im_history.proofs.TableLaws.{Exists-push, columns-push, new_columns}

-- the entry at this place adds a column to the table
pub record IsAddition (h : History) (table place : ℕ) : Type 0 where
  pub entry : Entry
  pub is : slice_get h place ≡ Some entry
  pub column : Column
  pub default : Value
  pub adds : entry.what ≡ Add table column default

-- the table got its last column at an entry behind so many
pub record GotColumns (known table : ℕ) (h : History) : Type 0 where
  pub behind : known ≤ last_added h table
  pub addition : IsAddition h table (last_added h table)

-- an entry adds a column to the table
record Adds (table place n : ℕ) (what : What) : Type 0 where
  column : Column
  default : Value
  is : what ≡ Add table column default
  last : last_added_after table place n what ≡ place

-- or none
record AddsNone (table place n : ℕ) (what : What) : Type 0 where
  none : new_columns table what ≡ []
  last : last_added_after table place n what ≡ n

kind-of : (table place n : ℕ) (what : What) → AddsNone table place n what ⊎ Adds table place n what
kind-of table place n (Add other column default) =
    ⊎_elim
    (λ (same : ((other == table) ≡ true) × (other ≡ table)).
    inr (record { column = column; default = default; is = ap (λ (t : ℕ). Add t column default) same.1; last = rw same.0 refl }))
    (λ (apart : ((other == table) ≡ false) × (other ≡ table → ⊥)). inl (record { none = rw apart.0 refl; last = rw apart.0 refl }))
    (eqb_tells other table)
kind-of table place n _ = inl (record { none = refl; last = refl })

last-got : (h : History) (entry : Entry) → slice_get (h ++ entry ∷ []) (length h) ≡ Some entry
last-got [] entry = refl
last-got (first ∷ h) entry = last-got h entry

still-got : (h : History) (entry found : Entry) (place : ℕ) → slice_get h place ≡ Some found → slice_get (h ++ entry ∷ []) place ≡ Some found
still-got [] entry found place is = absurd cc
still-got (first ∷ h) entry found zero is = is
still-got (first ∷ h) entry found (suc place) is = still-got h entry found place is

-- as far as the history went on, the table has as many columns as were known, or it got its last one behind that
record Since (known columns table : ℕ) (h : History) : Type 0 where
  long : known ≤ length h
  exists : Exists h table
  either : (columns_of (table_at h table) ≡ columns) ⊎ GotColumns known table h

Since-push : (known columns table : ℕ) (h : History) (entry : Entry) → Since known columns table h → Since known columns table (h ++ entry ∷ [])
Since-push known columns table h entry so_far = record {
  long = let before = so_far.long in let more = length_push h entry in omega (arith, before, more);
  exists = Exists-push h entry table so_far.exists;
  either = ⊎_elim none one (kind-of table (length h) (last_added h table) entry.what);
}
  where
    Now : Type 0
    Now = (columns_of (table_at (h ++ entry ∷ []) table) ≡ columns) ⊎ GotColumns known table (h ++ entry ∷ [])

    one : Adds table (length h) (last_added h table) entry.what → Now
    one adds =
        let place : last_added (h ++ entry ∷ []) table ≡ length h = last_added-push h entry table ∙ adds.last in
        inr (record {
          behind = rw place so_far.long;
          addition = rw place (record { entry = entry; is = last-got h entry; column = adds.column; default = adds.default; adds = adds.is });
        })

    none : AddsNone table (length h) (last_added h table) entry.what → Now
    none adds =
        let place : last_added (h ++ entry ∷ []) table ≡ last_added h table = last_added-push h entry table ∙ adds.last in
        let wide : columns_of (table_at (h ++ entry ∷ []) table) ≡ columns_of (table_at h table) =
        columns-push h entry table so_far.exists
        ∙ (ap (λ (more : List Column). columns_of (table_at h table) + length more) adds.none ∙ omega arith) in
        ⊎_elim (λ (same : columns_of (table_at h table) ≡ columns). inl (wide ∙ same))
        (λ (got : GotColumns known table h). inr (record {
          behind = rw place got.behind;
          addition = rw place (record {
            entry = got.addition.entry;
            is = still-got h entry got.addition.entry (last_added h table) got.addition.is;
            column = got.addition.column;
            default = got.addition.default;
            adds = got.addition.adds;
          });
        })) so_far.either

-- a table that has another number of columns than it had got its last one at an entry behind those that were there
pub altered-behind : (h more : History) (table : ℕ) → Exists h table → (columns_of (table_at (h ++ more) table) ≡ columns_of (table_at h table) → ⊥)
    → GotColumns (length h) table (h ++ more)
altered-behind h more table exists other =
    ⊎_elim (λ (same : columns_of (table_at (h ++ more) table) ≡ columns_of (table_at h table)). absurd (other same))
    (λ (got : GotColumns (length h) table (h ++ more)). got)
    (each_longer (Since (length h) (columns_of (table_at h table)) table) (Since-push (length h) (columns_of (table_at h table)) table) h more
    (record { long = omega arith; exists = exists; either = inl refl })).either
