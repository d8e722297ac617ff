-- In a legal history each extent has some row numbers, no column takes a text that is too long, and each takes its default.
use Rattle.std.proofs.Common.{◌≡◌, ℕ, ◌*◌, ◌≤◌, true, List, [], ◌∷◌, ◌++◌, All, Option, Some, None, refl, subst, arith}
use Rattle.std.proofs.Math.Nat.{mul-le-mul}
use Rattle.std.proofs.lemmas.List.Elements.{All-nil}
use Rattle.im_values.specs.declared.content.Content.{Content as Value}
use Rattle.im_values.specs.declared.content.Content.TheVariants.{Null}
use Rattle.im_values.specs.declared.schema.Column.{Column}
use Rattle.im_values.specs.declared.schema.Kind.{Kind}
use Rattle.im_values.specs.declared.schema.Kind.TheVariants as kind
use Rattle.im_values.specs.Fits.{fits, may_stand}
use Rattle.im_values.proofs.WideLaws.{fits-push}
use Rattle.im_history.specs.declared.entry.Entry.{Entry}
use Rattle.im_history.specs.declared.entry.What.{What}
use Rattle.im_history.specs.declared.entry.What.TheVariants.{Create, Add}
use Rattle.im_history.specs.declared.limits.Limits.{Limits}
use Rattle.im_history.specs.declared.look.TableInfo.{TableInfo}
use Rattle.im_history.specs.Grid.{Grid, per_extent}
use Rattle.im_history.specs.History.{History, replay}
use Rattle.im_history.specs.Legal.{AreNarrow, IsAllowed, IsLegal, MayCreate, MayAdd, text_limit}
use Rattle.im_history.specs.Tables.{longer_by, new_table, nulls, table_at, tables}
use Rattle.im_history.specs.Views.{grid_of, per_at}
use Rattle.im_history.proofs.EachTable.{Keeps, all-created, found-among}
use Rattle.im_history.proofs.Laws.{IsLegal-pop, tables-push}
use Rattle.im_history.proofs.RowLaws.{each_history}

-- a table has some row numbers in an extent, no column of it takes a text that is too long, and each takes its default
record IsShaped (made : TableInfo) : Type 0 where
  some : 1 ≤ per_extent made.shape
  narrow : AreNarrow made.schema
  fit : fits made.defaults made.schema ≡ true

-- NULL stands in each column
null-stands : (k : Kind) → may_stand k Null ≡ true
null-stands kind.Int = refl
null-stands (kind.Text limit) = refl

nulls-fit : (schema : List Column) → fits (nulls schema) schema ≡ true
nulls-fit [] = refl
nulls-fit (column ∷ schema) = rw (null-stands column.kind) (nulls-fit schema)

narrow-push : (schema : List Column) (column : Column) → AreNarrow schema → text_limit column.kind ≤ 65535 → AreNarrow (schema ++ column ∷ [])
narrow-push [] column narrow limit = (limit, tt)
narrow-push (first ∷ schema) column narrow limit = (narrow.0, narrow-push schema column narrow.1 limit)

shaped-created : (limits : Limits) (h : History) (who : ℕ) (what : What) → IsAllowed limits h who what → Keeps IsShaped what
shaped-created limits h who what allowed = record {
  made = made;
  grown = grown;
  joined = λ priority t shaped. record {
    some = shaped.some;
    narrow = shaped.narrow;
    fit = shaped.fit;
  };
}
  where
    may-create : (name : List ℕ) (schema : List Column) (grid : Grid) → what ≡ Create name schema grid → MayCreate h who name schema grid
    may-create name schema grid is = subst (IsAllowed limits h who) is allowed

    may-add : (table : ℕ) (column : Column) (default : Value) → what ≡ Add table column default → MayAdd h who table column default
    may-add table column default is = subst (IsAllowed limits h who) is allowed

    made : (name : List ℕ) (schema : List Column) (grid : Grid) → what ≡ Create name schema grid → IsShaped (new_table name schema grid)
    made name schema grid is =
        let may = may-create name schema grid is in
        let product : 1 * 1 ≤ grid.block * grid.extent = mul-le-mul may.shape.0.some may.shape.1.some in
        record { some = omega (arith, product); narrow = may.narrow; fit = nulls-fit schema }

    grown : (table : ℕ) (column : Column) (default : Value) → what ≡ Add table column default → (t : TableInfo) → IsShaped t → IsShaped (longer_by column default t)
    grown table column default is t shaped =
        let may = may-add table column default is in
        record {
          some = shaped.some;
          narrow = narrow-push t.schema column shaped.narrow may.narrow;
          fit = fits-push t.defaults t.schema default column shaped.fit may.fits;
        }

record HasLegalShapes (limits : Limits) (h : History) : Type 0 where
  shapes : IsLegal limits h → All IsShaped (tables h)

HasLegalShapes-nil : (limits : Limits) → HasLegalShapes limits []
unfolding tables replay
HasLegalShapes-nil limits = record { shapes = λ legal. All-nil IsShaped }

HasLegalShapes-push : (limits : Limits) (h : History) (entry : Entry) → HasLegalShapes limits h → HasLegalShapes limits (h ++ entry ∷ [])
HasLegalShapes-push limits h entry before = record {
  shapes = λ legal.
      let parts = IsLegal-pop limits h entry legal in
      rw (tables-push h entry)
      (all-created IsShaped (tables h) entry.what (shaped-created limits h entry.who entry.what parts.1) (before.shapes parts.0));
}

is-shaped : (limits : Limits) (h : History) (table : ℕ) (made : TableInfo) → IsLegal limits h → table_at h table ≡ Some made → IsShaped made
is-shaped limits h table made legal is =
    found-among IsShaped (tables h) table made
    ((each_history (HasLegalShapes limits) (HasLegalShapes-nil limits) (HasLegalShapes-push limits) h).shapes legal) is

per_of : (found : Option TableInfo) → ((made : TableInfo) → found ≡ Some made → IsShaped made) → 1 ≤ per_extent (grid_of found)
per_of None each = omega arith
per_of (Some made) each = (each made refl).some

-- each extent of each table has at least one row number
pub per_at-some : (limits : Limits) (h : History) (table : ℕ) → IsLegal limits h → 1 ≤ per_at h table
per_at-some limits h table legal = per_of (table_at h table) (λ made is. is-shaped limits h table made legal is)

-- no column of a table takes a text that is too long
pub are-narrow : (limits : Limits) (h : History) (table : ℕ) (made : TableInfo) → IsLegal limits h → table_at h table ≡ Some made → AreNarrow made.schema
are-narrow limits h table made legal is = (is-shaped limits h table made legal is).narrow

-- the defaults of a table fit it
pub defaults-fit : (limits : Limits) (h : History) (table : ℕ) (made : TableInfo) → IsLegal limits h → table_at h table ≡ Some made
    → fits made.defaults made.schema ≡ true
defaults-fit limits h table made legal is = (is-shaped limits h table made legal is).fit
