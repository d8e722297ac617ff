-- A literal that fits a column may be stored there.
use Rattle.std.proofs.Common.{◌≡◌, ℕ, true, List, [], ◌∷◌, None, Some, refl}
use Rattle.std.specs.Prelude.{if◌then◌else◌}
use Rattle.std.specs.Option.{option_or}
use Rattle.im_values.specs.declared.schema.Kind.{Kind}
use Rattle.im_values.specs.declared.schema.Kind.TheVariants as kind
use Rattle.im_values.specs.declared.schema.Column.{Column}
use Rattle.im_syntax.specs.declared.literal.Lit.{Lit}
use Rattle.im_syntax.specs.declared.literal.Lit.TheVariants as lit
use Rattle.im_values.specs.declared.content.Content.TheVariants as value
use Rattle.im_names.specs.declared.fault.NameFault.TheVariants.{WrongKind}
use Rattle.im_names.specs.Literals.{value_of, is_other, too_long, stored}
use Rattle.im_names.specs.inner.FittingLiterals.{literal_fits}

fits_of : (name : List ℕ) (k : Kind) (l : Lit) → literal_fits k l ≡ true
    → option_or (if is_other k (value_of l) then Some (WrongKind name) else None) (too_long name k (value_of l)) ≡ None
fits_of name kind.Int (lit.Int n) e = refl
fits_of name kind.Int (lit.Text t) e = absurd cc
fits_of name kind.Int lit.Null e = refl
fits_of name (kind.Text limit) (lit.Int n) e = absurd cc
fits_of name (kind.Text limit) (lit.Text []) e = refl
fits_of name (kind.Text limit) (lit.Text (b ∷ bs)) e = rw e refl
fits_of name (kind.Text limit) lit.Null e = refl

pub fits_stored : (column : Column) (l : Lit) → literal_fits column.kind l ≡ true → stored (value_of l) column ≡ None
fits_stored column l e = fits_of column.name column.kind l e

null_fits : (k : Kind) → literal_fits k lit.Null ≡ true
null_fits kind.Int = refl
null_fits (kind.Text limit) = refl

-- each column may hold NULL
pub null_stored : (column : Column) → stored value.Null column ≡ None
null_stored column = fits_stored column lit.Null (null_fits column.kind)
