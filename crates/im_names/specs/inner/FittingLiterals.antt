-- The test that most literals pass.
use Rattle.std.specs.Prelude.{Bool, true, false, length, nat_le}
use Rattle.im_values.specs.declared.schema.Kind.{Kind}
use Rattle.im_values.specs.declared.schema.Kind.TheVariants as kind
use Rattle.im_syntax.specs.declared.literal.Lit.{Lit}
use Rattle.im_syntax.specs.declared.literal.Lit.TheVariants as lit

-- a literal of the kind of a column, and no longer than it may be
abbrev pub literal_fits : Kind → Lit → Bool
literal_fits kind.Int (lit.Int n) = true
literal_fits kind.Int (lit.Text t) = false
literal_fits kind.Int lit.Null = true
literal_fits (kind.Text limit) (lit.Int n) = false
literal_fits (kind.Text limit) (lit.Text t) = nat_le (length t) limit
literal_fits (kind.Text limit) lit.Null = true
