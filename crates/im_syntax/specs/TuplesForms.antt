-- The tuples of an INSERT, by how they are kept.
use Rattle.std.specs.Prelude.{List}
use Rattle.im_syntax.specs.Tuples.{written}
use Rattle.im_syntax.specs.declared.literal.Lit.{Lit}
use Rattle.im_syntax.specs.declared.tuples.TuplesForm.{TuplesForm}
use Rattle.im_syntax.specs.declared.tuples.TuplesForm.TheVariants.{Even, Listed}

-- the tuples as they are written
abbrev pub tuples_of : TuplesForm → List (List Lit)
tuples_of (Even tuples) = written tuples
tuples_of (Listed tuples) = tuples
