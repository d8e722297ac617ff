-- The records of extents that were served.
use Rattle.std.specs.Prelude.{ℕ, List, [], ◌∷◌, codes, decimal}
use Rattle.im_replies.specs.declared.served.How.{How}
use Rattle.im_replies.specs.declared.served.How.TheVariants as how

-- what served an extent
abbrev pub how_fields : How → List (List ℕ)
how_fields (how.Unit scn stale) = codes "unit" ∷ decimal scn ∷ decimal stale ∷ []
how_fields (how.Pruned scn stale) = codes "pruned" ∷ decimal scn ∷ decimal stale ∷ []
how_fields how.Blocks = codes "blocks" ∷ []

-- one extent by its number
abbrev pub served_record : ℕ → How → List (List ℕ)
served_record extent h = codes "served" ∷ decimal extent ∷ how_fields h
