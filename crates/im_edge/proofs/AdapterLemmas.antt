-- What a writer holds that took nothing.
use Rattle.std.proofs.Common.{ℕ, List, [], None, Some, Option, ◌∙◌, append-nil}
use Rattle.std.specs.Io.KnownBytes.{Appends, Keeps}

pub appends_none : (before after : Option (List ℕ)) → Appends before after [] → Keeps before after
appends_none None after h = tt
appends_none (Some xs) None h = absurd h
appends_none (Some xs) (Some ys) h = h ∙ append-nil xs
