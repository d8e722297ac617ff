use Rattle.im_race.proofs.TellingLaws.{tell-race}
use Rattle.im_race.proofs.laws.a_race_tells_of_columns.Goals as goal

pub returns : goal.returns
returns c = tell-race
