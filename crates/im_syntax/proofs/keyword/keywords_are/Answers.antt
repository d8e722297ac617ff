use Rattle.im_syntax.proofs.keyword.keywords_are.Goals as goal
use Rattle.im_syntax.proofs.KeywordLaws.{keyword_of-letters, keyword_of-only}

pub returns-clause-found : goal.returns-clause-found
returns-clause-found c = keyword_of-letters

pub returns-clause-only : goal.returns-clause-only
returns-clause-only c = keyword_of-only
