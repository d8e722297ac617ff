use Rattle.std.proofs.Common.{◌≡◌, false, not, sym, ap, ◌∙◌}
use Rattle.std.specs.Option.{is_some, option_copied}
use Rattle.im_blocks.specs.Chains.{chain_versions}
use Rattle.im_blocks.proofs.StoreLemmas.{not_found}
use Rattle.im_blocks.proofs.VersionLemmas.{none_latest}
use Rattle.im_blocks.proofs.chains.are_empty.Goals as goal

pub returns-in-Some : goal.returns-in-Some
returns-in-Some c = λ none.
    let found : is_some c.latest.result ≡ false = c.is_none.ensures ∙ ap not none in
    ap (λ o. chain_versions (option_copied o)) c.in-Some.is
    ∙ none_latest c.in-Some.touched.now.chain.versions (sym c.latest.ensures ∙ not_found c.latest.result found)
