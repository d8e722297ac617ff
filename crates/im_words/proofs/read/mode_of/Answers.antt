use Rattle.std.proofs.Common.{◌∙◌, ap, sym, codes}
use Rattle.std.specs.Prelude.{option_map}
use Rattle.clap.specs.Words.{found_of}
use Rattle.clap.proofs.WalkLemmas.{first_value-rows}
use Rattle.im_words.specs.Asked.{mode_by}
use Rattle.im_words.proofs.read.mode_of.Goals as goal

pub returns-in-Some : goal.returns-in-Some
returns-in-Some c =
    let found = c.get_str.ensures ∙ first_value-rows (found_of c.args.matches.now) (codes "mode") in
    c.called.ensures ∙ ap mode_by (sym (ap (option_map (λ name. name.now)) c.in-Some.is) ∙ found)

pub returns-in-None : goal.returns-in-None
returns-in-None c =
    let found = c.get_str.ensures ∙ first_value-rows (found_of c.args.matches.now) (codes "mode") in
    ap mode_by (sym (ap (option_map (λ name. name.now)) c.in-None.is) ∙ found)
