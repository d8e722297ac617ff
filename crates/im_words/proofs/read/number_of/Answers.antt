use Rattle.std.proofs.Common.{◌≡◌, ◌∙◌, rules, subst, sym}
use Rattle.std.specs.Prelude.{unwrap_or}
use Rattle.std.specs.Str.Parse.{ParsesUnsigned, ExplainsUnsignedError, HasUnsignedDigitsIfOk}
use Rattle.clap.specs.Words.{found_of}
use Rattle.im_words.proofs.NumberLemmas.{found_fits, found_is}
use Rattle.im_words.specs.Asked.{IsFor}
use Rattle.im_words.specs.Setting.{usual_of}
use Rattle.im_words.proofs.read.number_of.Goals as goal

pub returns : goal.returns
returns c =
    let unset : c.unwrap_or.result ≡ unwrap_or c.get_one.result (usual_of c.args.setting) = search rules in
    let number = unset ∙ found_is _ (λ bs r. ParsesUnsigned 64 10 bs r × ExplainsUnsignedError 10 bs r × HasUnsignedDigitsIfOk bs r) (λ u x g. g.0)
    c.args.setting (found_of c.args.matches.now) c.name.result.now c.get_one.result c.name.ensures c.requires.numbers c.get_one.ensures.none
    c.get_one.ensures.value in
    record {
      number = number;
      range = subst (IsFor c.args.setting) (sym number) (found_fits c.args.setting (found_of c.args.matches.now) c.requires.numbers);
    }
