use denote.Ref.{Bor}
use Rattle.im_values.specs.contracts.value.ValuePartialEq.TheImpl as value_eq
use Rattle.im_values.specs.declared.content.Content.{Content as Value}
use Rattle.im_codes.proofs.NumberingLemmas.{adds-hashed, same_equal}
use Rattle.im_codes.proofs.numbering.number_by_hash.Goals as goal

pub returns : goal.returns
returns c =
    let stored = c.in_ok-place.ensures.stored in
    adds-hashed (λ (x y : Bor Value). (value_eq.ghosts).eq x.now y.now) c.args.seen.now.keys c.insert_full.new.self.keys c.args.value stored.0
    c.in_ok-place.place c.in_ok-place.ensures.keys stored.1 (same_equal c.args.value.now stored.0.now stored.2)
