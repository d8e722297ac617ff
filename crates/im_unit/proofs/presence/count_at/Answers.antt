use Rattle.std.proofs.Common.{◌≡◌, ◌∙◌, ◌*◌, ◌/◌, length, map, take, get_or, ap, arith}
use Rattle.std.specs.Prelude.{nat_lt}
use Rattle.std.proofs.lemmas.List.{length-map}
use Rattle.im_unit.specs.inner.Kept.{count_set}
use Rattle.im_unit.proofs.RankLemmas.{count-most, length-ranks, rank-at}
use Rattle.im_unit.proofs.presence.count_at.Goals as goal

pub bounds-ranks-rank : goal.bounds-ranks-rank
bounds-ranks-rank c =
    let codes = c.args.bits.now.codes in
    omega (arith, ap length c.requires.ranks, length-ranks (map (nat_lt 0) codes), length-map codes (nat_lt 0), c.requires.within)

pub count_on-requires : goal.count_on-requires
count_on-requires c =
    let flags = map (nat_lt 0) c.args.bits.now.codes in
    let rank = c.args.place / 64 in
    let known : get_or c.args.ranks.now rank 0 ≡ count_set (take (rank * 64) flags) =
    ap (λ ranks. get_or ranks rank 0) c.requires.ranks
    ∙ rank-at flags rank 0 (omega (arith, length-map c.args.bits.now.codes (nat_lt 0), c.requires.within)) in
    record { order = omega arith; within = c.requires.within; known = known; few = omega (arith, known, count-most flags (rank * 64)) }
