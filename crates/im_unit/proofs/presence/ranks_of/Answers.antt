use Rattle.std.proofs.Common.{◌≡◌, ◌∙◌, ◌*◌, ◌+◌, ◌/◌, length, map, take, sym, ap, arith}
use Rattle.std.specs.Prelude.{nat_lt}
use Rattle.std.specs.List.{range_with_len}
use Rattle.std.proofs.lemmas.List.{length-map}
use Rattle.im_unit.specs.inner.Kept.{count_set}
use Rattle.im_unit.proofs.RankLemmas.{ranks-more, count-least}
use Rattle.im_unit.proofs.presence.ranks_of.Goals as goal

pub count_beside-count-requires : goal.count_beside-count-requires
count_beside-count-requires c = record {
  order = omega (arith, c.loop-i-test.true, c.min.ensures);
  within = omega (arith, c.min.ensures);
  known = c.loop-i.invariant.count;
  few = c.loop-i.invariant.few;
}

pub loop-i-preserved : goal.loop-i-preserved
loop-i-preserved c =
    let codes = c.args.bits.now in
    let flags = map (nat_lt 0) codes in
    record {
      ranks = ranks-more flags c.loop-i.ranks.items c.push_reserved.new.self.items c.loop-i.i c.loop-i.count c.push_reserved.ensures.items
          c.loop-i.invariant.ranks c.loop-i.invariant.count;
      count = c.count_beside-count.ensures.count
          ∙ (ap (λ n. count_set (take n flags)) c.min.ensures
          ∙ count-least flags (length codes) ((c.loop-i.i + 1) * 64) (sym (length-map codes (nat_lt 0))));
      few = omega (arith, c.count_beside-count.ensures.most, c.min.ensures);
      long = omega (arith, c.push_reserved.ensures.len, c.loop-i.invariant.long);
      room = c.push_reserved.ensures.capacity ∙ c.loop-i.invariant.room;
    }

pub returns : goal.returns
returns c =
    let codes = c.args.bits.now in
    let flags = map (nat_lt 0) codes in
    let all : c.loop-i.i ≡ length flags / 64 + 1 =
    omega (arith, c.loop-i-test.false, c.loop-i.auto.i-end, length-map codes (nat_lt 0)) in
    c.loop-i.invariant.ranks ∙ ap (λ n. map (λ i. count_set (take (i * 64) flags)) (range_with_len 0 n)) all
