use Rattle.std.proofs.Common.{◌≡◌, ◌+◌, ◌<◌, ℕ, List, length, map, slice_index_or, take}
use Rattle.im_values.specs.declared.content.Content.{Content as Value}
use Rattle.im_values.specs.declared.content.Content.TheVariants.{Null}
use Rattle.im_codes.specs.Dictionary.{coded}
use Rattle.im_group.specs.declared.asked.Asked.{Asked}
use Rattle.im_group.specs.MadeGroups.{groups_in}
use Rattle.im_scan.specs.inner.ByCode.{ComeTo, groups_for}
use Rattle.im_scan.proofs.by_code.groups_by_code.Given as goal

-- the groups of the codes so far
abbrev pub invariant-loop-code : goal.invariant-loop-code
invariant-loop-code l =
    (of : Value → Asked → List Value)
    → ((code : ℕ) → code < length l.dict + 1
    → ComeTo (of (slice_index_or (coded l.dict) code Null)) code l.asked (map (λ tallies. tallies.items) l.all))
    → groups_in l.groups.items ≡ groups_for of l.asked (take l.code (coded l.dict)) (take l.code l.counts)
