-- What is kept of a history follows it, entry by entry.
use Rattle.std.proofs.Common.{◌≡◌, ℕ, zero, suc, ◌+◌, ◌^◌, ◌<◌, ◌≤◌, ◌==◌, Bool, true, false, List, [], ◌∷◌, ◌++◌, length, replicate, set, get_or, if◌then◌else◌, refl, sym, ap, ◌∙◌, arith, ⊎_elim}
use Rattle.std.proofs.lemmas.List.{length_push, length-set, get_or-set_same, get_or-set_other}
use Rattle.std.proofs.lemmas.Bool.{cases_eq, eq-eqb, ne_eqb}
use Rattle.im_values.specs.declared.limits.TheConstants.{MOST_TABLES}
use Rattle.im_history.specs.declared.entry.Entry.{Entry}
use Rattle.im_history.specs.declared.entry.What.{What}
use Rattle.im_history.specs.declared.entry.What.TheVariants.{Memory, Open, Build, Trickle}
use Rattle.im_history.specs.declared.limits.Limits.{Limits}
use Rattle.im_history.specs.History.{History}
use Rattle.im_history.specs.Leaves.{is_leave}
use Rattle.im_history.specs.Legal.{IsLegal}
use Rattle.im_history.specs.Queue.{table_opened_after, spent, spent_after, trickled, trickled_after}
use Rattle.im_history.specs.Units.{Content}
use Rattle.im_history.proofs.ExtentLaws.{extents-of-units}
use Rattle.im_history.proofs.LeaveLaws.{leaves-few, leaves-nil, leaves-push}
use Rattle.im_history.proofs.QueueLaws.{is_opened-nil, is_opened-push, spent-nil, spent-push, trickled-nil, trickled-push}
use Rattle.im_history.proofs.ShapeLaws.{per_at-some}
use Rattle.im_directory.specs.Agreement.{ReadsHistory}
use Rattle.im_directory.specs.Slots.{Kept}
use Rattle.im_queue.specs.declared.demand.Demand.{Demand}
use Rattle.im_queue.specs.Demand.{HasDemandRoom, IsDemand, IsPaid, IsSmall, demand_after}
use Rattle.im_queue.specs.Queues.{ListsHistory}

-- ---- the empty history

nothing-opened : (size table : ℕ) → get_or (replicate size false) table false ≡ false
nothing-opened zero table = refl
nothing-opened (suc size) zero = refl
nothing-opened (suc size) (suc table) = nothing-opened size table

pub IsDemand-nil : (demand : Demand) → demand.credits ≡ 0 → demand.left ≡ 0 → demand.opened ≡ replicate (MOST_TABLES + 1) false → IsDemand [] demand
IsDemand-nil demand credits left opened = record {
  credits = rw (spent-nil, trickled-nil, credits) refl;
  few = rw credits (omega arith);
  left = left ∙ sym leaves-nil;
  sized = rw opened refl;
  opened = λ table within. rw opened (nothing-opened (MOST_TABLES + 1) table ∙ sym (is_opened-nil table));
}

-- ---- one more entry

-- a credit is left for a build that spends one
pays : (h : History) (what : What) (demand : Demand) → IsDemand h demand → IsPaid h what
    → (demand_after what demand).credits + spent_after (spent h) what ≡ trickled_after (trickled h) what
pays h (Build id table extent true) demand is paid =
    let left = paid refl in
    let now = is.credits in
    omega (arith, left, now)
pays h (Trickle count) demand is paid = let now = is.credits in omega (arith, now)
pays h _ demand is paid = is.credits

few_after : (what : What) (demand : Demand) → IsSmall what → (demand_after what demand).credits ≤ demand.credits + 2 ^ 32
few_after (Build id table extent true) demand small = omega arith
few_after (Trickle count) demand small = let few = small.few in omega (arith, few)
few_after _ demand small = omega arith

left_after : (what : What) (demand : Demand) → (demand_after what demand).left ≡ (if is_leave what then demand.left + 1 else demand.left)
left_after (Build id table extent true) demand = refl
left_after (Build id table extent false) demand = refl
left_after _ demand = refl

sized_after : (what : What) (demand : Demand) → length (demand_after what demand).opened ≡ length demand.opened
sized_after (Memory table priority) demand = length-set demand.opened table false
sized_after (Open cursor table asked) demand = length-set demand.opened table true
sized_after (Build id table extent true) demand = refl
sized_after (Build id table extent false) demand = refl
sized_after _ demand = refl

-- one of the marks was set
marked : (marks : List Bool) (other table : ℕ) (mark : Bool) → table < length marks
    → get_or (set marks other mark) table false ≡ (if other == table then mark else get_or marks table false)
marked marks other table mark within =
    ⊎_elim (λ (is : other ≡ table). rw (eq-eqb other table is, is) (get_or-set_same marks table mark false within))
    (λ (apart : other ≡ table → ⊥). rw (ne_eqb other table apart) (get_or-set_other marks other table mark false (λ is. apart (sym is)))) (cases_eq other table)

opened_after-is : (what : What) (demand : Demand) (table : ℕ) → table < length demand.opened
    → get_or (demand_after what demand).opened table false ≡ table_opened_after table (get_or demand.opened table false) what
opened_after-is (Memory other priority) demand table within = marked demand.opened other table false within
opened_after-is (Open cursor other asked) demand table within = marked demand.opened other table true within
opened_after-is (Build id other extent true) demand table within = refl
opened_after-is (Build id other extent false) demand table within = refl
opened_after-is _ demand table within = refl

pub IsDemand-push : (h : History) (entry : Entry) (demand : Demand) → IsDemand h demand → IsSmall entry.what
    → IsPaid h entry.what → IsDemand (h ++ entry ∷ []) (demand_after entry.what demand)
IsDemand-push h entry demand is small paid = record {
  credits = rw (spent-push h entry, trickled-push h entry) (pays h entry.what demand is paid);
  few =
      let before = is.few in
      let more = few_after entry.what demand small in
      let longer = length_push h entry in
      omega (arith, before, more, longer);
  left = left_after entry.what demand ∙ (rw (leaves-push h entry) (ap (λ (n : ℕ). if is_leave entry.what then n + 1 else n) is.left));
  sized = sized_after entry.what demand ∙ is.sized;
  opened = λ table within.
      let size = is.sized in
      opened_after-is entry.what demand table (omega (arith, within, size))
      ∙ (ap (λ (b : Bool). table_opened_after table b entry.what) (is.opened table within) ∙ sym (is_opened-push h entry table));
}

-- ---- what may be counted

-- of fewer than 2 ^ 64 entries one more can be counted
pub HasDemandRoom-is : (h : History) (demand : Demand) → IsDemand h demand → length h + 1 < 2 ^ 64 → HasDemandRoom demand
HasDemandRoom-is h demand is short =
    let few = is.few in
    let left = is.left in
    let fewer = leaves-few h in
    record { credits = omega (arith, few, short); left = omega (arith, left, fewer, short) }

-- ---- what is kept of extents

-- where what is kept of extents reads as a history does, it lists the extents of that history
pub ListsHistory-reads : {U : Type 0} (content : U → Content) (limits : Limits) (h : History) (kept : Kept U) → IsLegal limits h
    → ReadsHistory content h kept → ListsHistory content h kept
ListsHistory-reads content limits h kept legal reads = record {
  extents = extents-of-units limits h legal;
  empty = reads.empty;
  due = λ table extent. reads.due table extent (per_at-some limits h table legal);
  stale = λ table extent. reads.stale table extent (per_at-some limits h table legal);
}
