-- Rows that are copied into one block piece by piece, and the changes that put them.
use Rattle.std.proofs.Common.{◌≡◌, ℕ, zero, suc, ◌+◌, ◌*◌, ◌^◌, ◌≤◌, All, List, [], ◌∷◌, ◌++◌, length, Some, refl, sym, ap, ◌∙◌, subst, append-nil, append_assoc, length-append, arith}
use Rattle.std.specs.List.{slice_get}
use Rattle.std.proofs.lemmas.List.Elements.{All-head, All-tail}
use Rattle.im_values.specs.declared.content.Content.{Content as Value}
use Rattle.im_values.specs.Stretches.{cut}
use Rattle.im_values.proofs.ForCallers.{cut-append, cut-push}
use Rattle.im_history.specs.declared.change.Change.{Change}
use Rattle.im_history.specs.Puts.{put_from}
use Rattle.im_blocks.specs.declared.joining.Joint.{Joint}
use Rattle.im_blocks.specs.inner.Joining.{AreLaid, IsWhole, changes_of}

-- each of rows of so many values has so many
pub wide-at : (width : ℕ) (rows : List (List Value)) (at : ℕ) (row : List Value) → All (λ row. length row ≡ width) rows → slice_get rows at ≡ Some row
    → length row ≡ width
wide-at width [] at row all is = absurd (cc is)
wide-at width (first ∷ rows) zero row all is =
    let same : first ≡ row = cc in subst (λ (r : List Value). length r ≡ width) same (All-head (λ r. length r ≡ width) first rows all)
wide-at width (first ∷ rows) (suc at) row all is = wide-at width rows at row (All-tail (λ r. length r ≡ width) first rows all) is

-- no row was laid yet
pub laid-none : (width : ℕ) (old new : List Value) → new ≡ old → AreLaid width old [] new
laid-none width old new same = record { laid = []; behind = same ∙ sym (append-nil old); long = omega arith; are = refl }

-- one row more
pub laid-more : (width : ℕ) (old : List Value) (rows : List (List Value)) (values row new : List Value) → AreLaid width old rows values → length row ≡ width
    → new ≡ values ++ row → AreLaid width old (rows ++ row ∷ []) new
laid-more width old rows values row new so_far wide added =
    let long = so_far.long in
    let all = length-append so_far.laid row in
    let count : length (rows ++ row ∷ []) ≡ suc (length rows) = length-append rows (row ∷ []) ∙ omega arith in
    let more : suc (length rows) * width ≡ width + length rows * width = grind arith in
    record {
      laid = so_far.laid ++ row;
      behind = added ∙ (ap (λ (l : List Value). l ++ row) so_far.behind ∙ append_assoc old so_far.laid row);
      long = rw count (omega (arith, long, all, more, wide));
      are =
          ap (λ (n : ℕ). cut n width (so_far.laid ++ row)) count
          ∙ (cut-push (length rows) width so_far.laid row long wide ∙ ap (λ (rs : List (List Value)). rs ++ row ∷ []) so_far.are);
    }

pub put_from-append : (table first : ℕ) (rows more : List (List Value))
    → put_from table first (rows ++ more) ≡ put_from table first rows ++ put_from table (first + length rows) more
put_from-append table first [] more = let same : first ≡ first + 0 = omega arith in ap (λ (n : ℕ). put_from table n more) same
put_from-append table first (row ∷ rows) more =
    let next : first + 1 + length rows ≡ first + suc (length rows) = omega arith in
    ap (λ (changes : List Change). record { table = table; rid = first; row = Some row } ∷ changes)
    (put_from-append table (first + 1) rows more ∙ ap (λ (n : ℕ). put_from table (first + 1) rows ++ put_from table n more) next)

pub length-cut : (count width : ℕ) (values : List Value) → length (cut count width values) ≡ count
length-cut zero width values = refl
length-cut (suc count) width values = ap suc (length-cut count width _)

-- a joint of no row puts none
pub whole-none : (joint : Joint) → joint.count ≡ 0 → joint.values.items ≡ [] → joint.first ≤ 2 ^ 63 → IsWhole joint
whole-none joint none empty few = record {
  long = rw (none, empty) (omega arith);
  within = rw none (omega (arith, few));
}

-- rows were laid behind those of a joint
pub record Grown (joint new : Joint) (changes : List Change) : Type 0 where
  pub whole : IsWhole new
  pub are : changes_of new ≡ changes_of joint ++ changes

pub joint-more : (joint new : Joint) (first : ℕ) (rows : List (List Value)) → IsWhole joint → AreLaid joint.width joint.values.items rows new.values.items
    → new.table ≡ joint.table → new.first ≡ joint.first → new.width ≡ joint.width → new.count ≡ joint.count + length rows
    → first ≡ joint.first + joint.count → first + length rows ≤ 2 ^ 63 → Grown joint new (put_from joint.table first rows)
joint-more joint new first rows whole laid table same width count next few =
    let long = whole.long in
    let more = laid.long in
    let all = length-append joint.values.items laid.laid in
    let sum : (joint.count + length rows) * joint.width ≡ joint.count * joint.width + length rows * joint.width = grind arith in
    let block : cut (joint.count + length rows) joint.width (joint.values.items ++ laid.laid) ≡ cut joint.count joint.width joint.values.items ++ rows =
    cut-append joint.count (length rows) joint.width joint.values.items laid.laid long more
    ∙ ap (λ (rs : List (List Value)). cut joint.count joint.width joint.values.items ++ rs) laid.are in
    let behind : joint.first + length (cut joint.count joint.width joint.values.items) ≡ first =
    ap (λ (n : ℕ). joint.first + n) (length-cut joint.count joint.width joint.values.items) ∙ sym next in
    record {
      whole = record {
        long = rw (laid.behind, count, width) (omega (arith, long, more, all, sum));
        within = rw (same, count) (omega (arith, next, few));
      };
      are =
          rw (table, same, count, width, laid.behind, block)
          (put_from-append joint.table joint.first (cut joint.count joint.width joint.values.items) rows
          ∙ ap (λ (n : ℕ). put_from joint.table joint.first (cut joint.count joint.width joint.values.items) ++ put_from joint.table n rows) behind);
    }
