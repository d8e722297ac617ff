-- Logs that begin one another, and the entries of a number in them.
use Rattle.std.proofs.Common.{◌≡◌, ◌≢◌, ℕ, ◌≤◌, Bool, true, false, cond, List, [], ◌∷◌, ◌++◌, length, drop, All, eqb, ltb, refl, sym, ap, ◌∙◌, inl, inr, arith, append_assoc, length-append, eq-eqb, ne_eqb}
use Rattle.std.proofs.lemmas.List.{append-nil, drop-append-le}
use Rattle.std.proofs.lemmas.List.Elements.{All-head, All-tail, All-cons, All-nil, All-weaker, filter-append}
use Rattle.std.proofs.lemmas.Bool.Decides.{nat_tests}
use Rattle.std.proofs.Math.Seq.{drop-append_seam}
use mathlib.Core.Logic.{dite}
use native.Mathlib.Decide.{ℕ_discrete}
use Rattle.im_turn.specs.Logs.{entries_of, entries_since, Begins, GrewByOwn, GrewByOthers, AreInLine, longer}

module _ {Item : Type 0} where
  -- each log begins itself
  pub begins_self : (xs : List Item) → Begins xs xs
  begins_self xs = record { rest = []; is = sym (append-nil xs) }

  -- a beginning of a beginning
  pub begins_trans : {xs ys zs : List Item} → Begins xs ys → Begins ys zs → Begins xs zs
  begins_trans {xs} p q = record {
    rest = p.rest ++ q.rest;
    is = q.is ∙ (ap (λ w. w ++ q.rest) p.is ∙ append_assoc xs p.rest q.rest);
  }

  -- a beginning is no longer than the log
  pub begins_length : {xs ys : List Item} → Begins xs ys → length xs ≤ length ys
  begins_length {xs} p = omega (arith, ap length p.is ∙ length-append xs p.rest)

  -- the same by the rests
  begins_by : (xs ys zs p q : List Item) → zs ≡ xs ++ p → zs ≡ ys ++ q → length xs ≤ length ys → Begins xs ys
  begins_by [] ys zs p q a b le = record { rest = ys; is = refl }
  begins_by (x ∷ xs) [] zs p q a b le = absurd (omega arith)
  begins_by (x ∷ xs) (y ∷ ys) [] p q a b le = absurd cc
  begins_by (x ∷ xs) (y ∷ ys) (z ∷ zs) p q a b le =
      let r : Begins xs ys = begins_by xs ys zs p q (cc) (cc) (omega arith) in
      let same : ys ≡ xs ++ r.rest = r.is in
      let heads : y ≡ x = cc in
      record { rest = r.rest; is = cc (same, heads) }

  -- of two beginnings of one log the shorter begins the longer
  pub begins_longer : {xs ys log : List Item} → Begins xs log → Begins ys log → length xs ≤ length ys → Begins xs ys
  begins_longer {xs} {ys} {log} p q le = begins_by xs ys log p.rest q.rest p.is q.is le

-- the longer of two beginnings of one log
pub record IsLonger {Item : Type 0} (one other top log : List Item) : Type 0 where
  pub in_line : AreInLine one other
  pub one_begins : Begins one top
  pub other_begins : Begins other top
  pub begins : Begins top log

module _ {Item : Type 0} where
  -- by the test
  longer_by : (b : Bool) (one other log : List Item) → ltb (length one) (length other) ≡ b → Begins one log
      → Begins other log → IsLonger one other (cond b other one) log
  longer_by true one other log e p q =
      let r : Begins one other = begins_longer p q (grind (arith, nat_tests)) in
      record { in_line = inl r; one_begins = r; other_begins = begins_self other; begins = q }
  longer_by false one other log e p q =
      let r : Begins other one = begins_longer q p (grind (arith, nat_tests)) in
      record { in_line = inr r; one_begins = begins_self one; other_begins = r; begins = p }

  -- the longer of two beginnings is as such
  pub longer_is : (one other log : List Item) → Begins one log → Begins other log → IsLonger one other (longer one other) log
  longer_is one other log p q = longer_by (ltb (length one) (length other)) one other log refl p q

  -- what was added since a log was seen
  pub added_since : (log later more : List Item) → later ≡ log ++ more → drop (length log) later ≡ more
  added_since log later more is = ap (drop (length log)) is ∙ drop-append_seam log more

  -- what is added to a list and leaves it as it was is nothing
  pub added_nothing : (xs ys : List Item) → xs ++ ys ≡ xs → ys ≡ []
  added_nothing xs [] e = refl
  added_nothing xs (y ∷ ys) e = absurd (omega (arith, length-append xs (y ∷ ys), ap length e))

  -- what is no entry in all has no parts
  pub no_parts : (xs ys : List Item) → xs ++ ys ≡ [] → xs ≡ []
  no_parts [] ys e = refl
  no_parts (x ∷ xs) ys e = absurd cc

module _ {Item : Type 0} (who : Item → ℕ) where
  -- all entries of a log that has those of one number alone
  pub entries_of-own : (n : ℕ) (ys : List Item) → All (λ e. who e ≡ n) ys → entries_of who n ys ≡ ys
  entries_of-own n [] h = refl
  entries_of-own n (y ∷ ys) h =
      let P : Item → Type 0 = λ e. who e ≡ n in
      let rest = entries_of who n ys in
      ap (λ b. cond b (y ∷ rest) rest) (eq-eqb (who y) n (All-head P y ys h)) ∙ ap (λ l. y ∷ l) (entries_of-own n ys (All-tail P y ys h))

  -- no entries of a log that has those of other numbers alone
  pub entries_of-others : (n : ℕ) (ys : List Item) → All (λ e. who e ≢ n) ys → entries_of who n ys ≡ []
  entries_of-others n [] h = refl
  entries_of-others n (y ∷ ys) h =
      let P : Item → Type 0 = λ e. who e ≢ n in
      let rest = entries_of who n ys in
      ap (λ b. cond b (y ∷ rest) rest) (ne_eqb (who y) n (All-head P y ys h)) ∙ entries_of-others n ys (All-tail P y ys h)

  -- a log with no entry of a number has those of other numbers alone
  pub others_of_none : (n : ℕ) (ys : List Item) → entries_of who n ys ≡ [] → All (λ e. who e ≢ n) ys
  others_of_none n [] e = All-nil (λ e. who e ≢ n)
  others_of_none n (y ∷ ys) e =
      let P : Item → Type 0 = λ e. who e ≢ n in
      let rest = entries_of who n ys in
      dite (ℕ_discrete (who y) n)
      (λ is. let full : y ∷ rest ≡ [] = sym (ap (λ b. cond b (y ∷ rest) rest) (eq-eqb (who y) n is)) ∙ e in absurd cc)
      (λ ne. All-cons P y ys ne (others_of_none n ys (sym (ap (λ b. cond b (y ∷ rest) rest) (ne_eqb (who y) n ne)) ∙ e)))

  -- the entries of a log and of what is added to it
  pub entries_since-append : (n base : ℕ) (xs ys : List Item) → base ≤ length xs
      → entries_since who n base (xs ++ ys) ≡ entries_since who n base xs ++ entries_of who n ys
  entries_since-append n base xs ys h =
      ap (entries_of who n) (drop-append-le base xs ys h) ∙ filter-append (λ e. eqb (who e) n) (drop base xs) ys

  -- the same, of a beginning and the rest
  pub entries_since-begins : {xs ys : List Item} (n base : ℕ) (p : Begins xs ys) → base ≤ length xs
      → entries_since who n base ys ≡ entries_since who n base xs ++ entries_of who n p.rest
  entries_since-begins {xs} n base p h = ap (entries_since who n base) p.is ∙ entries_since-append n base xs p.rest h

  -- where what is added has no entry of a number, its entries stay as they are
  unchanged : {xs ys : List Item} (n base : ℕ) (p : Begins xs ys) → base ≤ length xs → entries_of who n p.rest ≡ []
      → entries_since who n base ys ≡ entries_since who n base xs
  unchanged {xs} n base p h nothing =
      let mine = entries_since who n base xs in
      entries_since-begins n base p h ∙ (ap (λ l. mine ++ l) nothing ∙ append-nil mine)

  -- a log begins the one that has grown by own entries
  abbrev pub own_begins : {n : ℕ} {xs ys : List Item} → GrewByOwn who n xs ys → Begins xs ys
  own_begins g = record { rest = g.added; is = g.is }

  -- and the one that has grown by entries of others
  abbrev pub others_begins : {n : ℕ} {xs ys : List Item} → GrewByOthers who n xs ys → Begins xs ys
  others_begins g = record { rest = g.between; is = g.is }

  -- a log that stays has grown by no entries
  pub own_nothing : (n : ℕ) (xs : List Item) → GrewByOwn who n xs xs
  own_nothing n xs = record { added = []; is = sym (append-nil xs); own = All-nil (λ e. who e ≡ n) }

  -- own entries are no entries of another number
  pub own_leaves : {n : ℕ} {xs ys : List Item} (m base : ℕ) → GrewByOwn who n xs ys → m ≢ n → base ≤ length xs
      → entries_since who m base ys ≡ entries_since who m base xs
  own_leaves {n} m base g ne h =
      let of_another : All (λ e. who e ≢ m) g.added =
      All-weaker (λ e. who e ≡ n) (λ e. who e ≢ m) (λ e is same. ne (sym same ∙ is)) g.added g.own in
      unchanged m base (own_begins g) h (entries_of-others m g.added of_another)

  -- entries of others are no own entries
  pub others_leave : {n : ℕ} {xs ys : List Item} (base : ℕ) → GrewByOthers who n xs ys → base ≤ length xs
      → entries_since who n base ys ≡ entries_since who n base xs
  others_leave {n} base g h = unchanged n base (others_begins g) h (entries_of-others n g.between g.others)

  -- own entries come behind those that there were
  pub own_adds : {n : ℕ} {xs ys : List Item} (base : ℕ) → GrewByOwn who n xs ys → base ≤ length xs
      → entries_since who n base ys ≡ entries_since who n base xs ++ drop (length xs) ys
  own_adds {n} {xs} {ys} base g h =
      let all : entries_of who n g.added ≡ g.added = entries_of-own n g.added g.own in
      let new : drop (length xs) ys ≡ g.added = added_since xs ys g.added g.is in
      entries_since-begins n base (own_begins g) h ∙ ap (λ l. entries_since who n base xs ++ l) (all ∙ sym new)

  -- where a number has gained no entries, the log grew by others
  pub others_alone : {xs ys : List Item} (n base : ℕ) → Begins xs ys → base ≤ length xs
      → entries_since who n base ys ≡ entries_since who n base xs → GrewByOthers who n xs ys
  others_alone {xs} n base p h same =
      let mine = entries_since who n base xs in
      let nothing = added_nothing mine (entries_of who n p.rest) (sym (entries_since-begins n base p h) ∙ same) in
      record { between = p.rest; is = p.is; others = others_of_none n p.rest nothing }

  -- a log between two others that have the same entries of a number has them too
  pub same_between : {xs ys zs : List Item} (n base : ℕ) → Begins xs ys → Begins ys zs → base ≤ length xs
      → entries_since who n base zs ≡ entries_since who n base xs → entries_since who n base ys ≡ entries_since who n base xs
  same_between {xs} {ys} {zs} n base p q h same =
      let low = entries_since-begins n base p h in
      let wide : length xs ≤ length ys = begins_length p in
      let high = entries_since-begins n base q (omega arith) in
      let mine = entries_since who n base xs in
      let a = entries_of who n p.rest in
      let b = entries_of who n q.rest in
      let whole : mine ++ (a ++ b) ≡ mine = sym (append_assoc mine a b) ∙ (sym (ap (λ l. l ++ b) low) ∙ (sym high ∙ same)) in
      unchanged n base p h (no_parts a b (added_nothing mine (a ++ b) whole))
