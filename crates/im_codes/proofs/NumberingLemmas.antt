-- Values under numbers.
use Rattle.std.proofs.Common.{◌≡◌, ◌≢◌, ℕ, zero, suc, ◌+◌, ◌-◌, ◌<◌, ◌≤◌, Bool, true, false, cond, List, [], ◌∷◌, ◌++◌, ◌⊎◌, inl, inr, length, map, take, get_or, slice_get, Some, None, Option, All, Contains, ⊎_elim, sym, refl, ap, ◌∙◌, arith}
use Rattle.std.specs.Bool.{OnTrue}
use Rattle.std.specs.Option.{IfNone, IsSome}
use Rattle.std.specs.Ordering.{is_eq, is_lt}
use Rattle.std.specs.List.{list_any}
use Rattle.std.specs.List.Sorted.{IsStrictlySortedBy}
use Rattle.std.specs.declared.cmp.Ordering.TheVariants.{Less}
use Rattle.std.proofs.lemmas.List.{length-map, get_or-map, get_or_default, get_or_append_left, get_or_at, length_push, map_push, take_more, take_all}
use Rattle.std.proofs.lemmas.List.Elements.{All-head, All-tail, All-push, All-cons, All-nil, All-contains}
use Rattle.std.proofs.lemmas.Option.{slice_get-get_or}
use Rattle.std.proofs.lemmas.Map.Keys.{sorted_from_all_adjacent}
use Rattle.indexmap.specs.IndexSet.{insert_key}
use Rattle.std.proofs.lemmas.Bool.{cases_Bool, cases_lt}
use denote.Ref.{Bor}
use Rattle.im_values.specs.contracts.value.ValuePartialEq.TheImpl as value_eq
use Rattle.im_values.specs.declared.content.Content.{Content as Value}
use Rattle.im_values.specs.declared.content.Content.TheVariants.{Int, Text, Null}
use Rattle.im_values.specs.Order.{order}
use Rattle.im_values.proofs.ForCallers.{order_total, value_ties}
use Rattle.im_codes.specs.Dictionary.{coded, lent, present, values_at, StandAt, IsSortedSetOf, IsDictionaryOf}
use Rattle.im_codes.specs.inner.Numbering.{AreAmong, IsNumbering, IsNumberedTo, Adds}
use Rattle.im_codes.proofs.DictLemmas.{same_is, Less-from_is_lt}

-- an element of a list is inside
pub got-inside : {X : Type 0} (xs : List X) (k : ℕ) (x : X) → slice_get xs k ≡ Some x → k < length xs
got-inside [] k x e = cc
got-inside (y ∷ xs) zero x e = omega arith
got-inside (y ∷ xs) (suc k) x e = omega (arith, got-inside xs k x e)

pub got-is : {X : Type 0} (xs : List X) (k : ℕ) (x d : X) → slice_get xs k ≡ Some x → get_or xs k d ≡ x
got-is [] k x d e = cc
got-is (y ∷ xs) zero x d e = cc
got-is (y ∷ xs) (suc k) x d e = got-is xs k x d e

pub got-contains : {X : Type 0} (xs : List X) (k : ℕ) (x : X) → slice_get xs k ≡ Some x → Contains xs x
got-contains xs k x e = (k, got-inside xs k x e, got-is xs k x x e)

-- a lent value at a place
pub lent-at : (seen : List (Bor Value)) (k : ℕ) (r : Bor Value) → k < length seen → r ≡ get_or seen k r → (d : Value) → get_or (lent seen) k d ≡ r.now
lent-at seen k r inside is d = get_or-map (λ (x : Bor Value). x.now) seen k r d inside ∙ ap (λ (x : Bor Value). x.now) (sym is)

pub length-lent : (seen : List (Bor Value)) → length (lent seen) ≡ length seen
length-lent seen = length-map seen (λ (x : Bor Value). x.now)

-- where a lent value ties with one, that one stands there
pub found-at : (seen : List (Bor Value)) (k : ℕ) (r : Bor Value) (value : Value) → k < length seen → r ≡ get_or seen k r → is_eq (order r.now value) ≡ true →
    slice_get (lent seen) k ≡ Some value
found-at seen k r value inside is ties =
    slice_get-get_or (lent seen) k value (omega (arith, length-lent seen)) ∙ ap Some (lent-at seen k r inside is value ∙ same_is r.now value ties)

-- values that are equal, as equality is derived, are the same
pub same_equal : (a b : Value) → (value_eq.ghosts).eq a b ≡ true → a ≡ b
same_equal a b e = same_is a b (sym (value_ties a b) ∙ e)

-- where a lent value is the same as one, that one stands there
pub found-same : (seen : List (Bor Value)) (k : ℕ) (r : Bor Value) (value : Value) → k < length seen → r ≡ get_or seen k r → r.now ≡ value →
    slice_get (lent seen) k ≡ Some value
found-same seen k r value inside is same =
    slice_get-get_or (lent seen) k value (omega (arith, length-lent seen)) ∙ ap Some (lent-at seen k r inside is value ∙ same)

-- what a test that came out says
pub on-true : (b : Bool) (P : Type 0) → (b ≡ true → P) → OnTrue b P
on-true true P says = says refl
on-true false P says = tt

-- what is not missing is there
pub some-held : {P : Type 0} (r : Option ℕ) → IfNone r (P → ⊥) → P → IsSome r
some-held None missing held = absurd (missing held)
some-held (Some x) missing held = refl

-- a value that was seen before
pub adds-found : (old : List Value) (value : Value) (n : ℕ) → slice_get old n ≡ Some value → Adds old old value n
adds-found old value n e = record { inside = got-inside old n value e; is = λ d. got-is old n value d e; grows = inl refl }

-- a new value stands behind the others
pub adds-new : (old : List Value) (value : Value) (n : ℕ) → n ≡ length old → Adds old (old ++ value ∷ []) value n
adds-new old value n e = record {
  inside = omega (arith, e, length_push old value);
  is = λ d. get_or_at old value [] d n (sym e);
  grows = inr refl;
}

pub lent-push : (seen : List (Bor Value)) (r : Bor Value) → lent (seen ++ r ∷ []) ≡ lent seen ++ r.now ∷ []
lent-push seen r = map_push (λ (x : Bor Value). x.now) seen r

-- a value that a set of lent values has now
pub adds-hashed : (eq : Bor Value → Bor Value → Bool) (old new : List (Bor Value)) (value k : Bor Value) (n : ℕ) → new ≡ insert_key eq old value →
    slice_get new n ≡ Some k → value.now ≡ k.now → Adds (lent old) (lent new) value.now n
adds-hashed eq old new value k n grown at same =
    let inside = got-inside new n k at in
    record {
      inside = omega (arith, length-lent new, inside);
      is = λ d. get_or-map (λ (x : Bor Value). x.now) new n k d inside ∙ (ap (λ (x : Bor Value). x.now) (got-is new n k k at) ∙ sym same);
      grows = ⊎_elim (λ (t : list_any (eq value) old ≡ true). let is : lent new ≡ lent old = ap lent (grown ∙ ap (λ b. cond b old (old ++ value ∷ [])) t) in
          let here : (lent new ≡ lent old) ⊎ (lent new ≡ lent old ++ value.now ∷ []) = inl is in here)
          (λ (f : list_any (eq value) old ≡ false). let is : lent new ≡ lent old ++ value.now ∷ [] =
          ap lent (grown ∙ ap (λ b. cond b old (old ++ value ∷ [])) f) ∙ lent-push old value in
          let here : (lent new ≡ lent old) ⊎ (lent new ≡ lent old ++ value.now ∷ []) = inr is in here)
          (cases_Bool (list_any (eq value) old));
    }

-- the places inside a list stay where it grows
pub at-grown : (old new : List Value) (value : Value) (places : List ℕ) → (new ≡ old) ⊎ (new ≡ old ++ value ∷ []) → All (λ p. p < length old) places →
    (values_at new places ≡ values_at old places) × All (λ p. p < length new) places
at-grown old new value [] grows inside = (refl, All-nil (λ p. p < length new))
at-grown old new value (p ∷ places) grows inside =
    let here : p < length old = All-head (λ p. p < length old) p places inside in
    let rest = at-grown old new value places grows (All-tail (λ p. p < length old) p places inside) in
    let same : get_or new p Null ≡ get_or old p Null =
    ⊎_elim (λ (e : new ≡ old). ap (λ l. get_or l p Null) e)
    (λ (e : new ≡ old ++ value ∷ []). ap (λ l. get_or l p Null) e ∙ get_or_append_left old (value ∷ []) Null p here) grows in
    let longer : length old ≤ length new =
    ⊎_elim (λ (e : new ≡ old). omega (arith, ap length e))
    (λ (e : new ≡ old ++ value ∷ []). omega (arith, ap length e, length_push old value)) grows in (
      (λ i. same i ∷ rest.0 i),
      All-cons (λ p. p < length new) p places (omega arith) rest.1,
    )

-- one value more, where it stands
pub stand-more : (values list : List Value) (places : List ℕ) (i p : ℕ) (value : Value) → i < length values → value ≡ get_or values i value →
    StandAt (take i values) list places → p < length list → get_or list p Null ≡ value → StandAt (take (i + 1) values) list (places ++ p ∷ [])
stand-more values list places i p value inside is stand here same = record {
  same = map_push (λ p. get_or list p Null) places p
      ∙ (ap (λ l. l ++ get_or list p Null ∷ []) stand.same ∙ (ap (λ x. take i values ++ x ∷ []) (same ∙ is) ∙ sym (take_more values i value inside)));
  inside = All-push (λ p. p < length list) places p stand.inside here;
}

-- the same of a lent value
pub stand-next : (values : List (Bor Value)) (list : List Value) (places : List ℕ) (i p : ℕ) (value : Bor Value) → i < length values →
    value ≡ get_or values i value → StandAt (take i (lent values)) list places → p < length list → get_or list p Null ≡ value.now →
    StandAt (take (i + 1) (lent values)) list (places ++ p ∷ [])
stand-next values list places i p value inside is stand here same =
    stand-more (lent values) list places i p value.now (omega (arith, length-lent values, inside)) (sym (lent-at values i value inside is value.now)) stand here same

pub stand-none : (values list : List Value) → StandAt (take 0 values) list []
stand-none values list = record { same = refl; inside = All-nil (λ p. p < length list) }

pub stand-all : (values list : List Value) (places : List ℕ) (i : ℕ) → length values ≤ i → StandAt (take i values) list places → StandAt values list places
stand-all values list places i past stand = record { same = stand.same ∙ take_all i values past; inside = stand.inside }

among-grown : (values old new : List Value) (value : Value) → (new ≡ old) ⊎ (new ≡ old ++ value ∷ []) → Contains values value → AreAmong values old →
    AreAmong values new
among-grown values old new value grows held among =
    ⊎_elim (λ (e : new ≡ old). rw e among)
    (λ (e : new ≡ old ++ value ∷ []). rw e (All-push (Contains values) old value among held)) grows

-- one value more is numbered
pub numbered-more : (values old new : List Value) (numbers : List ℕ) (i n : ℕ) (value : Value) → i < length values → value ≡ get_or values i value →
    IsNumberedTo values old numbers i → Adds old new value n → IsNumberedTo values new (numbers ++ n ∷ []) (i + 1)
numbered-more values old new numbers i n value inside is before adds =
    let grown = at-grown old new value numbers adds.grows before.stand.inside in
    let stand : StandAt (take i values) new numbers = record { same = grown.0 ∙ before.stand.same; inside = grown.1 } in
    record {
      stand = stand-more values new numbers i n value inside is stand adds.inside (adds.is Null);
      among = among-grown values old new value adds.grows (i, inside, sym is) before.among;
      short = ⊎_elim (λ (e : new ≡ old). omega (arith, ap length e, before.short))
          (λ (e : new ≡ old ++ value ∷ []). omega (arith, ap length e, length_push old value, before.short)) adds.grows;
    }

-- one lent value more is numbered
pub numbered-next : (values : List (Bor Value)) (old new : List Value) (numbers : List ℕ) (i n : ℕ) (value : Bor Value) → i < length values →
    value ≡ get_or values i value → IsNumberedTo (lent values) old numbers i → Adds old new value.now n → IsNumberedTo (lent values) new (numbers ++ n ∷ []) (i + 1)
numbered-next values old new numbers i n value inside is before adds =
    numbered-more (lent values) old new numbers i n value.now (omega (arith, length-lent values, inside)) (sym (lent-at values i value inside is value.now)) before
    adds

pub numbered-none : (values : List Value) → IsNumberedTo values [] [] 0
numbered-none values = record { stand = stand-none values []; among = All-nil (Contains values); short = omega arith }

-- all are
pub numbered-all : (values seen : List Value) (numbers : List ℕ) (i : ℕ) → length values ≤ i → i < 2147483648 → IsNumberedTo values seen numbers i →
    IsNumbering values seen numbers
numbered-all values seen numbers i past few before = record {
  stand = stand-all values seen numbers i past before.stand;
  among = before.among;
  few = omega (arith, before.short);
}

-- places of places
pub stand-through : (values seen list : List Value) (numbers places : List ℕ) → StandAt values seen numbers → StandAt seen list places →
    StandAt values list (map (λ n. get_or places n 0) numbers)
stand-through values seen list numbers places first second =
    let long : length seen ≡ length places = ap length (sym second.same) ∙ length-map places (λ p. get_or list p Null) in
    let parts = each numbers first.inside long in
    record { same = parts.0 ∙ first.same; inside = parts.1 }
  where
    each : (ns : List ℕ) → All (λ n. n < length seen) ns → length seen ≡ length places →
        (values_at list (map (λ n. get_or places n 0) ns) ≡ values_at seen ns) × All (λ p. p < length list) (map (λ n. get_or places n 0) ns)
    each [] inside long = (refl, All-nil (λ p. p < length list))
    each (n ∷ ns) inside long =
        let here : n < length seen = All-head (λ n. n < length seen) n ns inside in
        let there : n < length places = omega arith in
        let rest = each ns (All-tail (λ n. n < length seen) n ns inside) long in
        let same : get_or list (get_or places n 0) Null ≡ get_or seen n Null =
        sym (get_or-map (λ p. get_or list p Null) places n 0 Null there) ∙ ap (λ l. get_or l n Null) second.same in (
          (λ i. same i ∷ rest.0 i),
          All-cons (λ p. p < length list) (get_or places n 0) (map (λ n. get_or places n 0) ns) (second.inside n 0 there) rest.1,
        )

-- what is present stands in the list
pub present-held : (values : List Value) (value : Value) → Contains (present values) value → Contains values value
present-held [] value held = absurd (omega (arith, held.1))
present-held (Int a ∷ values) value (zero, inside, is) = (0, omega arith, is)
present-held (Int a ∷ values) value (suc k, inside, is) =
    let rest = present-held values value (k, omega arith, is) in (suc rest.0, omega (arith, rest.1), rest.2)
present-held (Text a ∷ values) value (zero, inside, is) = (0, omega arith, is)
present-held (Text a ∷ values) value (suc k, inside, is) =
    let rest = present-held values value (k, omega arith, is) in (suc rest.0, omega (arith, rest.1), rest.2)
present-held (Null ∷ values) value held =
    let rest = present-held values value held in (suc rest.0, omega (arith, rest.1), rest.2)

deeper : (x : Value) (xs : List Value) (value : Value) → Contains xs value → Contains (x ∷ xs) value
deeper x xs value held = (suc held.0, omega (arith, held.1), held.2)

-- and what stands there and is not NULL is present
pub held-present : (values : List Value) (value : Value) → Contains values value → value ≢ Null → Contains (present values) value
held-present [] value held some = absurd (omega (arith, held.1))
held-present (Int a ∷ values) value (zero, inside, is) some = (0, omega arith, is)
held-present (Int a ∷ values) value (suc k, inside, is) some =
    deeper (Int a) (present values) value (held-present values value (k, omega arith, is) some)
held-present (Text a ∷ values) value (zero, inside, is) some = (0, omega arith, is)
held-present (Text a ∷ values) value (suc k, inside, is) some =
    deeper (Text a) (present values) value (held-present values value (k, omega arith, is) some)
held-present (Null ∷ values) value (zero, inside, is) some = absurd (some (sym is))
held-present (Null ∷ values) value (suc k, inside, is) some = held-present values value (k, omega arith, is) some

null_or : (value : Value) → (value ≡ Null) ⊎ (value ≢ Null)
null_or (Int a) = inr (λ e. cc)
null_or (Text a) = inr (λ e. cc)
null_or Null = inl refl

pub some-present : (values : List Value) (value : Value) → Contains (present values) value → value ≢ Null
some-present [] value held = absurd (omega (arith, held.1))
some-present (Int a ∷ values) value (zero, inside, is) = λ e. cc
some-present (Int a ∷ values) value (suc k, inside, is) = some-present values value (k, omega arith, is)
some-present (Text a ∷ values) value (zero, inside, is) = λ e. cc
some-present (Text a ∷ values) value (suc k, inside, is) = some-present values value (k, omega arith, is)
some-present (Null ∷ values) value held = some-present values value held

-- each of the values was seen
pub seen-held : (values seen : List Value) (numbers : List ℕ) (value : Value) → StandAt values seen numbers → Contains values value → Contains seen value
seen-held values seen numbers value stand held =
    let long : length values ≡ length numbers = ap length (sym stand.same) ∙ length-map numbers (λ p. get_or seen p Null) in
    let there : held.0 < length numbers = omega (arith, held.1) in
    let place : get_or numbers held.0 0 < length seen = stand.inside held.0 0 there in
    let same : get_or seen (get_or numbers held.0 0) Null ≡ value =
    sym (get_or-map (λ p. get_or seen p Null) numbers held.0 0 value there) ∙ (ap (λ l. get_or l held.0 value) stand.same ∙ held.2) in
    (get_or numbers held.0 0, place, get_or_default seen (get_or numbers held.0 0) value Null place ∙ same)

-- the dictionary of the values that were seen is that of the values
pub dictionary-seen : (values seen dict : List Value) (numbers : List ℕ) → IsNumbering values seen numbers → IsDictionaryOf seen dict →
    IsDictionaryOf values dict
dictionary-seen values seen dict numbers numbering set = record {
  sorted = set.sorted;
  only = λ value held.
      let was = set.only value held in
      held-present values value (All-contains (Contains values) seen value numbering.among (present-held seen value was)) (some-present seen value was);
  all = λ value held. set.all value
      (held-present seen value (seen-held values seen numbers value numbering.stand (present-held values value held)) (some-present values value held));
}

-- each value that was seen has a code
pub coded-held : (seen dict : List Value) (value : Value) → IsDictionaryOf seen dict → Contains seen value → Contains (coded dict) value
coded-held seen dict value set held =
    ⊎_elim (λ (e : value ≡ Null). let at : Contains (coded dict) value = (0, omega arith, sym e) in at)
    (λ (some : value ≢ Null). deeper Null dict value (set.all value (held-present seen value held some))) (null_or value)

-- values that rise are the set of themselves
pub set-rising : (values : List Value) → IsStrictlySortedBy order values → IsSortedSetOf values values
set-rising values sorted = record { sorted = sorted; only = λ value held. held; all = λ value held. held }

-- one value more is above the one before
pub rise-more : (values : List (Bor Value)) (i : ℕ) (a b : Bor Value) → 1 ≤ i → i < length values → a ≡ get_or values (i - 1) a → b ≡ get_or values i b →
    is_lt (order a.now b.now) ≡ true → ((k : ℕ) (d : Value) → k + 1 < i → order (get_or (lent values) k d) (get_or (lent values) (k + 1) d) ≡ Less) →
    (k : ℕ) (d : Value) → k + 1 < i + 1 → order (get_or (lent values) k d) (get_or (lent values) (k + 1) d) ≡ Less
rise-more values i a b some inside first second less before k d below =
    ⊎_elim (λ (under : k + 1 < i). before k d under)
    (λ (last : i ≤ k + 1). let e : k ≡ i - 1 = omega arith in let f : k + 1 ≡ i = omega arith in
    ap (λ n. order (get_or (lent values) n d) (get_or (lent values) (k + 1) d)) e
    ∙ (ap (λ n. order (get_or (lent values) (i - 1) d) (get_or (lent values) n d)) f
    ∙ (ap (λ v. order v (get_or (lent values) i d)) (lent-at values (i - 1) a (omega arith) first d)
    ∙ (ap (order a.now) (lent-at values i b inside second d) ∙ Less-from_is_lt (order a.now b.now) less))))
    (cases_lt (k + 1) i)

-- a list rises where each of its values is below the next
pub rises-all : (values : List Value) (i : ℕ) → length values ≤ i →
    ((k : ℕ) (d : Value) → k + 1 < i → order (get_or values k d) (get_or values (k + 1) d) ≡ Less) → IsStrictlySortedBy order values
rises-all values i past below = sorted_from_all_adjacent order_total values Null (λ k inside. below k Null (omega arith))
