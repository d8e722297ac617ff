-- Two parts in one: the groups of both, and the parts of two lists of rows.
use Rattle.std.proofs.Common.{◌≡◌, Bool, true, false, cond, List, [], ◌∷◌, ◌++◌, map, Option, None, Some, refl, sym, ap, ◌∙◌, subst}
use Rattle.std.specs.Ordering.{is_eq}
use Rattle.std.specs.Option.{ForSome}
use Rattle.std.specs.List.{IsDistinct}
use Rattle.std.specs.FinMap as map_of
use Rattle.std.proofs.lemmas.List.{map-append, append_assoc}
use Rattle.std.proofs.lemmas.Cmp.{tied_itself}
use Rattle.im_values.specs.declared.content.Content.{Content as Value}
use Rattle.im_group.specs.Tallies.{Tallied, CanJoin}
use Rattle.im_group.specs.Partials.{Groups, key_order, is_key, keyed, held, with_tallies, joined_groups}
use Rattle.im_group.specs.inner.Steps.{tallies_at, placed}
use Rattle.im_group.proofs.Orders.{key_total, key_same}
use Rattle.im_group.proofs.GroupLemmas.{equal, no_more, find-placed}
use Rattle.im_group.proofs.Held.{Agrees, absent, placed_new, not_before}

-- what two parts have at a key
abbrev pub at_both : Option Tallied → Option Tallied → Option Tallied
at_both old None = old
at_both old (Some ts) = Some (with_tallies old ts)

-- ---- one group after the other

pub record Joins {K : Type 0} (f : K → List Value) (old others rest now : List (K × Tallied)) : Type 0 where
  pub done : List (K × Tallied)
  pub whole : others ≡ done ++ rest
  pub at : (q : List Value) → tallies_at (keyed f now) q ≡ at_both (tallies_at (keyed f old) q) (tallies_at (keyed f done) q)

pub joins_none : {K : Type 0} (f : K → List Value) (old others : List (K × Tallied)) → Joins f old others others old
joins_none f old others = record { done = []; whole = refl; at = λ q. refl }

here_after : {K : Type 0} (f : K → List Value) (done : List (K × Tallied)) (g : K × Tallied) (rest : List (K × Tallied))
    → tallies_at (keyed f done) (f g.0) ≡ None
    → tallies_at (keyed f (done ++ g ∷ rest)) (f g.0) ≡ Some g.1
here_after f [] g rest none = ap (λ o. cond (is_eq o) (Some g.1) (tallies_at (keyed f rest) (f g.0))) (tied_itself key_total (f g.0))
here_after f (x ∷ done) g rest none =
    let no = absent (is_key (f g.0) (f x.0)) x.1 (tallies_at (keyed f done) (f g.0)) none in
    ap (λ b. cond b (Some x.1) (tallies_at (keyed f (done ++ g ∷ rest)) (f g.0))) no.0 ∙ here_after f done g rest no.1

module _ {K : Type 0} (eq : K → K → Bool) (f : K
    → List Value) (agrees : Agrees eq f) (old others : List (K × Tallied)) (distinct : IsDistinct eq (map (λ e. e.0) others)) where
  new_key : (g : K × Tallied) (rest rest2 now : List (K × Tallied)) (j : Joins f old others rest now) → rest ≡ g ∷ rest2
      → tallies_at (keyed f j.done) (f g.0) ≡ None
  new_key g rest rest2 now j next =
      not_before eq f agrees j.done g rest2 (subst (λ es. IsDistinct eq (map (λ e. e.0) es)) (j.whole ∙ ap (λ l. j.done ++ l) next) distinct)

  now_at : (g : K × Tallied) (rest rest2 now : List (K × Tallied)) (j : Joins f old others rest now) → rest ≡ g ∷ rest2
      → tallies_at (keyed f now) (f g.0) ≡ tallies_at (keyed f old) (f g.0)
  now_at g rest rest2 now j next = j.at (f g.0) ∙ ap (at_both (tallies_at (keyed f old) (f g.0))) (new_key g rest rest2 now j next)

  pub can_join_group : (g : K × Tallied) (rest rest2 now : List (K × Tallied)) → Joins f old others rest now → rest ≡ g ∷ rest2
      → ((key : List Value) → ForSome (tallies_at (keyed f old) key) (λ ts. ForSome (tallies_at (keyed f others) key) (λ us. CanJoin ts us)))
      → ForSome (tallies_at (keyed f now) (f g.0)) (λ ts. CanJoin ts g.1)
  can_join_group g rest rest2 now j next few ts is =
      few (f g.0) ts (sym (now_at g rest rest2 now j next) ∙ is) g.1
      (ap (λ es. tallies_at (keyed f es) (f g.0)) (j.whole ∙ ap (λ l. j.done ++ l) next) ∙ here_after f j.done g rest2 (new_key g rest rest2 now j next))

  pub joins_next : (g : K × Tallied) (rest rest2 now new : List (K × Tallied)) → Joins f old others rest now → rest ≡ g ∷ rest2
      → keyed f new ≡ placed (keyed f now) (f g.0) (with_tallies (tallies_at (keyed f now) (f g.0)) g.1) → Joins f old others rest2 new
  joins_next g rest rest2 now new j next put = record {
    done = j.done ++ g ∷ [];
    whole = j.whole ∙ (ap (λ l. j.done ++ l) next ∙ sym (append_assoc j.done (g ∷ []) rest2));
    at = λ q.
        ap (λ gs. tallies_at gs q) put
        ∙ (find-placed (keyed f now) (f g.0) (with_tallies (tallies_at (keyed f now) (f g.0)) g.1) q
        ∙ (go q (is_eq (key_order q (f g.0))) refl
        ∙ sym (ap (at_both (tallies_at (keyed f old) q)) (later q))));
  }
    where
      none : tallies_at (keyed f j.done) (f g.0) ≡ None
      none = new_key g rest rest2 now j next

      later : (q : List Value) → tallies_at (keyed f (j.done ++ g ∷ [])) q ≡ cond (is_eq (key_order q (f g.0))) (Some g.1) (tallies_at (keyed f j.done) q)
      later q =
          ap (λ gs. tallies_at gs q) (map-append (λ e. (f e.0, e.1)) j.done (g ∷ []) ∙ sym (placed_new (keyed f j.done) (f g.0) g.1 none))
          ∙ find-placed (keyed f j.done) (f g.0) g.1 q

      go : (q : List Value) (b : Bool) → is_eq (key_order q (f g.0)) ≡ b
          → cond b (Some (with_tallies (tallies_at (keyed f now) (f g.0)) g.1)) (tallies_at (keyed f now) q)
          ≡ at_both (tallies_at (keyed f old) q) (cond b (Some g.1) (tallies_at (keyed f j.done) q))
      go q true e =
          let same = key_same q (f g.0) (equal _ e) in
          ap (λ o. Some (with_tallies o g.1)) (now_at g rest rest2 now j next ∙ ap (tallies_at (keyed f old)) (sym same))
      go q false e = j.at q

-- ---- the groups of both

abbrev either : Option Tallied → Option Tallied → Option Tallied
either None b = b
either (Some ts) b = Some ts

cond_either : (b : Bool) (v : Tallied) (r o : Option Tallied) → cond b (Some v) (either r o) ≡ either (cond b (Some v) r) o
cond_either true v r o = refl
cond_either false v r o = refl

find-both : (xs ys : List (List Value × Tallied)) (q : List Value) → tallies_at (xs ++ ys) q ≡ either (tallies_at xs q) (tallies_at ys q)
find-both [] ys q = refl
find-both (x ∷ xs) ys q =
    ap (cond (is_eq (key_order q x.0)) (Some x.1)) (find-both xs ys q) ∙ cond_either (is_eq (key_order q x.0)) x.1 (tallies_at xs q) (tallies_at ys q)

abbrev joined_at_key : Option Tallied → Option Tallied → Option Tallied
joined_at_key old None = None
joined_at_key old (Some ts) = Some (with_tallies old ts)

find-joined : (a : Groups) (es : List (List Value × Tallied)) (q : List Value)
    → tallies_at (map (λ g. (g.0, with_tallies (map_of.get a g.0) g.1)) es) q ≡ joined_at_key (map_of.get a q) (tallies_at es q)
find-joined a [] q = refl
find-joined a (e ∷ es) q = go (is_eq (key_order q e.0)) refl (find-joined a es q)
  where
    go : (b : Bool) → is_eq (key_order q e.0) ≡ b
        → tallies_at (map (λ g. (g.0, with_tallies (map_of.get a g.0) g.1)) es) q ≡ joined_at_key (map_of.get a q) (tallies_at es q)
        → cond b (Some (with_tallies (map_of.get a e.0) e.1)) (tallies_at (map (λ g. (g.0, with_tallies (map_of.get a g.0) g.1)) es) q)
        ≡ joined_at_key (map_of.get a q) (cond b (Some e.1) (tallies_at es q))
    go true t more = ap (λ k. Some (with_tallies (map_of.get a k) e.1)) (sym (key_same q e.0 (equal _ t)))
    go false t more = more

both_ways : (old new : Option Tallied) → either (joined_at_key old new) old ≡ at_both old new
both_ways old None = refl
both_ways old (Some ts) = refl

pub get-joined_groups : (a b : Groups) (q : List Value) → map_of.get (joined_groups a b) q ≡ at_both (map_of.get a q) (map_of.get b q)
get-joined_groups a b q =
    map_of.get-from_entries key_total _ q
    ∙ (find-both (map (λ g. (g.0, with_tallies (map_of.get a g.0) g.1)) (map_of.entries b)) (map_of.entries a) q
    ∙ ((λ i. either ((find-joined a (map_of.entries b) q ∙ ap (joined_at_key (map_of.get a q)) (sym (map_of.get-entries b q))) i)
    (sym (map_of.get-entries a q) i))
    ∙ both_ways (map_of.get a q) (map_of.get b q)))

pub joins_all : {K : Type 0} (f : K → List Value) (old others rest now : List (K × Tallied)) → Joins f old others rest now → rest ≡ []
    → held f now ≡ joined_groups (held f old) (held f others)
joins_all f old others rest now j over = map_of.same_map key_total key_same _ _ (λ q.
    map_of.get-from_entries key_total (keyed f now) q
    ∙ (j.at q
    ∙ ((λ i. at_both (sym (map_of.get-from_entries key_total (keyed f old) q) i)
    ((ap (λ es. tallies_at (keyed f es) q) (sym (no_more j.done) ∙ (ap (λ l. j.done ++ l) (sym over) ∙ sym j.whole))
    ∙ sym (map_of.get-from_entries key_total (keyed f others) q)) i))
    ∙ sym (get-joined_groups (held f old) (held f others) q))))
