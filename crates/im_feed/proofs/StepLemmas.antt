-- Each step of a feed keeps its rule.
use Rattle.std.proofs.Common.{◌≡◌, ◌≢◌, ℕ, zero, suc, true, false, true≢false, List, [], ◌∷◌, ◌++◌, length, set, sym, refl, ap, ◌∙◌, subst, ⊎_elim, append_assoc, lit≤}
use mathlib.Core.Option.{some, some-ne-none}
use lib.ListN.{get_elem?}
use Rattle.crossbeam_queue.specs.Fifo.{Pushes, Pops, Forks, Merges, Learns}
use Rattle.crossbeam_queue.proofs.Lists.{at_set, at_snoc}
use Rattle.im_history.specs.declared.member.Member.{Member}
use Rattle.im_history.specs.Commits.{members}
use Rattle.im_feed.specs.declared.rule.FeedView.{FeedView}
use Rattle.im_feed.specs.Lawful.{AreLawful}
use Rattle.im_feed.specs.Passes.{feed_view}
use Rattle.im_feed.specs.inner.Rule.{Fits, IsInOrder, IsEnd}

-- a beginning of lawful members is lawful
pub lawful-beginning : (first rest : List Member) → AreLawful (first ++ rest) → AreLawful first
lawful-beginning first rest is = record {
  limits = is.limits;
  history = is.history;
  lawful = is.lawful;
  begins = record { rest = rest ++ is.begins.rest; is = is.begins.is ∙ append_assoc first rest is.begins.rest };
}

at_end : (l : List FeedView) (a b : FeedView) (j : ℕ) → get_elem? l j ≢ some b → get_elem? (l ++ a ∷ []) j ≡ some b → j ≡ length l
at_end [] a b zero n e = refl
at_end [] a b (suc j) n e = absurd (some-ne-none b (sym e))
at_end (x ∷ xs) a b zero n e = absurd (n e)
at_end (x ∷ xs) a b (suc j) n e = ap suc (at_end xs a b j n e)

abbrev AllPasses : (ℕ → FeedView → Type 0) → List FeedView → Type 0
AllPasses F views = (port : ℕ) (v : FeedView) → get_elem? views port ≡ some v → F port v

all_set : (F : ℕ → FeedView → Type 0) (views : List FeedView) (port : ℕ) (w : FeedView) → F port w
    → ((j : ℕ) (u : FeedView) → j ≢ port → get_elem? views j ≡ some u → F j u) → AllPasses F (set views port w)
all_set F views port w mine others j u e = ⊎_elim (λ (x : (j ≡ port) × (w ≡ u)). subst (λ (y : ℕ × FeedView). F y.0 y.1) (λ i. (sym x.0 i, x.1 i)) mine)
    (λ (x : (j ≢ port) × (get_elem? views j ≡ some u)). others j u x.0 x.1) (at_set views port j w u e)

nothing_lawful : AreLawful []
unfolding members
nothing_lawful = record {
  limits = record { area = 0; store = 0; changes = 0 };
  history = [];
  lawful = record { small = record { store = lit≤ tt; changes = lit≤ tt }; legal = record { each = tt } };
  begins = record { rest = members []; is = refl };
}

pub begins : IsInOrder [] (feed_view true true [] [] ∷ [])
begins = record {
  sender = 0;
  standby = 0;
  pushed = [];
  popped = [];
  order = refl;
  lawful = nothing_lawful;
  fit = all_set (Fits 0 0 [] []) (feed_view true true [] [] ∷ []) 0 (feed_view true true [] []) (record { sends = λ _. (refl, refl); takes = λ _. (refl, refl) })
      (λ j u other e. absurd (other (at_end [] _ u j (λ x. some-ne-none u (sym x)) e)));
}

-- what is pushed is pushed behind all that was
pub pushes : (room port : ℕ) (v : FeedView) (x : Member) → v.pushes ≡ true → AreLawful (v.pushed ++ x ∷ [])
    → Pushes IsInOrder room port v x (λ w. w ≡ feed_view v.pushes v.pops (v.pushed ++ x ∷ []) v.popped)
pushes room port v x may lawful items views _ h at =
    let w : FeedView = feed_view v.pushes v.pops (v.pushed ++ x ∷ []) v.popped in
    let mine = h.fit port v at in
    let me = mine.sends may in
    let pushed = h.pushed ++ x ∷ [] in (
      w,
      record {
        sender = h.sender;
        standby = h.standby;
        pushed = pushed;
        popped = h.popped;
        order = ap (λ l. l ++ x ∷ []) h.order ∙ append_assoc h.popped items (x ∷ []);
        lawful = subst (λ l. AreLawful (l ++ x ∷ [])) me.1 lawful;
        fit = all_set (Fits h.sender h.standby pushed h.popped) views port w
            (record { sends = λ _. (me.0, ap (λ l. l ++ x ∷ []) me.1); takes = mine.takes })
            (λ j u other e. record {
              sends = λ p. absurd (other (((h.fit j u e).sends p).0 ∙ sym me.0));
              takes = (h.fit j u e).takes;
            });
      },
      refl,
    )

-- what the queue holds is the end of what was pushed
pub tells_end : (port : ℕ) (v : FeedView) → v.pushes ≡ true → Learns IsInOrder port v (λ items. IsEnd items v.pushed)
tells_end port v may items views h at = record { before = h.popped; is = ((h.fit port v at).sends may).1 ∙ h.order }

-- what is popped is lawful behind what was
pub pops : (port : ℕ) (v : FeedView) → v.pops ≡ true
    → Pops IsInOrder port v (λ x w. (w ≡ feed_view v.pushes v.pops v.pushed (v.popped ++ x ∷ [])) × AreLawful (v.popped ++ x ∷ []))
pops port v may x items views h at =
    let w : FeedView = feed_view v.pushes v.pops v.pushed (v.popped ++ x ∷ []) in
    let mine = h.fit port v at in
    let me = mine.takes may in
    let popped = h.popped ++ x ∷ [] in
    let order : h.pushed ≡ popped ++ items = h.order ∙ sym (append_assoc h.popped (x ∷ []) items) in (
      w,
      record {
        sender = h.sender;
        standby = h.standby;
        pushed = h.pushed;
        popped = popped;
        order = order;
        lawful = h.lawful;
        fit = all_set (Fits h.sender h.standby h.pushed popped) views port w
            (record { sends = mine.sends; takes = λ _. (me.0, ap (λ l. l ++ x ∷ []) me.1) })
            (λ j u other e. record {
              sends = (h.fit j u e).sends;
              takes = λ p. absurd (other (((h.fit j u e).takes p).0 ∙ sym me.0));
            });
      },
      (refl, subst (λ l. AreLawful (l ++ x ∷ [])) (sym me.1) (lawful-beginning popped items (subst AreLawful order h.lawful))),
    )

-- what was popped is lawful, and what was pushed is it and then what the queue holds
pub tells_both : (port : ℕ) (v : FeedView) → v.pops ≡ true
    → Learns IsInOrder port v (λ items. AreLawful v.popped × (v.pushes ≡ true → v.pushed ≡ v.popped ++ items))
tells_both port v may items views h at =
    let mine = h.fit port v at in
    let me = mine.takes may in (
      subst AreLawful (sym me.1) (lawful-beginning h.popped items (subst AreLawful h.order h.lawful)),
      λ sends. (mine.sends sends).1 ∙ h.order ∙ ap (λ l. l ++ items) (sym me.1),
    )

-- the first pass is cut in two
pub forks : (port : ℕ) (v : FeedView) → v.pushes ≡ true → v.pops ≡ true
    → Forks IsInOrder port v (feed_view true false v.pushed []) (feed_view false true [] v.popped)
forks port v sends takes items views h at =
    let l : FeedView = feed_view true false v.pushed [] in
    let r : FeedView = feed_view false true [] v.popped in
    let mine = h.fit port v at in
    let vs : List FeedView = set views port l in
    let Old : ℕ → FeedView → Type 0 = λ j u. (u.pushes ≡ true → (j ≡ h.sender) × (u.pushed ≡ h.pushed)) × (u.pops ≢ true) in
    let old : AllPasses Old vs = all_set Old views port l (λ _. mine.sends sends, λ p. true≢false (sym p))
    (λ j u other e. ((h.fit j u e).sends, λ p. other (((h.fit j u e).takes p).0 ∙ sym (mine.takes takes).0))) in
    record {
      sender = h.sender;
      standby = length vs;
      pushed = h.pushed;
      popped = h.popped;
      order = h.order;
      lawful = h.lawful;
      fit = λ j u e. ⊎_elim (λ x. record { sends = (old j u x).0; takes = λ p. absurd ((old j u x).1 p) })
          (λ (is : r ≡ u). record {
            sends = λ p. absurd (true≢false (sym (ap (λ (y : FeedView). y.pushes) is ∙ p)));
            takes = λ p. (at_end vs r u j (λ x. (old j u x).1 p) e, ap (λ (y : FeedView). y.popped) (sym is) ∙ (mine.takes takes).1);
          })
          (at_snoc vs r u j e);
    }

-- the standby's pass takes the sender's in
pub merges : (port : ℕ) (v : FeedView) (other : ℕ) (u : FeedView) → v.pops ≡ true → u.pushes ≡ true
    → Merges IsInOrder port v other u (feed_view true true u.pushed v.popped) (feed_view false false [] [])
merges port v other u takes sends items views h at two at' =
    let both : FeedView = feed_view true true u.pushed v.popped in
    let mine = (h.fit port v at).takes takes in
    let vs : List FeedView = set views port both in
    let was : get_elem? views other ≡ some u = ⊎_elim (λ x. absurd (two x.0)) (λ x. x.1) (at_set views port other both u at') in
    let theirs = (h.fit other u was).sends sends in
    let Now : ℕ → FeedView → Type 0 = λ j y. j ≢ other → Fits port h.standby h.pushed h.popped j y in
    let now : AllPasses Now vs = all_set Now views port both
    (λ _. record { sends = λ _. (refl, theirs.1); takes = λ _. mine })
    (λ j y _ e apart. record {
      sends = λ p. absurd (apart (((h.fit j y e).sends p).0 ∙ sym theirs.0));
      takes = (h.fit j y e).takes;
    }) in
    record {
      sender = port;
      standby = h.standby;
      pushed = h.pushed;
      popped = h.popped;
      order = h.order;
      lawful = h.lawful;
      fit = all_set (Fits port h.standby h.pushed h.popped) vs other (feed_view false false [] [])
          (record { sends = λ p. absurd (true≢false (sym p)); takes = λ p. absurd (true≢false (sym p)) })
          (λ j y apart e. now j y e apart);
    }
