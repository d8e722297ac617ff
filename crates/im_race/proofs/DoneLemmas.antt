-- Jobs that were done, each at a post of its own.
use Rattle.std.proofs.Common.{◌≡◌, ℕ, suc, ◌-◌, ◌<◌, All, List, [], ◌∷◌, ◌++◌, length, map, reverse, take, Option, Some, None, option_to_list, refl, sym, ap, ◌∙◌, subst, arith}
use Rattle.std.proofs.lemmas.List.{get_or-reverse, length-map, length-reverse, reverse-reverse}
use Rattle.std.proofs.lemmas.List.Elements.{All-map, filter_map-append}
use Rattle.std.specs.List.{cons_option}
use Rattle.std.specs.Prelude.{filter_map, IfSome, IsSomeAnd, slice_index_or, ⊤}
use mathlib.Core.List.{reverse-cons}
use Rattle.im_race.specs.declared.job.Done.{Done}
use Rattle.im_race.specs.declared.job.Job.{Job}
use Rattle.im_race.specs.declared.job.Post.{Post}
use Rattle.im_race.specs.inner.Doing.{AreDone, IsDone, IsServed, waiting}
use Rattle.im_script.specs.declared.line.Line.{Line}

-- what holds of each job holds of each that waits at a post
pub ready-at : (P : Job → Type 0) (jobs : List Job) (posts : List Post) → posts ≡ map waiting (reverse jobs) → All P jobs
    → (at : ℕ) (post : Post) → at < length posts → post ≡ slice_index_or posts at post → IfSome post.job P
ready-at P jobs posts are all at post less is =
    subst (λ (p : Post). IfSome p.job P) (sym is)
    (subst (All (λ (p : Post). IfSome p.job P)) (sym are) (All-map (λ (p : Post). IfSome p.job P) waiting (reverse jobs) reversed) at post less)
  where
    reversed : All P (reverse jobs)
    reversed k d inside =
        let long = length-reverse jobs in
        subst P (sym (get_or-reverse jobs k d (omega (arith, inside, long)))) (all (length jobs - 1 - k) d (omega (arith, inside, long)))

-- what came of the job at one post more
pub done-more : (posts : List Post) (post : Post) (came : Option Done) (before now : List Done) → post.done ≡ came
    → before ≡ filter_map (λ (p : Post). p.done) posts → now ≡ before ++ option_to_list came
    → now ≡ filter_map (λ (p : Post). p.done) (posts ++ post ∷ [])
done-more posts post came before now is so_far more =
    more
    ∙ (ap (λ (dones : List Done). dones ++ option_to_list came) so_far
    ∙ (ap (λ (dones : List Done). filter_map (λ (p : Post). p.done) posts ++ dones) (sym (single came) ∙ ap (λ (o : Option Done). cons_option o []) (sym is))
    ∙ sym (filter_map-append (λ (p : Post). p.done) posts (post ∷ []))))
  where
    single : (o : Option Done) → cons_option o [] ≡ option_to_list o
    single None = refl
    single (Some done) = refl

-- a list that was written back through a slice of it is what the slice had
pub written-back : (new rest : List Post) (count : ℕ) → count ≡ length new → take count (new ++ rest) ≡ new
written-back new rest count is = ap (λ (n : ℕ). take n (new ++ rest)) is ∙ whole new
  where
    whole : (posts : List Post) → take (length posts) (posts ++ rest) ≡ posts
    whole [] = refl
    whole (post ∷ posts) = ap (λ (l : List Post). post ∷ l) (whole posts)

module _ (area turns sessions : ℕ) (lines : List Line) where
  -- the jobs that waited at these posts were done
  abbrev AreServed : List Job → List Post → Type 0
  AreServed [] [] = ⊤
  AreServed [] (post ∷ posts) = ⊥
  AreServed (job ∷ jobs) [] = ⊥
  AreServed (job ∷ jobs) (post ∷ posts) = IsServed area turns sessions lines (waiting job) post × AreServed jobs posts

  served-each : (jobs : List Job) (posts : List Post) → length posts ≡ length jobs
      → ((at : ℕ) (other : Post) → at < length jobs
      → IsServed area turns sessions lines (slice_index_or (map waiting jobs) at other) (slice_index_or posts at other)) → AreServed jobs posts
  served-each [] [] same each = tt
  served-each [] (post ∷ posts) same each = let none : suc (length posts) ≡ 0 = same in omega (arith, none)
  served-each (job ∷ jobs) [] same each = let none : 0 ≡ suc (length jobs) = same in omega (arith, none)
  served-each (job ∷ jobs) (post ∷ posts) same each =
      let both : suc (length posts) ≡ suc (length jobs) = same in
      (each 0 post (omega arith), served-each jobs posts (omega (arith, both)) (λ at other less. each (suc at) other (omega (arith, less))))

  served-append : (jobs more : List Job) (posts others : List Post) → AreServed jobs posts → AreServed more others
      → AreServed (jobs ++ more) (posts ++ others)
  served-append [] more [] others are behind = behind
  served-append [] more (post ∷ posts) others are behind = absurd are
  served-append (job ∷ jobs) more [] others are behind = absurd are
  served-append (job ∷ jobs) more (post ∷ posts) others are behind = (are.0, served-append jobs more posts others are.1 behind)

  served-reversed : (jobs : List Job) (posts : List Post) → AreServed jobs posts → AreServed (reverse jobs) (reverse posts)
  served-reversed [] [] are = tt
  served-reversed [] (post ∷ posts) are = absurd are
  served-reversed (job ∷ jobs) [] are = absurd are
  served-reversed (job ∷ jobs) (post ∷ posts) are =
      subst (λ (js : List Job). AreServed js (reverse (post ∷ posts))) (sym (reverse-cons job jobs))
      (subst (AreServed (reverse jobs ++ job ∷ [])) (sym (reverse-cons post posts))
      (served-append (reverse jobs) (job ∷ []) (reverse posts) (post ∷ []) (served-reversed jobs posts are.1) (are.0, tt)))

  done-first : (job : Job) (jobs : List Job) (came : Option Done) (dones : List Done) → IsSomeAnd came (IsDone area turns sessions lines job)
      → AreDone area turns sessions lines jobs dones → AreDone area turns sessions lines (job ∷ jobs) (cons_option came dones)
  done-first job jobs None dones is are = absurd is
  done-first job jobs (Some done) dones is are = (is, are)

  done-served : (jobs : List Job) (posts : List Post) → AreServed jobs posts
      → AreDone area turns sessions lines jobs (filter_map (λ (post : Post). post.done) posts)
  done-served [] [] are = tt
  done-served [] (post ∷ posts) are = absurd are
  done-served (job ∷ jobs) [] are = absurd are
  done-served (job ∷ jobs) (post ∷ posts) are =
      done-first job jobs post.done (filter_map (λ (p : Post). p.done) posts) are.0 (done-served jobs posts are.1)

  -- what holds of posts that are these holds of these
  pub served-at : (old new before behind : Post) → before ≡ old → behind ≡ new → IsServed area turns sessions lines before behind
      → IsServed area turns sessions lines old new
  served-at old new before behind was is served =
      subst (λ (p : Post). IsServed area turns sessions lines p new) was (subst (IsServed area turns sessions lines before) is served)

  -- the jobs that waited at posts, the last one at the first, were done
  pub all-done : (jobs : List Job) (old new : List Post) → old ≡ map waiting (reverse jobs) → length new ≡ length old
      → ((at : ℕ) (other : Post) → at < length old
      → IsServed area turns sessions lines (slice_index_or old at other) (slice_index_or new at other))
      → AreDone area turns sessions lines jobs (filter_map (λ (post : Post). post.done) (reverse new))
  all-done jobs old new are same each =
      let long : length old ≡ length (reverse jobs) = ap length are ∙ length-map (reverse jobs) waiting in
      done-served jobs (reverse new)
      (subst (λ (js : List Job). AreServed js (reverse new)) (reverse-reverse jobs)
      (served-reversed (reverse jobs) new
      (served-each (reverse jobs) new (same ∙ long)
      (λ at other less.
      subst (λ (posts : List Post). IsServed area turns sessions lines (slice_index_or posts at other) (slice_index_or new at other)) are
      (each at other (omega (arith, less, long)))))))
