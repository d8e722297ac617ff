-- A build that is under way while others go on is still the number's own, and its unit is still what it was to be.
use Rattle.std.proofs.Common.{◌≡◌, ℕ, ◌==◌, ◌-◌, ◌*◌, true, false, List, [], ◌∷◌, ◌++◌, length, map, Option, Some, None, refl, sym, ap, ap₂, ◌∙◌, subst, append-nil, append_assoc, arith}
use Rattle.std.specs.Prelude.{⊤, is_some}
use Rattle.std.specs.Option.{ForSome, option_map}
use Rattle.std.proofs.lemmas.Bool.{true≢false}
use Rattle.std.proofs.lemmas.List.{length-map}
use Rattle.std.proofs.lemmas.List.Elements.{All-append, All-nil, All-weaker}
use Rattle.check_store.specs.Going.{IsUnderWay, WentBeside, WentOn}
use Rattle.im_core.specs.Tasks.{task_fetched, task_lent}
use Rattle.im_history.specs.declared.entry.Entry.{Entry}
use Rattle.im_history.specs.declared.task.Choice.{Choice}
use Rattle.im_history.specs.declared.task.Task.{Task}
use Rattle.im_history.specs.History.{History}
use Rattle.im_history.specs.Legal.{Exists, IsLawful}
use Rattle.im_history.specs.Queue.{build_of, next, task_of}
use Rattle.im_history.specs.Rows.{Row}
use Rattle.im_history.specs.Units.{Content, IsOwn, task_content}
use Rattle.im_history.proofs.HeldLaws.{held-within}
use Rattle.im_history.proofs.UnitLaws.{held-nil}
use Rattle.im_plan.specs.Goes.{After}
use Rattle.im_reach.specs.Sides.{Added, AreOthers, Found, Known, StoreSide, speaks}
use Rattle.im_worker.specs.inner.Built.{content_built, content_from, nones}
use Rattle.im_worker.specs.inner.Rests.{Went}
use Rattle.im_worker.specs.inner.Standing.{Stands}
use Rattle.im_worker.proofs.BeginLemmas.{just-of, stands-read}
use Rattle.im_worker.proofs.HoldingLaws.{mine_of}
use Rattle.im_worker.proofs.StandingLaws.{own-last, stands-after}
use Rattle.im_worker.proofs.UnitLemmas.{content-found, nones_none}

-- the side of a number alone, to which all others are others
abbrev side_of : ℕ → StoreSide
side_of who = record { alone = false; number = Some who; frame = None }

abbrev seen_by : ℕ → Known → Known
seen_by who now = record now { side = side_of who }

nobody : (side : StoreSide) → AreOthers side []
nobody side = record { alone = λ alone. refl; apart = All-nil (λ (entry : Entry). speaks side entry.who ≡ false) }

-- what holds for each thing that there is holds where there is one
pub where_some : {X : Type 0} (P : Type 0) (o : Option X) → is_some o ≡ true → ForSome o (λ x. P) → P
where_some P None is each = absurd (true≢false (sym is))
where_some P (Some x) is each = each x refl

-- where there is none, nothing is made of it
pub none_mapped : {X Y : Type 0} (f : X → Y) (o : Option X) → is_some o ≡ false → option_map f o ≡ None
none_mapped f None is = refl
none_mapped f (Some x) is = absurd (true≢false is)

-- entries of another number are those of others
pub went-beside : (who other : ℕ) → (who == other) ≡ false → (old new : Known) → WentOn other old new → WentBeside who old new
went-beside who other apart old new went = record {
  kept = went.kept;
  more = went.more;
  apart =
      All-weaker (λ (entry : Entry). entry.who ≡ other) (λ (entry : Entry). (who == entry.who) ≡ false)
      (λ entry is. ap (λ (n : ℕ). who == n) is ∙ apart) went.more went.own;
  log = went.log;
}

pub beside-none : (who : ℕ) (now : Known) → WentBeside who now now
beside-none who now = record {
  kept = refl;
  more = [];
  apart = All-nil (λ (entry : Entry). (who == entry.who) ≡ false);
  log = sym (append-nil now.log);
}

pub beside-both : (who : ℕ) (old mid new : Known) → WentBeside who old mid → WentBeside who mid new → WentBeside who old new
beside-both who old mid new first second = record {
  kept = second.kept ∙ ap (λ (k : Known). record k { log = new.log }) first.kept;
  more = first.more ++ second.more;
  apart = All-append (λ (entry : Entry). (who == entry.who) ≡ false) first.more second.more first.apart second.apart;
  log = second.log ∙ (ap (λ (h : History). h ++ second.more) first.log ∙ append_assoc old.log first.more second.more);
}

others-of : (who : ℕ) → (old new : Known) → WentBeside who old new → After (AreOthers (side_of who)) old.log new.log
others-of who old new went = record {
  between = went.more;
  lawful = record {
    alone = λ never. absurd (true≢false (sym never));
    apart = went.apart;
  };
  log = went.log;
}

-- a number that has no build has none where others alone went on
pub stands-on : (who : ℕ) → (who == who) ≡ true → (old new : Known) → Stands who [] [] old.log → WentBeside who old new
    → IsLawful new.limits new.log → Stands who [] [] new.log
stands-on who mine old new stands went lawful =
    stands-after new.limits (side_of who) who [] [] old.log new.log mine lawful.legal (others-of who old new went) stands

-- nobody has a build where nothing has happened, nor where others alone went on since then
pub stands-none : (who : ℕ) → (who == who) ≡ true → (old new : Known) → old.log ≡ [] → WentBeside who old new
    → IsLawful new.limits new.log → Stands who [] [] new.log
stands-none who mine old new empty went lawful =
    stands-on who mine old new (subst (Stands who [] []) (sym empty) (record { tasks = ap (mine_of who) held-nil; own = tt; ready = tt })) went lawful

-- a build began: it is under way once others went on
pub begun-under_way : (who : ℕ) → (old mid now : Known) (task : Task) (choice : Choice) → speaks old.side who ≡ true → IsLawful mid.limits mid.log
    → Stands who [] [] old.log → Added old mid who (λ at. build_of at choice) (λ at. (next at ≡ Some choice) × (task ≡ task_of at choice))
    → WentBeside who mid now → IsUnderWay who task now
begun-under_way who old mid now task choice mine lawful stands added went = record {
  begun = mid;
  just = just-of who old mid task choice lawful added;
  stands = stands-read who [] old mid mid task choice mine lawful lawful stands added still;
  went = went;
}
  where
    still : Went mid mid
    still = record { after = record { between = []; lawful = nobody mid.side; log = sym (append-nil mid.log) }; now = refl }

-- and it is so still once others went on
pub under_way-on : (who : ℕ) (task : Task) (now new : Known) → IsUnderWay who task now → WentBeside who now new → IsUnderWay who task new
under_way-on who task now new under went = record {
  begun = under.begun;
  just = under.just;
  stands = under.stands;
  went = beside-both who under.begun now new under.went went;
}

-- it is its own
pub under_way-own : (who : ℕ) → (who == who) ≡ true → (task : Task) (now : Known) → IsLawful now.limits now.log
    → IsUnderWay who task now → IsOwn now.log who task
under_way-own who mine task now lawful under =
    own-last now.limits now.log who [] task lawful.legal
    (stands-after now.limits (side_of who) who [] (task ∷ []) under.begun.log now.log mine lawful.legal (others-of who under.begun now under.went)
    under.stands)

-- it is of a table that there is
pub under_way-exists : (who : ℕ) → (who == who) ≡ true → (task : Task) (now : Known) → IsLawful now.limits now.log
    → IsUnderWay who task now → Exists now.log task.table
under_way-exists who mine task now lawful under =
    let own = under_way-own who mine task now lawful under in
    subst (λ (t : Task). Exists now.log t.table) own.same (held-within now.limits now.log task.id own.held lawful.legal own.is).exists

-- where no unit is lent to it, what is read of it now is what its unit is to hold
pub under_way-content : (who : ℕ) → (who == who) ≡ true → (task : Task) (now : Known) (lent : Option Content)
    (fetched : List (ℕ × Option Row)) (content : Content) → IsLawful now.limits now.log → IsUnderWay who task now → lent ≡ task_lent now.log task
    → fetched ≡ task_fetched now.log task → lent ≡ None → content ≡ content_from task fetched → content ≡ task_content now.log task
under_way-content who mine task now lent fetched content lawful under lent_is read none is =
    content-found who task (seen_by who under.begun) (seen_by who now) (λ at. ⊤) lent fetched content mine
    (record { at = under.just.at; choice = under.just.choice; log = under.just.log; is = under.just.is; lawful = under.just.lawful }) lawful
    found lent_is read (is ∙ ap (λ (unit : Option Content). content_built task unit fetched) (sym none))
  where
    found : Found (seen_by who under.begun) (seen_by who now) (λ at. ⊤)
    found = record {
      at = now.log;
      after = others-of who under.begun now under.went;
      now = ap (seen_by who) under.went.kept;
      fact = tt;
    }

-- where as many rows were read as the extent has, they are all that its unit is to hold
pub unit-whole : (task : Task) (fetched : List (ℕ × Option Row)) (list : List (Option Row)) → list ≡ map (λ found. found.1) fetched → task.extent ≡ 0
    → task.columns ≡ 1 → length list ≡ task.per
    → ◌≡◌ {A = Content} (record { scn = task.scn; first = 0; columns = 1; rows = list }) (content_from task fetched)
unit-whole task fetched list is extent columns count =
    ap (λ (rows : List (Option Row)). content 0 1 rows) (sym (ap (λ (n : ℕ). rows_so n) left ∙ (whole ∙ sym is)))
    ∙ ap₂ (λ (first columns : ℕ). content first columns (rows_so (task.per - length fetched))) first_is (sym columns)
  where
    content : ℕ → ℕ → List (Option Row) → Content
    content first columns rows = record { scn = task.scn; first = first; columns = columns; rows = rows }

    found : List (Option Row)
    found = map (λ (pair : ℕ × Option Row). pair.1) fetched

    rows_so : ℕ → List (Option Row)
    rows_so n = found ++ nones n

    whole : rows_so 0 ≡ found
    whole = ap (λ (list : List (Option Row)). found ++ list) nones_none ∙ append-nil found

    read : length fetched ≡ task.per
    read = sym (length-map fetched (λ (pair : ℕ × Option Row). pair.1)) ∙ (ap (λ (l : List (Option Row)). length l) (sym is) ∙ count)

    left : task.per - length fetched ≡ 0
    left = omega (arith, read)

    none : 0 * task.per ≡ 0
    none = omega arith

    first_is : 0 ≡ task.extent * task.per
    first_is = sym (ap (λ (n : ℕ). n * task.per) extent ∙ none)
