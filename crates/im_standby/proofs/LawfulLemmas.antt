-- The first members of a history: the moment at which they were all, and the entry that added one more.
use Rattle.std.proofs.Common.{◌≡◌, ℕ, ◌<◌, ◌≤◌, Bool, true, false, not, nat_lt, List, [], ◌∷◌, ◌++◌, length, take, drop, Option, Some, None, refl, sym, ap, subst, ◌∙◌, ⊎_elim, arith, append_assoc, append-nil, length-append}
use Rattle.std.specs.List.{list_any}
use Rattle.std.specs.Option.{option_map, option_or}
use Rattle.std.proofs.Math.Seq.{drop-append_seam, take-append_seam}
use Rattle.std.proofs.lemmas.Bool.{cases_lt}
use Rattle.std.proofs.lemmas.Bool.Decides.{nat_tests}
use Rattle.std.proofs.lemmas.List.{take-append-drop, take-append-le}
use Rattle.im_values.specs.declared.content.Content.{Content as Value}
use Rattle.im_values.specs.declared.limits.TheConstants.{MOST_COLUMNS, MOST_TABLES}
use Rattle.im_values.specs.declared.schema.Column.{Column}
use Rattle.im_feed.specs.Lawful.{AreLawful, IsBeginning}
use Rattle.im_history.specs.declared.entry.Entry.{Entry}
use Rattle.im_history.specs.declared.entry.What.{What}
use Rattle.im_history.specs.declared.entry.What.TheVariants.{Create, Add, Commit}
use Rattle.im_history.specs.declared.limits.Limits.{Limits}
use Rattle.im_history.specs.declared.look.TableInfo.{TableInfo}
use Rattle.im_history.specs.declared.member.Member.{Member}
use Rattle.im_history.specs.declared.member.Member.TheVariants as made
use Rattle.im_history.specs.declared.refused.Why.{Why}
use Rattle.im_history.specs.declared.refused.Why.TheVariants.{ColumnExists, TableExists}
use Rattle.im_history.specs.Columns.{columns_of}
use Rattle.im_history.specs.Commits.{member_by, members}
use Rattle.im_history.specs.Grid.{Grid}
use Rattle.im_history.specs.History.{History, replay}
use Rattle.im_history.specs.Legal.{IsAllowed, IsLegal, IsLegalFrom}
use Rattle.im_history.specs.Refusals.{add_refusal, create_refusal, is_column, when}
use Rattle.im_history.specs.Tables.{table_among, table_at, table_named, tables}
use Rattle.im_history.specs.Views.{schema_of}
use Rattle.im_history.proofs.Laws.{IsLegal-pop, members-push}
use Rattle.im_history.proofs.RowLaws.{each_history}
use Rattle.im_standby.specs.Members.{tables_of}
use Rattle.im_standby.specs.Standing.{IsNext, Standing}
use Rattle.im_standby.specs.Store.{bare}
use Rattle.im_standby.proofs.TableLemmas.{bare-among, tables_of-length, tables_of-members}

-- ---- one list cut in two ways

empty_is : {X : Type 0} (xs : List X) → length xs ≡ 0 → xs ≡ []
empty_is [] is = refl
empty_is (x ∷ xs) is = absurd (omega (arith, is))

-- cut at the same place, the parts are the same
record SameParts {X : Type 0} (xs ys more rest : List X) : Type 0 where
  pub first : xs ≡ ys
  pub behind : more ≡ rest

same_parts : {X : Type 0} (xs ys more rest : List X) → xs ++ more ≡ ys ++ rest → length xs ≡ length ys → SameParts xs ys more rest
same_parts xs ys more rest is long = record {
  first =
      sym (take-append_seam xs more)
      ∙ (ap (λ (n : ℕ). take n (xs ++ more)) long ∙ (ap (take (length ys)) is ∙ take-append_seam ys rest));
  behind =
      sym (drop-append_seam xs more)
      ∙ (ap (λ (n : ℕ). drop n (xs ++ more)) long ∙ (ap (drop (length ys)) is ∙ drop-append_seam ys rest));
}

-- a list with one item more at most begins with others: it did so before, or they are all of it
begins_before : {X : Type 0} (xs more ys rest : List X) → xs ++ more ≡ ys ++ rest → length ys ≤ length xs → xs ≡ ys ++ drop (length ys) xs
begins_before xs more ys rest is short =
    let first : take (length ys) xs ≡ ys =
    sym (take-append-le (length ys) xs more short) ∙ (ap (take (length ys)) is ∙ take-append_seam ys rest) in
    sym (take-append-drop (length ys) xs) ∙ ap (λ (l : List _). l ++ drop (length ys) xs) first

all_of_it : {X : Type 0} (xs more ys rest : List X) → xs ++ more ≡ ys ++ rest → length more ≤ 1 → length xs < length ys → rest ≡ []
all_of_it xs more ys rest is one long =
    let both = sym (length-append xs more) ∙ (ap length is ∙ length-append ys rest) in
    empty_is rest (omega (arith, both, one, long))

-- ---- moments

one_or_none : (h : History) (who : ℕ) (what : What) → length (member_by h who what) ≤ 1
one_or_none h who (Create name schema grid) = omega arith
one_or_none h who (Add table column default) = omega arith
one_or_none h who Commit = omega arith
one_or_none h who _ = omega arith

-- a moment of a history at which these were its members
pub record IsUpTo (h : History) (first : List Member) : Type 0 where
  pub before : History
  pub after : History
  pub is : h ≡ before ++ after
  pub members_are : members before ≡ first

record HasMoments (h : History) : Type 0 where
  pub each : (first : List Member) → IsBeginning first (members h) → IsUpTo h first

HasMoments-nil : HasMoments []
unfolding members replay
HasMoments-nil = record {
  each = λ first begins.
      let both = ap length begins.is ∙ length-append first begins.rest in
      record { before = []; after = []; is = refl; members_are = sym (empty_is first (omega (arith, both))) };
}

HasMoments-push : (h : History) (entry : Entry) → HasMoments h → HasMoments (h ++ entry ∷ [])
HasMoments-push h entry before = record {
  each = λ first begins.
      let more = member_by h entry.who entry.what in
      let both : members h ++ more ≡ first ++ begins.rest = sym (members-push h entry) ∙ begins.is in
      ⊎_elim
      (λ (long : length (members h) < length first).
      let none = all_of_it (members h) more first begins.rest both (one_or_none h entry.who entry.what) long in
      record {
        before = h ++ entry ∷ [];
        after = [];
        is = sym (append-nil (h ++ entry ∷ []));
        members_are = begins.is ∙ (ap (λ (l : List Member). first ++ l) none ∙ append-nil first);
      })
      (λ (short : length first ≤ length (members h)).
      let found = before.each first (record { rest = drop (length first) (members h); is = begins_before (members h) more first begins.rest both short }) in
      record {
        before = found.before;
        after = found.after ++ entry ∷ [];
        is = ap (λ (l : History). l ++ entry ∷ []) found.is ∙ append_assoc found.before found.after (entry ∷ []);
        members_are = found.members_are;
      })
      (cases_lt (length (members h)) (length first));
}

-- the first members were once all
pub moment_of : (h : History) (first : List Member) → IsBeginning first (members h) → IsUpTo h first
moment_of h first begins = (each_history HasMoments HasMoments-nil HasMoments-push h).each first begins

-- ---- entries

-- the entry of a history that added this member behind these
record IsMade (h : History) (first : List Member) (member : Member) : Type 0 where
  pub before : History
  pub entry : Entry
  pub after : History
  pub is : h ≡ (before ++ entry ∷ []) ++ after
  pub members_are : members before ≡ first
  pub adds : member_by before entry.who entry.what ≡ member ∷ []

record HasEntries (h : History) : Type 0 where
  pub each : (first : List Member) (member : Member) → IsBeginning (first ++ member ∷ []) (members h) → IsMade h first member

HasEntries-nil : HasEntries []
unfolding members replay
HasEntries-nil = record {
  each = λ first member begins.
      let both = ap length begins.is ∙ length-append (first ++ member ∷ []) begins.rest in
      let one = length-append first (member ∷ []) in
      absurd (omega (arith, both, one));
}

HasEntries-push : (h : History) (entry : Entry) → HasEntries h → HasEntries (h ++ entry ∷ [])
HasEntries-push h entry before = record {
  each = λ first member begins.
      let more = member_by h entry.who entry.what in
      let these = first ++ member ∷ [] in
      let both : members h ++ more ≡ these ++ begins.rest = sym (members-push h entry) ∙ begins.is in
      let few = one_or_none h entry.who entry.what in
      ⊎_elim
      (λ (long : length (members h) < length these).
      let none = all_of_it (members h) more these begins.rest both few long in
      let all : members h ++ more ≡ first ++ member ∷ [] = both ∙ (ap (λ (l : List Member). these ++ l) none ∙ append-nil these) in
      let counts = sym (length-append (members h) more) ∙ (ap length all ∙ length-append first (member ∷ [])) in
      let longer = length-append first (member ∷ []) in
      let parts = same_parts (members h) first more (member ∷ []) all (omega (arith, counts, few, long, longer)) in
      record { before = h; entry = entry; after = []; is = sym (append-nil (h ++ entry ∷ [])); members_are = parts.first; adds = parts.behind })
      (λ (short : length these ≤ length (members h)).
      let found =
      before.each first member (record { rest = drop (length these) (members h); is = begins_before (members h) more these begins.rest both short }) in
      record {
        before = found.before;
        entry = found.entry;
        after = found.after ++ entry ∷ [];
        is = ap (λ (l : History). l ++ entry ∷ []) found.is ∙ append_assoc (found.before ++ found.entry ∷ []) found.after (entry ∷ []);
        members_are = found.members_are;
        adds = found.adds;
      })
      (cases_lt (length (members h)) (length these));
}

legal_first : (limits : Limits) (start h more : History) → IsLegalFrom limits start (h ++ more) → IsLegalFrom limits start h
legal_first limits start [] more legal = tt
legal_first limits start (entry ∷ h) more legal = (legal.0, legal_first limits (start ++ entry ∷ []) h more legal.1)

-- a member that may come next was added by an entry that was allowed where these were all
record MayBeAdded (first : List Member) (member : Member) : Type 0 where
  pub limits : Limits
  pub before : History
  pub who : ℕ
  pub what : What
  pub members_are : members before ≡ first
  pub adds : member_by before who what ≡ member ∷ []
  pub allowed : IsAllowed limits before who what

may_be_added : (first : List Member) (member : Member) → AreLawful (first ++ member ∷ []) → MayBeAdded first member
may_be_added first member lawful =
    let found = (each_history HasEntries HasEntries-nil HasEntries-push lawful.history).each first member lawful.begins in
    let legal : IsLegal lawful.limits (found.before ++ found.entry ∷ []) =
    record {
      each = legal_first lawful.limits [] (found.before ++ found.entry ∷ []) found.after
          (subst (IsLegalFrom lawful.limits []) found.is lawful.lawful.legal.each);
    } in
    record {
      limits = lawful.limits;
      before = found.before;
      who = found.entry.who;
      what = found.entry.what;
      members_are = found.members_are;
      adds = found.adds;
      allowed = (IsLegal-pop lawful.limits found.before found.entry legal).1;
    }

-- ---- room

when_none : (b : Bool) (why : Why) → when b why ≡ None → b ≡ false
when_none true why none = absurd (cc none)
when_none false why none = refl

right_none : (first second : Option Why) → option_or first second ≡ None → second ≡ None
right_none None second none = none
right_none (Some why) second none = absurd (cc none)

table_room : (h : History) (name : List ℕ) → create_refusal h name ≡ None → length (tables h) < MOST_TABLES
table_room h name none =
    let no : not (nat_lt (length (tables h)) MOST_TABLES) ≡ false =
    when_none _ _ (right_none (option_map (λ table. TableExists table) (table_named h name)) _ none) in
    grind (arith, nat_tests)

column_room : (h : History) (table : ℕ) (name : List ℕ) → add_refusal h table name ≡ None → columns_of (table_at h table) < MOST_COLUMNS
column_room h table name none =
    let no : not (nat_lt (columns_of (table_at h table)) MOST_COLUMNS) ≡ false =
    when_none _ _ (right_none (when (list_any (is_column name) (schema_of (table_at h table))) ColumnExists) _ none) in
    grind (arith, nat_tests)

created_room : (limits : Limits) (h : History) (who : ℕ) (what : What) (name : List ℕ) (schema : List Column) (grid : Grid)
    → member_by h who what ≡ made.Create name schema grid ∷ [] → IsAllowed limits h who what → length (tables h) < MOST_TABLES
created_room limits h who (Create other schema grid) name _ _ is allowed = table_room h other allowed.allowed
created_room limits h who (Add table column default) name schema grid is allowed = absurd (cc is)
created_room limits h who Commit name schema grid is allowed = absurd (cc is)
created_room limits h who _ name schema grid is allowed = absurd (cc is)

added_room : (limits : Limits) (h : History) (who : ℕ) (what : What) (table : ℕ) (column : Column) (default : Value)
    → member_by h who what ≡ made.Add table column default ∷ [] → IsAllowed limits h who what → columns_of (table_at h table) < MOST_COLUMNS
added_room limits h who (Add other column default) table _ _ is allowed =
    let same : other ≡ table = cc is in
    subst (λ (t : ℕ). columns_of (table_at h t) < MOST_COLUMNS) same (column_room h other column.name allowed.allowed)
added_room limits h who (Create name schema grid) table column default is allowed = absurd (cc is)
added_room limits h who Commit table column default is allowed = absurd (cc is)
added_room limits h who _ table column default is allowed = absurd (cc is)

-- a standby has room for a table that comes next
pub room_for_table : (standing : Standing) (name : List ℕ) (schema : List Column) (grid : Grid) → IsNext standing (made.Create name schema grid)
    → length standing.tables < MOST_TABLES
room_for_table standing name schema grid next =
    let added = may_be_added next.before (made.Create name schema grid) next.lawful in
    let room = created_room added.limits added.before added.who added.what name schema grid added.adds added.allowed in
    let same = ap length (next.is_of.tables ∙ ap tables_of (sym added.members_are)) ∙ tables_of-length added.before in
    omega (arith, room, same)

bare-columns : (table : Option TableInfo) → columns_of (option_map bare table) ≡ columns_of table
bare-columns None = refl
bare-columns (Some table) = refl

-- and for a column
pub room_for_column : (standing : Standing) (table : ℕ) (column : Column) (default : Value) → IsNext standing (made.Add table column default)
    → columns_of (table_among standing.tables table) < MOST_COLUMNS
room_for_column standing table column default next =
    let added = may_be_added next.before (made.Add table column default) next.lawful in
    let room = added_room added.limits added.before added.who added.what table column default added.adds added.allowed in
    let same : columns_of (table_among standing.tables table) ≡ columns_of (table_at added.before table) =
    ap (λ (ts : List TableInfo). columns_of (table_among ts table))
    (next.is_of.tables ∙ (ap tables_of (sym added.members_are) ∙ tables_of-members added.before))
    ∙ (ap columns_of (bare-among (tables added.before) table) ∙ bare-columns (table_at added.before table)) in
    omega (arith, room, same)
