-- A script that is played and written line by line comes to the text of its replies.
use Rattle.std.proofs.Common.{◌≡◌, ◌≤◌, ℕ, ◌+◌, List, [], ◌∷◌, ◌++◌, length, Option, Some, None, refl, sym, ap, ◌∙◌, subst, arith, append-nil, append_assoc}
use Rattle.im_edge.specs.Writing.{Took}
use Rattle.im_edge.proofs.ForCallers.{Took-nil}
use Rattle.im_history.specs.declared.limits.Limits.{Limits}
use Rattle.im_play.specs.Machine.{Comes, IsAnswered, IsStill, Machine, idle, number_of, put}
use Rattle.im_play.specs.Requests.{LineDemand, asked, demand_of, demands_of}
use Rattle.im_play.proofs.ComesLaws.{HasNumber, asked-number, line_first}
use Rattle.im_replies.specs.declared.reply.Reply.{Reply}
use Rattle.im_script.specs.declared.form.Form.{Form}
use Rattle.im_script.specs.declared.form.Form.TheVariants as form
use Rattle.im_script.specs.declared.line.Line.{Line}
use Rattle.im_script.specs.declared.line.LineKind.{LineKind}
use Rattle.im_script.specs.declared.line.LineKind.TheVariants as kind
use Rattle.im_script.specs.Forms.{lines_of, first_of, form_of, who_of}
use Rattle.im_script.specs.Lines.{AreLines, IsLine, HasKind, no_memory}
use Rattle.im_shell.specs.declared.shown.Shown.{Shown}
use Rattle.im_shell.specs.Play.{ComesOf, IsScriptPlayed, Writes, WritesPart}
use Rattle.im_shell.specs.Texts.{text_of, text_shown}
use Rattle.im_shell.specs.inner.Going.{text_put, IsSoFar, PlaysNext, PlaysNextPart}
use Rattle.im_shell.specs.inner.Sent.{Sends, SendsPart}
use Rattle.im_shell.proofs.SentLemmas.{Sends-start, Sends-none, Sends-more, Sends-after}

-- ---- any lines can be read: those with a statement at least so that their reading ran out of memory

abbrev kind_by : Form → List ℕ → LineKind
kind_by form.Long line = kind.Long (length line)
kind_by form.Skip line = kind.Skip
kind_by form.Race line = kind.Race
kind_by form.Bare line = kind.Bad (first_of line)
kind_by (form.Session n before) line = kind.NoMemory
kind_by (form.Background before) line = kind.NoMemory

has_kind : (f : Form) (line : List ℕ) → HasKind f line (kind_by f line)
has_kind form.Long line = refl
has_kind form.Skip line = refl
has_kind form.Race line = refl
has_kind form.Bare line = refl
has_kind (form.Session n before) line = no_memory
has_kind (form.Background before) line = no_memory

abbrev some_lines : ℕ → List (List ℕ) → List Line
some_lines n [] = []
some_lines n (line ∷ lines) =
    record { number = n; first = first_of line; who = who_of (form_of line); kind = kind_by (form_of line) line } ∷ some_lines (n + 1) lines

are_lines : (n : ℕ) (lines : List (List ℕ)) → AreLines n lines (some_lines n lines)
are_lines n [] = tt
are_lines n (line ∷ lines) =
    (record { number = refl; first = refl; who = refl; kind = has_kind (form_of line) line }, are_lines (n + 1) lines)

-- such lines ask for no statement: their replies are told, and no row is read
module _ (area : ℕ) (machine : Machine) where
  -- what these come to is played with nothing to choose, at these steps
  record AreTold (demands : List LineDemand) (steps : ℕ) : Type 0 where
    pub answers : List (ℕ × Reply)
    pub comes : Comes machine demands answers machine steps steps

  -- one more, which is answered so
  told-first : (demand : LineDemand) (reply : Option Reply) (demands : List LineDemand) (steps : ℕ) → IsAnswered steps steps demand machine reply machine
      → AreTold demands steps → AreTold (demand ∷ demands) steps
  told-first demand reply demands steps answered told = record {
    answers = put (number_of demand) reply told.answers;
    comes = (reply, told.answers, machine, steps, answered, refl, told.comes);
  }

  still : (steps : ℕ) → IsStill steps steps machine machine
  still steps = record { machine = refl; steps = refl }

  one_told : (f : Form) (line : List ℕ) (n : ℕ) (demands : List LineDemand) (steps : ℕ) → AreTold demands steps
      → AreTold (asked area n (kind_by f line) ∷ demands) steps
  one_told form.Long line n demands steps told = told-first _ (Some _) demands steps (refl, still steps) told
  one_told form.Skip line n demands steps told = told-first _ None demands steps (still steps) told
  one_told form.Race line n demands steps told = told-first _ None demands steps (still steps) told
  one_told form.Bare line n demands steps told = told-first _ (Some _) demands steps (refl, still steps) told
  one_told (form.Session m before) line n demands steps told = told-first _ (Some _) demands steps (refl, still steps) told
  one_told (form.Background before) line n demands steps told = told-first _ (Some _) demands steps (refl, still steps) told

  are_told : (n : ℕ) (lines : List (List ℕ)) (steps : ℕ) → AreTold (demands_of area (some_lines n lines)) steps
  are_told n [] steps = record { answers = []; comes = (refl, refl, omega arith) }
  are_told n (line ∷ lines) steps = one_told (form_of line) line n (demands_of area (some_lines (n + 1) lines)) steps (are_told (n + 1) lines steps)

-- ---- what the lines so far come to

pub IsSoFar-start : (area : ℕ) (script : List ℕ) (steps : ℕ) → IsSoFar area script [] 1 idle script steps steps
IsSoFar-start area script steps = record {
  done = [];
  split = refl;
  on = λ bytes lines read more end after comes. record { read = lines; are = read; comes = comes };
}

-- the reply of a line, where it has one
abbrev pub one : ℕ → Option Reply → List (ℕ × Reply)
one number reply = put number reply []

put-one : (number : ℕ) (reply : Option Reply) (more : List (ℕ × Reply)) → put number reply more ≡ one number reply ++ more
put-one number None more = refl
put-one number (Some reply) more = refl

-- one more line was read and played
pub IsSoFar-next : (area : ℕ) (script : List ℕ) (answers : List (ℕ × Reply)) (number : ℕ) (h new : Machine) (rest behind bytes : List ℕ) (line : Line)
    (reply : Option Reply) (first before after : ℕ) → IsSoFar area script answers number h rest first before
    → lines_of rest ≡ bytes ∷ lines_of behind → IsLine number bytes line → IsAnswered before after (demand_of area line) h reply new
    → IsSoFar area script (answers ++ one number reply) (number + 1) new behind first after
IsSoFar-next area script answers number h new rest behind bytes line reply first before after so_far lines_are read answered = record {
  done = so_far.done ++ bytes ∷ [];
  split =
      so_far.split
      ∙ (ap (λ (l : List (List ℕ)). so_far.done ++ l) lines_are ∙ sym (append_assoc so_far.done (bytes ∷ []) (lines_of behind)));
  on = λ others lines are more end last comes.
      let all = so_far.on (bytes ∷ others) (line ∷ lines) (read, are) (put number reply more) end last
      (line_first (demands_of area lines) more end before after last h new (demand_of area line) number reply
      (subst (λ (n : ℕ). HasNumber n (demand_of area line)) read.number (asked-number area line.number line.kind)) answered comes) in
      subst (λ (l : List (List ℕ)). ComesOf area l ((answers ++ one number reply) ++ more) end first last)
      (sym (append_assoc so_far.done (bytes ∷ []) others))
      (subst (λ (rs : List (ℕ × Reply)). ComesOf area (so_far.done ++ bytes ∷ others) rs end first last)
      (ap (λ (rs : List (ℕ × Reply)). answers ++ rs) (put-one number reply more) ∙ sym (append_assoc answers (one number reply) more)) all);
}

-- nothing has no lines
lines_of-nil : lines_of [] ≡ []
unfolding lines_of
lines_of-nil = refl

pub text-append : (shown : Shown) (first second : List (ℕ × Reply)) → text_of shown (first ++ second) ≡ text_of shown first ++ text_of shown second
text-append shown [] second = refl
text-append shown ((number, reply) ∷ first) second =
    ap (λ (t : List ℕ). text_shown shown number reply.body ++ t) (text-append shown first second)
    ∙ sym (append_assoc (text_shown shown number reply.body) (text_of shown first) (text_of shown second))

text-one : (shown : Shown) (number : ℕ) (reply : Option Reply) → text_of shown (one number reply) ≡ text_put shown number reply
text-one shown number None = refl
text-one shown number (Some reply) = append-nil (text_shown shown number reply.body)

-- what is behind the end of a script comes to nothing
pub IsSoFar-end : (shown : Shown) (area : ℕ) (script : List ℕ) (answers : List (ℕ × Reply)) (number : ℕ) (h : Machine) (rest : List ℕ) (first now : ℕ)
    → IsSoFar area script answers number h rest first now → rest ≡ [] → IsScriptPlayed shown area script first now (text_of shown answers)
IsSoFar-end shown area script answers number h rest first now so_far none =
    let no_lines : lines_of rest ≡ [] = ap lines_of none ∙ lines_of-nil in
    record {
      answers = answers;
      end = h;
      comes =
          subst (λ (l : List (List ℕ)). ComesOf area l answers h first now)
          (ap (λ (l : List (List ℕ)). so_far.done ++ l) (sym no_lines) ∙ sym so_far.split)
          (subst (λ (rs : List (ℕ × Reply)). ComesOf area (so_far.done ++ []) rs h first now) (append-nil answers)
          (so_far.on [] [] tt [] h now
          (refl, refl, omega arith)));
      text_is = refl;
    }

-- a prefix of what was written is a prefix of what the script comes to
pub IsSoFar-part : (shown : Shown) (area : ℕ) (script : List ℕ) (answers : List (ℕ × Reply)) (number : ℕ) (h : Machine) (rest front more : List ℕ)
    (first now : ℕ) (before after : Option (List ℕ)) → IsSoFar area script answers number h rest first now → text_of shown answers ≡ front ++ more
    → Took before after front → WritesPart (IsScriptPlayed shown area script first now) before after
IsSoFar-part shown area script answers number h rest front more first now before after so_far split took = record {
  text = front;
  rest = more ++ text_of shown others;
  is = record {
    answers = answers ++ others;
    end = h;
    comes =
        subst (λ (l : List (List ℕ)). ComesOf area l (answers ++ others) h first now) (sym so_far.split)
        (so_far.on (lines_of rest) lines (are_lines number (lines_of rest)) others h now told.comes);
    text_is =
        sym (append_assoc front more (text_of shown others))
        ∙ (ap (λ (t : List ℕ). t ++ text_of shown others) (sym split) ∙ sym (text-append shown answers others));
  };
  took = took;
}
  where
    lines : List Line
    lines = some_lines number (lines_of rest)

    told : AreTold area h (demands_of area lines) now
    told = are_told area h number (lines_of rest) now

    others : List (ℕ × Reply)
    others = told.answers

-- ---- the loop

-- the script is played up to the rest, and the sink took all of its text but what waits
pub record IsGoing (shown : Shown) (area : ℕ) (script : List ℕ) (before now : Option (List ℕ)) (number : ℕ) (machine : Machine)
    (rest waiting : List ℕ) (first steps : ℕ) : Type 0 where
  pub answers : List (ℕ × Reply)
  pub so_far : IsSoFar area script answers number machine rest first steps
  pub sends : Sends before now (text_of shown answers) waiting
  pub numbered : number + length rest ≤ length script + 1

-- the store in which nothing has happened
pub IsGoing-start : (shown : Shown) (area : ℕ) (script : List ℕ) (taken : Option (List ℕ)) (waiting : List ℕ) (h : Machine) (steps : ℕ) → h ≡ idle
    → waiting ≡ [] → IsGoing shown area script taken taken 1 h script waiting steps steps
IsGoing-start shown area script taken waiting h steps empty none =
    subst (λ (m : Machine). IsGoing shown area script taken taken 1 m script waiting steps steps) (sym empty)
    (record {
      answers = [];
      so_far = IsSoFar-start area script steps;
      sends = subst (Sends taken taken []) (sym none) (Sends-start taken);
      numbered = omega arith;
    })

-- a line is played with the area that the limits have, and what is shown stays
pub next_in : (had shown : Shown) (limits same : Limits) → had ≡ shown → limits ≡ same → (bytes : List ℕ) (number : ℕ) (old new : Machine)
    (before after : Option (List ℕ)) (waiting new_waiting : List ℕ) (steps later : ℕ)
    → PlaysNext had limits.area bytes number old new before after waiting new_waiting steps later
    → PlaysNext shown same.area bytes number old new before after waiting new_waiting steps later
next_in had shown limits same shows is bytes number old new before after waiting new_waiting steps later next =
    subst (λ (s : Shown). PlaysNext s same.area bytes number old new before after waiting new_waiting steps later) shows
    (subst (λ (l : Limits). PlaysNext had l.area bytes number old new before after waiting new_waiting steps later) is next)

pub stopped_in : (limits same : Limits) → limits ≡ same → (bytes : List ℕ) (number : ℕ) (old new : Machine) (before after : Option (List ℕ))
    (waiting : List ℕ) (steps later : ℕ) → PlaysNextPart limits.area bytes number old new before after waiting steps later
    → PlaysNextPart same.area bytes number old new before after waiting steps later
stopped_in limits same is bytes number old new before after waiting steps later part =
    subst (λ (l : Limits). PlaysNextPart l.area bytes number old new before after waiting steps later) is part

pub IsGoing-next : (shown : Shown) (area : ℕ) (script : List ℕ) (before now between after : Option (List ℕ)) (number : ℕ) (h new : Machine)
    (rest behind line waiting middle new_waiting : List ℕ) (first steps later : ℕ)
    → IsGoing shown area script before now number h rest waiting first steps
    → lines_of rest ≡ line ∷ lines_of behind → length behind + 1 ≤ length rest
    → PlaysNext shown area line number h new now between waiting middle steps later → Sends between after middle new_waiting
    → IsGoing shown area script before after (number + 1) new behind new_waiting first later
IsGoing-next shown area script before now between after number h new rest behind line waiting middle new_waiting first steps later going lines_are
    shorter next sends =
    let text = text_put shown number next.reply in
    let put = Sends-more before now (text_of shown going.answers) waiting text (waiting ++ text) going.sends refl in
    let written = text-append shown going.answers (one number next.reply)
    ∙ ap (λ (t : List ℕ). text_of shown going.answers ++ t) (text-one shown number next.reply) in
    record {
      answers = going.answers ++ one number next.reply;
      so_far = IsSoFar-next area script going.answers number h new rest behind line next.plays.line next.reply first steps later going.so_far lines_are
          next.plays.read.is_line next.plays.answers.answered;
      sends = subst (λ (t : List ℕ). Sends before after t new_waiting) (sym written)
          (Sends-after before between after _ middle new_waiting (Sends-after before now between _ _ middle put next.sends) sends);
      numbered = omega (arith, going.numbered);
    }

pub IsGoing-end : (shown : Shown) (area : ℕ) (script : List ℕ) (before now after : Option (List ℕ)) (number : ℕ) (h : Machine)
    (rest waiting new_waiting : List ℕ) (first steps : ℕ) → IsGoing shown area script before now number h rest waiting first steps → length rest ≤ 0
    → Sends now after waiting new_waiting → new_waiting ≡ [] → Writes (IsScriptPlayed shown area script first steps) before after
IsGoing-end shown area script before now after number h rest waiting new_waiting first steps going over sends none =
    let all = Sends-after before now after (text_of shown going.answers) waiting new_waiting going.sends sends in
    record {
      text = text_of shown going.answers;
      is = IsSoFar-end shown area script going.answers number h rest first steps going.so_far (empty rest over);
      took = subst (Took before after) (sym (all.split ∙ (ap (λ (t : List ℕ). all.sent ++ t) none ∙ append-nil all.sent))) all.took;
    }
  where
    empty : (xs : List ℕ) → length xs ≤ 0 → xs ≡ []
    empty [] e = refl
    empty (x ∷ xs) e = absurd (omega arith)

-- where it stops the sink took a prefix of the text
pub IsGoing-part : (shown : Shown) (area : ℕ) (script : List ℕ) (before now after : Option (List ℕ)) (number : ℕ) (h : Machine) (rest waiting : List ℕ)
    (first steps : ℕ) → IsGoing shown area script before now number h rest waiting first steps → SendsPart now after waiting
    → WritesPart (IsScriptPlayed shown area script first steps) before after
IsGoing-part shown area script before now after number h rest waiting first steps going part =
    let all = Sends-after before now after (text_of shown going.answers) waiting part.left going.sends part.sends in
    IsSoFar-part shown area script going.answers number h rest all.sent part.left first steps before after going.so_far all.split all.took

-- a fault right after a line
pub IsGoing-stuck : (shown : Shown) (area : ℕ) (script : List ℕ) (before now between after : Option (List ℕ)) (number : ℕ) (h new : Machine)
    (rest behind line waiting middle : List ℕ) (first steps later : ℕ) → IsGoing shown area script before now number h rest waiting first steps
    → lines_of rest ≡ line ∷ lines_of behind → length behind + 1 ≤ length rest
    → PlaysNext shown area line number h new now between waiting middle steps later → SendsPart between after middle
    → WritesPart (IsScriptPlayed shown area script first later) before after
IsGoing-stuck shown area script before now between after number h new rest behind line waiting middle first steps later going lines_are shorter next part =
    IsGoing-part shown area script before between after (number + 1) new behind middle first later
    (IsGoing-next shown area script before now between between number h new rest behind line waiting middle middle first steps later going lines_are
    shorter next (Sends-none between middle middle refl))
    part

-- a fault in the text of a line, which was played
pub IsGoing-stopped : (shown : Shown) (area : ℕ) (script : List ℕ) (before now after : Option (List ℕ)) (number : ℕ) (h new : Machine)
    (rest behind line waiting : List ℕ) (first steps later : ℕ) → IsGoing shown area script before now number h rest waiting first steps
    → lines_of rest ≡ line ∷ lines_of behind → PlaysNextPart area line number h new now after waiting steps later
    → WritesPart (IsScriptPlayed shown area script first later) before after
IsGoing-stopped shown area script before now after number h new rest behind line waiting first steps later going lines_are next =
    let text = text_put shown number next.reply in
    let all = Sends-after before now after (text_of shown going.answers) waiting next.sends.left going.sends next.sends.sends in
    let more = Sends-more before after (text_of shown going.answers) next.sends.left text (next.sends.left ++ text) all refl in
    let written = text-append shown going.answers (one number next.reply)
    ∙ ap (λ (t : List ℕ). text_of shown going.answers ++ t) (text-one shown number next.reply) in
    IsSoFar-part shown area script (going.answers ++ one number next.reply) (number + 1) new behind more.sent (next.sends.left ++ text) first later before
    after
    (IsSoFar-next area script going.answers number h new rest behind line next.plays.line next.reply first steps later going.so_far lines_are
    next.plays.read.is_line next.plays.answers.answered)
    (written ∙ more.split)
    more.took

-- before its first byte a prefix of every script's text was written, and no row was read
pub WritesPart-nil : (shown : Shown) (area : ℕ) (script : List ℕ) (taken now : Option (List ℕ)) (steps later : ℕ) → now ≡ taken → later ≡ steps
    → WritesPart (IsScriptPlayed shown area script steps later) taken now
WritesPart-nil shown area script taken now steps later same unread =
    rw (same, unread)
    (IsSoFar-part shown area script [] 1 idle script [] [] steps steps taken taken (IsSoFar-start area script steps) refl (Took-nil taken))
