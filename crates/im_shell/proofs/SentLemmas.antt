-- Text of which the sink took the front, and the rest waits.
use Rattle.std.proofs.Common.{◌≡◌, ℕ, List, [], ◌++◌, take, drop, Option, Result, Ok, Err, OnOk, OnErr, refl, sym, ap, ◌∙◌, subst, append-nil, append_assoc}
use Rattle.std.proofs.lemmas.List.{take-append-drop}
use Rattle.im_edge.specs.Writing.{Took, TookPart}
use Rattle.im_edge.proofs.ForCallers.{Took-nil, Took-append}
use Rattle.im_shell.specs.declared.writing.Writer.{Writer}
use Rattle.im_shell.specs.inner.Sent.{Sends, SendsPart}
use Rattle.im_shell.specs.inner.Writers.{IsSame}

-- a fact that holds anyway holds where a call failed
pub OnErr-always : {T E P : Type 0} (r : Result T E) → P → OnErr r P
OnErr-always (Ok value) p = tt
OnErr-always (Err error) p = p

pub Sends-start : (taken : Option (List ℕ)) → Sends taken taken [] []
Sends-start taken = record { sent = []; took = Took-nil taken; split = refl }

-- all of it waits still
pub Sends-none : (taken : Option (List ℕ)) (text left : List ℕ) → left ≡ text → Sends taken taken text left
Sends-none taken text left same = record { sent = []; took = Took-nil taken; split = sym same }

-- what a fault left
pub SendsPart-took : (before after : Option (List ℕ)) (text : List ℕ) → TookPart before after text → SendsPart before after text
SendsPart-took before after text part = record {
  left = drop part.count text;
  sends = record { sent = take part.count text; took = part.took; split = sym (take-append-drop part.count text) };
}

pub Sends-more : (a b : Option (List ℕ)) (text left more new_left : List ℕ) → Sends a b text left → new_left ≡ left ++ more → Sends a b (text ++ more) new_left
Sends-more a b text left more new_left sends left_is = record {
  sent = sends.sent;
  took = sends.took;
  split = ap (λ (t : List ℕ). t ++ more) sends.split ∙ (append_assoc sends.sent left more ∙ ap (λ (t : List ℕ). sends.sent ++ t) (sym left_is));
}

-- a fault before more was put
pub SendsPart-more : (a b : Option (List ℕ)) (text more : List ℕ) → SendsPart a b text → SendsPart a b (text ++ more)
SendsPart-more a b text more part = record { left = part.left ++ more; sends = Sends-more a b text part.left more (part.left ++ more) part.sends refl }

pub Sends-after : (a b c : Option (List ℕ)) (text left new_left : List ℕ) → Sends a b text left → Sends b c left new_left → Sends a c text new_left
Sends-after a b c text left new_left first second = record {
  sent = first.sent ++ second.sent;
  took = Took-append a b c first.sent second.sent first.took second.took;
  split = first.split ∙ (ap (λ (t : List ℕ). first.sent ++ t) second.split ∙ sym (append_assoc first.sent second.sent new_left));
}

-- a fault behind what was sent
pub SendsPart-after : (a b c : Option (List ℕ)) (text left : List ℕ) → Sends a b text left → SendsPart b c left → SendsPart a c text
SendsPart-after a b c text left first part = record { left = part.left; sends = Sends-after a b c text left part.left first part.sends }

-- before its first byte a prefix of every text was written
pub SendsPart-nil : (taken : Option (List ℕ)) (text : List ℕ) → SendsPart taken taken text
SendsPart-nil taken text = record { left = text; sends = Sends-none taken text text refl }

-- all of it was sent
pub Took-sent : (before after : Option (List ℕ)) (text left : List ℕ) → Sends before after text left → left ≡ [] → Took before after text
Took-sent before after text left sends none =
    subst (λ (t : List ℕ). Took before after t) (sym (sends.split ∙ (ap (λ (t : List ℕ). sends.sent ++ t) none ∙ append-nil sends.sent))) sends.took

-- ---- a text in two parts

-- a fault in the first part
pub SendsPart-front : (a b : Option (List ℕ)) (waiting part rest : List ℕ) → SendsPart a b (waiting ++ part) → SendsPart a b (waiting ++ (part ++ rest))
SendsPart-front a b waiting part rest stop =
    subst (SendsPart a b) (append_assoc waiting part rest) (SendsPart-more a b (waiting ++ part) rest stop)

-- both are put
pub Sends-then : (a b c : Option (List ℕ)) (waiting part rest left new_left : List ℕ) → Sends a b (waiting ++ part) left → Sends b c (left ++ rest) new_left
    → Sends a c (waiting ++ (part ++ rest)) new_left
Sends-then a b c waiting part rest left new_left first second =
    subst (λ (t : List ℕ). Sends a c t new_left) (append_assoc waiting part rest)
    (Sends-after a b c ((waiting ++ part) ++ rest) (left ++ rest) new_left (Sends-more a b (waiting ++ part) left rest (left ++ rest) first refl) second)

-- a fault in the second part
pub SendsPart-then : (a b c : Option (List ℕ)) (waiting part rest left : List ℕ) → Sends a b (waiting ++ part) left → SendsPart b c (left ++ rest)
    → SendsPart a c (waiting ++ (part ++ rest))
SendsPart-then a b c waiting part rest left first stop =
    record { left = stop.left; sends = Sends-then a b c waiting part rest left stop.left first stop.sends }

-- what a call left that put the second part
pub OnOk-then : {T E : Type 0} (result : Result T E) (a b c : Option (List ℕ)) (waiting part rest left new_left : List ℕ) → Sends a b (waiting ++ part) left
    → OnOk result (Sends b c (left ++ rest) new_left) → OnOk result (Sends a c (waiting ++ (part ++ rest)) new_left)
OnOk-then (Ok value) a b c waiting part rest left new_left first second = Sends-then a b c waiting part rest left new_left first second
OnOk-then (Err error) a b c waiting part rest left new_left first second = tt

pub OnErr-then : {T E : Type 0} (result : Result T E) (a b c : Option (List ℕ)) (waiting part rest left : List ℕ) → Sends a b (waiting ++ part) left
    → OnErr result (SendsPart b c (left ++ rest)) → OnErr result (SendsPart a c (waiting ++ (part ++ rest)))
OnErr-then (Ok value) a b c waiting part rest left first stop = tt
OnErr-then (Err error) a b c waiting part rest left first stop = SendsPart-then a b c waiting part rest left first stop

-- ---- a text that is put part by part

-- of this text all is put but the rest, and the sink took all of that but what waits
pub record IsPutTo (before now : Option (List ℕ)) (text waiting rest : List ℕ) : Type 0 where
  pub done : List ℕ
  pub split : text ≡ done ++ rest
  pub sends : Sends before now done waiting

-- what waited before comes first
pub IsPutTo-start : (taken : Option (List ℕ)) (waiting text : List ℕ) → IsPutTo taken taken (waiting ++ text) waiting text
IsPutTo-start taken waiting text = record { done = waiting; split = refl; sends = Sends-none taken waiting waiting refl }

-- one more part is put
pub IsPutTo-next : (a b c : Option (List ℕ)) (text waiting whole part rest new_waiting : List ℕ) → IsPutTo a b text waiting whole → whole ≡ part ++ rest
    → Sends b c (waiting ++ part) new_waiting → IsPutTo a c text new_waiting rest
IsPutTo-next a b c text waiting whole part rest new_waiting to whole_is sends = record {
  done = to.done ++ part;
  split = to.split ∙ (ap (λ (t : List ℕ). to.done ++ t) whole_is ∙ sym (append_assoc to.done part rest));
  sends = Sends-after a b c (to.done ++ part) (waiting ++ part) new_waiting (Sends-more a b to.done waiting part (waiting ++ part) to.sends refl) sends;
}

-- all of it is put
pub IsPutTo-end : (a b : Option (List ℕ)) (text waiting rest : List ℕ) → IsPutTo a b text waiting rest → rest ≡ [] → Sends a b text waiting
IsPutTo-end a b text waiting rest to none =
    subst (λ (t : List ℕ). Sends a b t waiting) (sym (to.split ∙ (ap (λ (t : List ℕ). to.done ++ t) none ∙ append-nil to.done))) to.sends

-- a fault in the next part
pub IsPutTo-stop : (a b c : Option (List ℕ)) (text waiting whole part rest : List ℕ) → IsPutTo a b text waiting whole → whole ≡ part ++ rest
    → SendsPart b c (waiting ++ part) → SendsPart a c text
IsPutTo-stop a b c text waiting whole part rest to whole_is stop =
    let next = IsPutTo-next a b c text waiting whole part rest stop.left to whole_is stop.sends in
    subst (SendsPart a c) (sym next.split) (SendsPart-more a c next.done rest (record { left = stop.left; sends = next.sends }))

-- ---- a writer

pub IsSame-start : {K : Type 0} (writer : Writer K) → IsSame writer writer
IsSame-start writer = record { sink = refl; waiting = refl; shown = refl }

pub IsSame-then : {K : Type 0} (a b c : Writer K) → IsSame a b → IsSame b c → IsSame a c
IsSame-then a b c first second = record {
  sink = second.sink ∙ first.sink;
  waiting = second.waiting ∙ first.waiting;
  shown = second.shown ∙ first.shown;
}
