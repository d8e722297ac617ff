use Rattle.std.proofs.Common.{◌∙◌, ◌<◌, length, decimal, rules}
use Rattle.std.proofs.lemmas.Fmt.{decimal_nonempty}
use Rattle.im_text.proofs.PageLemmas.{begins}
use Rattle.im_text.proofs.page.Page.begin.Goals.{in-Ok, in-Err}
use Rattle.im_text.proofs.page.Page.begin.Goals as goal

pub returns : goal.returns
returns c = elim c.match-write_field.branch [
  | in-Ok w ↦
      let e = w.in-Ok.ensures in
      let field = c.as_bytes.ensures.value ∙ c.format.ensures.text in
      let text = rw field at e.text in
      let shown = rw field at e.wrote in
      let some : 0 < length (decimal c.args.self.now.line) = search (rules, decimal_nonempty) in
      rw w.result-is (begins c.args.self.now _ _ c.requires
      (record { text = text; same = e.same; count = e.count; wrote = shown; stays = e.stays }) some)
  | in-Err w ↦ rw w.result-is tt
]
