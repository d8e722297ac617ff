use Rattle.im_text.proofs.PageLemmas.{begins}
use Rattle.im_text.proofs.page.Page.begin_with.Goals.{in-Ok, in-Err}
use Rattle.im_text.proofs.page.Page.begin_with.Goals as goal

pub returns : goal.returns
returns c = elim c.match-write_field.branch [
  | in-Ok w ↦
      let e = w.in-Ok.ensures in
      let field = c.as_bytes.ensures.value in
      let text = rw field at e.text in
      let shown = rw field at e.wrote in
      rw w.result-is (begins c.args.self.now _ _ c.requires.between
      (record { text = text; same = e.same; count = e.count; wrote = shown; stays = e.stays }) c.requires.some)
  | in-Err w ↦ rw w.result-is tt
]
