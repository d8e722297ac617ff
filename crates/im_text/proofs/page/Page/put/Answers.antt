use Rattle.im_text.proofs.PageLemmas.{puts}
use Rattle.im_text.proofs.page.Page.put.Goals.{in-Ok, in-Err}
use Rattle.im_text.proofs.page.Page.put.Goals as goal

pub returns : goal.returns
returns c = elim c.match-write_field.branch [
  | in-Ok w ↦
      let e = w.in-Ok.ensures in
      rw w.result-is (puts c.args.self.now _ _ c.requires
      (record { text = e.text; same = e.same; count = e.count; wrote = e.wrote; stays = e.stays }))
  | in-Err w ↦ rw w.result-is tt
]
