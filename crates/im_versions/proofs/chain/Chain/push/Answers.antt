use Rattle.std.proofs.Common.{◌≡◌, ◌+◌, ◌-◌, arith, sym, ap, ◌∙◌}
use Rattle.im_versions.specs.Form.{versions_in}
use Rattle.im_versions.specs.Versions.{latest}
use Rattle.im_versions.proofs.VersionLemmas.{IsRising-push}
use Rattle.im_versions.proofs.chain.Chain.push.Goals as goal

pub invariant_of-self : goal.invariant_of-self
invariant_of-self c =
    let spare = ap (λ v. v.spare) c.self.view_is in
    let back : c.self.inside.spare - 1 + 1 ≡ c.self.inside.spare = omega (arith, c.requires.room, spare) in (
      c.put.ensures.room (c.self.inside.spare - 1) (rw back c.self.invariant.0),
      rw c.put.ensures.versions (IsRising-push (versions_in c.self.inside.form) _ c.self.invariant.1
          (λ last is. c.requires.later last (ap (λ v. latest v.versions) (sym c.self.view_is) ∙ is))),
    )
